-- Runs of slots that are free or chosen.
use Rattle.std.proofs.Common.{◌≡◌, ℕ, ◌+◌, ◌-◌, ◌<◌, ◌≤◌, true, List, length, get_or, inl, inr, sym, ap, ◌∙◌, subst, arith}
use Rattle.std.proofs.lemmas.Bool.{cases_order}
use Rattle.pq_gate.specs.declared.gate.Gate.{Gate}
use Rattle.pq_links.specs.Slots.{is_free}
use Rattle.pq_match.specs.Redex.{gate_at, is_chosen, last_place}
use Rattle.pq_match.specs.Work.{IsRun, IsSpare, AreSpare}
use Rattle.pq_match.proofs.RankedRedexes.{is_chosen_at, last_is_at}

-- the last place is chosen
pub last_chosen : (places : List ℕ) → 0 < length places → is_chosen places (last_place places) ≡ true
last_chosen places some = is_chosen_at places (length places - 1) (last_place places) (omega arith) (last_is_at places some)

-- what lies between both ends
pub run_is : (slots : List Gate) (places : List ℕ) (count start end last : ℕ) → 0 < length places → last ≡ last_place places → get_or places 0 0 ≤ start → start ≤ last →
    last + 1 ≤ end → end ≤ length slots → count ≤ end - start → ((p : ℕ) → last + 1 ≤ p → p < end → is_free (gate_at slots p) ≡ true) →
    AreSpare slots places start last → IsRun slots places count (record { start = start; end = end })
run_is slots places count start end last some is from upto behind inside room free spare = record {
  from = from;
  upto = omega arith;
  behind = omega arith;
  inside = inside;
  room = omega arith;
  spare = record {
    each = λ p p_from below. elim (cases_order p last) [
      | inl same ↦ inr (ap (is_chosen places) (same ∙ is) ∙ last_chosen places some)
      | inr other ↦ elim other [ inl less ↦ spare.each p p_from less | inr more ↦ inl (free p (omega arith) below) ]
    ];
  };
}

pub spare_none : (slots : List Gate) (places : List ℕ) (upto : ℕ) → AreSpare slots places upto upto
spare_none slots places upto = record { each = λ p from below. absurd (omega arith) }

pub spare_more : (slots : List Gate) (places : List ℕ) (from upto : ℕ) → AreSpare slots places from upto → IsSpare slots places (from - 1) → 0 < from →
    AreSpare slots places (from - 1) upto
spare_more slots places from upto are here some = record {
  each = λ p p_from below. elim (cases_order p (from - 1)) [
    | inl same ↦ (let P : ℕ → Type 0 = λ k. IsSpare slots places k in subst P (sym same) here)
    | inr other ↦ elim other [ inl less ↦ absurd (omega arith) | inr more ↦ are.each p (omega arith) below ]
  ];
}
