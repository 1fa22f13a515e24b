-- The places that the walk leaves out: the gates there use no wire of the chosen ones, and the next gate can't stand there.
use Rattle.std.proofs.Common.{◌≡◌, ℕ, ◌%◌, ◌<◌, ◌≤◌, Bool, true, false, List, length, get_or, refl, sym, subst, ◌∙◌, arith, inl, inr, ◌⊎◌}
use Rattle.std.proofs.lemmas.Bool.{cases_order}
use Rattle.pq_gate.specs.declared.gate.Gate.{Gate}
use Rattle.pq_gate.specs.Commuting.{Touches, Commutes}
use Rattle.pq_gate.specs.Kind.{kind_of}
use Rattle.pq_match.specs.Redex.{gate_at}
use Rattle.pq_match.specs.Search.{AreApart, IsPassed, IsFull, Begins}
use Rattle.pq_match.proofs.GrowingWalk.{IsWalked}
use Rattle.pq_match.proofs.SearchTouches.{commute_apart, share_alike}

-- The gates from a place up to another use no wire of those in use, and aren't of the kind of a gate that may stand anywhere.
pub record AreSkipped (gates : List Gate) (used : List Bool) (free : Bool) (next : Gate) (from place : ℕ) : Type 0 where
  pub unused : (p w : ℕ) → from ≤ p → p < place → Touches (gate_at gates p) w → get_or used (w % 64) false ≡ false
  pub kinds : (p : ℕ) → from ≤ p → p < place → free ≡ true → kind_of (gate_at gates p) ≡ kind_of next → ⊥

-- Past places whose gates share no wire with the chosen ones, and which the next gate can't have, the walk goes on as if
-- it had looked at each of them.
pub walk_leaves : (gates pattern : List Gate) (end : ℕ) (places : List ℕ) (count place next : ℕ) →
    IsWalked gates pattern end places count place → place ≤ next →
    ((p : ℕ) → place ≤ p → p < next → (s : ℕ) → s < count → AreApart (gate_at gates (get_or places s 0)) (gate_at gates p)) →
    ((other : List ℕ) → IsFull gates pattern end other → Begins places count other → place ≤ get_or other count 0 → get_or other count 0 < next → ⊥) →
    IsWalked gates pattern end places count next
walk_leaves gates pattern end places count place next walked upto apart never = record {
  next = record {
    above = λ s below. (let low : get_or places s 0 < place = walked.next.above s below in omega arith);
    clear = λ s p below passed behind less. clear s p below passed behind less (cases_order p place);
  };
  none = λ other full begins. none other full begins (cases_order (get_or other count 0) next);
}
  where
    clear : (s p : ℕ) → s < count → IsPassed places count p → get_or places s 0 < p → p < next → (p ≡ place) ⊎ ((p < place) ⊎ (place < p)) →
        Commutes (gate_at gates (get_or places s 0)) (gate_at gates p)
    clear s p below passed behind less (inl same) =
        commute_apart (gate_at gates (get_or places s 0)) (gate_at gates p) (apart p (omega arith) less s below)
    clear s p below passed behind less (inr (inl lower)) = walked.next.clear s p below passed behind lower
    clear s p below passed behind less (inr (inr higher)) =
        commute_apart (gate_at gates (get_or places s 0)) (gate_at gates p) (apart p (omega arith) less s below)

    none : (other : List ℕ) → IsFull gates pattern end other → Begins places count other →
        (get_or other count 0 ≡ next) ⊎ ((get_or other count 0 < next) ⊎ (next < get_or other count 0)) → next ≤ get_or other count 0
    none other full begins (inl same) = omega arith
    none other full begins (inr (inl less)) = absurd (never other full begins (walked.none other full begins) less)
    none other full begins (inr (inr behind)) = omega arith

-- The same, where a gate that isn't free shares a wire with one before it in the pattern.
walk_passes : (gates pattern : List Gate) (end : ℕ) (places : List ℕ) (count place next : ℕ) (free : Bool) →
    IsWalked gates pattern end places count place → count < length pattern → place ≤ next →
    (free ≡ false → ¬ ((before : ℕ) → before < count → AreApart (gate_at pattern before) (gate_at pattern count))) →
    ((p : ℕ) → place ≤ p → p < next → (s : ℕ) → s < count → AreApart (gate_at gates (get_or places s 0)) (gate_at gates p)) →
    ((p : ℕ) → place ≤ p → p < next → free ≡ true → kind_of (gate_at gates p) ≡ kind_of (gate_at pattern count) → ⊥) →
    IsWalked gates pattern end places count next
walk_passes gates pattern end places count place next free walked more upto bound apart other_kind =
    walk_leaves gates pattern end places count place next walked upto apart (λ other full begins from less. never other full begins from less free refl)
  where
    never : (other : List ℕ) → IsFull gates pattern end other → Begins places count other → place ≤ get_or other count 0 → get_or other count 0 < next → (b : Bool) → free ≡ b → ⊥
    never other full begins from less true is = other_kind (get_or other count 0) from less is (full.fitting count more).kind
    never other full begins from less false is = bound is (λ before below w uses_before uses.
        (let shared = share_alike (gate_at pattern before) (gate_at pattern count) (gate_at gates (get_or other before 0)) (gate_at gates (get_or other count 0))
        ((full.fitting count more).wires before (omega arith)) w uses_before uses in
        apart (get_or other count 0) from less before below shared.0
        (subst (λ (p : ℕ). Touches (gate_at gates p) shared.0) (begins before below) shared.1) shared.2))

-- The same, where the wires in use are told by their remainders.
pub walk_skips : (gates pattern : List Gate) (end : ℕ) (places : List ℕ) (count place next : ℕ) (used : List Bool) (free : Bool) →
    IsWalked gates pattern end places count place → count < length pattern → place ≤ next →
    ((s w : ℕ) → s < count → Touches (gate_at gates (get_or places s 0)) w → get_or used (w % 64) false ≡ true) →
    (free ≡ false → ¬ ((before : ℕ) → before < count → AreApart (gate_at pattern before) (gate_at pattern count))) →
    ((p w : ℕ) → place ≤ p → p < next → Touches (gate_at gates p) w → get_or used (w % 64) false ≡ false) →
    ((p : ℕ) → place ≤ p → p < next → free ≡ true → kind_of (gate_at gates p) ≡ kind_of (gate_at pattern count) → ⊥) →
    IsWalked gates pattern end places count next
walk_skips gates pattern end places count place next used free walked more upto are_used bound unused other_kind =
    walk_passes gates pattern end places count place next free walked more upto bound apart other_kind
  where
    apart : (p : ℕ) → place ≤ p → p < next → (s : ℕ) → s < count → AreApart (gate_at gates (get_or places s 0)) (gate_at gates p)
    apart p from less s below w uses_chosen uses =
        let yes : get_or used (w % 64) false ≡ true = are_used s w below uses_chosen in
        let no : get_or used (w % 64) false ≡ false = unused p w from less uses in
        let clash : true ≡ false = sym yes ∙ no in absurd (cc)
