-- What is seen of gates on their wires, noted by numbers.
use Rattle.std.proofs.Common.{◌≡◌, ℕ, ◌+◌, ◌*◌, ◌<◌, ◌⊎◌, List, length, get_or, inl, inr, sym, subst, arith}
use Rattle.std.proofs.lemmas.Bool.{cases_eq}
use Rattle.pq_gate.specs.declared.gate.Gate.{Gate}
use Rattle.pq_gate.specs.Commuting.{Touches}
use Rattle.pq_gate.specs.Ports.{first_wire, last_wire}
use Rattle.pq_gate.proofs.WireLaws.{touched}
use Rattle.pq_match.specs.Redex.{gate_at}
use Rattle.pq_match.specs.Seek.{AreSightsNoted, IsSightAt}

pub noted_none : (gates : List Gate) (notes : List ℕ) → AreSightsNoted gates 0 notes
noted_none gates notes = record { first = λ p below. absurd (omega arith); last = λ p below. absurd (omega arith) }

pub noted_more : {gates : List Gate} {count : ℕ} {notes then_notes : List ℕ} → AreSightsNoted gates count notes →
    IsSightAt gates (first_wire (gate_at gates count)) count (get_or then_notes (2 * count) 0) →
    IsSightAt gates (last_wire (gate_at gates count)) count (get_or then_notes (2 * count + 1) 0) →
    ((k : ℕ) → k < 2 * count → get_or then_notes k 0 ≡ get_or notes k 0) → AreSightsNoted gates (count + 1) then_notes
noted_more {gates} {count} {notes} {then_notes} noted first last others = record {
  first = λ p below. by_first p below (cases_eq p count);
  last = λ p below. by_last p below (cases_eq p count);
}
  where
    by_first : (p : ℕ) → p < count + 1 → (p ≡ count) ⊎ (p ≡ count → ⊥) → IsSightAt gates (first_wire (gate_at gates p)) p (get_or then_notes (2 * p) 0)
    by_first p below (inl same) = subst (λ (q : ℕ). IsSightAt gates (first_wire (gate_at gates q)) q (get_or then_notes (2 * q) 0)) (sym same) first
    by_first p below (inr apart) =
        subst (λ (n : ℕ). IsSightAt gates (first_wire (gate_at gates p)) p n) (sym (others (2 * p) (omega arith))) (noted.first p (omega arith))

    by_last : (p : ℕ) → p < count + 1 → (p ≡ count) ⊎ (p ≡ count → ⊥) → IsSightAt gates (last_wire (gate_at gates p)) p (get_or then_notes (2 * p + 1) 0)
    by_last p below (inl same) = subst (λ (q : ℕ). IsSightAt gates (last_wire (gate_at gates q)) q (get_or then_notes (2 * q + 1) 0)) (sym same) last
    by_last p below (inr apart) =
        subst (λ (n : ℕ). IsSightAt gates (last_wire (gate_at gates p)) p n) (sym (others (2 * p + 1) (omega arith))) (noted.last p (omega arith))

-- a wire that is the gate's first, or isn't
pub noted_first : {gates : List Gate} {notes : List ℕ} {wire : ℕ} (place : ℕ) → AreSightsNoted gates (length gates) notes → place < length gates →
    first_wire (gate_at gates place) ≡ wire → IsSightAt gates wire place (get_or notes (2 * place) 0)
noted_first {gates} {notes} place noted inside on = subst (λ (w : ℕ). IsSightAt gates w place (get_or notes (2 * place) 0)) on (noted.first place inside)

pub noted_last : {gates : List Gate} {notes : List ℕ} {wire : ℕ} (place : ℕ) → AreSightsNoted gates (length gates) notes → place < length gates →
    Touches (gate_at gates place) wire → (first_wire (gate_at gates place) ≡ wire → ⊥) → IsSightAt gates wire place (get_or notes (2 * place + 1) 0)
noted_last {gates} {notes} {wire} place noted inside uses apart = by (touched (gate_at gates place) wire uses)
  where
    by : (wire ≡ first_wire (gate_at gates place)) ⊎ (wire ≡ last_wire (gate_at gates place)) → IsSightAt gates wire place (get_or notes (2 * place + 1) 0)
    by (inl first) = absurd (apart (sym first))
    by (inr last) = subst (λ (w : ℕ). IsSightAt gates w place (get_or notes (2 * place + 1) 0)) (sym last) (noted.last place inside)
