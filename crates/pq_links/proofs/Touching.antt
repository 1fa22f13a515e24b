-- The wires that a gate touches are its first and its last.
use Rattle.std.proofs.Common.{◌≡◌, ℕ, ◌<◌, Bool, true, false, inl, inr, ◌⊎◌, arith}
use Rattle.std.proofs.lemmas.Bool.{cases_order}
use Rattle.pq_gate.specs.declared.gate.Gate.{Gate}
use Rattle.pq_gate.specs.Commuting.{Touches}
use Rattle.pq_gate.proofs.WireLaws.{touched as touched_once, touches_first, touches_last}
use Rattle.pq_links.specs.Wires.{wire_of}

-- which of the gate's wires this one is
pub touched : (gate : Gate) (w : ℕ) → Touches gate w → (one : Bool) × (w ≡ wire_of one gate)
touched gate w uses = elim (touched_once gate w uses) [ inl first ↦ (false, first) | inr last ↦ (true, last) ]

pub touching : (gate : Gate) (one : Bool) → Touches gate (wire_of one gate)
touching gate false = touches_first gate
touching gate true = touches_last gate

-- whether one of a gate's wires is this wire
pub on_which : (gate : Gate) (wire : ℕ) → ((i : Bool) × (wire ≡ wire_of i gate)) ⊎ (¬ Touches gate wire)
on_which gate wire = by (cases_order wire (wire_of false gate)) (cases_order wire (wire_of true gate))
  where
    apart : {a b : ℕ} → (a < b) ⊎ (b < a) → a ≡ b → ⊥
    apart (inl less) same = omega arith
    apart (inr more) same = omega arith

    neither : (wire ≡ wire_of false gate → ⊥) → (wire ≡ wire_of true gate → ⊥) → (i : Bool) × (wire ≡ wire_of i gate) → ⊥
    neither not_first not_last (true, is) = not_last is
    neither not_first not_last (false, is) = not_first is

    by : (wire ≡ wire_of false gate) ⊎ ((wire < wire_of false gate) ⊎ (wire_of false gate < wire)) →
        (wire ≡ wire_of true gate) ⊎ ((wire < wire_of true gate) ⊎ (wire_of true gate < wire)) → ((i : Bool) × (wire ≡ wire_of i gate)) ⊎ (¬ Touches gate wire)
    by (inl first) _ = inl (false, first)
    by (inr not_first) (inl last) = inl (true, last)
    by (inr not_first) (inr not_last) = inr (λ uses. neither (apart not_first) (apart not_last) (touched gate wire uses))
