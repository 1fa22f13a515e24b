use Rattle.std.proofs.Common.{◌≡◌, ℕ, ◌+◌, ◌<◌, max, List, [], ◌∷◌, take, length, get_or, inl, inr, ap, subst, ◌∙◌, arith}
use Rattle.std.proofs.lemmas.Bool.{cases_eq, cases_lt}
use Rattle.std.proofs.lemmas.List.{take_more}
use Rattle.pq_gate.specs.declared.gate.Gate.{Gate}
use Rattle.pq_gate.specs.Matrix.{h_count, roots_of}
use Rattle.pq_gate.proofs.ActLaws.{h_count-append}

-- one gate more
pub h_count-more : (gates : List Gate) (i : ℕ) (d : Gate) → i < length gates →
    h_count (take (i + 1) gates) ≡ h_count (take i gates) + roots_of (get_or gates i d)
h_count-more gates i d inside =
    ap h_count (take_more gates i d inside) ∙ h_count-append (take i gates) (get_or gates i d ∷ []) ∙ omega arith

module _ (M : ℕ → ℕ → Type 0) (phase last pair top : ℕ) (is : top ≡ max last pair) where
  -- each phase has failed up to the later of two places
  pub none_more : ((k : ℕ) → k < phase → ((q : ℕ) → q < last + 1 → M k q) → ⊥) → (M phase pair → ⊥) →
      (k : ℕ) → k < phase + 1 → ((q : ℕ) → q < top + 1 → M k q) → ⊥
  none_more before here k below all =
      elim (cases_eq k phase) [
        | inl same ↦ here (subst (λ (j : ℕ). M j pair) same (all pair (omega arith)))
        | inr differ ↦ before k (omega arith) (λ q q_below. all q (omega arith))
      ]

  -- one holds below the later
  pub some_more : phase < 8 → ((k : ℕ) × (k < 8) × ((q : ℕ) → q < last → M k q)) → ((q : ℕ) → q < pair → M phase q) →
      (k : ℕ) × (k < 8) × ((q : ℕ) → q < top → M k q)
  some_more few before here =
      elim (cases_lt last pair) [
        | inl less ↦ (phase, few, λ q q_below. here q (omega arith))
        | inr more ↦ (before.0, before.1, λ q q_below. before.2 q (omega arith))
      ]
