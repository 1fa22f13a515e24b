use Rattle.std.proofs.Common.{◌≡◌, Bool, true, false, List, [], ◌∷◌, length, refl, arith, lit<}
use Rattle.pq_gate.specs.declared.gate.Eighths.TheVariants.{T, Tdg}
use Rattle.pq_gate.specs.declared.gate.Gate.TheVariants.{X, Phase}
use Rattle.pq_gate.specs.Ring.{nought, one, turn, turned}
use Rattle.pq_gate.specs.Matrix.{Entry, Same}

-- a property of all pairs of states of one bit
each_bit : (P : List Bool → List Bool → Type 0) → ((p q : Bool) → P (p ∷ []) (q ∷ [])) →
    (x y : List Bool) → length x ≡ 1 → length y ≡ 1 → P x y
each_bit P at [] y x_is y_is = absurd (omega (arith, x_is))
each_bit P at (p ∷ []) [] x_is y_is = absurd (omega (arith, y_is))
each_bit P at (p ∷ []) (q ∷ []) x_is y_is = at p q
each_bit P at (p ∷ []) (q ∷ q' ∷ y) x_is y_is = absurd (omega (arith, y_is))
each_bit P at (p ∷ p' ∷ x) y x_is y_is = absurd (omega (arith, x_is))

-- X T X turns 0 where the inverse of T turns 1, and by ω more
pub X_T_X_is_turned_Tdg : (p q : Bool) →
    Entry (X 0 ∷ Phase T 0 ∷ X 0 ∷ []) (p ∷ []) (q ∷ []) ≡ turned 1 (Entry (Phase Tdg 0 ∷ []) (p ∷ []) (q ∷ []))
unfolding nought one turn
X_T_X_is_turned_Tdg true true = refl
X_T_X_is_turned_Tdg true false = refl
X_T_X_is_turned_Tdg false true = refl
X_T_X_is_turned_Tdg false false = refl

-- so the matrices are the same up to ω
pub X_T_X_same_Tdg : Same 1 (X 0 ∷ Phase T 0 ∷ X 0 ∷ []) (Phase Tdg 0 ∷ []) 1
X_T_X_same_Tdg = record {
  left = (lit< tt, (lit< tt, (lit< tt, tt)));
  right = (lit< tt, tt);
  entries = each_bit (λ x y. Entry (X 0 ∷ Phase T 0 ∷ X 0 ∷ []) x y ≡ turned 1 (Entry (Phase Tdg 0 ∷ []) x y)) X_T_X_is_turned_Tdg;
}
