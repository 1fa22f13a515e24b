use Rattle.std.proofs.Common.{◌≡◌, ℕ, ◌<◌, Bool, true, false, cond, List, length, set, refl, ap, sym, subst, ◌∙◌}
use Rattle.std.proofs.lemmas.List.{set-set, get_or-set_same}
use Rattle.pq_gate.specs.declared.gate.Gate.TheVariants.{H}
use Rattle.pq_gate.specs.declared.ring.Ring.{Ring}
use Rattle.pq_gate.specs.Bits.{bit}
use Rattle.pq_gate.specs.Ring.{plus, turned, turned_if, root}
use Rattle.pq_gate.specs.Matrix.{through}
use Rattle.pq_gate.proofs.BitLaws.{set-bit}
use Rattle.pq_gate.proofs.RingLaws.{plus_swap, plus-nought, nought-plus, turned-plus, turned-8, plus-turned_4, root-root}

-- what H gives at a state with the wire's value put in
H-set : (w : ℕ) (f : List Bool → Ring) (x : List Bool) (p : Bool) → w < length x →
    through (H w) f (set x w p) ≡ plus (f (set x w false)) (turned_if p 4 (f (set x w true)))
H-set w f x p inside =
    λ i. plus (f (set-set x w p false i)) (turned_if (get_or-set_same x w p false inside i) 4 (f (set-set x w p true i)))

-- the sum and the difference of two, added or subtracted, are twice one of them
sum_and_difference : (p : Bool) (low high : Ring) →
    plus (plus low high) (turned_if p 4 (plus low (turned 4 high))) ≡ plus (cond p high low) (cond p high low)
sum_and_difference true low high =
    ap (plus (plus low high)) (turned-plus 4 low (turned 4 high) ∙ ap (plus (turned 4 low)) (turned-8 high)) ∙
    plus_swap low high (turned 4 low) high ∙
    ap (λ (r : Ring). plus r (plus high high)) (plus-turned_4 low) ∙
    nought-plus (plus high high)
sum_and_difference false low high =
    plus_swap low high low (turned 4 high) ∙
    ap (plus (plus low low)) (plus-turned_4 high) ∙
    plus-nought (plus low low)

-- the value that a state has is one of the two
at_own_value : (f : List Bool → Ring) (x : List Bool) (w : ℕ) (p : Bool) → bit x w ≡ p →
    cond p (f (set x w true)) (f (set x w false)) ≡ f x
at_own_value f x w true is = ap f (set-bit x w true is)
at_own_value f x w false is = ap f (set-bit x w false is)

-- H twice is 2
pub H_twice : (w : ℕ) (f : List Bool → Ring) (x : List Bool) → w < length x → through (H w) (through (H w) f) x ≡ root (root (f x))
H_twice w f x inside =
    (λ i. plus (H-set w f x false inside i) (turned_if (bit x w) 4 (H-set w f x true inside i))) ∙
    sum_and_difference (bit x w) (f (set x w false)) (f (set x w true)) ∙
    (let own : cond (bit x w) (f (set x w true)) (f (set x w false)) ≡ f x = at_own_value f x w (bit x w) refl in
    λ i. plus (own i) (own i)) ∙
    sym (root-root (f x))

-- the wire is a wire of each state
pub within : {n w : ℕ} → w < n → (x : List Bool) → length x ≡ n → w < length x
within {n} {w} below x is = subst (λ (k : ℕ). w < k) (sym is) below
