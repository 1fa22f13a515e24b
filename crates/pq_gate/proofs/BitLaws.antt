use Rattle.std.proofs.Common.{◌≡◌, ◌≢◌, ℕ, ◌<◌, ◌≤◌, Bool, true, false, not, cond, List, [], ◌∷◌, length, set, ◌↔◌, ⊎_elim, refl, ap, sym, subst, ◌∙◌}
use Rattle.std.proofs.lemmas.Bool.{cases_eq, cases_lt}
use Rattle.std.proofs.lemmas.List.{set-set, set_comm, set_past, set-get_or, get_or-set_same, get_or-set_other}
use Rattle.pq_gate.specs.Bits.{bit, toggled, same_bits}

-- the value that a wire is toggled to
abbrev pub changed : Bool → Bool → Bool
changed by p = cond by (not p) p

-- changed twice by one bit is unchanged
changed-changed : (by p : Bool) → changed by (changed by p) ≡ p
changed-changed true true = refl
changed-changed true false = refl
changed-changed false p = refl

-- changes by two bits may be exchanged
pub changed_comm : (by too p : Bool) → changed by (changed too p) ≡ changed too (changed by p)
changed_comm true true p = refl
changed_comm true false p = refl
changed_comm false true p = refl
changed_comm false false p = refl

pub toggled-toggled : (x : List Bool) (w : ℕ) (by : Bool) → w < length x → toggled (toggled x w by) w by ≡ x
toggled-toggled x w by inside =
    set-set x w (changed by (bit x w)) (changed by (bit (toggled x w by) w)) ∙
    ap (set x w) (ap (changed by) (get_or-set_same x w (changed by (bit x w)) false inside) ∙ changed-changed by (bit x w)) ∙
    set-get_or x w false

-- another wire keeps its value
pub bit-toggled_other : (x : List Bool) (w v : ℕ) (by : Bool) → v ≢ w → bit (toggled x w by) v ≡ bit x v
bit-toggled_other x w v by differ = get_or-set_other x w v (changed by (bit x w)) false differ

-- the state with its own value at a wire
pub set-bit : (x : List Bool) (w : ℕ) (p : Bool) → bit x w ≡ p → set x w p ≡ x
set-bit x w p is = ap (set x w) (sym is) ∙ set-get_or x w false

-- the test says whether two states are one
pub same_bits-true : (x y : List Bool) → same_bits x y ≡ true → x ≡ y
same_bits-true [] [] is = refl
same_bits-true [] (q ∷ y) is = absurd (cc)
same_bits-true (p ∷ x) [] is = absurd (cc)
same_bits-true (true ∷ x) (true ∷ y) is = ap (λ (z : List Bool). true ∷ z) (same_bits-true x y is)
same_bits-true (true ∷ x) (false ∷ y) is = absurd (cc)
same_bits-true (false ∷ x) (true ∷ y) is = absurd (cc)
same_bits-true (false ∷ x) (false ∷ y) is = ap (λ (z : List Bool). false ∷ z) (same_bits-true x y is)

pub same_bits-self : (x : List Bool) → same_bits x x ≡ true
same_bits-self [] = refl
same_bits-self (true ∷ x) = same_bits-self x
same_bits-self (false ∷ x) = same_bits-self x

pub same_bits-iff : (x y : List Bool) → (same_bits x y ≡ true) ↔ (x ≡ y)
same_bits-iff x y = (same_bits-true x y, λ is. subst (λ (z : List Bool). same_bits x z ≡ true) is (same_bits-self x))

-- a wire past the end isn't changed
toggled_past : (x : List Bool) (w : ℕ) (by : Bool) → length x ≤ w → toggled x w by ≡ x
toggled_past x w by past = set_past x w (changed by (bit x w)) past

-- one wire toggled twice
toggled-same : (x : List Bool) (w : ℕ) (by too : Bool) → w < length x →
    toggled (toggled x w by) w too ≡ set x w (changed too (changed by (bit x w)))
toggled-same x w by too inside =
    set-set x w (changed by (bit x w)) (changed too (bit (toggled x w by) w)) ∙
    ap (λ (p : Bool). set x w (changed too p)) (get_or-set_same x w (changed by (bit x w)) false inside)

-- a wire toggled, and another one set
pub toggled-set : (x : List Bool) (v w : ℕ) (by p : Bool) → v ≢ w → toggled (set x w p) v by ≡ set (toggled x v by) w p
toggled-set x v w by p differ =
    ap (λ (q : Bool). set (set x w p) v (changed by q)) (get_or-set_other x w v p false differ) ∙
    set_comm x w v p (changed by (bit x v)) (λ is. differ (sym is))

-- two wires are toggled in either order
pub toggled_comm : (x : List Bool) (v w : ℕ) (by too : Bool) → toggled (toggled x v by) w too ≡ toggled (toggled x w too) v by
toggled_comm x v w by too =
    ⊎_elim
    (λ (is : v ≡ w). subst (λ (u : ℕ). toggled (toggled x v by) u too ≡ toggled (toggled x u too) v by) is
    (⊎_elim
    (λ (inside : v < length x).
    toggled-same x v by too inside ∙ ap (set x v) (changed_comm too by (bit x v)) ∙ sym (toggled-same x v too by inside))
    (λ (past : length x ≤ v).
    ap (λ (z : List Bool). toggled z v too) (toggled_past x v by past) ∙ toggled_past x v too past ∙
    sym (ap (λ (z : List Bool). toggled z v by) (toggled_past x v too past) ∙ toggled_past x v by past))
    (cases_lt v (length x))))
    (λ (differ : v ≢ w).
    toggled-set x w v too (changed by (bit x v)) (λ is. differ (sym is)) ∙
    ap (λ (p : Bool). set (toggled x w too) v (changed by p)) (sym (bit-toggled_other x w v too differ)))
    (cases_eq v w)
