use Rattle.std.proofs.lemmas.Bool.{cases_eq, lt-leb, ltb-true}
use Rattle.std.proofs.Common.{inl, inr, ◌≡◌, ℕ, zero, suc, ◌-◌, ◌/◌, ◌%◌, ◌^◌, ◌<◌, ◌≤◌, Bool, true, false, ◌&&◌, ◌||◌, eqb, ltb, leb, set, refl, sym, subst, arith}
use Rattle.std.specs.Prelude.{bit_and, bit_or}
use Rattle.std.specs.Bool.{beq}
use Rattle.pq_gate.specs.Bits.{bit, same_bits}
use Rattle.pq_gate.proofs.BitLaws.{same_bits-true}
use Rattle.pq_rules.specs.States.{state}

-- p holds of each number below n
abbrev pub all_below : ℕ → (ℕ → Bool) → Bool
all_below zero p = true
all_below (suc n) p = p n && all_below n p

pub both : (p q : Bool) → p && q ≡ true → (p ≡ true) × (q ≡ true)
both true q is = (refl, is)
both false q is = absurd (cc)

pub all_below-at : (n : ℕ) (p : ℕ → Bool) → all_below n p ≡ true → (k : ℕ) → k < n → p k ≡ true
all_below-at zero p all k below = absurd (omega arith)
all_below-at (suc n) p all k below =
    let two : (p n ≡ true) × (all_below n p ≡ true) = both (p n) (all_below n p) all in
    elim (cases_eq k n) [
      | inl same ↦ subst (λ (j : ℕ). p j ≡ true) (sym same) two.0
      | inr differ ↦ all_below-at n p two.1 k (omega arith)
    ]

implied : (p q : Bool) → p ≡ false → p || q ≡ true → q ≡ true
implied true q not_p is = absurd (cc)
implied false q not_p is = is

beq-true : (p q : Bool) → beq p q ≡ true → p ≡ q
beq-true true true is = refl
beq-true true false is = absurd (cc)
beq-true false true is = absurd (cc)
beq-true false false is = refl

-- what `|` and `&` with the bit of a wire do to the number of a state
abbrev bits_test : ℕ → ℕ → ℕ → Bool
bits_test n w x = leb n w ||
    (beq (eqb (x / 2 ^ w % 2) 1) (bit (state n x) w) &&
    (same_bits (state n (bit_or x (2 ^ w))) (set (state n x) w true) &&
    same_bits (state n (bit_and x (7 - 2 ^ w))) (set (state n x) w false)))

bits_hold : all_below 4 (λ n. all_below 3 (λ w. all_below 8 (λ x. bits_test n w x))) ≡ true
bits_hold = refl

abbrev range_test : ℕ → ℕ → Bool
range_test w x = ltb (bit_or x (2 ^ w)) 8 && ltb (bit_and x (7 - 2 ^ w)) 8

ranges_hold : all_below 3 (λ w. all_below 8 (λ x. range_test w x)) ≡ true
ranges_hold = refl

-- which numbers have one state
abbrev same_test : ℕ → ℕ → ℕ → Bool
same_test n y x = leb (2 ^ n) y || beq (eqb (x % 2 ^ n) y) (same_bits (state n x) (state n y))

same_holds : all_below 4 (λ n. all_below 8 (λ y. all_below 8 (λ x. same_test n y x))) ≡ true
same_holds = refl

-- the facts that the tests show, of one number and one wire
pub record HasBits (n w x : ℕ) : Type 0 where
  pub bit : eqb (x / 2 ^ w % 2) 1 ≡ bit (state n x) w
  pub high : state n (bit_or x (2 ^ w)) ≡ set (state n x) w true
  pub low : state n (bit_and x (7 - 2 ^ w)) ≡ set (state n x) w false

pub bits_of : (n w x : ℕ) → n ≤ 3 → w < n → x < 8 → HasBits n w x
bits_of n w x few below inside =
    let at : bits_test n w x ≡ true =
    all_below-at 8 (λ x. bits_test n w x)
    (all_below-at 3 (λ w. all_below 8 (λ x. bits_test n w x))
    (all_below-at 4 (λ n. all_below 3 (λ w. all_below 8 (λ x. bits_test n w x))) bits_hold n (omega arith)) w (omega arith)) x inside in
    let not_past : leb n w ≡ false = lt-leb n w below in
    let parts = implied (leb n w) _ not_past at in
    let first = both _ _ parts in
    let second = both _ _ first.1 in
    record { bit = beq-true _ _ first.0; high = same_bits-true _ _ second.0; low = same_bits-true _ _ second.1 }

pub range_of : (w x : ℕ) → w < 3 → x < 8 → (bit_or x (2 ^ w) < 8) × (bit_and x (7 - 2 ^ w) < 8)
range_of w x below inside =
    let at : range_test w x ≡ true =
    all_below-at 8 (λ x. range_test w x) (all_below-at 3 (λ w. all_below 8 (λ x. range_test w x)) ranges_hold w below) x inside in
    let parts = both _ _ at in
    (ltb-true _ _ parts.0, ltb-true _ _ parts.1)

pub same_of : (n y x : ℕ) → n ≤ 3 → y < 2 ^ n → y < 8 → x < 8 → eqb (x % 2 ^ n) y ≡ same_bits (state n x) (state n y)
same_of n y x few below y_inside inside =
    let at : same_test n y x ≡ true =
    all_below-at 8 (λ x. same_test n y x)
    (all_below-at 8 (λ y. all_below 8 (λ x. same_test n y x))
    (all_below-at 4 (λ n. all_below 8 (λ y. all_below 8 (λ x. same_test n y x))) same_holds n (omega arith)) y y_inside) x inside in
    let not_past : leb (2 ^ n) y ≡ false = lt-leb (2 ^ n) y below in
    beq-true _ _ (implied (leb (2 ^ n) y) _ not_past at)
