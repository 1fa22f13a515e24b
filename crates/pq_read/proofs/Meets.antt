-- Arguments that are the same place in some instance.
use Rattle.std.proofs.Common.{◌≡◌, ℕ, zero, suc, ◌+◌, ◌-◌, ◌<◌, ◌≤◌, Bool, true, false, ◌||◌, ◌&&◌, eqb, leb, ltb, cond, refl, sym, ap, ◌∙◌, subst, inl, inr, arith}
use Rattle.std.proofs.lemmas.Bool.{false≢true, cases_lt}
use Rattle.std.proofs.lemmas.Bool.Decides.{nat_tests}
use borrow.Author.Tests.{eqb-true, eq-eqb}
use Rattle.pq_read.specs.declared.argument.Argument.{Argument}
use Rattle.pq_read.specs.Lists.{any_below, is_in_span}
use Rattle.pq_read.specs.Arguments.{meet}

pub same_bool : (a b : Bool) → (a ≡ true → b ≡ true) → (b ≡ true → a ≡ true) → a ≡ b
same_bool true b f g = sym (f refl)
same_bool false true f g = absurd (false≢true (g refl))
same_bool false false f g = refl

any_some : (n : ℕ) (test : ℕ → Bool) (k : ℕ) → k < n → test k ≡ true → any_below n test ≡ true
any_some zero test k h e = absurd (omega arith)
any_some (suc n) test k h e =
    elim (cases_lt k n) [
      | inl lt ↦ ap (λ b. b || test n) (any_some n test k lt e)
      | inr le ↦ let same : k ≡ n = omega arith in
          elim (any_below n test) as (λ b. (b || test n) ≡ true) [ true ↦ refl | false ↦ subst (λ j. test j ≡ true) same e ]
    ]

or_either : (a b : Bool) (P : Type 0) → (a ≡ true → P) → (b ≡ true → P) → (a || b) ≡ true → P
or_either true b P f g h = f refl
or_either false b P f g h = g h

any_one : (n : ℕ) (test : ℕ → Bool) (P : Type 0) → ((k : ℕ) → k < n → test k ≡ true → P) → any_below n test ≡ true → P
any_one zero test P f h = absurd (false≢true h)
any_one (suc n) test P f h = or_either (any_below n test) (test n) P (any_one n test P (λ k lt e. f k (omega arith) e)) (λ e. f n (omega arith) e) h

pub both_whole : (n f g : ℕ) → 1 ≤ n → eqb f g ≡ any_below n (λ k. eqb (f + k) (g + k))
both_whole n f g some =
    same_bool _ _ (λ e. any_some n (λ k. eqb (f + k) (g + k)) 0 some (let same : f ≡ g = eqb-true f g e in eq-eqb (f + 0) (g + 0) (omega arith)))
    (any_one n (λ k. eqb (f + k) (g + k)) (eqb f g ≡ true) (λ k lt e. let same : f + k ≡ g + k = eqb-true (f + k) (g + k) e in eq-eqb f g (omega arith)))

in_range : (f w n : ℕ) → (leb f w && ltb w (f + n)) ≡ true → (f ≤ w) × (w < f + n)
in_range f w n h = (low f w n h, high f w n h) where
  low : (f w n : ℕ) → (leb f w && ltb w (f + n)) ≡ true → f ≤ w
  low f w n h = grind (arith, nat_tests)

  high : (f w n : ℕ) → (leb f w && ltb w (f + n)) ≡ true → w < f + n
  high f w n h = grind (arith, nat_tests)

from_range : (f w n : ℕ) → f ≤ w → w < f + n → (leb f w && ltb w (f + n)) ≡ true
from_range f w n a b = grind (arith, nat_tests)

pub whole_single : (n f w : ℕ) → (leb f w && ltb w (f + n)) ≡ any_below n (λ k. eqb (f + k) w)
whole_single n f w =
    same_bool _ _ (λ e. let r = in_range f w n e in any_some n (λ k. eqb (f + k) w) (w - f) (let a : f ≤ w = r.0 in let b : w < f + n = r.1 in omega arith) (let a : f ≤ w = r.0 in eq-eqb (f + (w - f)) w (omega arith)))
    (any_one n (λ k. eqb (f + k) w) _ (λ k lt e. let same : f + k ≡ w = eqb-true (f + k) w e in from_range f w n (omega arith) (omega arith)))

pub single_whole : (n f w : ℕ) → (leb f w && ltb w (f + n)) ≡ any_below n (λ k. eqb w (f + k))
single_whole n f w =
    same_bool _ _ (λ e. let r = in_range f w n e in any_some n (λ k. eqb w (f + k)) (w - f) (let a : f ≤ w = r.0 in let b : w < f + n = r.1 in omega arith) (let a : f ≤ w = r.0 in eq-eqb w (f + (w - f)) (omega arith)))
    (any_one n (λ k. eqb w (f + k)) _ (λ k lt e. let same : w ≡ f + k = eqb-true w (f + k) e in from_range f w n (omega arith) (omega arith)))

pub both_single : (n v w : ℕ) → n ≡ 1 → eqb v w ≡ any_below n (λ k. eqb v w)
both_single n v w one = sym (ap (λ m. any_below m (λ k. eqb v w)) one)

-- two arguments by whether each is a whole register
pub meets_ww : (a b : Argument) → a.whole ≡ true → b.whole ≡ true → 1 ≤ a.count → eqb a.first b.first ≡ meet a b
meets_ww a b p q some =
    both_whole a.count a.first b.first some
    ∙ sym (λ i. any_below (cond (p i) a.count b.count) (λ k. eqb (cond (p i) (a.first + k) a.first) (cond (q i) (b.first + k) b.first)))

pub meets_ws : (a b : Argument) → a.whole ≡ true → b.whole ≡ false → is_in_span a.first a.count b.first ≡ meet a b
meets_ws a b p q =
    whole_single a.count a.first b.first
    ∙ sym (λ i. any_below (cond (p i) a.count b.count) (λ k. eqb (cond (p i) (a.first + k) a.first) (cond (q i) (b.first + k) b.first)))

pub meets_sw : (a b : Argument) → a.whole ≡ false → b.whole ≡ true → is_in_span b.first b.count a.first ≡ meet a b
meets_sw a b p q =
    single_whole b.count b.first a.first
    ∙ sym (λ i. any_below (cond (p i) a.count b.count) (λ k. eqb (cond (p i) (a.first + k) a.first) (cond (q i) (b.first + k) b.first)))

pub meets_ss : (a b : Argument) → a.whole ≡ false → b.whole ≡ false → b.count ≡ 1 → eqb a.first b.first ≡ meet a b
meets_ss a b p q one =
    both_single b.count a.first b.first one
    ∙ sym (λ i. any_below (cond (p i) a.count b.count) (λ k. eqb (cond (p i) (a.first + k) a.first) (cond (q i) (b.first + k) b.first)))
