-- Weights that are added up.
use Rattle.std.proofs.Common.{◌≡◌, ◌≢◌, ℕ, zero, suc, ◌+◌, ◌-◌, ◌<◌, ◌≤◌, ⊎_elim, List, [], ◌∷◌, ◌++◌, get_or, set, refl, sym, ap, arith}
use Rattle.std.specs.Prelude.{Contains}
use Rattle.std.specs.List.{concat}
use Rattle.std.proofs.lemmas.Bool.{cases_lt}
use Rattle.std.proofs.lemmas.Bool.Decides.{nat_tests}
use mathlib.Core.Option.{some, some-injective, some-ne-none}
use lib.ListN.{get_elem?}
use Rattle.pq_board.specs.Sums.{weigh, times, below, one_if_same}

-- tests that count one
pub one_same : (x : ℕ) → one_if_same x x ≡ 1
one_same x = grind (arith, nat_tests)

pub one_other : (x y : ℕ) → x ≢ y → one_if_same x y ≡ 0
one_other x y apart = grind (arith, nat_tests)

pub weigh_append : {A : Type 0} (f : A → ℕ) (xs ys : List A) → weigh f (xs ++ ys) ≡ weigh f xs + weigh f ys
weigh_append f [] ys = omega arith
weigh_append f (x ∷ xs) ys = omega (arith, weigh_append f xs ys)

pub weigh_push : {A : Type 0} (f : A → ℕ) (xs : List A) (x : A) → weigh f (xs ++ x ∷ []) ≡ weigh f xs + f x
weigh_push f xs x = omega (arith, weigh_append f xs (x ∷ []))

-- one item is exchanged for another
pub weigh_set : {A : Type 0} (f : A → ℕ) (xs : List A) (i : ℕ) (v w : A) → get_elem? xs i ≡ some v → weigh f (set xs i w) + f v ≡ weigh f xs + f w
weigh_set f [] i v w at = absurd (some-ne-none v (sym at))
weigh_set f (x ∷ xs) zero v w at = let e : f x ≡ f v = ap f (some-injective x v at) in omega arith
weigh_set f (x ∷ xs) (suc i) v w at = omega (arith, weigh_set f xs i v w at)

-- one item weighs no more than all
pub weigh_part : {A : Type 0} (f : A → ℕ) (xs : List A) (i : ℕ) (v : A) → get_elem? xs i ≡ some v → f v ≤ weigh f xs
weigh_part f [] i v at = absurd (some-ne-none v (sym at))
weigh_part f (x ∷ xs) zero v at = let e : f x ≡ f v = ap f (some-injective x v at) in omega arith
weigh_part f (x ∷ xs) (suc i) v at = omega (arith, weigh_part f xs i v at)

-- nor do two
pub weigh_two : {A : Type 0} (f : A → ℕ) (xs : List A) (i j : ℕ) (v w : A) → get_elem? xs i ≡ some v → get_elem? xs j ≡ some w → i ≢ j → f v + f w ≤ weigh f xs
weigh_two f [] i j v w at other apart = absurd (some-ne-none v (sym at))
weigh_two f (x ∷ xs) zero zero v w at other apart = absurd (apart refl)
weigh_two f (x ∷ xs) zero (suc j) v w at other apart =
    let e : f x ≡ f v = ap f (some-injective x v at) in
    omega (arith, weigh_part f xs j w other)
weigh_two f (x ∷ xs) (suc i) zero v w at other apart =
    let e : f x ≡ f w = ap f (some-injective x w other) in
    omega (arith, weigh_part f xs i v at)
weigh_two f (x ∷ xs) (suc i) (suc j) v w at other apart =
    omega (arith, weigh_two f xs i j v w at other (λ e. apart (ap (λ (n : ℕ). suc n) e)))

-- one that stands among them weighs no more than all
pub weigh_contains : {A : Type 0} (f : A → ℕ) (xs : List A) (x : A) → Contains xs x → f x ≤ weigh f xs
weigh_contains f [] x (k, lt, is) = absurd (omega arith)
weigh_contains f (y ∷ ys) x (zero, lt, is) = let e : f y ≡ f x = ap f is in omega arith
weigh_contains f (y ∷ ys) x (suc k, lt, is) = omega (arith, weigh_contains f ys x (k, omega arith, is))

pub times_contains : (x : ℕ) (xs : List ℕ) → Contains xs x → 1 ≤ times x xs
times_contains x xs at = omega (arith, weigh_contains (λ y. one_if_same y x) xs x at, one_same x)

-- what stands somewhere weighs nothing, where each does
pub weigh_none : {A : Type 0} (f g : A → ℕ) (xs : List A) → weigh g xs ≡ 0 →
    ((j : ℕ) (w : A) → get_elem? xs j ≡ some w → g w ≡ 0 → f w ≡ 0) → weigh f xs ≡ 0
weigh_none f g [] is none = refl
weigh_none f g (x ∷ xs) is none =
    let here : f x ≡ 0 = none 0 x refl (omega arith) in
    omega (arith, weigh_none f g xs (omega arith) (λ j. none (suc j)))

-- where one item has all the weight of one kind, and the others have none of the other kind either, it has all of that too
pub weigh_only : {A : Type 0} (f g : A → ℕ) (xs : List A) (i : ℕ) (v : A) → get_elem? xs i ≡ some v → weigh g xs ≡ g v →
    ((j : ℕ) (w : A) → get_elem? xs j ≡ some w → g w ≡ 0 → f w ≡ 0) → weigh f xs ≡ f v
weigh_only f g [] i v at is none = absurd (some-ne-none v (sym at))
weigh_only f g (x ∷ xs) zero v at is none =
    let e : x ≡ v = some-injective x v at in
    let gs : g x ≡ g v = ap g e in
    let fs : f x ≡ f v = ap f e in
    omega (arith, weigh_none f g xs (omega arith) (λ j. none (suc j)))
weigh_only f g (x ∷ xs) (suc i) v at is none =
    let part : g v ≤ weigh g xs = weigh_part g xs i v at in
    let here : f x ≡ 0 = none 0 x refl (omega arith) in
    omega (arith, weigh_only f g xs i v at (omega arith) (λ j. none (suc j)))

-- what weighs no more each weighs no more together
pub weigh_le : {A : Type 0} (f g : A → ℕ) (xs : List A) → ((j : ℕ) (w : A) → get_elem? xs j ≡ some w → f w ≤ g w) → weigh f xs ≤ weigh g xs
weigh_le f g [] le = omega arith
weigh_le f g (x ∷ xs) le = omega (arith, le 0 x refl, weigh_le f g xs (λ j. le (suc j)))

-- and by one less, where one item does
pub weigh_lt : {A : Type 0} (f g : A → ℕ) (xs : List A) (i : ℕ) (v : A) → get_elem? xs i ≡ some v → f v < g v →
    ((j : ℕ) (w : A) → get_elem? xs j ≡ some w → f w ≤ g w) → weigh f xs < weigh g xs
weigh_lt f g [] i v at lt le = absurd (some-ne-none v (sym at))
weigh_lt f g (x ∷ xs) zero v at lt le =
    let e : x ≡ v = some-injective x v at in
    let gs : g x ≡ g v = ap g e in
    let fs : f x ≡ f v = ap f e in
    omega (arith, weigh_le f g xs (λ j. le (suc j)))
weigh_lt f g (x ∷ xs) (suc i) v at lt le = omega (arith, le 0 x refl, weigh_lt f g xs i v at lt (λ j. le (suc j)))

-- weights that are the same for each
pub weigh_same : {A : Type 0} (f g : A → ℕ) (xs : List A) → ((x : A) → f x ≡ g x) → weigh f xs ≡ weigh g xs
weigh_same f g [] same = refl
weigh_same f g (x ∷ xs) same = omega (arith, same x, weigh_same f g xs same)

-- nothing weighs nothing
pub weigh_zero : {A : Type 0} (xs : List A) → weigh (λ x. 0) xs ≡ 0
weigh_zero [] = refl
weigh_zero (x ∷ xs) = omega (arith, weigh_zero xs)

-- weights of two kinds
weigh_both : {A : Type 0} (f g : A → ℕ) (xs : List A) → weigh (λ x. f x + g x) xs ≡ weigh f xs + weigh g xs
weigh_both f g [] = refl
weigh_both f g (x ∷ xs) = omega (arith, weigh_both f g xs)

-- weights of pairs, added up in the one order or in the other
pub weigh_turn : {A B : Type 0} (f : A → B → ℕ) (xs : List A) (ys : List B) → weigh (λ x. weigh (λ y. f x y) ys) xs ≡ weigh (λ y. weigh (λ x. f x y) xs) ys
weigh_turn f [] ys = sym (weigh_zero ys)
weigh_turn f (x ∷ xs) ys = omega (arith, weigh_turn f xs ys, weigh_both (f x) (λ y. weigh (λ z. f z y) xs) ys)

-- of the numbers below n
pub below_le : (g h : ℕ → ℕ) (n : ℕ) → ((t : ℕ) → g t ≤ h t) → below g n ≤ below h n
below_le g h zero le = omega arith
below_le g h (suc n) le = omega (arith, below_le g h n le, le n)

-- none of them is counted
pub below_none : (h : ℕ → ℕ) (n : ℕ) → ((t : ℕ) → t < n → h t ≡ 0) → below h n ≡ 0
below_none h zero none = refl
below_none h (suc n) none = omega (arith, none n (omega arith), below_none h n (λ t lt. none t (omega arith)))

-- a number from n on is none of them, and each other is one, once
pub below_past : (t n : ℕ) → n ≤ t → below (λ y. one_if_same y t) n ≡ 0
below_past t n le = below_none (λ y. one_if_same y t) n (λ y lt. one_other y t (λ e. absurd (omega arith)))

pub below_once : (t n : ℕ) → t < n → below (λ y. one_if_same y t) n ≡ 1
below_once t zero lt = absurd (omega arith)
below_once t (suc n) lt =
    ⊎_elim (λ less. let apart : n ≢ t = omega arith in omega (arith, below_once t n less, one_other n t apart))
    (λ le. let same : t ≡ n = omega arith in omega (arith, below_past t n le, ap (λ (x : ℕ). one_if_same n x) same, one_same n))
    (cases_lt t n)

pub below_at_most : (t n : ℕ) → below (λ y. one_if_same y t) n ≤ 1
below_at_most t n = ⊎_elim (λ lt. omega (arith, below_once t n lt)) (λ le. omega (arith, below_past t n le)) (cases_lt t n)

-- the numbers from k on
pub below_late : (late : ℕ → ℕ) (k n : ℕ) → ((t : ℕ) → t < k → late t ≡ 0) → ((t : ℕ) → k ≤ t → late t ≡ 1) → below late n ≡ n - k
below_late late k zero early others = omega arith
below_late late k (suc n) early others =
    ⊎_elim (λ lt. omega (arith, below_late late k n early others, early n lt)) (λ le. omega (arith, below_late late k n early others, others n le)) (cases_lt n k)

-- the first of them and the others
pub below_shift : (h : ℕ → ℕ) (n : ℕ) → below h (suc n) ≡ h 0 + below (λ t. h (suc t)) n
below_shift h zero = omega arith
below_shift h (suc n) = omega (arith, below_shift h n)

-- lists that are joined weigh at least as much as those with the numbers below n
pub below_joined : (f : ℕ → ℕ) (lists : List (List ℕ)) (n : ℕ) → below (λ t. weigh f (get_or lists t [])) n ≤ weigh f (concat lists)
below_joined f [] n = omega (arith, below_none (λ t. weigh f (get_or {A = List ℕ} [] t [])) n (λ t lt. refl))
below_joined f (list ∷ lists) zero = omega arith
below_joined f (list ∷ lists) (suc n) =
    omega (arith, below_shift (λ t. weigh f (get_or (list ∷ lists) t [])) n, below_joined f lists n, weigh_append f list (concat lists))
