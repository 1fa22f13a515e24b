use Rattle.std.proofs.Common.{◌≡◌, ℕ, suc, ◌<◌, ◌≤◌, Bool, true, false, ◌||◌, eqb, ltb, List, [], ◌∷◌, ◌++◌, refl, sym, ap, ◌∙◌, arith, inl, inr, ◌⊎◌}
use Rattle.std.proofs.lemmas.Bool.{lt-ltb, le-ltb, eq-eqb, ne_eqb, cases_order, false≢true}
use Rattle.pq_gaps.specs.Gaps.{with_number, ascending}

-- whether the list has this number
abbrev pub member : ℕ → List ℕ → Bool
member x [] = false
member x (y ∷ ys) = eqb x y || member x ys

-- the first number is at least `least`, and each later one is above the one before it
abbrev pub Rises : ℕ → List ℕ → Type 0
Rises least [] = Unit {0}
Rises least (x ∷ xs) = (least ≤ x) × Rises (suc x) xs

pub or_assoc : (a b c : Bool) → ((a || b) || c) ≡ (a || (b || c))
or_assoc true b c = refl
or_assoc false b c = refl

pub or_swap : (a b c : Bool) → (a || (b || c)) ≡ (b || (a || c))
or_swap true true c = refl
or_swap true false c = refl
or_swap false true c = refl
or_swap false false c = refl

pub or_again : (a b : Bool) → (a || b) ≡ (a || (a || b))
or_again true b = refl
or_again false b = refl

-- two lists joined have the numbers of both
pub member-append : (x : ℕ) (xs ys : List ℕ) → member x (xs ++ ys) ≡ (member x xs || member x ys)
member-append x [] ys = refl
member-append x (y ∷ xs) ys =
    ap (λ (b : Bool). eqb x y || b) (member-append x xs ys) ∙ sym (or_assoc (eqb x y) (member x xs) (member x ys))

-- a number more
pub member-with_number : (x y : ℕ) (ys : List ℕ) → member x (with_number y ys) ≡ (eqb x y || member x ys)
member-with_number x y [] = refl
member-with_number x y (z ∷ zs) = by (member-with_number x y zs) (cases_order y z)
  where
    by : member x (with_number y zs) ≡ (eqb x y || member x zs) → (y ≡ z) ⊎ ((y < z) ⊎ (z < y)) →
        member x (with_number y (z ∷ zs)) ≡ (eqb x y || (eqb x z || member x zs))
    by more (inl same) =
        let up : ltb y z ≡ false = le-ltb y z (omega arith) in
        let eq : eqb y z ≡ true = eq-eqb y z same in
        let at : eqb x y ≡ eqb x z = ap (λ (n : ℕ). eqb x n) same in
        rw (up, eq, at) (or_again (eqb x z) (member x zs))
    by more (inr (inl below)) = rw (lt-ltb y z below) refl
    by more (inr (inr above)) =
        let up : ltb y z ≡ false = le-ltb y z (omega arith) in
        let differ : eqb y z ≡ false = ne_eqb y z (λ same. omega arith) in
        rw (up, differ) (ap (λ (b : Bool). eqb x z || b) more ∙ or_swap (eqb x z) (eqb x y) (member x zs))

-- an ascending list has the numbers of the list that it comes from
pub member-ascending : (x : ℕ) (xs : List ℕ) → member x (ascending xs) ≡ member x xs
member-ascending x [] = refl
member-ascending x (y ∷ ys) = member-with_number x y (ascending ys) ∙ ap (λ (b : Bool). eqb x y || b) (member-ascending x ys)

-- a list that rises still does with a number more
pub Rises-with_number : (least x : ℕ) (xs : List ℕ) → least ≤ x → Rises least xs → Rises least (with_number x xs)
Rises-with_number least x [] low rises = (low, tt)
Rises-with_number least x (y ∷ ys) low rises =
    by (λ above. Rises-with_number (suc y) x ys above rises.1) (cases_order x y)
  where
    by : (suc y ≤ x → Rises (suc y) (with_number x ys)) → (x ≡ y) ⊎ ((x < y) ⊎ (y < x)) → Rises least (with_number x (y ∷ ys))
    by more (inl same) =
        let up : ltb x y ≡ false = le-ltb x y (omega arith) in
        let eq : eqb x y ≡ true = eq-eqb x y same in
        rw (up, eq) rises
    by more (inr (inl below)) = rw (lt-ltb x y below) (low, (omega arith, rises.1))
    by more (inr (inr above)) =
        let up : ltb x y ≡ false = le-ltb x y (omega arith) in
        let differ : eqb x y ≡ false = ne_eqb x y (λ same. omega arith) in
        rw (up, differ) (rises.0, more (omega arith))

-- an ascending list rises
pub Rises-ascending : (xs : List ℕ) → Rises 0 (ascending xs)
Rises-ascending [] = tt
Rises-ascending (x ∷ xs) = Rises-with_number 0 x (ascending xs) (omega arith) (Rises-ascending xs)

-- it may begin above less
pub Rises-weaker : (low high : ℕ) (xs : List ℕ) → low ≤ high → Rises high xs → Rises low xs
Rises-weaker low high [] le rises = tt
Rises-weaker low high (x ∷ xs) le rises = (omega (arith, rises.0), rises.1)

-- no number is below the least
pub member_below : (x least : ℕ) (xs : List ℕ) → x < least → Rises least xs → member x xs ≡ false
member_below x least [] lt rises = refl
member_below x least (y ∷ ys) lt rises =
    rw (ne_eqb x y (λ same. omega (arith, rises.0)), member_below x (suc y) ys (omega (arith, rises.0)) rises.1) refl

-- a number is itself
pub member_here : (x : ℕ) (xs : List ℕ) → member x (x ∷ xs) ≡ true
member_here x xs = rw (eq-eqb x x refl) refl

-- two lists that rise and have the same numbers are one list
pub same_rising : (m n : ℕ) (xs ys : List ℕ) → Rises m xs → Rises n ys → ((z : ℕ) → member z xs ≡ member z ys) → xs ≡ ys
same_rising m n [] [] rx ry same = refl
same_rising m n [] (y ∷ ys) rx ry same = absurd (false≢true (same y ∙ member_here y ys))
same_rising m n (x ∷ xs) [] rx ry same = absurd (false≢true (sym (same x) ∙ member_here x xs))
same_rising m n (x ∷ xs) (y ∷ ys) rx ry same =
    by (same_rising (suc x) (suc y) xs ys rx.1 ry.1) (cases_order x y)
  where
    later : x ≡ y → (z : ℕ) → (z ≡ x) ⊎ ((z < x) ⊎ (x < z)) → member z xs ≡ member z ys
    later here z (inl at) = member_below z (suc x) xs (omega arith) rx.1 ∙ sym (member_below z (suc y) ys (omega arith) ry.1)
    later here z (inr (inl lt)) = member_below z (suc x) xs (omega arith) rx.1 ∙ sym (member_below z (suc y) ys (omega arith) ry.1)
    later here z (inr (inr gt)) =
        let differ : eqb z x ≡ false = ne_eqb z x (λ e. omega arith) in
        let other : eqb z y ≡ false = ne_eqb z y (λ e. omega arith) in
        rw (differ, other) at (same z)

    by : (((z : ℕ) → member z xs ≡ member z ys) → xs ≡ ys) → (x ≡ y) ⊎ ((x < y) ⊎ (y < x)) → x ∷ xs ≡ y ∷ ys
    by more (inl here) = let rest : xs ≡ ys = more (λ z. later here z (cases_order z x)) in cc
    by more (inr (inl below)) = absurd (false≢true (sym (member_below x y (y ∷ ys) below (omega arith, ry.1)) ∙ (sym (same x) ∙ member_here x xs)))
    by more (inr (inr above)) = absurd (false≢true (sym (member_below y x (x ∷ xs) above (omega arith, rx.1)) ∙ (same y ∙ member_here y ys)))

-- ascending lists of the same numbers are one list
pub ascending_same : (xs ys : List ℕ) → ((z : ℕ) → member z xs ≡ member z ys) → ascending xs ≡ ascending ys
ascending_same xs ys same =
    same_rising 0 0 (ascending xs) (ascending ys) (Rises-ascending xs) (Rises-ascending ys)
    (λ z. member-ascending z xs ∙ (same z ∙ sym (member-ascending z ys)))

-- a list that rises is its own ascending list
pub ascending_rising : (least : ℕ) (xs : List ℕ) → Rises least xs → ascending xs ≡ xs
ascending_rising least xs rises =
    same_rising 0 least (ascending xs) xs (Rises-ascending xs) rises (λ z. member-ascending z xs)
