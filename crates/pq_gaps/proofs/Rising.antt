use Rattle.std.proofs.Common.{◌≡◌, ℕ, zero, suc, ◌+◌, ◌-◌, ◌<◌, ◌≤◌, true, false, ◌||◌, eqb, ltb, List, [], ◌∷◌, ◌++◌, length, get_or, refl, sym, ap, subst, ◌∙◌, arith, inl, inr, ◌⊎◌, add-one}
use Rattle.std.specs.List.Sorted.{IsStrictlyIncreasing}
use Rattle.std.specs.List.{All, Contains}
use Rattle.std.proofs.lemmas.Bool.{le-ltb, ne_eqb, eqb-true, cases_lt, cases_Bool, or_cases, or_right}
use Rattle.std.proofs.lemmas.List.{get_or_default}
use Rattle.pq_gaps.specs.Gaps.{with_number}
use Rattle.pq_gaps.proofs.Ascending.{member, Rises, Rises-with_number, Rises-weaker, member-with_number, member_here, same_rising}

-- each number is below the next
pub next_above : (least : ℕ) (xs : List ℕ) (k : ℕ) → Rises least xs → suc k < length xs → get_or xs k 0 < get_or xs (suc k) 0
next_above least [] k rises lt = absurd (omega arith)
next_above least (x ∷ []) k rises lt = absurd (omega arith)
next_above least (x ∷ y ∷ ys) zero rises lt = omega (arith, rises.1.0)
next_above least (x ∷ y ∷ ys) (suc k) rises lt = next_above (suc x) (y ∷ ys) k rises.1 (omega arith)

-- a list that rises is strictly increasing
pub increasing_from_Rises : (least : ℕ) (xs : List ℕ) → Rises least xs → IsStrictlyIncreasing xs
increasing_from_Rises least xs rises k lt =
    rw add-one (next_above least xs k rises (omega arith))

-- what follows the first number is strictly increasing
increasing_tail : (x : ℕ) (xs : List ℕ) → IsStrictlyIncreasing (x ∷ xs) → IsStrictlyIncreasing xs
increasing_tail x xs up k lt =
    let here : get_or (x ∷ xs) (suc k) 0 < get_or (x ∷ xs) (suc k + 1) 0 = up (suc k) (omega arith) in
    let at : suc k + 1 ≡ suc (k + 1) = omega arith in
    let P : ℕ → Type 0 = λ n. get_or xs k 0 < get_or (x ∷ xs) n 0 in
    subst P at here

-- a strictly increasing list rises from a number that its first one isn't below
pub Rises-from_first : (least : ℕ) (xs : List ℕ) → IsStrictlyIncreasing xs → (0 < length xs → least ≤ get_or xs 0 0) → Rises least xs
Rises-from_first least [] up low = tt
Rises-from_first least (x ∷ xs) up low = (low (omega arith), Rises-from_first (suc x) xs (increasing_tail x xs up) (next x xs up))
  where
    next : (x : ℕ) (xs : List ℕ) → IsStrictlyIncreasing (x ∷ xs) → 0 < length xs → suc x ≤ get_or xs 0 0
    next x [] up some = absurd (omega arith)
    next x (y ∷ ys) up some = omega (arith, up 0 (omega arith))

-- a strictly increasing list rises
pub Rises-from_increasing : (xs : List ℕ) → IsStrictlyIncreasing xs → Rises 0 xs
Rises-from_increasing xs up = Rises-from_first 0 xs up (λ some. omega arith)

-- a number that is in the list stands at some index
pub contains_from_member : (x : ℕ) (xs : List ℕ) → member x xs ≡ true → Contains xs x
contains_from_member x [] is = absurd (cc)
contains_from_member x (y ∷ ys) is = by (λ rest. contains_from_member x ys rest) (or_cases (eqb x y) (member x ys) is)
  where
    by : (member x ys ≡ true → Contains ys x) → (eqb x y ≡ true) ⊎ (member x ys ≡ true) → Contains (y ∷ ys) x
    by later (inl here) = (0, omega arith, sym (eqb-true x y here))
    by later (inr there) = let found = later there in (suc found.0, omega (arith, found.1), found.2)

-- and what stands at an index is in the list
pub member_at : (xs : List ℕ) (k d : ℕ) → k < length xs → member (get_or xs k d) xs ≡ true
member_at [] k d lt = absurd (omega arith)
member_at (x ∷ xs) zero d lt = member_here x xs
member_at (x ∷ xs) (suc k) d lt = or_right (eqb (get_or xs k d) x) (member (get_or xs k d) xs) (member_at xs k d (omega arith))

pub member_from_contains : (x : ℕ) (xs : List ℕ) → Contains xs x → member x xs ≡ true
member_from_contains x xs found =
    let P : ℕ → Type 0 = λ y. member y xs ≡ true in
    subst P found.2 (member_at xs found.0 x found.1)

-- what holds of all numbers of the list holds of each that is in it
pub all_member : (P : ℕ → Type 0) (xs : List ℕ) → All P xs → (x : ℕ) → member x xs ≡ true → P x
all_member P xs all x is =
    let found : Contains xs x = contains_from_member x xs is in
    subst P found.2 (all found.0 x found.1)

-- and the other way round
pub All-from_member : (P : ℕ → Type 0) (xs : List ℕ) → ((x : ℕ) → member x xs ≡ true → P x) → All P xs
All-from_member P xs each k d lt = each (get_or xs k d) (member_at xs k d lt)

-- a number that is there already
pub with_number_there : (least x : ℕ) (xs : List ℕ) → Rises least xs → member x xs ≡ true → with_number x xs ≡ xs
with_number_there least x xs rises there =
    same_rising 0 least (with_number x xs) xs
    (Rises-with_number 0 x xs (omega arith) (Rises-weaker 0 least xs (omega arith) rises)) rises
    (λ z. member-with_number z x xs ∙ by z (cases_Bool (eqb z x)))
  where
    by : (z : ℕ) → (eqb z x ≡ true) ⊎ (eqb z x ≡ false) → (eqb z x || member z xs) ≡ member z xs
    by z (inl is) =
        let P : ℕ → Type 0 = λ y. member y xs ≡ true in
        let has : member z xs ≡ true = subst P (sym (eqb-true z x is)) there in
        rw (is, has) refl
    by z (inr not) = rw not refl

-- a number above all that are there
pub with_number_end : (x : ℕ) (xs : List ℕ) → ((y : ℕ) → member y xs ≡ true → y < x) → with_number x xs ≡ xs ++ x ∷ []
with_number_end x [] above = refl
with_number_end x (y ∷ ys) above =
    let lt : y < x = above y (member_here y ys) in
    let up : ltb x y ≡ false = le-ltb x y (omega arith) in
    let differ : eqb x y ≡ false = ne_eqb x y (λ same. omega arith) in
    rw (up, differ) (ap (λ (r : List ℕ). y ∷ r) (with_number_end x ys (λ z is. above z (or_right (eqb z y) (member z ys) is))))

-- all are below a number that none is above and the last one isn't
pub all_below : (least x : ℕ) (xs : List ℕ) → Rises least xs → All (λ y. y ≤ x) xs →
    (0 < length xs → get_or xs (length xs - 1) 0 ≡ x → ⊥) → (y : ℕ) → member y xs ≡ true → y < x
all_below least x xs rises all last y is = by (cases_lt y x)
  where
    found : Contains xs y
    found = contains_from_member y xs is

    at_end : y ≡ x → (suc found.0 < length xs) ⊎ (length xs ≤ suc found.0) → ⊥
    at_end same (inl more) =
        let above : get_or xs found.0 0 < get_or xs (suc found.0) 0 = next_above least xs found.0 rises more in
        let here : get_or xs found.0 0 ≡ y = get_or_default xs found.0 0 y found.1 ∙ found.2 in
        let most : get_or xs (suc found.0) 0 ≤ x = all (suc found.0) 0 more in
        omega arith
    at_end same (inr end) =
        let count : found.0 ≡ length xs - 1 = omega (arith, found.1) in
        let here : get_or xs found.0 0 ≡ y = get_or_default xs found.0 0 y found.1 ∙ found.2 in
        let P : ℕ → Type 0 = λ n. get_or xs n 0 ≡ x in
        last (omega (arith, found.1)) (subst P count (here ∙ same))

    by : (y < x) ⊎ (x ≤ y) → y < x
    by (inl lt) = lt
    by (inr ge) = absurd (at_end (omega (arith, all_member (λ z. z ≤ x) xs all y is)) (cases_lt (suc found.0) (length xs)))

-- a number put behind a list that reaches up to it and doesn't end in it
pub put_behind : (x : ℕ) (xs : List ℕ) → IsStrictlyIncreasing xs → All (λ y. y ≤ x) xs →
    (0 < length xs → get_or xs (length xs - 1) 0 ≡ x → ⊥) → xs ++ x ∷ [] ≡ with_number x xs
put_behind x xs up all last = sym (with_number_end x xs (all_below 0 x xs (Rises-from_increasing xs up) all last))

-- a list that ends in the number has it
pub put_again : (x last : ℕ) (xs : List ℕ) → IsStrictlyIncreasing xs → 0 < length xs → last ≡ get_or xs (length xs - 1) last →
    last ≡ x → xs ≡ with_number x xs
put_again x last xs up some is same =
    let P : ℕ → Type 0 = λ y. member y xs ≡ true in
    let there : member x xs ≡ true = subst P (sym is ∙ same) (member_at xs (length xs - 1) last (omega arith)) in
    sym (with_number_there 0 x xs (Rises-from_increasing xs up) there)
