use Rattle.std.proofs.Common.{◌≡◌, ℕ, Bool, true, false, ◌||◌, eqb, List, [], ◌∷◌, ◌++◌, refl, sym, ap, ◌∙◌, arith}
use Rattle.std.specs.List.Sorted.{IsStrictlyIncreasing}
use Rattle.pq_gaps.specs.Gaps.{with_number, ascending}
use Rattle.pq_gaps.proofs.Ascending.{member, Rises-with_number, member-with_number, member-append, member-ascending, ascending_same, ascending_rising, same_rising, Rises-ascending}
use Rattle.pq_gaps.proofs.Rising.{increasing_from_Rises, Rises-from_increasing}

pub or_comm : (a b : Bool) → (a || b) ≡ (b || a)
or_comm true true = refl
or_comm true false = refl
or_comm false true = refl
or_comm false false = refl

-- one number more at the end, or put where it belongs
pub ascending-push : (x : ℕ) (xs : List ℕ) → ascending (xs ++ x ∷ []) ≡ with_number x (ascending xs)
ascending-push x xs =
    same_rising 0 0 (ascending (xs ++ x ∷ [])) (with_number x (ascending xs))
    (Rises-ascending (xs ++ x ∷ [])) (Rises-with_number 0 x (ascending xs) (omega arith) (Rises-ascending xs))
    (λ z. member-ascending z (xs ++ x ∷ []) ∙ (member-append z xs (x ∷ []) ∙ (or_comm (member z xs) (eqb z x || false) ∙
    (end z ∙ sym (member-with_number z x (ascending xs))))))
  where
    front : (b c : Bool) → ((b || false) || c) ≡ (b || c)
    front true c = refl
    front false c = refl

    end : (z : ℕ) → ((eqb z x || false) || member z xs) ≡ (eqb z x || member z (ascending xs))
    end z = front (eqb z x) (member z xs) ∙ ap (λ (b : Bool). eqb z x || b) (sym (member-ascending z xs))

-- a list may be made ascending before more is put behind it
pub ascending-front : (xs ys : List ℕ) → ascending (ascending xs ++ ys) ≡ ascending (xs ++ ys)
ascending-front xs ys =
    ascending_same (ascending xs ++ ys) (xs ++ ys)
    (λ z. member-append z (ascending xs) ys ∙ (ap (λ (b : Bool). b || member z ys) (member-ascending z xs) ∙ sym (member-append z xs ys)))

-- a strictly increasing list is its own ascending list
pub ascending_increasing : (xs : List ℕ) → IsStrictlyIncreasing xs → ascending xs ≡ xs
ascending_increasing xs up = ascending_rising 0 xs (Rises-from_increasing xs up)

-- an ascending list is strictly increasing
pub increasing-ascending : (xs : List ℕ) → IsStrictlyIncreasing (ascending xs)
increasing-ascending xs = increasing_from_Rises 0 (ascending xs) (Rises-ascending xs)

-- with a number more a strictly increasing list still is
pub increasing-with_number : (x : ℕ) (xs : List ℕ) → IsStrictlyIncreasing xs → IsStrictlyIncreasing (with_number x xs)
increasing-with_number x xs up =
    increasing_from_Rises 0 (with_number x xs) (Rises-with_number 0 x xs (omega arith) (Rises-from_increasing xs up))
