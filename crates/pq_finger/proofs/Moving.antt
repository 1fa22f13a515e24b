use Rattle.std.proofs.Common.{◌≡◌, ℕ, suc, ◌<◌, ◌≤◌, Bool, true, false, ◌||◌, eqb, List, [], ◌∷◌, length, get_or, refl, sym, ap, subst, ◌∙◌, arith, inl, inr, ◌⊎◌}
use Rattle.std.specs.List.{dedup, dedup_from}
use Rattle.std.specs.List.Sorted.{IsNonDecreasing}
use Rattle.std.proofs.lemmas.Bool.{cases_order, eq-eqb, ne_eqb}
use Rattle.pq_gaps.specs.Gaps.{ascending}
use Rattle.pq_gaps.proofs.Ascending.{member, Rises, same_rising, Rises-ascending, member-ascending, or_again}

-- numbers that don't fall, from the first on
abbrev pub Climbs : ℕ → List ℕ → Type 0
Climbs least [] = Unit {0}
Climbs least (x ∷ xs) = (least ≤ x) × Climbs x xs

pub Climbs-from_first : (least : ℕ) (xs : List ℕ) → IsNonDecreasing xs → (0 < length xs → least ≤ get_or xs 0 0) → Climbs least xs
Climbs-from_first least [] up low = tt
Climbs-from_first least (x ∷ xs) up low =
    (low (omega arith), Climbs-from_first x xs (λ i j d le lt. up (suc i) (suc j) d (omega arith) (omega arith)) (next x xs up))
  where
    next : (x : ℕ) (xs : List ℕ) → IsNonDecreasing (x ∷ xs) → 0 < length xs → x ≤ get_or xs 0 0
    next x [] up some = absurd (omega arith)
    next x (y ∷ ys) up some = up 0 1 0 (omega arith) (omega arith)

-- without repeats a list that doesn't fall rises
Rises-dedup_from : (least x : ℕ) (xs : List ℕ) → least ≤ x → Climbs x xs → Rises least (dedup_from eqb x xs)
Rises-dedup_from least x [] low climbs = (low, tt)
Rises-dedup_from least x (y ∷ ys) low climbs =
    by (Rises-dedup_from least x ys low) (Rises-dedup_from (suc x) y ys) (cases_order x y)
  where
    by : (Climbs x ys → Rises least (dedup_from eqb x ys)) → (suc x ≤ y → Climbs y ys → Rises (suc x) (dedup_from eqb y ys)) →
        (x ≡ y) ⊎ ((x < y) ⊎ (y < x)) → Rises least (dedup_from eqb x (y ∷ ys))
    by again next (inl same) =
        let eq : eqb y x ≡ true = eq-eqb y x (sym same) in
        let P : ℕ → Type 0 = λ n. Climbs n ys in
        rw eq (again (subst P (sym same) climbs.1))
    by again next (inr (inl above)) =
        let differ : eqb y x ≡ false = ne_eqb y x (λ same. omega arith) in
        rw differ (low, next (omega arith) climbs.1)
    by again next (inr (inr below)) = absurd (omega (arith, climbs.0))

-- and has the same numbers
member-dedup_from : (z x : ℕ) (xs : List ℕ) → member z (dedup_from eqb x xs) ≡ (eqb z x || member z xs)
member-dedup_from z x [] = refl
member-dedup_from z x (y ∷ ys) =
    by (member-dedup_from z x ys) (member-dedup_from z y ys) (cases_order x y)
  where
    differs : (eqb y x ≡ false) → member z (dedup_from eqb y ys) ≡ (eqb z y || member z ys) →
        member z (dedup_from eqb x (y ∷ ys)) ≡ (eqb z x || (eqb z y || member z ys))
    differs differ next = rw differ (ap (λ (b : Bool). eqb z x || b) next)

    by : member z (dedup_from eqb x ys) ≡ (eqb z x || member z ys) → member z (dedup_from eqb y ys) ≡ (eqb z y || member z ys) →
        (x ≡ y) ⊎ ((x < y) ⊎ (y < x)) → member z (dedup_from eqb x (y ∷ ys)) ≡ (eqb z x || (eqb z y || member z ys))
    by again next (inl same) =
        let eq : eqb y x ≡ true = eq-eqb y x (sym same) in
        let at : eqb z y ≡ eqb z x = ap (λ (n : ℕ). eqb z n) (sym same) in
        rw (eq, at) (again ∙ or_again (eqb z x) (member z ys))
    by again next (inr (inl above)) = differs (ne_eqb y x (λ same. omega arith)) next
    by again next (inr (inr below)) = differs (ne_eqb y x (λ same. omega arith)) next

-- what is left of numbers that don't fall when repeats are dropped is the ascending list
pub dedup_ascending : (xs : List ℕ) → IsNonDecreasing xs → dedup eqb xs ≡ ascending xs
dedup_ascending [] up = refl
dedup_ascending (x ∷ xs) up =
    let climbs : Climbs 0 (x ∷ xs) = Climbs-from_first 0 (x ∷ xs) up (λ some. omega arith) in
    same_rising 0 0 (dedup_from eqb x xs) (ascending (x ∷ xs)) (Rises-dedup_from 0 x xs (omega arith) climbs.1) (Rises-ascending (x ∷ xs))
    (λ z. member-dedup_from z x xs ∙ sym (member-ascending z (x ∷ xs)))
