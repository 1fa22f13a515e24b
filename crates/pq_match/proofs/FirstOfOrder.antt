-- The order of lists of numbers in a dictionary, where a prefix comes before the whole.
use Rattle.std.proofs.Common.{◌≡◌, ℕ, ◌<◌, List, [], ◌∷◌, length, ◌⊎◌, inl, inr, refl, sym, ◌∙◌, arith}
use Rattle.std.proofs.lemmas.Bool.{cases_order}
use Rattle.pq_match.specs.First.{Precedes}

abbrev pub Comes : List ℕ → List ℕ → Type 0
Comes [] [] = ⊥
Comes [] (y ∷ ys) = Unit {0}
Comes (x ∷ xs) [] = ⊥
Comes (x ∷ xs) (y ∷ ys) = (x < y) ⊎ ((x ≡ y) × Comes xs ys)

pub comes_never_before_itself : (xs : List ℕ) → ¬ Comes xs xs
comes_never_before_itself [] before = before
comes_never_before_itself (x ∷ xs) before =
    elim before [ inl less ↦ omega arith | inr rest ↦ comes_never_before_itself xs rest.1 ]

pub comes_through : (xs ys zs : List ℕ) → Comes xs ys → Comes ys zs → Comes xs zs
comes_through [] [] zs left right = absurd left
comes_through [] (y ∷ ys) [] left right = absurd right
comes_through [] (y ∷ ys) (z ∷ zs) left right = tt
comes_through (x ∷ xs) [] zs left right = absurd left
comes_through (x ∷ xs) (y ∷ ys) [] left right = absurd right
comes_through (x ∷ xs) (y ∷ ys) (z ∷ zs) left right =
    elim left [
      | inl less ↦ elim right [ inl more ↦ inl (omega arith) | inr rest ↦ inl (omega (arith, rest.0)) ]
      | inr rest ↦ elim right [ inl more ↦ inl (omega (arith, rest.0)) | inr last ↦ inr (rest.0 ∙ last.0, comes_through xs ys zs rest.1 last.1) ]
    ]

-- of two lists one comes before the other, or they are one
pub comes_cases : (xs ys : List ℕ) → Comes xs ys ⊎ ((xs ≡ ys) ⊎ Comes ys xs)
comes_cases [] [] = inr (inl refl)
comes_cases [] (y ∷ ys) = inl tt
comes_cases (x ∷ xs) [] = inr (inr tt)
comes_cases (x ∷ xs) (y ∷ ys) =
    elim (cases_order x y) [
      | inl same ↦ elim (comes_cases xs ys) [
        | inl before ↦ inl (inr (same, before))
        | inr other ↦ elim other [ inl rest ↦ inr (inl (λ i. same i ∷ rest i)) | inr after ↦ inr (inr (inr (sym same, after))) ]
      ]
      | inr differ ↦ elim differ [ inl less ↦ inl (inl less) | inr more ↦ inr (inr (inl more)) ]
    ]

pub comes_from_precedes : (xs ys : List ℕ) → Precedes xs ys → Comes xs ys
comes_from_precedes [] ys before = absurd before
comes_from_precedes (x ∷ xs) [] before = before
comes_from_precedes (x ∷ xs) (y ∷ ys) before =
    elim before [ inl less ↦ inl less | inr rest ↦ inr (rest.0, comes_from_precedes xs ys rest.1) ]

pub precedes_from_comes : (xs ys : List ℕ) → length xs ≡ length ys → Comes xs ys → Precedes xs ys
precedes_from_comes [] [] long before = before
precedes_from_comes [] (y ∷ ys) long before = absurd (omega (arith, long))
precedes_from_comes (x ∷ xs) [] long before = before
precedes_from_comes (x ∷ xs) (y ∷ ys) long before =
    let rest_long : length xs ≡ length ys = omega (arith, long) in
    elim before [ inl less ↦ inl less | inr rest ↦ inr (rest.0, precedes_from_comes xs ys rest_long rest.1) ]
