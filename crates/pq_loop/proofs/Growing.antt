-- Lists that rise, with more numbers behind them.
use Rattle.std.proofs.Common.{◌≡◌, ℕ, zero, suc, ◌+◌, ◌<◌, List, [], ◌∷◌, ◌++◌, get_or, arith}
use Rattle.std.specs.Prelude.{All}
use Rattle.std.specs.List.Sorted.{IsStrictlyIncreasing}
use Rattle.std.proofs.lemmas.List.Elements.{All-head, All-tail, All-append}
use Rattle.std.proofs.lemmas.List.Kept.{AllPairs-from_increasing}
use Rattle.pq_array.proofs.Replacing.{rising_tail}

-- a number below all others comes first
pub increasing_cons : (x : ℕ) (xs : List ℕ) → All (λ y. x < y) xs → IsStrictlyIncreasing xs → IsStrictlyIncreasing (x ∷ xs)
increasing_cons x xs least up zero lt = least 0 0 (omega arith)
increasing_cons x xs least up (suc k) lt =
    let next : suc k + 1 ≡ suc (k + 1) = omega arith in
    rw next (up k (omega arith))

-- the first number is below all others
pub first_least : (x : ℕ) (xs : List ℕ) → IsStrictlyIncreasing (x ∷ xs) → All (λ y. x < y) xs
first_least x xs up k d lt = AllPairs-from_increasing (x ∷ xs) up 0 (suc k) d (omega arith) (omega arith)

-- numbers that rise, and then others that rise and are greater
pub increasing_append : (xs ys : List ℕ) → IsStrictlyIncreasing xs → IsStrictlyIncreasing ys → All (λ x. All (λ y. x < y) ys) xs → IsStrictlyIncreasing (xs ++ ys)
increasing_append [] ys up more below = more
increasing_append (x ∷ xs) ys up more below =
    increasing_cons x (xs ++ ys) (All-append (λ y. x < y) xs ys (first_least x xs up) (All-head (λ z. All (λ y. z < y) ys) x xs below))
    (increasing_append xs ys (rising_tail x xs up) more (All-tail (λ z. All (λ y. z < y) ys) x xs below))

-- and then a greater one
pub increasing_push : (xs : List ℕ) (y : ℕ) → IsStrictlyIncreasing xs → All (λ x. x < y) xs → IsStrictlyIncreasing (xs ++ y ∷ [])
increasing_push xs y up below = increasing_append xs (y ∷ []) up one (λ k d lt. only (get_or xs k d) (below k d lt))
  where
    one : IsStrictlyIncreasing (y ∷ [])
    one k lt = absurd (omega arith)

    only : (x : ℕ) → x < y → All (λ z. x < z) (y ∷ [])
    only x lt zero d in' = lt
    only x lt (suc k) d in' = absurd (omega arith)
