-- Weights that are added up. That a list has each number of another list as often as that one is said by its having the
-- same weight, whatever the numbers weigh.
use Rattle.std.specs.Prelude.{ℕ, zero, suc, ◌+◌, cond, nat_eq, List, [], ◌∷◌}

-- the items' weights, added up
abbrev pub weigh : {A : Type 0} → (A → ℕ) → List A → ℕ
weigh h [] = 0
weigh h (x ∷ xs) = h x + weigh h xs

-- 1 where two numbers are the same, and else 0
abbrev pub one_if_same : ℕ → ℕ → ℕ
one_if_same x y = cond (nat_eq x y) 1 0

-- how often the number stands in the list
abbrev pub times : ℕ → List ℕ → ℕ
times x xs = weigh (λ y. one_if_same y x) xs

-- the weights of the numbers below this one, added up
abbrev pub below : (ℕ → ℕ) → ℕ → ℕ
below h zero = 0
below h (suc n) = below h n + h n
