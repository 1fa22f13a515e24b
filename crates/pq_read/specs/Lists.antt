-- Words on numbers and lists.
use Rattle.std.specs.Prelude.{ℕ, zero, suc, Bool, false, ◌||◌, ◌&&◌, ◌+◌, nat_le, nat_lt, List, [], ◌++◌}

-- whether some number below n passes
abbrev pub any_below : ℕ → (ℕ → Bool) → Bool
any_below zero test = false
any_below (suc n) test = any_below n test || test n

-- the lists of the numbers below n, one after another
abbrev pub each_below : {A : Type 0} → ℕ → (ℕ → List A) → List A
each_below zero f = []
each_below (suc n) f = each_below n f ++ f n

-- whether a place is one of so many from a first one on
abbrev pub is_in_span : ℕ → ℕ → ℕ → Bool
is_in_span first count place = nat_le first place && nat_lt place (first + count)
