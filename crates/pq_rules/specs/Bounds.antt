use Rattle.std.specs.Prelude.{ℕ, ◌<◌, ℤ, pos, ◌+ℤ◌, ◌≤ℤ◌, List, slice_index_or}
use Rattle.pq_gate.specs.declared.ring.Ring.{Ring}

-- all four coefficients are 0
abbrev pub zeros : Ring
zeros = record { a = pos 0; b = pos 0; c = pos 0; d = pos 0 }

-- the number is from -limit to limit
pub record IsBetween (limit : ℕ) (z : ℤ) : Type 0 where
  pub least : pos 0 ≤ℤ (z +ℤ pos limit)
  pub greatest : z ≤ℤ pos limit

-- so are all four coefficients
pub record IsWithin (limit : ℕ) (r : Ring) : Type 0 where
  pub a : IsBetween limit r.a
  pub b : IsBetween limit r.b
  pub c : IsBetween limit r.c
  pub d : IsBetween limit r.d

-- so are all entries of a column of eight
abbrev pub IsColumnWithin : ℕ → List Ring → Type 0
IsColumnWithin limit column = (x : ℕ) → x < 8 → IsWithin limit (slice_index_or column x zeros)
