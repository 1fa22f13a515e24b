use Rattle.std.specs.Prelude.{◌≡◌, ℕ, ◌<◌, ◌^◌, ◌⊎◌}
use Rattle.pq_gate.specs.Matrix.{Entry, h_count}
use Rattle.pq_gate.specs.Ring.{turned, rooted}
use Rattle.pq_rules.specs.Row.{RowView}
use Rattle.pq_rules.specs.States.{state}

-- The entries of pattern and replacement from one state to another agree up to ω^k. Both are taken
-- times the √2 that the other side's entries have too many.
abbrev pub AgreesAt : RowView → ℕ → ℕ → ℕ → Type 0
AgreesAt row k from to =
    rooted (h_count row.replacement) (Entry row.pattern (state row.wires from) (state row.wires to)) ≡
    turned k (rooted (h_count row.pattern) (Entry row.replacement (state row.wires from) (state row.wires to)))

-- a pair of states comes before another: by the first, and where that is one, by the second
abbrev pub IsBefore : ℕ → ℕ → ℕ → ℕ → Type 0
IsBefore from to later_from later_to = (from < later_from) ⊎ ((from ≡ later_from) × (to < later_to))

-- ω^k makes all entries agree up to and with this pair
pub record FitsUpTo (row : RowView) (k from to : ℕ) : Type 0 where
  pub before : (f t : ℕ) → f < 2 ^ row.wires → t < 2 ^ row.wires → IsBefore f t from to → AgreesAt row k f t
  pub here : AgreesAt row k from to

-- This is the first pair of basis states, in ascending order of `from`, then of `to`, such that no
-- single phase makes the entries of all pairs up to and with it agree.
pub record IsFirstDiffering (row : RowView) (from to : ℕ) : Type 0 where
  pub from_inside : from < 2 ^ row.wires
  pub to_inside : to < 2 ^ row.wires
  pub none : (k : ℕ) → k < 8 → FitsUpTo row k from to → ⊥
  pub first : (f t : ℕ) → f < 2 ^ row.wires → t < 2 ^ row.wires → IsBefore f t from to → (k : ℕ) × (k < 8) × FitsUpTo row k f t
