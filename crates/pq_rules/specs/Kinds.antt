use Rattle.std.specs.Prelude.{ℕ, zero, suc, ◌+◌, ◌==◌, Bool, false, cond, List, [], ◌∷◌, Option, None, slice_get}
use Rattle.pq_gate.specs.declared.gate.Gate.{Gate}
use Rattle.pq_gate.specs.Kind.{kind_of, number_of}
use Rattle.pq_rules.specs.Row.{RowView}

-- the list begins with a gate of the kind of this number
abbrev pub begins : ℕ → List Gate → Bool
begins kind [] = false
begins kind (gate ∷ rest) = number_of (kind_of gate) == kind

-- the numbers, ascending, of the rows with a property, where the first row has the number `first`
abbrev pub numbers_where : (RowView → Bool) → ℕ → List RowView → List ℕ
numbers_where wanted first [] = []
numbers_where wanted first (row ∷ rows) =
    cond (wanted row) (first ∷ numbers_where wanted (first + 1) rows) (numbers_where wanted (first + 1) rows)

-- the same of the rows whose first gate is of the kind of this number
abbrev pub numbers_starting : ℕ → ℕ → List RowView → List ℕ
numbers_starting kind first rows = numbers_where (λ row. begins kind row.pattern) first rows

-- the row of this number, where the first row has the number 1
abbrev pub row_numbered : List RowView → ℕ → Option RowView
row_numbered rows zero = None
row_numbered rows (suc k) = slice_get rows k
