use Rattle.std.specs.Prelude.{◌≡◌, ℕ, ◌/◌, ◌%◌, ◌<◌, List, [], slice_index_or}
use Rattle.pq_gate.specs.declared.ring.Ring.{Ring}
use Rattle.pq_gate.specs.Ring.{turned}
use Rattle.pq_rules.specs.Bounds.{zeros, IsColumnWithin}

-- what leads from a state to another in a matrix of columns
abbrev pub entry_in : List (List Ring) → ℕ → ℕ → Ring
entry_in columns from to = slice_index_or (slice_index_or columns to []) from zeros

-- all entries of the first columns are small
abbrev pub IsMatrixWithin : ℕ → ℕ → List (List Ring) → Type 0
IsMatrixWithin limit size columns = (y : ℕ) → y < size → IsColumnWithin limit (slice_index_or columns y [])

-- Pairs of states are numbered by the first, then by the second. The entries of pair p agree up to ω^k.
abbrev pub MatchesAt : List (List Ring) → List (List Ring) → ℕ → ℕ → ℕ → Type 0
MatchesAt left right size k p = entry_in left (p / size) (p % size) ≡ turned k (entry_in right (p / size) (p % size))

-- the entries of all pairs below p do
abbrev pub MatchesBelow : List (List Ring) → List (List Ring) → ℕ → ℕ → ℕ → Type 0
MatchesBelow left right size k p = (q : ℕ) → q < p → MatchesAt left right size k q
