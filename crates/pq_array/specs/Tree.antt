use Rattle.std.specs.Int.{IsNextPowerOfTwo}
use Rattle.std.specs.Prelude.{ℕ, ◌/◌, Option, List, length}
use Rattle.pq_array.specs.Cells.{live_places}
use Rattle.pq_array.specs.Counts.{Counts}

-- The words of the tree of an array of these cells: they count the live cells, and there are as many
-- leaves as the least power of two that is at least the number of cells, and at least 1. Word 0 is no
-- part of the tree, and may be any number.
pub record IsTreeOf {A : Type 0} (cells : List (Option A)) (words : List ℕ) : Type 0 where
  pub leaves : IsNextPowerOfTwo (length cells) (length words / 2)
  pub counts : Counts words (live_places cells)
