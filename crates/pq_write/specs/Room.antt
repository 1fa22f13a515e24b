-- Room for a text that is written piece after piece.
use Rattle.std.specs.Prelude.{ℕ, ◌+◌, ◌≤◌, List, length}
use Rattle.pq_list.specs.Roomed.{Roomed}

-- a list has room for a piece behind its items
abbrev pub HasRoomFor : Roomed ℕ → List ℕ → Type 0
HasRoomFor list piece = length list.items + length piece ≤ list.room
