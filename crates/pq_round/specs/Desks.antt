-- The room in which a job is worked.
use Rattle.std.specs.Prelude.{◌≡◌, ℕ, ◌≤◌, []}
use Rattle.pq_gate.specs.declared.gate.Gate.{Gate}
use Rattle.pq_list.specs.Roomed.{Roomed}
use Rattle.pq_round.specs.declared.desk.Desk.{Desk}

-- an empty list with room for as many gates at least
pub record IsSpare (count : ℕ) (list : Roomed Gate) : Type 0 where
  pub empty : list.items ≡ []
  pub room : count ≤ list.room

-- nothing is on it, and there is room for as many gates at least
pub record HasRoomFor (count : ℕ) (desk : Desk) : Type 0 where
  pub input : IsSpare count desk.input
  pub spare : IsSpare count desk.spare
