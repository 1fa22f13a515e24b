-- A program as contracts see it.
use Rattle.std.specs.Prelude.{ℕ, ◌+◌, List, [], ◌∷◌, length}
use Rattle.pq_gate.specs.declared.gate.Gate.{Gate}

-- a register: its name, and how many wires or bits it has
pub record RegisterView : Type 0 where
  pub name : List ℕ
  pub size : ℕ

-- What may stand after the gates: a barrier over wires, or a measurement of a wire into a bit.
pub data TailView : Type 0 where
  Barrier : (wires : List ℕ) → TailView
  Measure : (wire bit : ℕ) → TailView

-- The registers are in order of declaration. Wires are numbered from 0 over the quantum registers, and
-- bits over the classical ones.
pub record ProgramView : Type 0 where
  pub qregs : List RegisterView
  pub cregs : List RegisterView
  pub gates : List Gate
  pub tail : List TailView

-- how many wires or bits the registers have together
abbrev pub places_of : List RegisterView → ℕ
places_of [] = 0
places_of (r ∷ rs) = r.size + places_of rs

-- what the entries count towards the limit of the tail: the wires of the barriers, and the measured bits
abbrev pub entries_of : List TailView → ℕ
entries_of [] = 0
entries_of (Barrier wires ∷ ts) = length wires + entries_of ts
entries_of (Measure wire bit ∷ ts) = 1 + entries_of ts
