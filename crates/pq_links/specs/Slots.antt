-- Slots: places in a list that hold a gate each or are free, with the neighbours on the wires beside them.
use Rattle.std.specs.Prelude.{◌≡◌, ◌≢◌, ℕ, ◌+◌, ◌<◌, ◌==◌, Bool, cond, List, [], ◌∷◌, length}
use Rattle.pq_gate.specs.declared.gate.Gate.{Gate}
use Rattle.pq_gate.specs.declared.gate.Gate.TheVariants.{Cx}
use Rattle.pq_gate.specs.Commuting.{Touches}
use Rattle.pq_gate.specs.Ports.{first_wire}
use Rattle.pq_links.specs.declared.links.Sides.{Sides}
use Rattle.pq_links.specs.Wires.{wire_of}
use Rattle.pq_links.specs.Places.{gate_at}
use Rattle.pq_links.specs.Links.{side_at, IsNextOn, IsLastOn}

-- a number that stands for no wire, and a gate on it that marks a free slot
abbrev pub no_wire : ℕ
no_wire = 4294967295

abbrev pub free_slot : Gate
free_slot = Cx no_wire no_wire

-- a slot that holds this is free
abbrev pub is_free : Gate → Bool
is_free gate = first_wire gate == no_wire

-- each slot is free, or its gate doesn't use the number that stands for no wire
abbrev pub AreSlots : List Gate → Type 0
AreSlots slots = (p : ℕ) → p < length slots → Touches (gate_at slots p) no_wire → gate_at slots p ≡ free_slot

-- the gates in the slots, in order
abbrev pub gates_in : List Gate → List Gate
gates_in [] = []
gates_in (slot ∷ slots) = cond (is_free slot) (gates_in slots) (slot ∷ gates_in slots)

-- each gate in a slot of its own, with a free one behind it
abbrev pub spread : List Gate → List Gate
spread [] = []
spread (gate ∷ gates) = gate ∷ free_slot ∷ spread gates

-- for each gate in a slot and each of its wires the next place on the wire
abbrev pub AreNext : List Gate → List Sides → Type 0
AreNext slots next = (p : ℕ) (one : Bool) → p < length slots → wire_of one (gate_at slots p) ≢ no_wire →
    IsNextOn slots (wire_of one (gate_at slots p)) (p + 1) (side_at one next p)

-- for each gate in a slot and each of its wires the last place before it on the wire
abbrev pub ArePrevious : List Gate → List Sides → Type 0
ArePrevious slots previous = (p : ℕ) (one : Bool) → p < length slots → wire_of one (gate_at slots p) ≢ no_wire →
    IsLastOn slots (wire_of one (gate_at slots p)) p (side_at one previous p)

-- these are the neighbours of the gates in the slots
pub record AreChained (slots : List Gate) (ahead behind : List Sides) : Type 0 where
  pub nexts : length ahead ≡ length slots
  pub previouses : length behind ≡ length slots
  pub next : AreNext slots ahead
  pub previous : ArePrevious slots behind

-- the places on the wire on both sides of a place: the last one before it, and the first one from it on
pub record IsGap (slots : List Gate) (wire place last next : ℕ) : Type 0 where
  pub before : IsLastOn slots wire place last
  pub after : IsNextOn slots wire place next

-- chains of slots: the next and the previous place on each wire of each gate, and the room that was asked for
pub record ChainsView : Type 0 where
  pub next : List Sides
  pub previous : List Sides
  pub room : ℕ
