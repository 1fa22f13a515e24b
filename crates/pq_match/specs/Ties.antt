-- What ties the next gate of a pattern to a wire.
use Rattle.std.specs.Prelude.{◌≡◌, ℕ, ◌<◌, ◌≤◌, Bool, not, List, length, slice_index}
use Rattle.pq_gate.specs.declared.gate.Gate.{Gate}
use Rattle.pq_gate.specs.Commuting.{Touches}
use Rattle.pq_gate.specs.Kind.{kind_of}
use Rattle.pq_links.specs.Wires.{wire_of}
use Rattle.pq_links.specs.Links.{IsNextOn}
use Rattle.pq_links.specs.Slots.{AreSlots}
use Rattle.pq_match.specs.declared.cursors.Cursors.{Cursors}
use Rattle.pq_match.specs.declared.looked.Looked.{Looked}
use Rattle.pq_match.specs.declared.ties.Binding.{Binding}
use Rattle.pq_match.specs.Redex.{gate_at}
use Rattle.pq_match.specs.Search.{IsFull, Begins}
use Rattle.pq_match.specs.Seek.{IsMarked, LookAlike}

-- the wire is one of the pattern's gate, and of one before it
pub record IsShared (pattern : List Gate) (number wire : ℕ) : Type 0 where
  pub at : ℕ
  pub below : at < number
  pub before : Touches (gate_at pattern at) wire
  pub own : Touches (gate_at pattern number) wire

-- none of the first gates uses a wire of the gate with the number
pub record AreUnshared (pattern : List Gate) (number count : ℕ) : Type 0 where
  pub none : (s : ℕ) (one : Bool) → s < count → ¬ Touches (gate_at pattern s) (wire_of one (gate_at pattern number))

-- A later gate is on a wire of this one, and on one of a gate before it. None between is on the latter.
pub record IsBinding (pattern : List Gate) (number : ℕ) (binding : Binding) : Type 0 where
  pub behind : number < binding.gate
  pub inside : binding.gate < length pattern
  pub at : ℕ
  pub below : at < number
  pub before : Touches (gate_at pattern at) (wire_of binding.last (gate_at pattern binding.gate))
  pub joins : Touches (gate_at pattern number) (wire_of (not binding.last) (gate_at pattern binding.gate))
  pub between : (r : ℕ) → number ≤ r → r < binding.gate → ¬ Touches (gate_at pattern r) (wire_of binding.last (gate_at pattern binding.gate))

-- the gate may be the binding one, which has this wire on that side
pub record MayBind (of_gate : Gate) (last : Bool) (wire : ℕ) (gate : Gate) : Type 0 where
  pub kind : kind_of gate ≡ kind_of of_gate
  pub side : wire_of last gate ≡ wire

-- No gate from here up to the place may be the binding one; the gate there uses the wire, if there is one.
pub record IsStop (gates : List Gate) (of_gate : Gate) (last : Bool) (wire from place : ℕ) : Type 0 where
  pub ahead : from ≤ place
  pub uses : place < length gates → Touches (gate_at gates place) wire
  pub none : (p : ℕ) → from ≤ p → p < place → p < length gates → ¬ MayBind of_gate last wire (gate_at gates p)

-- In all slots that look alike, where all of the pattern's gates have places that begin in this way, the next one stands on
-- the marked wire of a cursor, which is next there.
pub record IsTiedBy (gates pattern : List Gate) (looked : Looked) (places : List ℕ) (count place : ℕ) (cursors : Cursors) : Type 0 where
  pub cursor : ℕ
  pub below : cursor < 3
  pub marked : IsMarked looked.mask (slice_index cursors.wires cursor)
  pub next : IsNextOn gates (slice_index cursors.wires cursor) place (slice_index cursors.next cursor)
  pub on : (other : List Gate) → AreSlots other → LookAlike (slice_index places 0) looked gates other → (full : List ℕ) → IsFull other pattern (length other) full → Begins places count full →
      Touches (gate_at other (slice_index full count)) (slice_index cursors.wires cursor)
