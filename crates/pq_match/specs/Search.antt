-- What the search for the first redex goes by: the places of a pattern's gates, without the wires.
use Rattle.std.specs.Prelude.{◌≡◌, ◌≢◌, ℕ, ◌<◌, ◌≤◌, ◌↔◌, Bool, List, length, slice_index, Option, Some, None}
use Rattle.pq_limits.specs.declared.TheConstants.{MAX_ROW_GATES}
use Rattle.pq_gate.specs.declared.gate.Gate.{Gate}
use Rattle.pq_gate.specs.Commuting.{Touches, Commutes}
use Rattle.pq_gate.specs.Kind.{kind_of}
use Rattle.pq_match.specs.Redex.{RedexView, gate_at, last_place}
use Rattle.pq_match.specs.Wires.{wire_of}

-- the gates share no wire
abbrev pub AreApart : Gate → Gate → Type 0
AreApart first second = (w : ℕ) → Touches first w → Touches second w → ⊥

-- a wire is one of the gate's wires exactly where the pattern's wire is that of the pattern's gate
abbrev pub IsAlike : ℕ → Gate → ℕ → Gate → Type 0
IsAlike of_wire of_gate wire gate = (other : Bool) → (wire ≡ wire_of other gate) ↔ (of_wire ≡ wire_of other of_gate)

-- the wires of the first gate are equal to those of the second exactly where those of the pattern's gates are
abbrev pub AreAlike : Gate → Gate → Gate → Gate → Type 0
AreAlike of_first of_second first second = (one : Bool) → IsAlike (wire_of one of_first) of_second (wire_of one first) second

-- The gate at the place with the number `last` is of the pattern's kind there, and its wires are equal to those of
-- the gates before it where the pattern's are.
pub record IsFitting (gates pattern : List Gate) (places : List ℕ) (last : ℕ) : Type 0 where
  pub kind : kind_of (gate_at gates (slice_index places last)) ≡ kind_of (gate_at pattern last)
  pub wires : (s : ℕ) → s ≤ last →
      AreAlike (gate_at pattern s) (gate_at pattern last) (gate_at gates (slice_index places s)) (gate_at gates (slice_index places last))

-- the place isn't among the first `count` places
abbrev pub IsPassed : List ℕ → ℕ → ℕ → Type 0
IsPassed places count place = (s : ℕ) → s < count → slice_index places s ≢ place

-- each of the first `count` gates commutes with each gate that was passed over between it and the end
abbrev pub AreClear : List Gate → List ℕ → ℕ → ℕ → Type 0
AreClear gates places count end = (s place : ℕ) → s < count → IsPassed places count place → slice_index places s < place → place < end →
    Commutes (gate_at gates (slice_index places s)) (gate_at gates place)

-- The place stands behind the first `count` places, and the gates between it and these may stay where they are.
pub record IsNext (gates : List Gate) (places : List ℕ) (count place : ℕ) : Type 0 where
  pub above : (s : ℕ) → s < count → slice_index places s < place
  pub clear : AreClear gates places count place

-- all of the first `count` gates commute with the gate at the place
pub record IsPassable (gates : List Gate) (places : List ℕ) (count place : ℕ) : Type 0 where
  pub commute : (s : ℕ) → s < count → Commutes (gate_at gates (slice_index places s)) (gate_at gates place)

-- The first `count` of the places rise and lie before the end, and the gates there are those of the
-- pattern but for the wires' names; each commutes with the gates passed over up to the last of them.
pub record IsGrown (gates pattern : List Gate) (end : ℕ) (places : List ℕ) (count : ℕ) : Type 0 where
  pub rising : (s t : ℕ) → s < t → t < count → slice_index places s < slice_index places t
  pub inside : (s : ℕ) → s < count → slice_index places s < end
  pub fitting : (s : ℕ) → s < count → IsFitting gates pattern places s
  pub clear : (t : ℕ) → t < count → AreClear gates places count (slice_index places t)

-- places of all of the pattern's gates
abbrev pub IsFull : List Gate → List Gate → ℕ → List ℕ → Type 0
IsFull gates pattern end places = IsGrown gates pattern end places (length pattern)

-- the first `count` places are these
abbrev pub Begins : List ℕ → ℕ → List ℕ → Type 0
Begins front count places = (s : ℕ) → s < count → slice_index places s ≡ slice_index front s

-- where the lists first differ, among the first `count` places, the first has the lesser place
pub record IsBefore (count : ℕ) (places other : List ℕ) : Type 0 where
  pub at : ℕ
  pub below : at < count
  pub same : (s : ℕ) → s < at → slice_index places s ≡ slice_index other s
  pub less : slice_index places at < slice_index other at

-- eight places, of which those past `count` are 0
pub record AreEight (places : List ℕ) (count : ℕ) : Type 0 where
  pub eight : length places ≡ MAX_ROW_GATES
  pub rest : (s : ℕ) → count ≤ s → slice_index places s ≡ 0

-- the least places of all the pattern's gates that begin in this way
pub record IsFirstFull (gates pattern : List Gate) (end : ℕ) (front : List ℕ) (count : ℕ) (places : List ℕ) : Type 0 where
  pub full : IsFull gates pattern end places
  pub begins : Begins front count places
  pub first : (other : List ℕ) → IsFull gates pattern end other → Begins front count other → ¬ IsBefore (length pattern) other places
  pub eight : AreEight places (length pattern)

-- no places of all the pattern's gates begin in this way
pub record HasNoFull (gates pattern : List Gate) (end : ℕ) (front : List ℕ) (count : ℕ) : Type 0 where
  pub none : (other : List ℕ) → IsFull gates pattern end other → ¬ Begins front count other

-- the least places of all the pattern's gates that begin in this way, or none
abbrev pub FindsFull : List Gate → List Gate → ℕ → List ℕ → ℕ → Option (List ℕ) → Type 0
FindsFull gates pattern end front count (Some places) = IsFirstFull gates pattern end front count places
FindsFull gates pattern end front count None = HasNoFull gates pattern end front count

-- its first place is the start, and all its places lie before the end
abbrev pub IsFrom : ℕ → ℕ → RedexView → Type 0
IsFrom start end redex = (slice_index redex.places 0 ≡ start) × (last_place redex.places < end)

-- the same, of a row
abbrev pub IsOfRow : ℕ → ℕ → ℕ → RedexView → Type 0
IsOfRow number start end redex = (redex.row ≡ number) × (slice_index redex.places 0 ≡ start) × (last_place redex.places < end)
