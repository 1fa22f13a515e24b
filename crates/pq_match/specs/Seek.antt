-- What the search along the wires goes by, and how much of a list it looked at.
use Rattle.std.specs.Prelude.{◌≡◌, ◌≢◌, ℕ, ◌+◌, ◌*◌, ◌%◌, ◌<◌, ◌≤◌, ◌⊎◌, ◌↔◌, Bool, true, false, List, length, slice_index, Option, Some, None}
use Rattle.std.specs.Int.{bit_at}
use Rattle.pq_gate.specs.declared.gate.Gate.{Gate}
use Rattle.pq_gate.specs.Commuting.{Touches}
use Rattle.pq_gate.specs.Ports.{first_wire, last_wire}
use Rattle.pq_rules.specs.declared.seen.Seen.{Seen}
use Rattle.pq_rules.specs.declared.seen.Seen.TheVariants as seen
use Rattle.pq_rules.specs.Row.{RowView}
use Rattle.pq_rules.specs.Seen.{first_role, last_role, role_on}
use Rattle.pq_rules.specs.Sights.{seen_at}
use Rattle.pq_rules.specs.declared.seen.TheConstants.{SEEN}
use Rattle.pq_links.specs.Wires.{wire_of}
use Rattle.pq_links.specs.declared.links.Sides.{Sides}
use Rattle.pq_links.specs.Links.{far, IsNextOn}
use Rattle.pq_links.specs.Slots.{no_wire, AreSlots, AreNext, ArePrevious}
use Rattle.pq_match.specs.declared.cursors.Cursors.{Cursors}
use Rattle.pq_match.specs.declared.looked.Looked.{Looked}
use Rattle.pq_match.specs.declared.redex.Redex.{Redex}
use Rattle.pq_match.specs.Redex.{RedexView, gate_at}
use Rattle.pq_match.specs.First.{HasNoneAmong}
use Rattle.pq_match.specs.Found.{FindsAmong, IsFoundAmong}
use Rattle.pq_match.specs.Search.{HasNoFull, IsFirstFull}

-- the mask has the wire's bit, by the remainder modulo 64
abbrev pub HasBit : ℕ → ℕ → Type 0
HasBit mask wire = bit_at mask (wire % 64) ≡ 1

-- it marks the wire, which isn't that of free slots
abbrev pub IsMarked : ℕ → ℕ → Type 0
IsMarked mask wire = (wire ≢ no_wire) × HasBit mask wire

-- it marks each wire
pub record MarksAll (mask : ℕ) : Type 0 where
  pub all : (wire : ℕ) → HasBit mask wire

-- as much was looked at, or more
pub record LooksAtMore (old new : Looked) : Type 0 where
  pub reach : old.reach ≤ new.reach
  pub marks : (wire : ℕ) → HasBit old.mask wire → HasBit new.mask wire

-- The lists are alike to a search from the start that looked only at places below the reach, and there at gates on marked
-- wires: both end, if they do so below the reach, at one place; they have the same gate at the start, and behind it
-- wherever one of them has a gate on a marked wire.
pub record LookAlike (start : ℕ) (looked : Looked) (slots other : List Gate) : Type 0 where
  pub long : (p : ℕ) → p < looked.reach → (p < length slots) ↔ (p < length other)
  pub first : gate_at slots start ≡ gate_at other start
  pub same : (p w : ℕ) → start < p → p < looked.reach → IsMarked looked.mask w → Touches (gate_at slots p) w ⊎ Touches (gate_at other p) w →
      gate_at slots p ≡ gate_at other p

-- no redex has the property, in any slots that look alike
pub record HasNoneAlike (P : RedexView → Type 0) (rules : List RowView) (slots : List Gate) (start : ℕ) (looked : Looked) : Type 0 where
  pub none : (other : List Gate) → AreSlots other → LookAlike start looked slots other → HasNoneAmong P rules other

-- its first place is the start
abbrev pub StartsAt : ℕ → RedexView → Type 0
StartsAt start redex = slice_index redex.places 0 ≡ start

-- the same, of a row
abbrev pub IsRowAt : ℕ → ℕ → RedexView → Type 0
IsRowAt number start redex = (redex.row ≡ number) × (slice_index redex.places 0 ≡ start)

-- the first of the redexes with a property, or none, whatever stands where the search from the start didn't look
abbrev pub Seeks : (RedexView → Type 0) → List RowView → List Gate → ℕ → Looked → Option Redex → Type 0
Seeks P rules slots start looked (Some redex) = IsFoundAmong P rules slots redex
Seeks P rules slots start looked None = HasNoneAlike P rules slots start looked

-- a search looked at the start, and no redex begins there in any slots that look alike
pub record HasFailed (rules : List RowView) (slots : List Gate) (start : ℕ) (looked : Looked) : Type 0 where
  pub near : start < looked.reach
  pub none : HasNoneAlike (StartsAt start) rules slots start looked

-- the first redex that begins at the start, or none, whatever stands where the search didn't look
abbrev pub SeeksFrom : List RowView → List Gate → ℕ → Looked → Option Redex → Type 0
SeeksFrom rules slots start looked (Some redex) = IsFoundAmong (StartsAt start) rules slots redex
SeeksFrom rules slots start looked None = HasFailed rules slots start looked

-- no places of all the pattern's gates begin in this way, in any slots that look alike from the first of these places on
pub record HasNoFullAlike (slots pattern : List Gate) (looked : Looked) (front : List ℕ) (count : ℕ) : Type 0 where
  pub none : (other : List Gate) → AreSlots other → LookAlike (slice_index front 0) looked slots other → HasNoFull other pattern (length other) front count

-- the least places of all the pattern's gates that begin in this way, or none, whatever stands where the search didn't look
abbrev pub SeeksFull : List Gate → List Gate → Looked → List ℕ → ℕ → Option (List ℕ) → Type 0
SeeksFull slots pattern looked front count (Some places) = IsFirstFull slots pattern (length slots) front count places
SeeksFull slots pattern looked front count None = HasNoFullAlike slots pattern looked front count

-- the first `count` places were looked at, and the wires of the gates there
pub record AreLookedAt (slots : List Gate) (looked : Looked) (places : List ℕ) (count : ℕ) : Type 0 where
  pub near : (s : ℕ) → s < count → slice_index places s < looked.reach
  pub marked : (s : ℕ) (one : Bool) → s < count → IsMarked looked.mask (wire_of one (gate_at slots (slice_index places s)))

-- in all slots that look alike from the start on the same gate stands at the place
pub record IsKnownAt (slots : List Gate) (start : ℕ) (looked : Looked) (place : ℕ) : Type 0 where
  pub same : (other : List Gate) → AreSlots other → LookAlike start looked slots other → gate_at slots place ≡ gate_at other place

-- the gate doesn't use the number that stands for no wire
abbrev pub IsTaken : Gate → Type 0
IsTaken gate = (one : Bool) → wire_of one gate ≢ no_wire

-- slots, and for each gate in them and each of its wires the next place on the wire
pub record AreLinkedSlots (slots : List Gate) (ahead : List Sides) : Type 0 where
  pub few : length slots < far
  pub are : AreSlots slots
  pub nexts : length ahead ≡ length slots
  pub next : AreNext slots ahead

-- for each gate in the slots and each of its wires the last place before it on the wire
pub record AreLinkedBack (slots : List Gate) (behind : List Sides) : Type 0 where
  pub previouses : length behind ≡ length slots
  pub previous : ArePrevious slots behind

-- Each wire of the pattern's first `count` gates has the wire that it is led to, which isn't that of free slots, and the
-- least place from `from` on whose gate uses that. Whatever of the three stands before the end does so on its wire.
pub record AreCursors (gates pattern : List Gate) (places : List ℕ) (count from : ℕ) (cursors : Cursors) : Type 0 where
  pub taken : (s : ℕ) → s < count → IsTaken (gate_at gates (slice_index places s))
  pub leads : (s : ℕ) (one : Bool) → s < count →
      slice_index cursors.wires (wire_of one (gate_at pattern s)) ≡ wire_of one (gate_at gates (slice_index places s))
  pub next : (s : ℕ) (one : Bool) → s < count →
      IsNextOn gates (wire_of one (gate_at gates (slice_index places s))) from (slice_index cursors.next (wire_of one (gate_at pattern s)))
  pub standing : (v : ℕ) → v < 3 → slice_index cursors.next v < length gates →
      (slice_index cursors.wires v ≢ no_wire) × IsNextOn gates (slice_index cursors.wires v) from (slice_index cursors.next v)

-- the wires of those that stand before the end are marked
pub record AreMarked (gates : List Gate) (looked : Looked) (cursors : Cursors) : Type 0 where
  pub marked : (v : ℕ) → v < 3 → slice_index cursors.next v < length gates → HasBit looked.mask (slice_index cursors.wires v)

-- none of the three stands before this place
abbrev pub AreAhead : ℕ → Cursors → Type 0
AreAhead place cursors = (v : ℕ) → v < 3 → place ≤ slice_index cursors.next v

-- one of them stands at this place
abbrev pub IsAtCursor : ℕ → Cursors → Type 0
IsAtCursor place cursors = (v : ℕ) × (v < 3) × (slice_index cursors.next v ≡ place)

-- those that stand at the place were moved on to the next one on their wires
pub record HaveMovedOn (gates : List Gate) (place : ℕ) (old new : Cursors) : Type 0 where
  pub wires : new.wires ≡ old.wires
  pub next : (v : ℕ) → v < 3 → slice_index old.next v ≡ place → slice_index old.wires v ≢ no_wire → Touches (gate_at gates place) (slice_index old.wires v) →
      IsNextOn gates (slice_index old.wires v) (place + 1) (slice_index new.next v)
  pub others : (v : ℕ) → v < 3 → slice_index old.next v ≢ place → slice_index new.next v ≡ slice_index old.next v

-- the wires of the pattern's gate are led to those of the gate at the place, and from there on
pub record AreLedTo (gates : List Gate) (of_gate : Gate) (place : ℕ) (old new : Cursors) : Type 0 where
  pub leads : (one : Bool) → (wire_of false of_gate ≡ wire_of true of_gate → wire_of false (gate_at gates place) ≡ wire_of true (gate_at gates place)) →
      slice_index new.wires (wire_of one of_gate) ≡ wire_of one (gate_at gates place)
  pub next : (one : Bool) → (wire_of false of_gate ≡ wire_of true of_gate → wire_of false (gate_at gates place) ≡ wire_of true (gate_at gates place)) →
      IsNextOn gates (wire_of one (gate_at gates place)) (place + 1) (slice_index new.next (wire_of one of_gate))
  pub wires : (v : ℕ) → v ≢ wire_of false of_gate → v ≢ wire_of true of_gate → slice_index new.wires v ≡ slice_index old.wires v
  pub others : (v : ℕ) → v ≢ wire_of false of_gate → v ≢ wire_of true of_gate → slice_index new.next v ≡ slice_index old.next v

-- the first redex that begins at the start, or none
abbrev pub TriesStart : List RowView → List Gate → ℕ → Option Redex → Type 0
TriesStart rules gates start found = FindsAmong (StartsAt start) rules gates found

-- A gate with one wire has one role. This is not so of a CX with one wire twice, which no circuit has.
abbrev pub IsClear : Gate → Type 0
IsClear gate = first_wire gate ≡ last_wire gate → first_role gate ≡ last_role gate

-- what is seen at a place on a wire
abbrev pub IsSeenAt : List Gate → ℕ → ℕ → Seen → Type 0
IsSeenAt gates wire place seen.Nothing = length gates ≤ place
IsSeenAt gates wire place seen.Unclear = Unit {0}
IsSeenAt gates wire place (seen.Plays own) = (own ≡ role_on wire (gate_at gates place)) × IsClear (gate_at gates place)

-- the number of what is seen at a place on a wire
abbrev pub IsSightAt : List Gate → ℕ → ℕ → ℕ → Type 0
IsSightAt gates wire place number = (number < SEEN) × IsSeenAt gates wire place (seen_at number)

-- for each of the first `count` gates the number of what is seen there on its first wire, at twice its place, and behind that of what is
-- seen on its last
pub record AreSightsNoted (gates : List Gate) (count : ℕ) (notes : List ℕ) : Type 0 where
  pub first : (p : ℕ) → p < count → IsSightAt gates (first_wire (gate_at gates p)) p (slice_index notes (2 * p))
  pub last : (p : ℕ) → p < count → IsSightAt gates (last_wire (gate_at gates p)) p (slice_index notes (2 * p + 1))
