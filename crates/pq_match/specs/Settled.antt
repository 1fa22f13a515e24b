-- Which starts have to be searched again after a rewriting.
use Rattle.std.specs.Prelude.{◌≡◌, ℕ, ◌+◌, ◌-◌, ◌*◌, ◌<◌, ◌≤◌, ◌⊎◌, Bool, false, List, [], length, slice_index, bit_and}
use Rattle.std.specs.Int.{bit_at}
use Rattle.pq_gate.specs.declared.gate.Gate.{Gate}
use Rattle.pq_gate.specs.Commuting.{Touches}
use Rattle.pq_gate.specs.Kind.{kind_of, number_of}
use Rattle.pq_gate.specs.Ports.{last_wire}
use Rattle.pq_rules.specs.Row.{RowView}
use Rattle.pq_rules.specs.Kinds.{numbers_where}
use Rattle.pq_rules.specs.Seen.{is_admitting}
use Rattle.pq_rules.specs.declared.seen.Seen.{Seen}
use Rattle.pq_links.specs.Wires.{wire_of}
use Rattle.pq_links.specs.Places.{gate_at}
use Rattle.pq_links.specs.Links.{IsNextOn}
use Rattle.pq_links.specs.Slots.{free_slot, AreSlots}
use Rattle.pq_match.specs.Redex.{RedexView, IsRedex, is_chosen, last_place}
use Rattle.pq_match.specs.Seek.{IsSeenAt, LookAlike, StartsAt, HasFailed}
use Rattle.pq_match.specs.declared.looked.Looked.{Looked}
use Rattle.pq_match.specs.Waiting.{HasNumber, StartsView, IsWaiting, IsNotedFailed, noted, IsSameOf}

-- where a number stands in a list
pub record StandsAt (numbers : List ℕ) (number : ℕ) : Type 0 where
  pub at : ℕ
  pub below : at < length numbers
  pub is : slice_index numbers at ≡ number

-- The rows of all redexes at the start are among those with these numbers, which rise, in any slots that look alike.
pub record AreCandidates (rules : List RowView) (slots : List Gate) (start : ℕ) (looked : Looked) (numbers : List ℕ) : Type 0 where
  pub rise : (i j : ℕ) → i < j → j < length numbers → slice_index numbers i < slice_index numbers j
  pub all : (other : List Gate) → AreSlots other → LookAlike start looked slots other → (redex : RedexView) → IsRedex rules other redex → StartsAt start redex → StandsAt numbers redex.row

-- the next place on the wire behind the start, the next one behind that, and what is seen there
pub record SeesAhead (slots : List Gate) (wire start one other : ℕ) (near far : Seen) : Type 0 where
  pub next : IsNextOn slots wire (start + 1) one
  pub behind : one < length slots → IsNextOn slots wire (one + 1) other
  pub past : length slots ≤ one → length slots ≤ other
  pub near_is : IsSeenAt slots wire one near
  pub far_is : IsSeenAt slots wire other far

-- No row begins with the gate in the slot and admits what is seen next and next but one on its last wire.
pub record IsQuiet (rules : List RowView) (slots : List Gate) (start : ℕ) : Type 0 where
  pub one : ℕ
  pub other : ℕ
  pub near : Seen
  pub far : Seen
  pub ahead : SeesAhead slots (last_wire (gate_at slots start)) start one other near far
  pub none : numbers_where (is_admitting (number_of (kind_of (gate_at slots start))) near far) 1 rules ≡ []

-- No search is needed there: the slot is free or quiet.
abbrev pub IsStill : List RowView → List Gate → ℕ → Type 0
IsStill rules slots start = (gate_at slots start ≡ free_slot) ⊎ IsQuiet rules slots start

-- a start where a search failed, of which it is noted what that looked at
pub record IsFailed (rules : List RowView) (slots : List Gate) (starts : StartsView) (start : ℕ) : Type 0 where
  pub noted_so : IsNotedFailed starts start
  pub failed : HasFailed rules slots start (noted starts start)

-- No redex begins there: the slot is free, or quiet, or a search failed.
abbrev pub IsSettled : List RowView → List Gate → StartsView → ℕ → Type 0
IsSettled rules slots starts start = (gate_at slots start ≡ free_slot) ⊎ (IsQuiet rules slots start ⊎ IsFailed rules slots starts start)

-- each start that doesn't wait is settled
pub record AreSettled (rules : List RowView) (slots : List Gate) (starts : StartsView) : Type 0 where
  pub settled : (start : ℕ) → start < length slots → (IsWaiting starts start → ⊥) → IsSettled rules slots starts start

-- each gate is quiet, or twice its place is among the numbers
pub record AreSifted (rules : List RowView) (gates : List Gate) (numbers : List ℕ) : Type 0 where
  pub each : (place : ℕ) → place < length gates → HasNumber numbers (2 * place) ⊎ IsQuiet rules gates place

-- so it is from a place on and before another one, where the word begins with twice the first place
pub record AreSiftedIn (rules : List RowView) (gates : List Gate) (first end word : ℕ) : Type 0 where
  pub each : (place : ℕ) → first ≤ place → place < end → place < length gates → (bit_at word (2 * (place - first)) ≡ 1) ⊎ IsQuiet rules gates place

-- Two gates on the wire stand behind the start and before each chosen gate on the wire.
pub record TwoStandBefore (slots : List Gate) (places : List ℕ) (wire start : ℕ) : Type 0 where
  pub near : ℕ
  pub far : ℕ
  pub behind : start < near
  pub further : near < far
  pub near_on : Touches (gate_at slots near) wire
  pub far_on : Touches (gate_at slots far) wire
  pub before : (k : ℕ) (one : Bool) → k < length places → wire_of one (gate_at slots (slice_index places k)) ≡ wire → far < slice_index places k

-- each start up to the last place whose gate has this last wire waits, unless two gates on it stand before each chosen one
pub record AwaitOn (slots : List Gate) (places : List ℕ) (starts : StartsView) (wire : ℕ) : Type 0 where
  pub each : (start : ℕ) → start ≤ last_place places → start < length slots → last_wire (gate_at slots start) ≡ wire → (IsWaiting starts start → ⊥) →
      TwoStandBefore slots places wire start

-- so it is on each wire of the first chosen gates
pub record AwaitAround (slots : List Gate) (places : List ℕ) (starts : StartsView) (count : ℕ) : Type 0 where
  pub on : (k : ℕ) (one : Bool) → k < count → AwaitOn slots places starts (wire_of one (gate_at slots (slice_index places k)))

-- one of the first chosen gates uses the wire
pub record IsUsedAt (slots : List Gate) (places : List ℕ) (count wire : ℕ) : Type 0 where
  pub at : ℕ
  pub one : Bool
  pub below : at < count
  pub is : wire_of one (gate_at slots (slice_index places at)) ≡ wire

-- the starts on one wire of the gate at a place wait, or an earlier one uses that wire too
abbrev pub IsAwaitedAt : List Gate → List ℕ → StartsView → ℕ → Bool → Type 0
IsAwaitedAt slots places starts index one =
    IsUsedAt slots places index (wire_of one (gate_at slots (slice_index places index))) ⊎ AwaitOn slots places starts (wire_of one (gate_at slots (slice_index places index)))

-- two gates on the wire stand behind the start and before a place
pub record TwoBetween (slots : List Gate) (wire start place : ℕ) : Type 0 where
  pub near : ℕ
  pub far : ℕ
  pub behind : start < near
  pub further : near < far
  pub near_on : Touches (gate_at slots near) wire
  pub far_on : Touches (gate_at slots far) wire
  pub before : far < place

-- each start before the place whose gate has this last wire waits, unless two gates on it stand between
pub record AwaitBefore (slots : List Gate) (starts : StartsView) (wire place : ℕ) : Type 0 where
  pub each : (start : ℕ) → start < place → last_wire (gate_at slots start) ≡ wire → (IsWaiting starts start → ⊥) → TwoBetween slots wire start place

-- each start from a place on and before another one whose gate has this last wire waits
pub record AwaitBetween (slots : List Gate) (starts : StartsView) (wire from upto : ℕ) : Type 0 where
  pub each : (start : ℕ) → from ≤ start → start < upto → start < length slots → last_wire (gate_at slots start) ≡ wire → IsWaiting starts start

-- what is known of all starts that aren't chosen stays
pub record AreSameBut (places : List ℕ) (old new : StartsView) : Type 0 where
  pub same : (start : ℕ) → is_chosen places start ≡ false → IsSameOf start old new

-- Starts before a rewriting that frees the slots at the places, whose gates' wires the mask has, and fills so many from
-- `from` on: those wait that it may concern, and what is known of the others is kept.
pub record AwaitRewriting (slots : List Gate) (places : List ℕ) (from count mask : ℕ) (old new : StartsView) : Type 0 where
  pub kept : (start : ℕ) → is_chosen places start ≡ false → (IsWaiting new start → ⊥) → IsWaiting old start → ⊥
  pub failed : (start : ℕ) → is_chosen places start ≡ false → IsNotedFailed old start → IsNotedFailed new start
  pub noted : (start : ℕ) → is_chosen places start ≡ false → noted new start ≡ noted old start
  pub apart : (start : ℕ) → is_chosen places start ≡ false → start ≤ last_place places → start < length slots → IsNotedFailed new start → (IsWaiting new start → ⊥) →
      (slice_index new.reach start ≤ slice_index places 0) ⊎ (bit_and (slice_index new.masks start) mask ≡ 0)
  pub around : (start k : ℕ) (one : Bool) → is_chosen places start ≡ false → start ≤ last_place places → start < length slots → k < length places →
      last_wire (gate_at slots start) ≡ wire_of one (gate_at slots (slice_index places k)) → (IsWaiting new start → ⊥) → TwoStandBefore slots places (last_wire (gate_at slots start)) start
  pub filled : (start : ℕ) → from ≤ start → start < from + count → IsWaiting new start
