-- What stands behind a start on one of its wires, up to the first gate there that it can't pass.
use Rattle.std.specs.Prelude.{◌≡◌, ◌≢◌, ℕ, ◌+◌, ◌<◌, ◌⊎◌, true, false, List, length}
use Rattle.pq_gate.specs.declared.gate.Gate.{Gate}
use Rattle.pq_gate.specs.Commuting.{Touches}
use Rattle.pq_rules.specs.declared.seen.Seen.{Seen}
use Rattle.pq_rules.specs.declared.seen.Seen.TheVariants as seen
use Rattle.pq_rules.specs.Lanes.{LaneView, has_passed, any_lane, ended, passes_over}
use Rattle.pq_rules.specs.Seen.{role_on, agree}
use Rattle.pq_links.specs.Links.{IsNextOn}
use Rattle.pq_links.specs.Slots.{AreSlots}
use Rattle.pq_match.specs.declared.looked.Looked.{Looked}
use Rattle.pq_match.specs.Redex.{gate_at}
use Rattle.pq_match.specs.Seek.{HasBit, LookAlike, IsSeenAt}

-- The gates on the wire behind the start and before the place have roles there along one axis with that of the gate at the
-- start, which are noted in the lane.
pub record ArePassed (slots : List Gate) (wire start place : ℕ) (lane : LaneView) : Type 0 where
  pub along : (p : ℕ) → start < p → p < place → p < length slots → Touches (gate_at slots p) wire → agree (role_on wire (gate_at slots start)) (role_on wire (gate_at slots p)) ≡ true
  pub noted : (p : ℕ) → start < p → p < place → p < length slots → Touches (gate_at slots p) wire → has_passed lane (role_on wire (gate_at slots p)) ≡ true

-- the next place on the wire from `from` on, and what is seen there
pub record IsSeenNext (slots : List Gate) (wire from place : ℕ) (what : Seen) : Type 0 where
  pub next : IsNextOn slots wire from place
  pub is : IsSeenAt slots wire place what

-- The gates up to the first that the start can't pass are noted in the lane, and so are that one and the one behind it.
pub record IsLaneOn (slots : List Gate) (wire start : ℕ) (lane : LaneView) : Type 0 where
  pub from : ℕ
  pub near : ℕ
  pub far : ℕ
  pub behind : start < from
  pub passed : ArePassed slots wire start near lane
  pub first : IsSeenNext slots wire from near lane.near
  pub told : lane.near ≢ seen.Unclear
  pub stuck : passes_over (seen.Plays (role_on wire (gate_at slots start))) lane.near ≡ false
  pub second : near < length slots → IsSeenNext slots wire (near + 1) far lane.far

-- so it is in all slots that look alike, or nothing is told
pub record IsLaneAlike (slots : List Gate) (wire start : ℕ) (looked : Looked) (lane : LaneView) : Type 0 where
  pub all : (other : List Gate) → AreSlots other → LookAlike start looked slots other → (lane ≡ any_lane) ⊎ IsLaneOn other wire start lane

-- The lane ends at the place, where this is seen, and with what is seen behind it. Both were looked at, as far as there are gates.
pub record IsEndedAt (slots : List Gate) (wire place : ℕ) (near : Seen) (looked : Looked) (old new : LaneView) : Type 0 where
  pub far : ℕ
  pub behind : Seen
  pub lane : new ≡ ended old near behind
  pub marked : HasBit looked.mask wire
  pub near_in : (place < looked.reach) ⊎ (length slots < looked.reach)
  pub far_in : (far < looked.reach) ⊎ (length slots < looked.reach)
  pub second : place < length slots → IsSeenNext slots wire (place + 1) far behind
