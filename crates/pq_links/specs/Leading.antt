-- What private functions say of lists of sides.
use Rattle.std.specs.Prelude.{◌≡◌, ℕ, ◌*◌, ◌<◌, ◌≤◌, ◌⊎◌, ◌==◌, Bool, cond, nat_lt, List, length}
use Rattle.pq_gate.specs.declared.gate.Gate.{Gate}
use Rattle.pq_links.specs.declared.links.Sides.{Sides}
use Rattle.pq_links.specs.declared.links.Head.{Head}
use Rattle.pq_links.specs.declared.links.Spot.{Spot}
use Rattle.pq_links.specs.Wires.{wire_of}
use Rattle.pq_links.specs.Places.{gate_at}
use Rattle.pq_links.specs.Links.{bucket_of, head_at, side, side_at, is_on, far}

-- A wire with its bucket, and the head of that bucket.
pub record IsSpot (heads : List Head) (spot : Spot) : Type 0 where
  pub bucket : spot.bucket ≡ bucket_of (length heads) spot.wire
  pub head : spot.head ≡ head_at heads spot.bucket

-- the head at this place on one of the gate's wires
pub record IsHeadOf (gate : Gate) (place wire : ℕ) (head : Head) : Type 0 where
  pub at : head.place ≡ place
  pub on : head.wire ≡ wire
  pub sides : (one : Bool) → is_on one head ≡ (wire_of one gate == wire)

-- The side at the place is for one of the gate's wires, and the place is the one that is given for this wire.
pub record IsLedAt (slots : List Gate) (gate : Gate) (at : Sides) (one : Bool) (place : ℕ) (wire : Bool) : Type 0 where
  pub here : place ≡ side wire at
  pub on : wire_of one (gate_at slots place) ≡ wire_of wire gate

-- Sides are led on for both wires of a gate: each side at the place for such a wire is set, and no other.
pub record AreLed (slots : List Gate) (gate : Gate) (at to : Sides) (old new : List Sides) : Type 0 where
  pub long : length new ≡ length old
  pub each : (p : ℕ) (one : Bool) → p < length slots →
      ((wire : Bool) × IsLedAt slots gate at one p wire × (side_at one new p ≡ side wire to))
      ⊎ (((wire : Bool) → ¬ IsLedAt slots gate at one p wire) × (side_at one new p ≡ side_at one old p))

-- a place in a list of so many gates, where each gate is in the slot of twice its place
abbrev pub doubled : ℕ → ℕ → ℕ
doubled count place = cond (nat_lt place count) (2 * place) far

-- each side is a place of the list, or none
abbrev pub AreInside : List Sides → Type 0
AreInside sides = (p : ℕ) (one : Bool) → p < length sides → length sides ≤ side_at one sides p → side_at one sides p ≡ far

-- Sides of slots, where each of `total` gates has a free slot behind it: the sides of the first `count` gates lead to the slots
-- of the places to which they led before.
pub record AreSpread (total count : ℕ) (sides spread : List Sides) : Type 0 where
  pub long : length spread ≡ 2 * total
  pub each : (p : ℕ) (one : Bool) → p < count → side_at one spread (2 * p) ≡ doubled total (side_at one sides p)
