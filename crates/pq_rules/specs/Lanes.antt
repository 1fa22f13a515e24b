-- Which rows may have a redex at a gate, by what stands behind it on its wires, up to the first gate there that it can't pass.
use Rattle.std.specs.Prelude.{Bool, true, false, cond, ◌&&◌, ◌||◌, List, [], ◌∷◌, Option, None, Some, replicate, slice_get, slice_index_or}
use Rattle.pq_gate.specs.declared.gate.Gate.{Gate}
use Rattle.pq_gate.specs.declared.role.Axis.{Axis}
use Rattle.pq_gate.specs.declared.role.Axis.TheVariants as axis
use Rattle.pq_gate.specs.declared.role.Role.{Role}
use Rattle.pq_gate.specs.Ports.{first_wire, last_wire}
use Rattle.pq_gate.specs.Role.{role_number, acts_along}
use Rattle.pq_rules.specs.declared.demand.Demand.{Demand}
use Rattle.pq_rules.specs.declared.demand.Demands.{Demands}
use Rattle.pq_rules.specs.declared.seen.TheConstants.{SEEN}
use Rattle.pq_rules.specs.declared.seen.Seen.{Seen}
use Rattle.pq_rules.specs.declared.seen.Seen.TheVariants as seen
use Rattle.pq_rules.specs.Row.{RowView}
use Rattle.pq_rules.specs.Seen.{role_on, roles_on, agree, may_be}

-- What stands behind a gate on a wire: by their numbers, the roles of the gates that it may pass there; the first one that it
-- can't pass; and the one behind that.
pub record LaneView : Type 0 where
  pub passed : List Bool
  pub near : Seen
  pub far : Seen

-- whether a gate with the role may be passed
abbrev pub has_passed : LaneView → Role → Bool
has_passed lane role = slice_index_or lane.passed (role_number role) false

-- nothing stands there
abbrev pub no_lane : LaneView
no_lane = record { passed = replicate SEEN false; near = seen.Nothing; far = seen.Nothing }

-- anything may stand there
abbrev pub any_lane : LaneView
any_lane = record { passed = replicate SEEN true; near = seen.Unclear; far = seen.Unclear }

-- the lane ends with these two; where the first is unclear, nothing is told
abbrev pub ended : LaneView → Seen → Seen → LaneView
ended lane seen.Unclear far = any_lane
ended lane seen.Nothing far = record { passed = lane.passed; near = seen.Nothing; far = far }
ended lane (seen.Plays own) far = record { passed = lane.passed; near = seen.Plays own; far = far }

-- whether what is seen acts along the axis, and whether a gate passes another one on the wire
abbrev pub seen_along : Axis → Seen → Bool
seen_along along seen.Nothing = false
seen_along along seen.Unclear = false
seen_along along (seen.Plays own) = acts_along along own

abbrev pub passes_over : Seen → Seen → Bool
passes_over one other = (seen_along axis.Z one && seen_along axis.Z other) || (seen_along axis.X one && seen_along axis.X other)

-- whether what is seen may be the first of these roles, where there is one
abbrev pub may_lead : Seen → List Role → Bool
may_lead what [] = true
may_lead what (role ∷ rest) = may_be what role

-- Behind a gate with the first role the pattern has gates with these roles on the wire: whether the next of them is one that the
-- first may pass, or where it can't pass that, whether the next of them is what it can't pass, and the one after it stands behind.
abbrev pub admits_lane : Role → List Role → LaneView → Bool
admits_lane first [] lane = true
admits_lane first (next ∷ rest) lane = cond (agree first next) (has_passed lane next) (may_be lane.near next && may_lead lane.far rest)

-- so it is on the last and on the first wire of the pattern's first gate
abbrev pub admits_lanes : List Gate → LaneView → LaneView → Bool
admits_lanes [] last first = true
admits_lanes (gate ∷ rest) last first =
    admits_lane (role_on (last_wire gate) gate) (roles_on (last_wire gate) rest) last && admits_lane (role_on (first_wire gate) gate) (roles_on (first_wire gate) rest) first

-- the same of a row
abbrev pub admits_begin : Option RowView → LaneView → LaneView → Bool
admits_begin None last first = false
admits_begin (Some row) last first = admits_lanes row.pattern last first

-- what a pattern asks of a lane
abbrev pub agrees_next : Role → Option Role → Bool
agrees_next first None = false
agrees_next first (Some next) = agree first next

abbrev pub demand : Role → List Role → Demand
demand first roles = record { passes = agrees_next first (slice_get roles 0); next = slice_get roles 0; later = slice_get roles 1 }

abbrev pub demands_of : List Gate → Demands
demands_of [] = record {
  last = record { passes = false; next = None; later = None };
  first = record { passes = false; next = None; later = None };
}
demands_of (gate ∷ rest) = record {
  last = demand (role_on (last_wire gate) gate) (roles_on (last_wire gate) rest);
  first = demand (role_on (first_wire gate) gate) (roles_on (first_wire gate) rest);
}

abbrev pub demands : RowView → Demands
demands row = demands_of row.pattern

-- whether the lane has what is asked
abbrev pub may_be_later : Seen → Option Role → Bool
may_be_later what None = true
may_be_later what (Some later) = may_be what later

abbrev pub meets_next : Bool → Option Role → Option Role → LaneView → Bool
meets_next passes None later lane = true
meets_next passes (Some next) later lane = cond passes (has_passed lane next) (may_be lane.near next && may_be_later lane.far later)

abbrev pub meets : Demand → LaneView → Bool
meets asked lane = meets_next asked.passes asked.next asked.later lane
