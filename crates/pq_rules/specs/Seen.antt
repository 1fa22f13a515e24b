-- Which rows may have a redex at a gate, by the next two gates on its last wire.
use Rattle.std.specs.Prelude.{◌≡◌, ℕ, ◌+◌, ◌*◌, ◌<◌, ◌==◌, Bool, true, false, cond, ◌&&◌, ◌||◌, List, [], ◌∷◌, length, drop, slice_get, Option, None, Some}
use Rattle.pq_gate.specs.declared.gate.Gate.{Gate}
use Rattle.pq_gate.specs.declared.ports.Port.{Port}
use Rattle.pq_gate.specs.declared.role.Axis.TheVariants as axis
use Rattle.pq_gate.specs.declared.role.Role.{Role}
use Rattle.pq_gate.specs.declared.role.Role.TheVariants as role
use Rattle.pq_gate.specs.Ports.{ports_of, first_wire, last_wire}
use Rattle.pq_gate.specs.Role.{role_number, acts_along}
use Rattle.pq_gate.specs.declared.role.TheConstants.{ROLES}
use Rattle.pq_rules.specs.declared.seen.TheConstants.{SEEN}
use Rattle.pq_rules.specs.declared.seen.Seen.{Seen}
use Rattle.pq_rules.specs.declared.seen.Seen.TheVariants as seen
use Rattle.pq_rules.specs.Kinds.{begins}
use Rattle.pq_rules.specs.Row.{RowView}

-- the roles of the first and of the last of some ports, H where there is none
abbrev pub first_role_of : List Port → Role
first_role_of [] = role.H
first_role_of (only ∷ rest) = only.role

abbrev pub last_role_of : List Port → Role
last_role_of [] = role.H
last_role_of (only ∷ []) = only.role
last_role_of (first ∷ second ∷ rest) = last_role_of (second ∷ rest)

-- the roles of a gate on its first and on its last wire
abbrev pub first_role : Gate → Role
first_role gate = first_role_of (ports_of gate)

abbrev pub last_role : Gate → Role
last_role gate = last_role_of (ports_of gate)

-- whether the gate uses the wire, and the role that it plays there
abbrev pub uses : ℕ → Gate → Bool
uses wire gate = (first_wire gate == wire) || (last_wire gate == wire)

abbrev pub role_on : ℕ → Gate → Role
role_on wire gate = cond (first_wire gate == wire) (first_role gate) (last_role gate)

-- the roles on a wire, in the order of the gates
abbrev pub roles_on : ℕ → List Gate → List Role
roles_on wire [] = []
roles_on wire (gate ∷ rest) = cond (uses wire gate) (role_on wire gate ∷ roles_on wire rest) (roles_on wire rest)

-- whether both roles act along one axis
abbrev pub agree : Role → Role → Bool
agree one other = (acts_along axis.Z one && acts_along axis.Z other) || (acts_along axis.X one && acts_along axis.X other)

-- whether what was seen may be a gate with this role, and whether it may be passed over by a gate with this role
abbrev pub may_be : Seen → Role → Bool
may_be seen.Nothing wanted = false
may_be seen.Unclear wanted = true
may_be (seen.Plays own) wanted = role_number own == role_number wanted

abbrev pub may_pass : Seen → Role → Bool
may_pass seen.Nothing chosen = false
may_pass seen.Unclear chosen = true
may_pass (seen.Plays own) chosen = agree chosen own

-- the next gate on the wire is chosen: whether what is seen behind it may be the one after it, or be passed over
abbrev pub goes_on : Role → Role → List Role → Seen → Bool
goes_on first next [] far = true
goes_on first next (later ∷ rest) far = may_be far later || (may_pass far first && may_pass far next)

-- Behind a gate with the first role the pattern has gates with these roles on the wire, and two gates are seen there:
-- whether each of these may be the next of the pattern's, or be passed over by those that are chosen.
abbrev pub admits_roles : Role → List Role → Seen → Seen → Bool
admits_roles first [] near far = true
admits_roles first (next ∷ rest) near far =
    (may_be near next && goes_on first next rest far) || (may_pass near first && (may_be far next || may_pass far first))

-- the same of the pattern's gates on the last wire of its first
abbrev pub admits : List Gate → Seen → Seen → Bool
admits [] near far = false
admits (gate ∷ rest) near far = admits_roles (last_role gate) (roles_on (last_wire gate) rest) near far

-- whether the row begins with a gate of the kind of this number, and admits what is seen
abbrev pub is_admitting : ℕ → Seen → Seen → RowView → Bool
is_admitting kind near far row = begins kind row.pattern && admits row.pattern near far

-- the number of what is seen, below SEEN
abbrev pub seen_number : Seen → ℕ
seen_number seen.Nothing = ROLES
seen_number seen.Unclear = ROLES + 1
seen_number (seen.Plays own) = role_number own

-- which entry of the table has the numbers of the rows that begin with this kind and admit what is seen
abbrev pub entry_of : ℕ → Seen → Seen → ℕ
entry_of kind near far = (kind * SEEN + seen_number near) * SEEN + seen_number far

-- the first gate on the wire: how many gates stand before it, and the role that it plays there
abbrev pub LeadsRoles : ℕ → List Gate → Option (ℕ × Role) → Type 0
LeadsRoles wire gates None = roles_on wire gates ≡ []
LeadsRoles wire gates (Some found) = (found.0 < length gates) × (roles_on wire gates ≡ found.1 ∷ roles_on wire (drop (found.0 + 1) gates))

-- the first two roles on the wire
pub record AreFirstTwo (wire : ℕ) (gates : List Gate) (next later : Option Role) : Type 0 where
  pub first : next ≡ slice_get (roles_on wire gates) 0
  pub second : later ≡ slice_get (roles_on wire gates) 1

-- the same by the first two roles
abbrev pub goes_on_to : Role → Role → Option Role → Seen → Bool
goes_on_to first next None far = true
goes_on_to first next (Some later) far = goes_on first next (later ∷ []) far

abbrev pub admits_two : Role → Option Role → Option Role → Seen → Seen → Bool
admits_two first None later near far = true
admits_two first (Some next) later near far =
    (may_be near next && goes_on_to first next later far) || (may_pass near first && (may_be far next || may_pass far first))
