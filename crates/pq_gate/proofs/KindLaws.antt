-- Kinds and roles are told by their numbers, and a gate is its kind on its wires.
use Rattle.std.proofs.Common.{◌≡◌, ℕ, ◌<◌, List, [], ◌∷◌, get_or, refl, sym, ap, ◌∙◌, arith}
use Rattle.pq_gate.specs.declared.gate.Eighths.TheVariants.{T, S, Z, Sdg, Tdg}
use Rattle.pq_gate.specs.declared.gate.Gate.{Gate}
use Rattle.pq_gate.specs.declared.kind.Kind.{Kind}
use Rattle.pq_gate.specs.declared.kind.Kind.TheVariants as kind
use Rattle.pq_gate.specs.declared.kind.TheConstants.{KINDS}
use Rattle.pq_gate.specs.declared.role.Role.{Role}
use Rattle.pq_gate.specs.declared.role.Role.TheVariants as role
use Rattle.pq_gate.specs.declared.role.TheConstants.{ROLES}
use Rattle.pq_gate.specs.Kind.{kind_of, gate_on, number_of}
use Rattle.pq_gate.specs.Ports.{first_wire, last_wire}
use Rattle.pq_gate.specs.Role.{role_number}
use Rattle.pq_gate.proofs.GateFacts.{gate_facts}

pub kind_on_wires : (g : Gate) → gate_on (kind_of g) (first_wire g) (last_wire g) ≡ g
kind_on_wires g = (gate_facts g).kind

-- the kinds and the roles in the order of their numbers
abbrev kinds : List Kind
kinds = kind.H ∷ kind.X ∷ kind.Cx ∷ kind.Phase T ∷ kind.Phase S ∷ kind.Phase Z ∷ kind.Phase Sdg ∷ kind.Phase Tdg ∷ []

abbrev roles : List Role
roles =
    role.H ∷ role.X ∷ role.Control ∷ role.Target ∷
    role.Phase T ∷ role.Phase S ∷ role.Phase Z ∷ role.Phase Sdg ∷ role.Phase Tdg ∷ []

-- a kind is told by its number and by its gates
record KindFacts (k : Kind) : Type 0 where
  numbered : get_or kinds (number_of k) kind.H ≡ k
  below : number_of k < KINDS
  on : (first last : ℕ) → kind_of (gate_on k first last) ≡ k

kind_facts : (k : Kind) → KindFacts k
kind_facts kind.H = record { numbered = refl; below = omega arith; on = λ first last. refl }
kind_facts kind.X = record { numbered = refl; below = omega arith; on = λ first last. refl }
kind_facts kind.Cx = record { numbered = refl; below = omega arith; on = λ first last. refl }
kind_facts (kind.Phase T) = record { numbered = refl; below = omega arith; on = λ first last. refl }
kind_facts (kind.Phase S) = record { numbered = refl; below = omega arith; on = λ first last. refl }
kind_facts (kind.Phase Z) = record { numbered = refl; below = omega arith; on = λ first last. refl }
kind_facts (kind.Phase Sdg) = record { numbered = refl; below = omega arith; on = λ first last. refl }
kind_facts (kind.Phase Tdg) = record { numbered = refl; below = omega arith; on = λ first last. refl }

-- a role is told by its number
record RoleFacts (r : Role) : Type 0 where
  numbered : get_or roles (role_number r) role.H ≡ r
  below : role_number r < ROLES

role_facts : (r : Role) → RoleFacts r
role_facts role.H = record { numbered = refl; below = omega arith }
role_facts role.X = record { numbered = refl; below = omega arith }
role_facts role.Control = record { numbered = refl; below = omega arith }
role_facts role.Target = record { numbered = refl; below = omega arith }
role_facts (role.Phase T) = record { numbered = refl; below = omega arith }
role_facts (role.Phase S) = record { numbered = refl; below = omega arith }
role_facts (role.Phase Z) = record { numbered = refl; below = omega arith }
role_facts (role.Phase Sdg) = record { numbered = refl; below = omega arith }
role_facts (role.Phase Tdg) = record { numbered = refl; below = omega arith }

pub kind_of-gate_on : (k : Kind) (first last : ℕ) → kind_of (gate_on k first last) ≡ k
kind_of-gate_on k = (kind_facts k).on

pub same_kind : (k l : Kind) → number_of k ≡ number_of l → k ≡ l
same_kind k l same = sym (kind_facts k).numbered ∙ ap (λ (n : ℕ). get_or kinds n kind.H) same ∙ (kind_facts l).numbered

pub same_role : (r s : Role) → role_number r ≡ role_number s → r ≡ s
same_role r s same = sym (role_facts r).numbered ∙ ap (λ (n : ℕ). get_or roles n role.H) same ∙ (role_facts s).numbered

pub number_below : (k : Kind) → number_of k < KINDS
number_below k = (kind_facts k).below

pub role_below : (r : Role) → role_number r < ROLES
role_below r = (role_facts r).below
