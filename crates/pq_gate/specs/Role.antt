use Rattle.std.specs.Prelude.{◌≡◌, ℕ, ◌+◌, Bool, true, false, Option, None, Some}
use Rattle.pq_gate.specs.declared.role.Axis.{Axis}
use Rattle.pq_gate.specs.declared.role.Axis.TheVariants as axes
use Rattle.pq_gate.specs.declared.role.Role.{Role}
use Rattle.pq_gate.specs.declared.role.Role.TheVariants.{H, X, Control, Target, Phase}
use Rattle.pq_gate.specs.Kind.{rank_of}

-- The axis along which a role acts on its wire: a phase and a control along Z, X and a target along X,
-- and H along none.
abbrev pub axis_of : Role → Option Axis
axis_of H = None
axis_of X = Some axes.X
axis_of Control = Some axes.Z
axis_of Target = Some axes.X
axis_of (Phase eighths) = Some axes.Z

-- the number of a role
abbrev pub role_number : Role → ℕ
role_number H = 0
role_number X = 1
role_number Control = 2
role_number Target = 3
role_number (Phase eighths) = 4 + rank_of eighths

-- both roles act along one axis
pub record HaveOneAxis (one other : Role) : Type 0 where
  pub axis : Axis
  pub first : axis_of one ≡ Some axis
  pub second : axis_of other ≡ Some axis

-- whether it is this axis
abbrev pub is_axis : Axis → Option Axis → Bool
is_axis axes.Z (Some axes.Z) = true
is_axis axes.X (Some axes.X) = true
is_axis axes.Z (Some axes.X) = false
is_axis axes.X (Some axes.Z) = false
is_axis _ None = false

-- whether the role acts along this axis
abbrev pub acts_along : Axis → Role → Bool
acts_along axis role = is_axis axis (axis_of role)
