use Rattle.std.specs.Prelude.{◌≡◌, ℕ, ◌⊎◌, List, map, filter}
use Rattle.pq_gate.specs.declared.gate.Gate.{Gate}
use Rattle.pq_gate.specs.declared.gate.Gate.TheVariants.{H, X, Phase, Cx}
use Rattle.pq_gate.specs.declared.ports.Port.{Port}
use Rattle.pq_gate.specs.declared.role.Axis.{Axis}
use Rattle.pq_gate.specs.declared.role.Axis.TheVariants as axes
use Rattle.pq_gate.specs.Ports.{ports_of, IsAmong}
use Rattle.pq_gate.specs.Role.{acts_along}

-- the gate uses the wire
abbrev pub Touches : Gate → ℕ → Type 0
Touches (H wire) w = w ≡ wire
Touches (X wire) w = w ≡ wire
Touches (Phase eighths wire) w = w ≡ wire
Touches (Cx control target) w = (w ≡ control) ⊎ (w ≡ target)

-- the wires of the ports whose role acts along this axis
abbrev pub wires_along : Axis → List Port → List ℕ
wires_along axis ports = map (λ p. p.wire) (filter (λ p. acts_along axis p.role) ports)

-- the gate acts on the wire along this axis
abbrev pub Along : Axis → Gate → ℕ → Type 0
Along axis gate w = IsAmong w (wires_along axis (ports_of gate))

-- the gate acts on the wire along Z: a phase, and the control of a CX
abbrev pub AlongZ : Gate → ℕ → Type 0
AlongZ gate w = Along axes.Z gate w

-- the gate acts on the wire along X: X, and the target of a CX
abbrev pub AlongX : Gate → ℕ → Type 0
AlongX gate w = Along axes.X gate w

-- if both gates use the wire, they act along one axis there
abbrev pub Agree : Gate → Gate → ℕ → Type 0
Agree g h w = Touches g w → Touches h w → (AlongZ g w × AlongZ h w) ⊎ (AlongX g w × AlongX h w)

-- on each wire that they share, both gates act along Z or both along X
abbrev pub Commutes : Gate → Gate → Type 0
Commutes g h = (w : ℕ) → Agree g h w
