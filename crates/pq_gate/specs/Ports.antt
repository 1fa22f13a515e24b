use Rattle.std.specs.Prelude.{◌≡◌, ℕ, ◌⊎◌, List, [], ◌∷◌, map}
use Rattle.pq_gate.specs.declared.gate.Gate.{Gate}
use Rattle.pq_gate.specs.declared.gate.Gate.TheVariants.{H, X, Phase, Cx}
use Rattle.pq_gate.specs.declared.ports.Port.{Port}
use Rattle.pq_gate.specs.declared.ports.Ports.{Ports}
use Rattle.pq_gate.specs.declared.ports.Ports.TheVariants as ports
use Rattle.pq_gate.specs.declared.ports.Wires.{Wires}
use Rattle.pq_gate.specs.declared.ports.Wires.TheVariants as wires
use Rattle.pq_gate.specs.declared.role.Role.{Role}
use Rattle.pq_gate.specs.declared.role.Role.TheVariants as role

-- a wire of a gate, and the role that it plays there
abbrev pub port : ℕ → Role → Port
port wire role = record { wire = wire; role = role }

-- the ports of a gate, one for each of its wires: of a CX first the control's
abbrev pub ports_of : Gate → List Port
ports_of (H wire) = port wire role.H ∷ []
ports_of (X wire) = port wire role.X ∷ []
ports_of (Phase eighths wire) = port wire (role.Phase eighths) ∷ []
ports_of (Cx control target) = port control role.Control ∷ port target role.Target ∷ []

-- the wires of a gate: of a CX first the control
abbrev pub wires_of : Gate → List ℕ
wires_of gate = map (λ p. p.wire) (ports_of gate)

-- the first and the last of some wires, 0 where there is none
abbrev pub first_of : List ℕ → ℕ
first_of [] = 0
first_of (wire ∷ rest) = wire

abbrev pub last_of : List ℕ → ℕ
last_of [] = 0
last_of (wire ∷ []) = wire
last_of (first ∷ second ∷ rest) = last_of (second ∷ rest)

-- the first and the last wire of a gate, which are one where it has only one
abbrev pub first_wire : Gate → ℕ
first_wire gate = first_of (wires_of gate)

abbrev pub last_wire : Gate → ℕ
last_wire gate = last_of (wires_of gate)

-- the one or two ports, and the one or two wires, as lists
abbrev pub listed_ports : Ports → List Port
listed_ports (ports.One only) = only ∷ []
listed_ports (ports.Two first last) = first ∷ last ∷ []

abbrev pub listed_wires : Wires → List ℕ
listed_wires (wires.One only) = only ∷ []
listed_wires (wires.Two first last) = first ∷ last ∷ []

-- one of the list is this
abbrev pub IsAmong : {A : Type 0} → A → List A → Type 0
IsAmong x [] = ⊥
IsAmong x (y ∷ []) = x ≡ y
IsAmong x (y ∷ z ∷ rest) = (x ≡ y) ⊎ IsAmong x (z ∷ rest)

-- the gate plays the role on the wire
abbrev pub Plays : Gate → ℕ → Role → Type 0
Plays gate wire role = IsAmong (port wire role) (ports_of gate)
