-- The wires of a gate.
use Rattle.std.specs.Prelude.{ℕ, Bool, cond}
use Rattle.pq_gate.specs.declared.gate.Gate.{Gate}
use Rattle.pq_gate.specs.Ports.{first_wire, last_wire}

-- the last wire of the gate, or else the first, which are one where it has only one
abbrev pub wire_of : Bool → Gate → ℕ
wire_of last gate = cond last (last_wire gate) (first_wire gate)
