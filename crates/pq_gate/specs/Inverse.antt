use Rattle.pq_gate.specs.declared.gate.Eighths.{Eighths}
use Rattle.pq_gate.specs.declared.gate.Eighths.TheVariants.{T, S, Z, Sdg, Tdg}
use Rattle.pq_gate.specs.declared.gate.Gate.{Gate}
use Rattle.pq_gate.specs.declared.gate.Gate.TheVariants.{Phase}

-- the eighths that complete a whole turn
abbrev pub rest_of : Eighths → Eighths
rest_of T = Tdg
rest_of S = Sdg
rest_of Z = Z
rest_of Sdg = S
rest_of Tdg = T

-- the gate that undoes the gate: all but phases undo themselves
abbrev pub inverse_of : Gate → Gate
inverse_of (Phase eighths wire) = Phase (rest_of eighths) wire
inverse_of gate = gate
