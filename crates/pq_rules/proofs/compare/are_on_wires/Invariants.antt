use Rattle.std.proofs.Common.{take}
use Rattle.pq_gate.specs.Circuit.{IsCircuit}
use Rattle.pq_rules.proofs.compare.are_on_wires.Given as goal

abbrev pub invariant-loop-gate : goal.invariant-loop-gate
invariant-loop-gate l = IsCircuit l.wires (take l.gate-index l.gates)
