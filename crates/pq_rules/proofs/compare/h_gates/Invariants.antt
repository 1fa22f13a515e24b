use Rattle.std.proofs.Common.{◌≡◌, ◌≤◌, take}
use Rattle.pq_gate.specs.Matrix.{h_count}
use Rattle.pq_rules.proofs.compare.h_gates.Given as goal

abbrev pub invariant-loop-gate : goal.invariant-loop-gate
invariant-loop-gate l = record { is : l.count ≡ h_count (take l.gate-index l.gates); few : l.count ≤ l.gate-index }
