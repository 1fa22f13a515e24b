use Rattle.std.proofs.Common.{◌≤◌, length, drop}
use Rattle.pq_gate.specs.Matrix.{Entry}
use Rattle.pq_gate.specs.Ring.{rooted}
use Rattle.pq_rules.specs.Columns.{HasWeights}
use Rattle.pq_rules.specs.States.{state}
use Rattle.pq_rules.proofs.column.column_of.Given as goal

abbrev pub invariant-loop-left : goal.invariant-loop-left
invariant-loop-left l = record {
  within : l.left ≤ length l.gates;
  weights : HasWeights l.wires l.column (λ x. rooted l.roots (Entry (drop l.left l.gates) x (state l.wires l.to)));
}

abbrev pub decreases-loop-left : goal.decreases-loop-left
decreases-loop-left l = l.left
