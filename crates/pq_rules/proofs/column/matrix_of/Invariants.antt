use Rattle.std.proofs.Common.{◌≡◌, ℕ, ◌<◌, [], length, get_or}
use Rattle.pq_gate.specs.Matrix.{Entry}
use Rattle.pq_gate.specs.Ring.{rooted}
use Rattle.pq_rules.specs.Columns.{HasWeights}
use Rattle.pq_rules.specs.States.{state}
use Rattle.pq_rules.proofs.column.matrix_of.Given as goal

abbrev pub invariant-loop-to : goal.invariant-loop-to
invariant-loop-to l = record {
  len : length l.columns ≡ 8;
  done : (y : ℕ) → y < l.to → HasWeights l.wires (get_or l.columns y []) (λ x. rooted l.roots (Entry l.gates x (state l.wires y)));
}
