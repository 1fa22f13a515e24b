use Rattle.std.proofs.Common.{◌≡◌, ℕ, ◌<◌, ◌≤◌, Bool, List, length, get_or}
use Rattle.pq_gate.specs.declared.ring.Ring.{Ring}
use Rattle.pq_gate.specs.Circuit.{IsOnWires}
use Rattle.pq_gate.specs.Matrix.{through}
use Rattle.pq_rules.specs.Bounds.{zeros}
use Rattle.pq_rules.specs.Columns.{HasWeights}
use Rattle.pq_rules.specs.States.{state}
use Rattle.pq_rules.proofs.column.column_through.Given as goal

abbrev pub invariant-loop-from : goal.invariant-loop-from
invariant-loop-from l = record {
  len : length l.column ≡ 8;
  done : (n : ℕ) (f : List Bool → Ring) → n ≤ 3 → IsOnWires n l.gate → HasWeights n l.rest f →
      (x : ℕ) → x < l.from → get_or l.column x zeros ≡ through l.gate f (state n x);
}
