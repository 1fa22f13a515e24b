use Rattle.std.proofs.Common.{◌≡◌}
use Rattle.pq_gate.specs.Ring.{turned}
use Rattle.pq_rules.proofs.column.turned_by.Given as goal

abbrev pub invariant-loop-turn : goal.invariant-loop-turn
invariant-loop-turn l = l.turned ≡ turned l.turn l.fn.ring
