use Rattle.std.proofs.Common.{◌≡◌}
use Rattle.pq_gate.specs.Ring.{one, rooted}
use Rattle.pq_rules.proofs.column.root_power.Given as goal

abbrev pub invariant-loop-root : goal.invariant-loop-root
invariant-loop-root l = l.power ≡ rooted l.root one
