use Rattle.std.proofs.Common.{ℕ, ◌<◌}
use Rattle.pq_rules.specs.Row.{Uses}
use Rattle.pq_rules.proofs.compare.use_all.Given as goal

abbrev pub invariant-loop-wire : goal.invariant-loop-wire
invariant-loop-wire l = (w : ℕ) → w < l.wire → Uses l.gates w
