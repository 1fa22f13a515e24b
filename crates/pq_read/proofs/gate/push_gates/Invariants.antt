use Rattle.std.proofs.Common.{◌≡◌, ◌++◌}
use Rattle.pq_read.specs.Lists.{each_below}
use Rattle.pq_read.specs.Expansion.{instance}
use Rattle.pq_read.specs.Listed.{listed}
use Rattle.pq_read.proofs.gate.push_gates.Given as goal

abbrev pub invariant-loop-k : goal.invariant-loop-k
invariant-loop-k l = l.gates.items ≡ l.initial.gates.items ++ each_below l.k (instance l.word (listed l.arguments))
