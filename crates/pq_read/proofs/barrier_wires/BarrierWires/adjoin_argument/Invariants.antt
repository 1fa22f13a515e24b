use Rattle.std.proofs.Common.{◌≡◌}
use Rattle.pq_read.specs.After.{adjoined_below}
use Rattle.pq_read.proofs.barrier_wires.BarrierWires.adjoin_argument.Given as goal

abbrev pub invariant-loop-k : goal.invariant-loop-k
invariant-loop-k l = l.self ≡ adjoined_below l.initial.self l.a.first l.k
