use Rattle.std.proofs.Common.{◌-◌}
use Rattle.pq_array.proofs.Descent.{Seeks}
use Rattle.pq_array.proofs.array.GateArray.select.Given as goal

-- the node stands over the live gate that is sought
abbrev pub invariant-loop-node : goal.invariant-loop-node
invariant-loop-node l = Seeks l.width l.self-inside.cells l.self-inside.words.items l.number l.node l.rest

abbrev pub decreases-loop-node : goal.decreases-loop-node
decreases-loop-node l = l.width - l.node
