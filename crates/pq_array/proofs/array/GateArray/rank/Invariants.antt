use Rattle.pq_array.proofs.Descent.{GoesDown}
use Rattle.pq_array.proofs.array.GateArray.rank.Given as goal

-- the node stands over the place, and what stands before the node's places is counted
abbrev pub invariant-loop-half : goal.invariant-loop-half
invariant-loop-half l = GoesDown l.width l.self-inside.cells l.place l.node l.offset l.half l.before

abbrev pub decreases-loop-half : goal.decreases-loop-half
decreases-loop-half l = l.half
