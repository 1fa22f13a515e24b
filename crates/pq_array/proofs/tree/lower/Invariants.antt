use Rattle.std.proofs.Common.{◌/◌, length}
use Rattle.pq_array.proofs.Climb.{Climbs}
use Rattle.pq_array.proofs.tree.lower.Given as goal

-- the words of the nodes passed are one less
abbrev pub invariant-loop-node : goal.invariant-loop-node
invariant-loop-node l = Climbs (length l.initial.words / 2) l.place l.initial.words l.words l.node

abbrev pub decreases-loop-node : goal.decreases-loop-node
decreases-loop-node l = l.node
