use Rattle.std.proofs.Common.{◌≡◌, get_or}
use Rattle.pq_array.proofs.CountUp.{SpansFrom}
use Rattle.pq_array.proofs.tree.count_up.Given as goal

-- the words from the node on count, and word 0 is nothing yet
abbrev pub invariant-loop-node : goal.invariant-loop-node
invariant-loop-node l = record { counted : SpansFrom l.node l.width l.cells l.words; unused : get_or l.words 0 0 ≡ 0 }
