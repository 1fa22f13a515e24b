use Rattle.pq_array.proofs.Backwards.{Back}
use Rattle.pq_array.proofs.array.GateArray.back.Given as goal

abbrev pub invariant-cells : goal.invariant-cells
invariant-cells l = Back l.self l.place l.count l.at l.left

abbrev pub decreases-cells : goal.decreases-cells
decreases-cells l = l.at
