use Rattle.pq_match.proofs.WakingWords.{AreMetBut}
use Rattle.pq_match.proofs.waiting.meeting.Given as goal

abbrev pub invariant-bits : goal.invariant-bits
invariant-bits l = AreMetBut l.left l.rest l.base l.reach l.masks l.first l.wires l.found

abbrev pub decreases-bits : goal.decreases-bits
decreases-bits l = l.rest
