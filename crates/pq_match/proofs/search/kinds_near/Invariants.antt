use Rattle.pq_match.proofs.SearchNear.{AreMarked}
use Rattle.pq_match.proofs.search.kinds_near.Given as goal

abbrev pub invariant-loop-place : goal.invariant-loop-place
invariant-loop-place l = AreMarked l.gates l.start l.wire l.place l.near
