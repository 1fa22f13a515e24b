use Rattle.pq_match.proofs.GrowingSkips.{AreSkipped}
use Rattle.pq_match.proofs.search.next_place.Given as goal

abbrev pub invariant-loop-place : goal.invariant-loop-place
invariant-loop-place l = AreSkipped l.gates l.used l.free l.next l.from l.place
