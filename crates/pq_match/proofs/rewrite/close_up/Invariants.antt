use Rattle.pq_match.proofs.RewritingPlaces.{IsClosed}
use Rattle.pq_match.proofs.rewrite.close_up.Given as goal

abbrev pub invariant-loop-place : goal.invariant-loop-place
invariant-loop-place l = IsClosed l.initial.gates l.gates l.places l.kept l.passed l.place
