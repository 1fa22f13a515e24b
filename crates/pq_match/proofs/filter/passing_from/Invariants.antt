use Rattle.pq_match.specs.Settled.{AreSiftedIn}
use Rattle.pq_match.proofs.filter.passing_from.Given as goal

abbrev pub invariant-loop-place : goal.invariant-loop-place
invariant-loop-place l = AreSiftedIn l.rules l.gates l.first l.place l.word
