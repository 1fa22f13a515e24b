use Rattle.pq_match.proofs.SearchWithin.{NoneBefore}
use Rattle.pq_match.proofs.search.find_within.Given as goal

abbrev pub invariant-loop-start : goal.invariant-loop-start
invariant-loop-start l = NoneBefore l.rules l.gates l.span l.start
