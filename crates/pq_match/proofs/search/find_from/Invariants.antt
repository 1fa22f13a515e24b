use Rattle.pq_match.proofs.SearchFrom.{AreTried}
use Rattle.pq_match.proofs.search.find_from.Given as goal

abbrev pub invariant-loop-number : goal.invariant-loop-number
invariant-loop-number l = AreTried l.rules l.gates l.start l.end l.numbers l.number-index
