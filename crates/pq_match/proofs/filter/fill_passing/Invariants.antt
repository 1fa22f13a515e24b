use Rattle.pq_match.proofs.Passing.{AreSiftedTo}
use Rattle.pq_match.proofs.filter.fill_passing.Given as goal

abbrev pub invariant-loop-index : goal.invariant-loop-index
invariant-loop-index l = AreSiftedTo l.rules l.gates l.words l.index
