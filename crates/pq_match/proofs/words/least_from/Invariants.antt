use Rattle.pq_match.proofs.NumberSets.{NoneIn}
use Rattle.pq_match.proofs.words.least_from.Given as goal

abbrev pub invariant-loop-index : goal.invariant-loop-index
invariant-loop-index l = NoneIn l.words l.word l.index
