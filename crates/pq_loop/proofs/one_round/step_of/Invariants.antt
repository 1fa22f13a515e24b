use Rattle.pq_loop.proofs.Numbering.{SumsUpTo}
use Rattle.pq_loop.proofs.one_round.step_of.Given as goal

abbrev pub invariant-loop-worked : goal.invariant-loop-worked
invariant-loop-worked l = SumsUpTo l.results l.worked-index l.improved l.phases
