use Rattle.pq_board.proofs.Trials.{Pairs}
use Rattle.pq_board.proofs.tests.pairs.Given as goal

abbrev pub invariant-loop-ticket : goal.invariant-loop-ticket
invariant-loop-ticket l = Pairs l.jobs l.ticket
