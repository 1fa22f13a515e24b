use Rattle.pq_board.proofs.Trials.{pairs_more}
use Rattle.pq_board.proofs.tests.pairs.Goals as goal

pub loop-ticket-preserved : goal.loop-ticket-preserved
loop-ticket-preserved c = rw c.in_ok-add.ensures.added (pairs_more c.loop-ticket.jobs c.loop-ticket.ticket c.loop-ticket.invariant)
