use Rattle.std.proofs.Common.{◌-◌, length}
use Rattle.pq_board.proofs.Trials.{Works}
use Rattle.pq_board.proofs.tests.work.Given as goal

-- all tickets from the next one on are still to come, and only places of earlier jobs are lowered
abbrev pub invariant-loop-ticket : goal.invariant-loop-ticket
invariant-loop-ticket l = Works l.board l.initial.pass l.pass l.next

abbrev pub decreases-loop-ticket : goal.decreases-loop-ticket
decreases-loop-ticket l = length l.board.plan.jobs - l.next
