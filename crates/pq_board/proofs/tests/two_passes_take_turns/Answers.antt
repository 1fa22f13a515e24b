use Rattle.std.proofs.Common.{arith}
use Rattle.pq_board.specs.Law.{job}
use Rattle.pq_board.proofs.Trials.{second_of}
use Rattle.pq_board.proofs.tests.two_passes_take_turns.Goals as goal

pub lower-requires-clause-job : goal.lower-requires-clause-job
lower-requires-clause-job g c = second_of (job c.in_ok-board.board.plan 0) 0 (c.in_ok-board.ensures.each 0 (omega arith))
