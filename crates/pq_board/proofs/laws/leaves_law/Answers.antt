use Rattle.pq_board.proofs.StepLaws.{leaves_counted}
use Rattle.pq_board.proofs.laws.leaves_law.Goals as goal

pub returns : goal.returns
returns c = leaves_counted
