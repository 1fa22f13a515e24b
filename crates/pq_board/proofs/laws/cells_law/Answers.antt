use Rattle.pq_board.proofs.LeftCells.{cells_left}
use Rattle.pq_board.proofs.laws.cells_law.Goals as goal

pub returns : goal.returns
returns c = cells_left
