use Rattle.std.proofs.Common.{◌-◌, length}
use Rattle.pq_board.proofs.board.+take_changed.Given as goal

abbrev pub decreases-take_changed : goal.decreases-take_changed
decreases-take_changed l = length l.words.now.items - l.node
