use Rattle.std.proofs.Common.{arith}
use Rattle.pq_match.proofs.CursorLaws.{least_stands}
use Rattle.pq_match.proofs.cursors.next_place.Goals as goal

pub returns-else-free-clause-stands : goal.returns-else-free-clause-stands
returns-else-free-clause-stands c _ inside = least_stands c.args.cursors.now c.min-end.result (omega arith)
