use Rattle.std.proofs.Common.{false, true}
use Rattle.pq_match.proofs.cursors.sides_at.Goals as goal

pub returns-clause-first : goal.returns-clause-first
returns-clause-first c = c.requires.linked.next c.args.place false c.requires.place (c.requires.taken false)

pub returns-clause-second : goal.returns-clause-second
returns-clause-second c = c.requires.linked.next c.args.place true c.requires.place (c.requires.taken true)
