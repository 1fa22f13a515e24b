use Rattle.std.proofs.Common.{length}
use Rattle.pq_links.specs.Leading.{AreSpread}
use Rattle.pq_links.proofs.chains.write_sides.Given as goal

abbrev pub invariant-loop-place : goal.invariant-loop-place
invariant-loop-place l = AreSpread (length l.sides) l.place l.sides l.spread
