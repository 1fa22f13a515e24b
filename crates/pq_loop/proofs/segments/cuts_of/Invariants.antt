use Rattle.std.proofs.Common.{◌≡◌, ◌++◌, take, drop}
use Rattle.pq_loop.specs.Segments.{told}
use Rattle.pq_loop.proofs.segments.cuts_of.Given as goal

abbrev pub invariant-loop-number : goal.invariant-loop-number
invariant-loop-number l = l.cuts.items ≡ told (take l.number l.fn.ends.items) (take l.number l.results) ++ drop l.number l.fn.ends.items
