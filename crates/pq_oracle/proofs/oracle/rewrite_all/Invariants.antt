use Rattle.std.proofs.Common.{◌≡◌, length}
use Rattle.pq_match.specs.Segment.{held, IsKnown}
use Rattle.pq_oracle.proofs.Improving.{IsLed}
use Rattle.pq_oracle.proofs.oracle.rewrite_all.Given as goal

-- the segment is led from the gates that came to those that it holds now, by what came so far
abbrev pub invariant-rewrites : goal.invariant-rewrites
invariant-rewrites l = record {
  led : IsLed l.rules l.fn.seg.items (held l.seg) l.outcome;
  known : IsKnown l.rules l.seg;
  room : l.seg.room ≡ l.fn.seg.room;
}

-- each rewriting shortens what it holds
abbrev pub decreases-rewrites : goal.decreases-rewrites
decreases-rewrites l = length (held l.seg)
