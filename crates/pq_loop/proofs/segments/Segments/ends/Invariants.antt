use Rattle.std.proofs.Common.{◌≡◌, length, vec_capacity}
use Rattle.pq_loop.proofs.Cutting.{EndsUpTo}
use Rattle.pq_loop.proofs.segments.Segments.ends.Given as goal

abbrev pub invariant-loop-number : goal.invariant-loop-number
invariant-loop-number l = record {
  ends : EndsUpTo l.array l.self.omega l.self.fingers.items l.self.gaps.items l.number l.ends.items;
  capacity : vec_capacity l.ends ≡ length l.self.gaps.items;
}
