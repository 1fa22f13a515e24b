use Rattle.std.proofs.Common.{◌≡◌, ◌*◌, vec_capacity}
use Rattle.pq_loop.proofs.Making.{JobsUpTo}
use Rattle.pq_loop.proofs.segments.jobs_of.Given as goal

abbrev pub invariant-loop-gap : goal.invariant-loop-gap
invariant-loop-gap l = record {
  jobs : JobsUpTo l.array l.omega l.gaps l.gap-index l.jobs;
  capacity : vec_capacity l.list ≡ 2 * l.omega;
}
