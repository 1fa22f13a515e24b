use Rattle.std.proofs.Common.{◌≡◌, length, vec_capacity}
use Rattle.pq_loop.proofs.Moving.{MovedUpTo}
use Rattle.pq_loop.proofs.one_round.moved_on.Given as goal

abbrev pub invariant-loop-place : goal.invariant-loop-place
invariant-loop-place l = record {
  moved : MovedUpTo l.array l.fn.fingers l.place-index l.to.items;
  capacity : vec_capacity l.to ≡ length l.fn.fingers;
}
