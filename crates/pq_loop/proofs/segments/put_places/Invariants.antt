use Rattle.std.proofs.Common.{◌≡◌, vec_capacity}
use Rattle.pq_loop.proofs.Running.{Runs}
use Rattle.pq_loop.proofs.segments.put_places.Given as goal

abbrev pub invariant-loop-number : goal.invariant-loop-number
invariant-loop-number l = record {
  runs : Runs l.array l.from l._number l.place l.list.items;
  capacity : vec_capacity l.list ≡ vec_capacity l.fn.list;
}
