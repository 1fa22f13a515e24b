use Rattle.std.proofs.Common.{◌∙◌}
use Rattle.pq_loop.proofs.Running.{runs_more}
use Rattle.pq_loop.proofs.segments.put_places.Goals as goal

pub loop-number-preserved : goal.loop-number-preserved
loop-number-preserved c = record {
  runs = rw c.push_reserved.ensures.items
      (runs_more c.args.array.now c.args.from c.loop-number._number c.loop-number.place c.live_from-place.result c.loop-number.list.items
      c.loop-number.invariant.runs c.live_from-place.ensures.live c.live_from-place.ensures.rank c.live_from-place.ensures.after);
  capacity = c.push_reserved.ensures.capacity ∙ c.loop-number.invariant.capacity;
}
