use Rattle.std.proofs.Common.{◌≡◌, ◌+◌, ◌++◌, get_or, take, ap, ◌∙◌, arith}
use Rattle.std.specs.List.{flat_map}
use Rattle.std.proofs.lemmas.List.{get_or_default}
use Rattle.pq_finger.specs.declared.cut.Cut.{Cut}
use Rattle.pq_gaps.specs.Gaps.{ascending}
use Rattle.pq_finger.specs.Settled.{new_places}
use Rattle.pq_gaps.proofs.Putting.{increasing-ascending}
use Rattle.pq_finger.proofs.Boundaries.{boundaries_more, boundaries_none, ahead_next}
use Rattle.pq_finger.proofs.settling.settle_boundaries.Goals as goal

pub loop-cut-init : goal.loop-cut-init
loop-cut-init c = record {
  list_is = boundaries_none c.args.list.now.items c.requires.rising;
  room = omega (arith, c.requires.room);
  ahead = c.requires.ahead;
}

pub put_boundaries-requires-clause-rising : goal.put_boundaries-requires-clause-rising
put_boundaries-requires-clause-rising c = rw c.loop-cut.invariant.list_is (increasing-ascending (c.args.list.now.items ++ flat_map new_places (take c.loop-cut.cut-index c.args.cuts.now)))

pub loop-cut-preserved : goal.loop-cut-preserved
loop-cut-preserved c =
    let put : (d : Cut) → c.put_boundaries.new.list.items ≡ ascending (c.loop-cut.list.items ++ new_places (get_or c.args.cuts.now c.loop-cut.cut-index d)) =
    λ d. c.put_boundaries.ensures.put ∙
    ap (λ (cut : Cut). ascending (c.loop-cut.list.items ++ new_places cut)) (get_or_default c.args.cuts.now c.loop-cut.cut-index _ d c.loop-cut-test.true) in
    record {
      list_is = c.put_boundaries.ensures.put ∙ boundaries_more c.args.list.now.items c.loop-cut.list.items c.args.cuts.now c.loop-cut.cut-index _ c.loop-cut-test.true c.loop-cut.invariant.list_is;
      room = omega (arith, c.loop-cut.invariant.room, c.put_boundaries.ensures.len, c.put_boundaries.ensures.capacity);
      ahead = λ d lt. rw (put d)
          (ahead_next (get_or c.args.cuts.now c.loop-cut.cut-index d) (get_or c.args.cuts.now (c.loop-cut.cut-index + 1) d) c.loop-cut.list.items
          (c.requires.not_turned c.loop-cut.cut-index d c.loop-cut-test.true)
          (c.requires.apart c.loop-cut.cut-index (c.loop-cut.cut-index + 1) d (omega arith) lt)
          (c.requires.not_turned (c.loop-cut.cut-index + 1) d lt)
          (c.loop-cut.invariant.ahead d c.loop-cut-test.true));
    }
