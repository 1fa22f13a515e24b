use Rattle.std.proofs.Common.{◌≡◌, ◌∙◌, ap, refl, get_or, List, ℕ}
use Rattle.pq_array.specs.Cells.{rank}
use Rattle.pq_loop.proofs.Moving.{moved_more, moved_all, moved_not_falling}
use Rattle.pq_loop.proofs.one_round.moved_on.Goals as goal

pub loop-place-preserved : goal.loop-place-preserved
loop-place-preserved c = record {
  moved =
      let here : get_or c.places-place-items.result.now c.loop-place.place-index 0 ≡ get_or c.args.fingers c.loop-place.place-index 0 =
      ap (λ (l : List ℕ). get_or l c.loop-place.place-index 0) c.places-place-items.ensures.places in
      let inside = rw c.places-place-items.ensures.places at c.loop-place-test.true in
      rw c.push_reserved.ensures.items
      (moved_more c.args.array.now c.args.fingers c.loop-place.place-index c.loop-place.to.items c.live_or_end.result inside
      c.loop-place.invariant.moved c.live_or_end.ensures.stands (c.live_or_end.ensures.rank ∙ ap (rank c.args.array.now) here));
  capacity = c.push_reserved.ensures.capacity ∙ c.loop-place.invariant.capacity;
}

pub moved-requires-clause-not_falling : goal.moved-requires-clause-not_falling
moved-requires-clause-not_falling c =
    let end = rw c.places-place-items.ensures.places at c.loop-place-test.false in
    rw c.as_slice.ensures.value
    (moved_not_falling c.args.array.now c.args.fingers c.loop-place.to.items c.places.ensures.rising c.loop-place.invariant.moved.stand
    (moved_all c.args.array.now c.args.fingers c.loop-place.place-index c.loop-place.to.items end c.loop-place.invariant.moved))

pub returns : goal.returns
returns c =
    let end = rw c.places-place-items.ensures.places at c.loop-place-test.false in
    record {
      to = c.loop-place.to.items;
      ranks = moved_all c.args.array.now c.args.fingers c.loop-place.place-index c.loop-place.to.items end c.loop-place.invariant.moved;
      stand = c.loop-place.invariant.moved.stand;
      moved_is = rw (c.moved.ensures, c.as_slice.ensures.value) refl;
    }
