use Rattle.std.proofs.Common.{◌++◌, take, refl, arith, subst}
use Rattle.std.specs.List.{flat_map, filter, slice_index}
use Rattle.std.proofs.lemmas.Bool.{false≢true}
use Rattle.std.proofs.lemmas.List.{get_or_default}
use Rattle.pq_finger.specs.declared.cut.Cut.{Cut}
use Rattle.pq_finger.specs.Settled.{new_places}
use Rattle.pq_finger.specs.Settling.{IsBefore}
use Rattle.pq_gaps.proofs.Putting.{increasing-ascending}
use Rattle.pq_finger.proofs.Halfway.{stays, IsAtFinger-stays, IsAtFinger-passes}
use Rattle.pq_finger.proofs.settling.leave_behind.Goals as goal
use Rattle.pq_finger.proofs.settling.leave_behind.Goals.{else-behind-cuts-via-then-behind-cuts+else-is_before, else-behind-cuts-via-else-behind-cuts}

pub put_boundaries-requires-clause-rising : goal.put_boundaries-requires-clause-rising
put_boundaries-requires-clause-rising c =
    rw c.requires.settled.list_is
    (increasing-ascending (filter (stays c.args.places.now c.args.cuts.now) (take c.args.index c.args.places.now) ++
    flat_map new_places (take c.args.behind c.args.cuts.now)))

pub returns-then-is_before-clause-settled : goal.returns-then-is_before-clause-settled
returns-then-is_before-clause-settled c =
    IsAtFinger-passes _ c.put_boundaries.new.list.items c.requires.in_order c.requires.rising c.requires.in_range c.requires.settled
    c.if-behind-cuts.true (c.if-is_before.ensures.0 refl) c.put_boundaries.ensures.put (omega (arith, c.put_boundaries.ensures.len))

pub returns-clause-settled : goal.returns-clause-settled
returns-clause-settled c =
    IsAtFinger-stays c.requires.in_order c.requires.settled
    (elim c.else-behind-cuts.branch [
      | else-behind-cuts-via-then-behind-cuts+else-is_before w ↦ (λ d lt before.
          let P : Cut → Type 0 = λ cut. IsBefore c.args.index (slice_index c.args.places.now c.args.index) cut in
          false≢true (w.if-is_before.ensures.1 (subst P (get_or_default c.args.cuts.now c.args.behind d _ lt) before)))
      | else-behind-cuts-via-else-behind-cuts w ↦ (λ d lt before. omega (arith, w.if-behind-cuts.false))
    ])
