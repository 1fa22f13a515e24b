use Rattle.std.proofs.Common.{ℕ, ◌-◌, List, ◌++◌, length, take, drop, ap, ◌∙◌}
use Rattle.std.specs.List.{flat_map}
use Rattle.std.proofs.lemmas.List.{take_rest}
use Rattle.pq_finger.specs.declared.cut.Cut.{Cut}
use Rattle.pq_gaps.specs.Gaps.{ascending}
use Rattle.pq_finger.specs.Settled.{settled, new_places}
use Rattle.pq_gaps.proofs.Putting.{increasing-ascending}
use Rattle.pq_finger.proofs.Whole.{settled_whole, settled_rises}
use Rattle.pq_finger.proofs.fingers.Fingers.settle.Goals as goal

pub settle_boundaries-requires-clause-rising : goal.settle_boundaries-requires-clause-rising
settle_boundaries-requires-clause-rising c = settled_rises c.settle_fingers-behind.ensures.settled

pub invariant_of-result : goal.invariant_of-result
invariant_of-result c =
    rw c.settle_boundaries.ensures
    (increasing-ascending (c.settle_fingers-behind.new.list.items ++
    flat_map new_places (take (length c.args.cuts.now - c.settle_fingers-behind.result) (drop c.settle_fingers-behind.result c.args.cuts.now))))

pub returns : goal.returns
returns c =
    c.settle_boundaries.ensures ∙
    (ap (λ (r : List Cut). ascending (c.settle_fingers-behind.new.list.items ++ flat_map new_places r)) (take_rest c.args.cuts.now c.settle_fingers-behind.result) ∙
    (settled_whole c.as_slice.result.now c.args.cuts.now c.settle_fingers-behind.new.list.items c.settle_fingers-behind.result c.settle_fingers-behind.ensures.settled ∙
    ap (λ (r : List ℕ). settled r c.args.cuts.now) (c.as_slice.ensures.value ∙ c.self.view_is)))
