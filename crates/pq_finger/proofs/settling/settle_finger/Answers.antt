use Rattle.std.proofs.Common.{◌++◌, take, sym, arith}
use Rattle.std.specs.List.{flat_map, filter}
use Rattle.pq_finger.specs.Settled.{new_places}
use Rattle.pq_gaps.proofs.Putting.{increasing-ascending}
use Rattle.pq_finger.proofs.Halfway.{stays, no_cut, own_and_inside, SettledUpTo-puts}
use Rattle.pq_finger.proofs.settling.settle_finger.Goals as goal
use Rattle.pq_finger.proofs.settling.settle_finger.Goals.{else-behind-cuts-via-then-behind-cuts+else-drops, else-behind-cuts-via-else-behind-cuts}

pub put-requires-clause-rising : goal.put-requires-clause-rising
put-requires-clause-rising c =
    rw c.requires.settled.so_far.list_is
    (increasing-ascending (filter (stays c.args.places.now c.args.cuts.now) (take c.args.index c.args.places.now) ++
    flat_map new_places (take c.args.behind c.args.cuts.now)))

pub returns-clause-settled : goal.returns-clause-settled
returns-clause-settled c =
    elim c.else-behind-cuts.branch [
      | else-behind-cuts-via-then-behind-cuts+else-drops w ↦
          SettledUpTo-puts _ c.put.new.list.items c.requires.in_order c.requires.rising c.requires.in_range c.requires.settled
          (λ lt. own_and_inside c.args.index _ _ (sym w.if-drops.ensures)) c.put.ensures.put (omega (arith, c.put.ensures.len))
      | else-behind-cuts-via-else-behind-cuts w ↦
          SettledUpTo-puts no_cut c.put.new.list.items c.requires.in_order c.requires.rising c.requires.in_range c.requires.settled
          (λ lt. absurd (omega (arith, w.if-behind-cuts.false))) c.put.ensures.put (omega (arith, c.put.ensures.len))
    ]
