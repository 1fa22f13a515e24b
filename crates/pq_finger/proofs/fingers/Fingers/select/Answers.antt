use Rattle.std.proofs.Common.{sym, ◌∙◌, arith}
use Rattle.pq_finger.proofs.Choosing.{ChosenUpTo-none, ChosenUpTo-all, ChosenUpTo-takes, ChosenUpTo-passes}
use Rattle.pq_finger.proofs.fingers.Fingers.select.Goals as goal
use Rattle.pq_finger.proofs.fingers.Fingers.select.Goals.{then-stands_apart, else-stands_apart}

pub loop-index-init : goal.loop-index-init
loop-index-init c = record {
  chosen = rw c.in_ok-indexes.ensures.items (ChosenUpTo-none c.args.omega c.args.ranks.now);
  count = omega (arith, c.in_ok-indexes.ensures.len);
  capacity = c.in_ok-indexes.ensures.exact;
}

pub stands_apart-requires : goal.stands_apart-requires
stands_apart-requires c = c.loop-index.invariant.chosen.last_up_to c.loop-index.index (omega arith) c.loop-index-test.true

pub loop-index-preserved : goal.loop-index-preserved
loop-index-preserved c =
    elim c.if-stands_apart.branch [
      | then-stands_apart w ↦
          rw (w.indexes-is, w.last-is)
          record {
            chosen = rw w.push_reserved.ensures.items
                (ChosenUpTo-takes c.requires.rising c.loop-index-test.true c.loop-index.invariant.chosen (sym w.if-stands_apart.ensures));
            count = omega (arith, w.push_reserved.ensures.len, c.loop-index.invariant.count);
            capacity = w.push_reserved.ensures.capacity ∙ c.loop-index.invariant.capacity;
          }
      | else-stands_apart w ↦
          rw (w.indexes-is, w.last-is)
          record {
            chosen = ChosenUpTo-passes c.loop-index-test.true c.loop-index.invariant.chosen (sym w.if-stands_apart.ensures);
            count = omega (arith, c.loop-index.invariant.count);
            capacity = c.loop-index.invariant.capacity;
          }
    ]

pub returns-clause-in_range : goal.returns-clause-in_range
returns-clause-in_range c =
    rw c.of.ensures.items
    (λ k d lt. omega (arith, c.loop-index.invariant.chosen.in_range k d lt, c.loop-index.auto.index-end, c.requires.count))

pub returns-clause-rising : goal.returns-clause-rising
returns-clause-rising c = rw c.of.ensures.items c.loop-index.invariant.chosen.rising

pub returns-clause-selected : goal.returns-clause-selected
returns-clause-selected c = rw c.of.ensures.items (ChosenUpTo-all c.loop-index-test.false c.loop-index.invariant.chosen)
