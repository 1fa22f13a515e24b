use Rattle.std.proofs.Common.{ℕ, ◌⊎◌, false, refl, ◌∙◌, sym, subst}
use Rattle.pq_match.specs.Settled.{AwaitOn, IsUsedAt}
use Rattle.pq_match.proofs.Awaiting.{around_more, more_than_more}
use Rattle.pq_match.proofs.waiting.Starts.wake_around.Goals as goal

pub wake_on-requires-clause-wire : goal.wake_on-requires-clause-wire
wake_on-requires-clause-wire c same = c.requires.taken.own c.loop-index.index false c.loop-index-test.true (sym c.first_wire.ensures ∙ same)

pub wake_on_last-requires-clause-first : goal.wake_on_last-requires-clause-first
wake_on_last-requires-clause-first c =
    subst (λ (w : ℕ). IsUsedAt c.args.slots.now c.args.places.now c.loop-index.index w ⊎ AwaitOn c.args.slots.now c.args.places.now c.wake_on.new.self w) c.first_wire.ensures c.wake_on.ensures.on

pub loop-index-preserved : goal.loop-index-preserved
loop-index-preserved c = record {
  around =
      around_more c.first_wire.result _ c.loop-index.invariant.around c.first_wire.ensures refl c.wake_on.ensures.on c.wake_on.ensures.more
      c.wake_on_last.ensures.on c.wake_on_last.ensures.more;
  more = more_than_more c.loop-index.invariant.more (more_than_more c.wake_on.ensures.more c.wake_on_last.ensures.more);
}
