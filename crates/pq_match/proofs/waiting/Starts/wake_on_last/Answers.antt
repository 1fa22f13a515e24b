use Rattle.std.proofs.Common.{ℕ, ◌⊎◌, true, ◌∙◌, sym, subst}
use Rattle.pq_match.specs.Settled.{AwaitOn, IsUsedAt}
use Rattle.pq_match.proofs.waiting.Starts.wake_on_last.Goals as goal

pub wake_on-requires-clause-wire : goal.wake_on-requires-clause-wire
wake_on-requires-clause-wire c same = c.requires.taken.own c.args.index true c.requires.index (sym c.last_wire-2.ensures ∙ same)

pub returns-clause-on : goal.returns-clause-on
returns-clause-on c =
    subst (λ (w : ℕ). IsUsedAt c.args.slots.now c.args.places.now c.args.index w ⊎ AwaitOn c.args.slots.now c.args.places.now c.wake_on.new.self w) c.last_wire-2.ensures c.wake_on.ensures.on
