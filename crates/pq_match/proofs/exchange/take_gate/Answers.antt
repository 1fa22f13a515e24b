use Rattle.std.proofs.Common.{ℕ, sym, subst, ◌∙◌, true, false}
use Rattle.pq_links.specs.Slots.{IsGap}
use Rattle.pq_match.proofs.exchange.take_gate.Goals as goal

pub gap_at-first_end-requires-clause-wire : goal.gap_at-first_end-requires-clause-wire
gap_at-first_end-requires-clause-wire c same = c.requires.own false (sym c.first_wire.ensures ∙ same)

pub gap_at-first_end-requires-clause-gap : goal.gap_at-first_end-requires-clause-gap
gap_at-first_end-requires-clause-gap c =
    subst (λ (w : ℕ). IsGap c.remove.new.slots w c.args.place c.remove.result.0.before c.remove.result.0.after) (sym c.first_wire.ensures) (c.remove.ensures.first (c.requires.own false))

pub gap_at-last_end-requires-clause-wire : goal.gap_at-last_end-requires-clause-wire
gap_at-last_end-requires-clause-wire c same = c.requires.own true (sym c.last_wire.ensures ∙ same)

pub gap_at-last_end-requires-clause-gap : goal.gap_at-last_end-requires-clause-gap
gap_at-last_end-requires-clause-gap c =
    subst (λ (w : ℕ). IsGap c.remove.new.slots w c.args.place c.remove.result.1.before c.remove.result.1.after) (sym c.last_wire.ensures) (c.remove.ensures.last (c.requires.own true))
