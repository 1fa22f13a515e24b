use Rattle.std.proofs.Common.{ℕ, ◌+◌, ◌<◌, ◌∙◌, true, length, sym, subst, arith}
use Rattle.pq_gate.specs.Commuting.{Touches}
use Rattle.pq_links.specs.Links.{side_at, IsNextOn}
use Rattle.pq_match.specs.Redex.{gate_at}
use Rattle.pq_match.specs.Seek.{IsSeenAt}
use Rattle.pq_match.proofs.Passing.{own_wire, quiet_end, touches_next, quiet_ahead}
use Rattle.pq_match.proofs.filter.may_start.Goals as goal

pub returns-then-near-gates : goal.returns-then-near-gates
returns-then-near-gates c none =
    quiet_end c.args.rules.now c.args.gates.now c.args.next.now c.args.place c.requires.linked c.requires.taken c.requires.place c.nothing.result c.nothing-then-near-gates.result
    c.if-near-gates.true c.nothing.ensures c.nothing-then-near-gates.ensures (c.has_admitting.ensures.none none)

pub see_noted-one-requires-clause-uses : goal.see_noted-one-requires-clause-uses
see_noted-one-requires-clause-uses c below =
    subst (Touches (gate_at c.args.gates.now (side_at true c.args.next.now c.args.place))) (sym c.last_wire-wire.ensures)
    (touches_next c.args.rules.now c.args.gates.now c.args.next.now c.args.place c.requires.linked c.requires.taken c.requires.place below)

pub see_noted-other-requires-clause-uses : goal.see_noted-other-requires-clause-uses
see_noted-other-requires-clause-uses c =
    let gates = c.args.gates.now in
    let near = side_at true c.args.next.now c.args.place in
    let wire = c.last_wire-wire.ensures in
    let below : near < length gates = omega (arith, c.if-near-gates.false) in
    (c.next_on-far.ensures.next (λ same. own_wire c.args.rules.now gates c.args.next.now c.args.place c.requires.linked c.requires.taken c.requires.place (sym wire ∙ same))
    (subst (Touches (gate_at gates near)) (sym wire) (touches_next c.args.rules.now gates c.args.next.now c.args.place c.requires.linked c.requires.taken c.requires.place below))).uses

pub returns : goal.returns
returns c none =
    let gates = c.args.gates.now in
    let near = side_at true c.args.next.now c.args.place in
    let wire = c.last_wire-wire.ensures in
    let below : near < length gates = omega (arith, c.if-near-gates.false) in
    quiet_ahead c.args.rules.now gates c.args.next.now c.args.place c.requires.linked c.requires.taken c.requires.place c.next_on-far.result c.see_noted-one.result c.see_noted-other.result below
    (subst (λ (w : ℕ). IsNextOn gates w (near + 1) c.next_on-far.result) wire
    (c.next_on-far.ensures.next (λ same. own_wire c.args.rules.now gates c.args.next.now c.args.place c.requires.linked c.requires.taken c.requires.place (sym wire ∙ same))
    (subst (Touches (gate_at gates near)) (sym wire) (touches_next c.args.rules.now gates c.args.next.now c.args.place c.requires.linked c.requires.taken c.requires.place below))))
    (subst (λ (w : ℕ). IsSeenAt gates w near c.see_noted-one.result) wire c.see_noted-one.ensures)
    (subst (λ (w : ℕ). IsSeenAt gates w c.next_on-far.result c.see_noted-other.result) wire c.see_noted-other.ensures)
    (c.has_admitting-2.ensures.none none)
