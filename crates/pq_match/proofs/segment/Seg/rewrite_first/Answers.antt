use Rattle.std.proofs.Common.{◌≡◌, true, List, cond, sym, ap, ◌∙◌, subst, rules}
use Rattle.std.specs.Prelude.{IfNone}
use Rattle.pq_gate.specs.declared.gate.Gate.{Gate}
use Rattle.pq_links.specs.Slots.{gates_in}
use Rattle.pq_match.specs.Redex.{HasNoRedex}
use Rattle.pq_match.specs.Segment.{SegView, held}
use Rattle.pq_match.proofs.Working.{none_loaded}
use Rattle.pq_match.proofs.segment.Seg.rewrite_first.Goals as goal

pub returns-then-self-clause-none : goal.returns-then-self-clause-none
returns-then-self-clause-none c = c.requires.known.none (ap (λ (v : SegView). v.still) (sym c.self.view_is) ∙ c.if-self.true)

pub returns-in_default-clause-none : goal.returns-in_default-clause-none
returns-in_default-clause-none c =
    let loaded : c.self.inside.loaded ≡ true = search rules in
    subst (λ (v : SegView). HasNoRedex c.args.rules.now (held v)) c.self.view_is
    (none_loaded c.args.rules.now (record { items = c.self.inside.gates.items; room = c.self.inside.asked; work = c.self.inside.work; loaded = c.self.inside.loaded; still = c.self.inside.still }) loaded c.in_default.ensures.none)

pub returns-clause-none : goal.returns-clause-none
returns-clause-none c =
    let kept : c.rewrite.new.self.gates ≡ c.self.inside.work.gates = c.in_default-rewrite.ensures.none ∙ c.in-Some.ensures.gates in
    let same : held c.gather.new.self ≡ held c.args.self.now =
    c.gather.ensures.held ∙ (ap (λ (slots : List Gate). cond c.self.inside.loaded (gates_in slots) c.self.inside.gates.items) kept ∙ ap held c.self.view_is) in
    subst (λ (gates : List Gate). IfNone c.rewrite_closed-2.result (HasNoRedex c.args.rules.now gates)) same c.rewrite_closed-2.ensures.none
