use Rattle.std.proofs.Common.{List, ap, subst, ◌∙◌}
use Rattle.std.specs.Prelude.{IfNone}
use Rattle.pq_gate.specs.declared.gate.Gate.{Gate}
use Rattle.pq_links.specs.Slots.{gates_in}
use Rattle.pq_match.specs.Redex.{HasNoRedex}
use Rattle.pq_match.specs.Work.{SlotsView}
use Rattle.pq_match.proofs.slots.Slots.find.Goals as goal

pub returns-clause-none : goal.returns-clause-none
returns-clause-none c =
    subst (λ (xs : List Gate). IfNone c.find_in.result (HasNoRedex c.args.rules.now (gates_in xs))) (c.as_slice.ensures.value ∙ ap (λ (v : SlotsView). v.gates) c.self.view_is) c.find_in.ensures.none
