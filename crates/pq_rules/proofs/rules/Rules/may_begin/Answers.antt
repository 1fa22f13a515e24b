use Rattle.std.proofs.Common.{◌∙◌}
use Rattle.pq_rules.proofs.LaneLaws.{met_numbered, none_numbered}
use Rattle.pq_rules.proofs.rules.Rules.may_begin.Goals as goal

pub returns-in-Some : goal.returns-in-Some
returns-in-Some c =
    met_numbered c.self.inside.rows.items c.args.self.now c.deref.result.now c.args.number c.in-Some.asked.now c.args.last.now c.args.first.now c.are_met.result
    (c.deref.ensures.value ∙ c.self.invariant.8) c.self.view_is c.if-number-eq0.false c.in-Some.ensures.lookup.3.0 (c.in-Some.ensures.lookup.3.1 c.in-Some.asked.now) c.are_met.ensures

pub returns-in-None : goal.returns-in-None
returns-in-None c =
    none_numbered c.self.inside.rows.items c.args.self.now c.deref.result.now c.args.number c.args.last.now c.args.first.now
    (c.deref.ensures.value ∙ c.self.invariant.8) c.self.view_is c.if-number-eq0.false c.in-None.ensures.lookup.3
