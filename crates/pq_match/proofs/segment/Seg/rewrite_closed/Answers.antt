use Rattle.std.proofs.Common.{List, sym, subst}
use Rattle.pq_gate.specs.declared.gate.Gate.{Gate}
use Rattle.pq_match.specs.Redex.{HasNoRedex}
use Rattle.pq_match.specs.Segment.{held}
use Rattle.pq_match.specs.Work.{IsFirstRewritten}
use Rattle.pq_match.proofs.Working.{held_closed, closed_rewritten, known_closed}
use Rattle.pq_match.proofs.segment.Seg.rewrite_closed.Goals as goal

pub returns-in_default-clause-none : goal.returns-in_default-clause-none
returns-in_default-clause-none c = subst (HasNoRedex c.args.rules.now) (sym (held_closed c.args.self.now c.requires.closed)) c.in_default.ensures.none

pub returns-in_default-clause-known : goal.returns-in_default-clause-known
returns-in_default-clause-known c = known_closed c.args.rules.now c.args.self.now c.requires.closed c.in_default.ensures.none

pub returns-clause-first : goal.returns-clause-first
returns-clause-first c =
    subst (λ (old : List Gate). IsFirstRewritten c.args.rules.now old (held c.load.new.self) c.apply-phase.result) (sym (held_closed c.args.self.now c.requires.closed))
    (subst (λ (new : List Gate). IsFirstRewritten c.args.rules.now c.args.self.now.items new c.apply-phase.result) (sym c.load.ensures.held)
    (closed_rewritten c.args.rules.now c.args.self.now.items c.apply-phase.new.self.items c.in-Some.redex c.apply-phase.result c.in-Some.ensures.first c.apply-phase.ensures.rewrites))
