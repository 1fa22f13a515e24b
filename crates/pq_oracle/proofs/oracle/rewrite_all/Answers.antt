use Rattle.std.proofs.Common.{◌∙◌, List, sym, subst}
use Rattle.pq_gate.specs.declared.gate.Gate.{Gate}
use Rattle.pq_match.specs.Segment.{held}
use Rattle.pq_oracle.specs.Ora.{Ora}
use Rattle.pq_oracle.specs.Outcomes.{answer_of}
use Rattle.pq_oracle.proofs.Improving.{led_on, led_oracle}
use Rattle.pq_oracle.proofs.oracle.rewrite_all.Goals as goal

pub rewrites-preserved : goal.rewrites-preserved
rewrites-preserved c = record {
  led = led_on c.args.rules.now c.args.seg.now.items (held c.rewrites.seg) (held c.rewrite_first.new.self) c.rewrites.outcome c.in-Some.phase c.rewrites.invariant.led c.in-Some.ensures.first;
  known = c.in-Some.ensures.known;
  room = c.in-Some.ensures.room ∙ c.rewrites.invariant.room;
}

pub returns-clause-oracle : goal.returns-clause-oracle
returns-clause-oracle c =
    subst (λ (xs : List Gate). Ora c.args.rules.now c.args.seg.now.items (answer_of xs c.rewrites.outcome)) (sym c.in_default.ensures.same)
    (led_oracle c.args.rules.now c.args.seg.now.items (held c.rewrites.seg) c.rewrites.outcome c.rewrites.invariant.led c.in_default.ensures.none)
