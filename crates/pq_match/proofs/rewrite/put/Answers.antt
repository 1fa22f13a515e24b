use Rattle.std.proofs.Common.{◌+◌, ap, ◌∙◌, arith, set, take}
use Rattle.pq_gate.specs.declared.gate.Gate.{Gate}
use Rattle.pq_gate.specs.declared.gate.Gate.TheVariants.{H}
use Rattle.pq_rules.specs.Renaming.{renamed}
use Rattle.pq_match.proofs.RewritingLists.{written_more, rest_more}
use Rattle.pq_match.proofs.rewrite.put.Goals as goal

pub loop-index-preserved : goal.loop-index-preserved
loop-index-preserved c = record {
  front = ap (λ (gate : Gate). take (c.args.start + (c.loop-index.index + 1)) (set c.loop-index.gates (c.args.start + c.loop-index.index) gate)) c.rename.ensures
      ∙ written_more (renamed c.args.wires.now) c.args.gates.now c.loop-index.gates c.args.replacement.now c.args.start c.loop-index.index (H 0)
      (omega arith) c.loop-index-test.true c.loop-index.invariant.front;
  rest = rest_more c.args.gates.now c.loop-index.gates c.args.start c.loop-index.index c.rename.result c.loop-index.invariant.rest;
}
