use Rattle.pq_gate.specs.declared.gate.Gate.TheVariants.{H}
use Rattle.pq_match.proofs.RewritingWires.{chosen_at, read_more}
use Rattle.pq_match.proofs.rewrite.read_wires.Goals as goal

pub loop-index-preserved : goal.loop-index-preserved
loop-index-preserved c = record {
  len = c.lead.array_long;
  read = λ wires same.
      let here = chosen_at c.args.gates.now c.args.pattern.now wires c.args.places.now same c.loop-index.index (H 0) c.loop-index-test.true in
      read_more c.args.pattern.now c.loop-index.index c.loop-index.wires c.lead.new.wires wires (H 0) c.loop-index-test.true
      (c.loop-index.invariant.read wires same) (c.lead.ensures.touched wires here) (c.lead.ensures.others wires here);
}
