use Rattle.std.proofs.Common.{◌*◌, ◌∙◌, ◌+◌, set, get_or}
use Rattle.std.proofs.lemmas.List.{length-set}
use Rattle.pq_gate.specs.declared.gate.Gate.TheVariants.{H}
use Rattle.pq_match.proofs.Spreading.{spread_written}
use Rattle.pq_match.proofs.spread.write_spread.Goals as goal

pub loop-place-preserved : goal.loop-place-preserved
loop-place-preserved c = record {
  slots = spread_written c.loop-place.slots c.args.gates.now c.loop-place.place c.cx.result (H 0) c.loop-place-test.true c.loop-place.invariant.long c.loop-place.invariant.slots c.cx.ensures;
  long = length-set (set c.loop-place.slots (2 * c.loop-place.place) (get_or c.args.gates.now c.loop-place.place (H 0))) (2 * c.loop-place.place + 1) c.cx.result
      ∙ (length-set c.loop-place.slots (2 * c.loop-place.place) (get_or c.args.gates.now c.loop-place.place (H 0)) ∙ c.loop-place.invariant.long);
}
