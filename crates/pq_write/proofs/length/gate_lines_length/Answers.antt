use Rattle.std.proofs.Common.{arith}
use Rattle.std.proofs.lemmas.List.Folds.{length-flat_map-take}
use Rattle.pq_gate.specs.declared.gate.Gate.TheVariants.{H}
use Rattle.pq_text.specs.Print.{gate_line}
use Rattle.pq_write.proofs.length.gate_lines_length.Goals as goal

pub overflow_add-sum : goal.overflow_add-sum
overflow_add-sum c =
    omega (arith, length-flat_map-take (gate_line c.args.wires.now) c.args.gates.now c.loop-gate.gate-index (H 0) c.loop-gate-test.true, c.requires.fits)
