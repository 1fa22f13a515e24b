use Rattle.std.proofs.Common.{length, take, flat_map, ap, arith}
use Rattle.std.proofs.lemmas.List.{length-append}
use Rattle.std.proofs.lemmas.List.Folds.{length-flat_map-take}
use Rattle.pq_gate.specs.declared.gate.Gate.TheVariants.{H}
use Rattle.pq_text.specs.Print.{gate_line}
use Rattle.pq_write.proofs.gate.push_gate_lines.Goals as goal

pub push_gate_line-requires-clause-room : goal.push_gate_line-requires-clause-room
push_gate_line-requires-clause-room c =
    let line = gate_line c.args.wires.now in
    let i = c.loop-gate.gate-index in
    omega (
      arith,
      length-flat_map-take line c.args.gates.now i (H 0) c.loop-gate-test.true,
      c.requires.room,
      ap length c.loop-gate.invariant.items,
      length-append c.args.out.now.items (flat_map line (take i c.args.gates.now)),
      c.loop-gate.invariant.room,
    )
