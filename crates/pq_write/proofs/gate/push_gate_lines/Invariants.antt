use Rattle.std.proofs.Common.{◌≡◌, ◌++◌, take, flat_map}
use Rattle.pq_text.specs.Print.{gate_line}
use Rattle.pq_write.proofs.gate.push_gate_lines.Given as goal

abbrev pub invariant-loop-gate : goal.invariant-loop-gate
invariant-loop-gate l = record {
  items : l.out.items ≡ l.initial.out.items ++ flat_map (gate_line l.wires) (take l.gate-index l.gates);
  room : l.out.room ≡ l.initial.out.room;
}
