use Rattle.std.proofs.Common.{◌≡◌, length, take, flat_map}
use Rattle.pq_text.specs.Print.{gate_line}
use Rattle.pq_write.proofs.length.gate_lines_length.Given as goal

abbrev pub invariant-loop-gate : goal.invariant-loop-gate
invariant-loop-gate l = l.sum ≡ length (flat_map (gate_line l.wires) (take l.gate-index l.gates))
