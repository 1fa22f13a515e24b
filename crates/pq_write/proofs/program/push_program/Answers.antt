use Rattle.std.proofs.Common.{◌≡◌, ◌++◌, codes, map, flat_map, ap, ◌∙◌}
use Rattle.pq_text.specs.Print.{header, register_line, gate_line, tail_line}
use Rattle.pq_read.specs.Environment.{view, register_view, item_view}
use Rattle.pq_write.proofs.Listing.{assembled}
use Rattle.pq_write.proofs.program.push_program.Goals as goal

pub push_gate_lines-requires-clause-circuit : goal.push_gate_lines-requires-clause-circuit
push_gate_lines-requires-clause-circuit c = rw (c.requires.wires, c.as_slice-3.ensures) c.requires.well_formed.circuit

pub returns-clause-items : goal.returns-clause-items
returns-clause-items c =
    let p = view c.args.program.now in
    let none = c.args.out.now.items in
    let one = c.push_header.new.out.items in
    let two = c.push_register_lines.new.out.items in
    let three = c.push_register_lines-2.new.out.items in
    let four = c.push_gate_lines.new.out.items in
    let five = c.push_tail_lines.new.out.items in
    let wires : c.args.wires.now ≡ p.qregs = c.requires.wires in
    let bits : c.args.bits.now ≡ p.cregs = c.requires.bits in
    let items = c.as_slice-3.ensures in
    let entries = c.as_slice-4.ensures in
    let quantum_lines : two ≡ one ++ flat_map (register_line (codes "qreg")) p.qregs =
    c.push_register_lines.ensures.items ∙ ap (λ rs. one ++ flat_map (register_line (codes "qreg")) (map register_view rs)) c.as_slice.ensures
    in
    let classical_lines : three ≡ two ++ flat_map (register_line (codes "creg")) p.cregs =
    c.push_register_lines-2.ensures.items ∙ ap (λ rs. two ++ flat_map (register_line (codes "creg")) (map register_view rs)) c.as_slice-2.ensures
    in
    let gate_lines : four ≡ three ++ flat_map (gate_line p.qregs) p.gates =
    c.push_gate_lines.ensures.items ∙ (λ i. three ++ flat_map (gate_line (wires i)) (items i))
    in
    let tail_lines : five ≡ four ++ flat_map (tail_line p.qregs p.cregs) p.tail =
    c.push_tail_lines.ensures.items ∙ (λ i. four ++ flat_map (tail_line (wires i) (bits i)) (map item_view (entries i)))
    in
    assembled none one two three four five header _ _ _ _ c.push_header.ensures.items quantum_lines classical_lines gate_lines tail_lines
