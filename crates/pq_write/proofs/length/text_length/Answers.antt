use Rattle.std.proofs.Common.{◌≡◌, codes, length, map, flat_map, ap, ◌∙◌, arith}
use Rattle.pq_text.specs.Print.{register_line, gate_line, tail_line}
use Rattle.pq_read.specs.Environment.{view, register_view, item_view}
use Rattle.pq_write.proofs.Bounds.{is_short, length_print}
use Rattle.pq_write.proofs.length.text_length.Goals as goal

pub register_lines_length-qregs-requires-clause-fits : goal.register_lines_length-qregs-requires-clause-fits
register_lines_length-qregs-requires-clause-fits c =
    let short = is_short (view c.args.program.now) c.requires.well_formed in
    rw c.as_slice.ensures (omega (arith, short.qregs))

pub register_lines_length-cregs-requires-clause-fits : goal.register_lines_length-cregs-requires-clause-fits
register_lines_length-cregs-requires-clause-fits c =
    let short = is_short (view c.args.program.now) c.requires.well_formed in
    rw c.as_slice-2.ensures (omega (arith, short.cregs))

pub gate_lines_length-gates-requires-clause-circuit : goal.gate_lines_length-gates-requires-clause-circuit
gate_lines_length-gates-requires-clause-circuit c = rw (c.as_slice-3.ensures, c.requires.wires) c.requires.well_formed.circuit

pub gate_lines_length-gates-requires-clause-fits : goal.gate_lines_length-gates-requires-clause-fits
gate_lines_length-gates-requires-clause-fits c =
    let short = is_short (view c.args.program.now) c.requires.well_formed in
    rw (c.as_slice-3.ensures, c.requires.wires) (omega (arith, short.gates))

pub tail_lines_length-tail-requires-clause-fits : goal.tail_lines_length-tail-requires-clause-fits
tail_lines_length-tail-requires-clause-fits c =
    let short = is_short (view c.args.program.now) c.requires.well_formed in
    rw (c.as_slice-4.ensures, c.requires.wires, c.requires.bits) (omega (arith, short.tail))

pub overflow_add-result : goal.overflow_add-result
overflow_add-result c =
    let p = view c.args.program.now in
    let q : c.register_lines_length-qregs.result ≡ length (flat_map (register_line (codes "qreg")) p.qregs) =
    c.register_lines_length-qregs.ensures ∙ ap (λ rs. length (flat_map (register_line (codes "qreg")) (map register_view rs))) c.as_slice.ensures
    in
    let b : c.register_lines_length-cregs.result ≡ length (flat_map (register_line (codes "creg")) p.cregs) =
    c.register_lines_length-cregs.ensures ∙ ap (λ rs. length (flat_map (register_line (codes "creg")) (map register_view rs))) c.as_slice-2.ensures
    in
    let wires = c.requires.wires in
    let bits = c.requires.bits in
    let items = c.as_slice-3.ensures in
    let entries = c.as_slice-4.ensures in
    let g : c.gate_lines_length-gates.result ≡ length (flat_map (gate_line p.qregs) p.gates) =
    c.gate_lines_length-gates.ensures ∙ (λ i. length (flat_map (gate_line (wires i)) (items i)))
    in
    let t : c.tail_lines_length-tail.result ≡ length (flat_map (tail_line p.qregs p.cregs) p.tail) =
    c.tail_lines_length-tail.ensures ∙ (λ i. length (flat_map (tail_line (wires i) (bits i)) (map item_view (entries i))))
    in
    let short = is_short p c.requires.well_formed in
    omega (arith, short.qregs, short.cregs, short.gates, short.tail)

pub overflow_add-result-2 : goal.overflow_add-result-2
overflow_add-result-2 c =
    let p = view c.args.program.now in
    let q : c.register_lines_length-qregs.result ≡ length (flat_map (register_line (codes "qreg")) p.qregs) =
    c.register_lines_length-qregs.ensures ∙ ap (λ rs. length (flat_map (register_line (codes "qreg")) (map register_view rs))) c.as_slice.ensures
    in
    let b : c.register_lines_length-cregs.result ≡ length (flat_map (register_line (codes "creg")) p.cregs) =
    c.register_lines_length-cregs.ensures ∙ ap (λ rs. length (flat_map (register_line (codes "creg")) (map register_view rs))) c.as_slice-2.ensures
    in
    let wires = c.requires.wires in
    let bits = c.requires.bits in
    let items = c.as_slice-3.ensures in
    let entries = c.as_slice-4.ensures in
    let g : c.gate_lines_length-gates.result ≡ length (flat_map (gate_line p.qregs) p.gates) =
    c.gate_lines_length-gates.ensures ∙ (λ i. length (flat_map (gate_line (wires i)) (items i)))
    in
    let t : c.tail_lines_length-tail.result ≡ length (flat_map (tail_line p.qregs p.cregs) p.tail) =
    c.tail_lines_length-tail.ensures ∙ (λ i. length (flat_map (tail_line (wires i) (bits i)) (map item_view (entries i))))
    in
    let short = is_short p c.requires.well_formed in
    omega (arith, short.qregs, short.cregs, short.gates, short.tail)

pub overflow_add-result-3 : goal.overflow_add-result-3
overflow_add-result-3 c =
    let p = view c.args.program.now in
    let q : c.register_lines_length-qregs.result ≡ length (flat_map (register_line (codes "qreg")) p.qregs) =
    c.register_lines_length-qregs.ensures ∙ ap (λ rs. length (flat_map (register_line (codes "qreg")) (map register_view rs))) c.as_slice.ensures
    in
    let b : c.register_lines_length-cregs.result ≡ length (flat_map (register_line (codes "creg")) p.cregs) =
    c.register_lines_length-cregs.ensures ∙ ap (λ rs. length (flat_map (register_line (codes "creg")) (map register_view rs))) c.as_slice-2.ensures
    in
    let wires = c.requires.wires in
    let bits = c.requires.bits in
    let items = c.as_slice-3.ensures in
    let entries = c.as_slice-4.ensures in
    let g : c.gate_lines_length-gates.result ≡ length (flat_map (gate_line p.qregs) p.gates) =
    c.gate_lines_length-gates.ensures ∙ (λ i. length (flat_map (gate_line (wires i)) (items i)))
    in
    let t : c.tail_lines_length-tail.result ≡ length (flat_map (tail_line p.qregs p.cregs) p.tail) =
    c.tail_lines_length-tail.ensures ∙ (λ i. length (flat_map (tail_line (wires i) (bits i)) (map item_view (entries i))))
    in
    let short = is_short p c.requires.well_formed in
    omega (arith, short.qregs, short.cregs, short.gates, short.tail)

pub overflow_add-result-4 : goal.overflow_add-result-4
overflow_add-result-4 c =
    let p = view c.args.program.now in
    let q : c.register_lines_length-qregs.result ≡ length (flat_map (register_line (codes "qreg")) p.qregs) =
    c.register_lines_length-qregs.ensures ∙ ap (λ rs. length (flat_map (register_line (codes "qreg")) (map register_view rs))) c.as_slice.ensures
    in
    let b : c.register_lines_length-cregs.result ≡ length (flat_map (register_line (codes "creg")) p.cregs) =
    c.register_lines_length-cregs.ensures ∙ ap (λ rs. length (flat_map (register_line (codes "creg")) (map register_view rs))) c.as_slice-2.ensures
    in
    let wires = c.requires.wires in
    let bits = c.requires.bits in
    let items = c.as_slice-3.ensures in
    let entries = c.as_slice-4.ensures in
    let g : c.gate_lines_length-gates.result ≡ length (flat_map (gate_line p.qregs) p.gates) =
    c.gate_lines_length-gates.ensures ∙ (λ i. length (flat_map (gate_line (wires i)) (items i)))
    in
    let t : c.tail_lines_length-tail.result ≡ length (flat_map (tail_line p.qregs p.cregs) p.tail) =
    c.tail_lines_length-tail.ensures ∙ (λ i. length (flat_map (tail_line (wires i) (bits i)) (map item_view (entries i))))
    in
    let short = is_short p c.requires.well_formed in
    omega (arith, short.qregs, short.cregs, short.gates, short.tail)

pub returns : goal.returns
returns c =
    let p = view c.args.program.now in
    let q : c.register_lines_length-qregs.result ≡ length (flat_map (register_line (codes "qreg")) p.qregs) =
    c.register_lines_length-qregs.ensures ∙ ap (λ rs. length (flat_map (register_line (codes "qreg")) (map register_view rs))) c.as_slice.ensures
    in
    let b : c.register_lines_length-cregs.result ≡ length (flat_map (register_line (codes "creg")) p.cregs) =
    c.register_lines_length-cregs.ensures ∙ ap (λ rs. length (flat_map (register_line (codes "creg")) (map register_view rs))) c.as_slice-2.ensures
    in
    let wires = c.requires.wires in
    let bits = c.requires.bits in
    let items = c.as_slice-3.ensures in
    let entries = c.as_slice-4.ensures in
    let g : c.gate_lines_length-gates.result ≡ length (flat_map (gate_line p.qregs) p.gates) =
    c.gate_lines_length-gates.ensures ∙ (λ i. length (flat_map (gate_line (wires i)) (items i)))
    in
    let t : c.tail_lines_length-tail.result ≡ length (flat_map (tail_line p.qregs p.cregs) p.tail) =
    c.tail_lines_length-tail.ensures ∙ (λ i. length (flat_map (tail_line (wires i) (bits i)) (map item_view (entries i))))
    in
    omega (arith, length_print p)
