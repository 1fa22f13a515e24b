use Rattle.std.proofs.Common.{◌+◌, ◌<◌, false, true, arith}
use Rattle.pq_links.specs.Wires.{wire_of}
use Rattle.pq_match.proofs.Leading.{led_to, put_ahead}
use Rattle.pq_match.proofs.SearchGates.{wire_below}
use Rattle.pq_match.proofs.cursors.lead_to.Goals as goal

pub returns-clause-led : goal.returns-clause-led
returns-clause-led c =
    let first_in : wire_of false c.args.of_gate < 3 = wire_below 3 c.args.of_gate false c.requires.on_wires in
    let second_in : wire_of true c.args.of_gate < 3 = wire_below 3 c.args.of_gate true c.requires.on_wires in
    led_to c.args.gates.now c.args.of_gate c.args.place c.args.cursors.now _ _ _ _ _ _ c.first_wire-first.ensures c.last_wire-last.ensures
    c.first_wire.ensures c.last_wire.ensures (omega arith) (omega arith) (omega arith) (omega arith) c.sides_at-sides.ensures.first c.sides_at-sides.ensures.second

pub returns-clause-ahead : goal.returns-clause-ahead
returns-clause-ahead c ahead =
    let first_in : wire_of false c.args.of_gate < 3 = wire_below 3 c.args.of_gate false c.requires.on_wires in
    let second_in : wire_of true c.args.of_gate < 3 = wire_below 3 c.args.of_gate true c.requires.on_wires in
    put_ahead c.args.cursors.now.next c.first_wire-first.result c.last_wire-last.result c.sides_at-sides.result.first c.sides_at-sides.result.second (c.args.place + 1) (omega arith) (omega arith)
    c.sides_at-sides.ensures.first.ahead c.sides_at-sides.ensures.second.ahead ahead
