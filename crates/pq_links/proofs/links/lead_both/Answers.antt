use Rattle.std.proofs.Common.{arith}
use Rattle.pq_links.proofs.Leading.{led_once, led_twice}
use Rattle.pq_links.proofs.links.lead_both.Goals as goal

pub returns : goal.returns
returns c =
    led_twice c.args.slots.now c.args.gate c.args.at c.args.to c.args.sides.now c.lead.new.next c.lead-2.new.next c.first_wire-wire.result c.last_wire-other.result
    c.first_wire-wire.ensures c.last_wire-other.ensures (record { led = c.lead.ensures.led; others = c.lead.ensures.others }) (record { led = c.lead-2.ensures.led; others = c.lead-2.ensures.others }) (omega arith)

pub returns-then-to : goal.returns-then-to
returns-then-to c =
    led_once c.args.slots.now c.args.gate c.args.at c.args.to c.args.sides.now c.lead.new.next c.first_wire-wire.result c.last_wire-other.result
    c.first_wire-wire.ensures c.last_wire-other.ensures c.if-wire-other.true c.if-at.true c.if-to.true (record { led = c.lead.ensures.led; others = c.lead.ensures.others }) (omega arith)
