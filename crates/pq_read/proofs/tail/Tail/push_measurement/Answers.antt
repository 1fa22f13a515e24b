use Rattle.std.proofs.Common.{◌≡◌, map, true, refl, ap, arith}
use Rattle.pq_text.specs.Program.{entries_of}
use Rattle.pq_read.specs.Environment.{item_view}
use Rattle.pq_read.specs.declared.program.TailItem.{TailItem}
use Rattle.pq_read.specs.declared.program.TailItem.TheVariants as items
use Rattle.pq_read.proofs.Counts.{tail_with, measure_told}
use Rattle.pq_read.proofs.tail.Tail.push_measurement.Goals as goal

pub invariant_of-self-2 : goal.invariant_of-self-2
invariant_of-self-2 c =
    let item : TailItem = items.Measure c.args.wire c.args.bit in
    let before : entries_of (map item_view c.self.inside.items.items) ≡ entries_of c.args.self.now = ap entries_of c.self.view_is in
    tail_with c.self.inside.items.items c.push.new.self.items item c.self.inside.entries c.self.inside.measured 1 true c.self.invariant
    c.in_ok-push.ensures.items (omega arith) (omega (arith, c.self.invariant.counted, c.requires)) (measure_told c.self.inside.measured item refl)
