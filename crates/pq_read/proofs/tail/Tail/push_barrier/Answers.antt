use Rattle.std.proofs.Common.{◌≡◌, map, length, vec_len, refl, ap, ◌∙◌, sym, arith}
use Rattle.pq_text.specs.Program.{entries_of}
use Rattle.pq_read.specs.Environment.{item_view}
use Rattle.pq_read.specs.declared.program.TailItem.{TailItem}
use Rattle.pq_read.specs.declared.program.TailItem.TheVariants as items
use Rattle.pq_read.proofs.Counts.{tail_with, barrier_told}
use Rattle.pq_read.proofs.tail.Tail.push_barrier.Goals as goal

pub invariant_of-self-2 : goal.invariant_of-self-2
invariant_of-self-2 c =
    let item : TailItem = items.Barrier c.of.result in
    let before : entries_of (map item_view c.self.inside.items.items) ≡ entries_of c.args.self.now = ap entries_of c.self.view_is in
    let n : length c.of.result.items ≡ vec_len c.args.wires = ap length c.of.ensures.items ∙ sym c.args.wires.ok.0 in
    tail_with c.self.inside.items.items c.push.new.self.items item c.self.inside.entries c.self.inside.measured c.len-count.result c.self.inside.measured c.self.invariant
    c.in_ok-push.ensures.items (omega (arith, c.len-count.ensures)) (omega (arith, c.len-count.ensures, c.self.invariant.counted, c.requires)) (barrier_told c.self.inside.measured item refl)
