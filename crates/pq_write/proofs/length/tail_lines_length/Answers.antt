use Rattle.std.proofs.Common.{length, map, refl, arith}
use Rattle.pq_text.specs.Program.{places_of}
use Rattle.pq_text.specs.Print.{tail_line}
use Rattle.pq_text.specs.WellFormed.{IsTailEntry}
use Rattle.pq_read.specs.Environment.{item_view}
use Rattle.pq_write.proofs.Listing.{length_more, viewed, inside, each_at}
use Rattle.pq_write.proofs.length.tail_lines_length.Goals as goal

pub tail_line_length-sum-requires-clause-entry : goal.tail_line_length-sum-requires-clause-entry
tail_line_length-sum-requires-clause-entry c =
    let items = c.args.items.now in
    let i = c.loop-item.item-index in
    let t = c.item-item.result in
    each_at (IsTailEntry (places_of c.args.wires.now) (places_of c.args.bits.now)) (map item_view items) i (item_view t) c.requires.each (inside item_view items i c.loop-item-test.true) (viewed item_view items i t c.loop-item-test.true c.item-item.is)

pub tail_line_length-sum-requires-clause-fits : goal.tail_line_length-sum-requires-clause-fits
tail_line_length-sum-requires-clause-fits c =
    let items = c.args.items.now in
    let i = c.loop-item.item-index in
    let t = c.item-item.result in
    let line = tail_line c.args.wires.now c.args.bits.now in
    let more = length_more line (map item_view items) i (item_view t) c.loop-item.sum (length (line (item_view t))) (inside item_view items i c.loop-item-test.true) (viewed item_view items i t c.loop-item-test.true c.item-item.is) c.loop-item.invariant refl in
    omega (arith, more.within, c.requires.fits)

pub overflow_add-sum : goal.overflow_add-sum
overflow_add-sum c =
    let items = c.args.items.now in
    let i = c.loop-item.item-index in
    let t = c.item-item.result in
    let more = length_more (tail_line c.args.wires.now c.args.bits.now) (map item_view items) i (item_view t) c.loop-item.sum c.tail_line_length-sum.result (inside item_view items i c.loop-item-test.true) (viewed item_view items i t c.loop-item-test.true c.item-item.is) c.loop-item.invariant c.tail_line_length-sum.ensures in
    omega (arith, more.within, c.requires.fits)

pub loop-item-preserved : goal.loop-item-preserved
loop-item-preserved c =
    let items = c.args.items.now in
    let i = c.loop-item.item-index in
    let t = c.item-item.result in
    let more = length_more (tail_line c.args.wires.now c.args.bits.now) (map item_view items) i (item_view t) c.loop-item.sum c.tail_line_length-sum.result (inside item_view items i c.loop-item-test.true) (viewed item_view items i t c.loop-item-test.true c.item-item.is) c.loop-item.invariant c.tail_line_length-sum.ensures in
    more.count
