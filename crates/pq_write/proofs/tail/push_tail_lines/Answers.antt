use Rattle.std.proofs.Common.{map, ◌∙◌}
use Rattle.pq_text.specs.Program.{places_of}
use Rattle.pq_text.specs.Print.{tail_line}
use Rattle.pq_text.specs.WellFormed.{IsTailEntry}
use Rattle.pq_read.specs.Environment.{item_view}
use Rattle.pq_write.proofs.Listing.{appended_more, viewed, inside, each_at}
use Rattle.pq_write.proofs.Room.{room_at}
use Rattle.pq_write.proofs.tail.push_tail_lines.Goals as goal

pub push_tail_line-requires-clause-entry : goal.push_tail_line-requires-clause-entry
push_tail_line-requires-clause-entry c =
    let items = c.args.items.now in
    let i = c.loop-item.item-index in
    let t = c.item-item.result in
    each_at (IsTailEntry (places_of c.args.wires.now) (places_of c.args.bits.now)) (map item_view items) i (item_view t) c.requires.each (inside item_view items i c.loop-item-test.true) (viewed item_view items i t c.loop-item-test.true c.item-item.is)

pub push_tail_line-requires-clause-room : goal.push_tail_line-requires-clause-room
push_tail_line-requires-clause-room c =
    let items = c.args.items.now in
    let i = c.loop-item.item-index in
    let t = c.item-item.result in
    room_at (tail_line c.args.wires.now c.args.bits.now) (map item_view items) i (item_view t) c.args.out.now c.loop-item.out (inside item_view items i c.loop-item-test.true) (viewed item_view items i t c.loop-item-test.true c.item-item.is) c.requires.room c.loop-item.invariant.items c.loop-item.invariant.room

pub loop-item-preserved : goal.loop-item-preserved
loop-item-preserved c =
    let items = c.args.items.now in
    let i = c.loop-item.item-index in
    let t = c.item-item.result in
    record {
      items = appended_more (tail_line c.args.wires.now c.args.bits.now) (map item_view items) i (item_view t) c.args.out.now.items c.loop-item.out.items _ (inside item_view items i c.loop-item-test.true) (viewed item_view items i t c.loop-item-test.true c.item-item.is) c.loop-item.invariant.items c.push_tail_line.ensures.items;
      room = c.push_tail_line.ensures.room ∙ c.loop-item.invariant.room;
    }
