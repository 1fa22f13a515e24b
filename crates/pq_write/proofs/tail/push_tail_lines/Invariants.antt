use Rattle.std.proofs.Common.{◌≡◌, ◌++◌, take, map, flat_map}
use Rattle.pq_text.specs.Print.{tail_line}
use Rattle.pq_read.specs.Environment.{item_view}
use Rattle.pq_write.proofs.tail.push_tail_lines.Given as goal

abbrev pub invariant-loop-item : goal.invariant-loop-item
invariant-loop-item l = record {
  items : l.out.items ≡ l.initial.out.items ++ flat_map (tail_line l.wires l.bits) (take l.item-index (map item_view l.items));
  room : l.out.room ≡ l.initial.out.room;
}
