use Rattle.std.proofs.Common.{◌≡◌, length, take, map, flat_map}
use Rattle.pq_text.specs.Print.{tail_line}
use Rattle.pq_read.specs.Environment.{item_view}
use Rattle.pq_write.proofs.length.tail_lines_length.Given as goal

abbrev pub invariant-loop-item : goal.invariant-loop-item
invariant-loop-item l =
    l.sum ≡ length (flat_map (tail_line l.wires l.bits) (take l.item-index (map item_view l.items)))
