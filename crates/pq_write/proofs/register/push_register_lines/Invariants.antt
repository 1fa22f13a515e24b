use Rattle.std.proofs.Common.{◌≡◌, ◌++◌, take, map, flat_map}
use Rattle.pq_text.specs.Print.{register_line}
use Rattle.pq_read.specs.Environment.{register_view}
use Rattle.pq_write.proofs.register.push_register_lines.Given as goal

abbrev pub invariant-loop-register : goal.invariant-loop-register
invariant-loop-register l = record {
  items : l.out.items ≡ l.initial.out.items ++ flat_map (register_line l.word) (take l.register-index (map register_view l.registers));
  room : l.out.room ≡ l.initial.out.room;
}
