use Rattle.std.proofs.Common.{◌≡◌, ◌+◌, map, flat_map, take, drop, vec_len}
use Rattle.pq_text.specs.Program.{places_of}
use Rattle.pq_read.specs.Environment.{register_view}
use Rattle.pq_write.specs.Table.{IsLaid, texts_of, texts_in}
use Rattle.pq_write.proofs.places.table_of.Given as goal

abbrev pub invariant-loop-register : goal.invariant-loop-register
invariant-loop-register l = record {
  laid : IsLaid l.table;
  count : vec_len l.table.extents + places_of (drop l.register-index (map register_view l.registers)) ≡ places_of (map register_view l.registers);
  texts : texts_of l.table ≡ flat_map texts_in (take l.register-index (map register_view l.registers));
}
