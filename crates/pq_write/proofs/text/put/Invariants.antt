use Rattle.std.proofs.Common.{◌≡◌, ◌++◌, take}
use Rattle.pq_write.proofs.text.put.Given as goal

abbrev pub invariant-loop-byte : goal.invariant-loop-byte
invariant-loop-byte l = record {
  items : l.out.items ≡ l.initial.out.items ++ take l.byte-index l.piece;
  room : l.out.room ≡ l.initial.out.room;
}
