use Rattle.std.proofs.Common.{◌≡◌, ◌+◌, ◌++◌, take, replicate, vec_len, vec_capacity}
use Rattle.pq_list.proofs.resize_reserved.Given as goal

abbrev pub invariant-loop-filled : goal.invariant-loop-filled
invariant-loop-filled g l = record {
  items : l.list.items ≡ take l.count l.fn.list.items ++ replicate l._filled l.filler;
  len : vec_len l.list + l.missing ≡ l.count + l._filled;
  capacity : vec_capacity l.list ≡ vec_capacity l.fn.list;
}
