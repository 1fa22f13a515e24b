use Rattle.std.proofs.Common.{◌≡◌, ◌++◌, take, vec_capacity}
use Rattle.pq_match.proofs.segment.put_behind.Given as goal

abbrev pub invariant-loop-gate : goal.invariant-loop-gate
invariant-loop-gate l = record {
  items : l.list.items ≡ l.fn.list.items ++ take l.gate-index l.gates;
  capacity : vec_capacity l.list ≡ vec_capacity l.fn.list;
}
