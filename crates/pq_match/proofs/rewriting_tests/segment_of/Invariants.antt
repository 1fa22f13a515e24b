use Rattle.std.proofs.Common.{◌≡◌, length, take}
use Rattle.pq_match.proofs.rewriting_tests.segment_of.Given as goal

abbrev pub invariant-loop-gate : goal.invariant-loop-gate
invariant-loop-gate l = record {
  items : l.seg.items ≡ take l.gate-index l.gates;
  room : l.seg.room ≡ length l.gates;
}
