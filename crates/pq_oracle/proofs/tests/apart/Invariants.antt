use Rattle.std.proofs.Common.{◌≡◌, ◌+◌, length}
use Rattle.pq_oracle.proofs.tests.apart.Given as goal

abbrev pub invariant-loop-number : goal.invariant-loop-number
invariant-loop-number l = record {
  len : length l.seg.items ≡ l.number + 1;
  room : l.seg.room ≡ l.count + 4;
}
