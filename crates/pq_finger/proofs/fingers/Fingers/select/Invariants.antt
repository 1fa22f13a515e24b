use Rattle.std.proofs.Common.{◌≡◌, ◌≤◌, length, vec_len, vec_capacity}
use Rattle.pq_finger.proofs.Choosing.{ChosenUpTo}
use Rattle.pq_finger.proofs.fingers.Fingers.select.Given as goal

abbrev pub invariant-loop-index : goal.invariant-loop-index
invariant-loop-index l = record {
  chosen : ChosenUpTo l.omega l.ranks l.indexes.items l.last l.index;
  count : vec_len l.indexes ≤ l.index;
  capacity : vec_capacity l.indexes ≡ length l.ranks;
}
