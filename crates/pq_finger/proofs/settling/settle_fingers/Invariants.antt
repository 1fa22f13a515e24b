use Rattle.std.proofs.Common.{◌≡◌, vec_capacity}
use Rattle.pq_finger.specs.Settling.{SettledUpTo}
use Rattle.pq_finger.proofs.settling.settle_fingers.Given as goal

abbrev pub invariant-loop-index : goal.invariant-loop-index
invariant-loop-index l = record {
  settled : SettledUpTo l.places l.cuts l.list.items l.index l.behind;
  capacity : vec_capacity l.list ≡ vec_capacity l.initial.list;
}
