use Rattle.std.proofs.Common.{◌≡◌, ◌*◌, map, vec_len, vec_capacity}
use Rattle.std.specs.List.{range_with_len}
use Rattle.pq_finger.proofs.fingers.Fingers.first.Given as goal

abbrev pub invariant-loop-number : goal.invariant-loop-number
invariant-loop-number l = record {
  places : l.places.items ≡ map (λ k. k * l.omega) (range_with_len 0 l.number);
  count : vec_len l.places ≡ l.number;
  capacity : vec_capacity l.places ≡ l.count;
}
