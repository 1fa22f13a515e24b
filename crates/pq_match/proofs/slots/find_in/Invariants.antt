use Rattle.std.proofs.Common.{◌≡◌, ℕ, ◌-◌, ◌<◌, length}
use Rattle.pq_match.specs.Waiting.{IsWaiting}
use Rattle.pq_match.specs.Settled.{AreSettled}
use Rattle.pq_match.proofs.slots.find_in.Given as goal

abbrev pub invariant-starts : goal.invariant-starts
invariant-starts l = record {
  room : l.starts.room ≡ l.fn.starts.room;
  settled : AreSettled l.rules l.slots l.starts;
  asleep : (before : ℕ) → before < l.passed → IsWaiting l.starts before → ⊥;
}

abbrev pub decreases-starts : goal.decreases-starts
decreases-starts l = length l.slots - l.passed
