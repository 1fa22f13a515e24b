use Rattle.std.proofs.Common.{ℕ}
use Rattle.pq_match.specs.Waiting.{HasNumber, NoneBefore}
use Rattle.pq_match.proofs.WakingWords.{AreWokenTo}
use Rattle.pq_match.proofs.waiting.wake_words.Given as goal

abbrev pub invariant-loop-index : goal.invariant-loop-index
invariant-loop-index l = record {
  woken : AreWokenTo l.waiting l.failed l.reach l.masks l.first l.wires l.index;
  kept : (start : ℕ) → HasNumber l.initial.waiting start → HasNumber l.waiting start;
  none : NoneBefore l.waiting l.lowest;
}
