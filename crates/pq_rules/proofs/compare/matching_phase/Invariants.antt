use Rattle.std.proofs.Common.{ℕ, ◌<◌, ◌+◌, ◌*◌}
use Rattle.pq_rules.specs.Pairs.{MatchesBelow}
use Rattle.pq_rules.proofs.compare.matching_phase.Given as goal

abbrev pub invariant-loop-phase : goal.invariant-loop-phase
invariant-loop-phase l = record {
  inside : l.last < l.size * l.size;
  none : (k : ℕ) → k < l.phase → MatchesBelow l.left l.right l.size k (l.last + 1) → ⊥;
  some : (k : ℕ) × (k < 8) × MatchesBelow l.left l.right l.size k l.last;
}
