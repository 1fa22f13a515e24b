use Rattle.pq_rules.specs.Pairs.{MatchesBelow}
use Rattle.pq_rules.proofs.compare.first_mismatch.Given as goal

abbrev pub invariant-loop-pair : goal.invariant-loop-pair
invariant-loop-pair l = MatchesBelow l.left l.right l.size l.phase l.pair
