use Rattle.std.proofs.Common.{ℕ, ◌<◌}
use Rattle.pq_match.specs.Redex.{gate_at}
use Rattle.pq_match.specs.Search.{AreApart}
use Rattle.pq_match.proofs.search.stands_apart.Given as goal

abbrev pub invariant-loop-before : goal.invariant-loop-before
invariant-loop-before l = (before : ℕ) → before < l.before → AreApart (gate_at l.pattern before) (gate_at l.pattern l.number)
