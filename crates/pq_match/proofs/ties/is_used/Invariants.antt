use Rattle.std.proofs.Common.{ℕ, ◌<◌, ◌≤◌}
use Rattle.pq_gate.specs.Commuting.{Touches}
use Rattle.pq_match.specs.Redex.{gate_at}
use Rattle.pq_match.proofs.ties.is_used.Given as goal

abbrev pub invariant-loop-number : goal.invariant-loop-number
invariant-loop-number l = (s : ℕ) → l.from ≤ s → s < l.number → ¬ Touches (gate_at l.pattern s) l.wire
