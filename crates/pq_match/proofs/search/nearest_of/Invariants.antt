use Rattle.std.proofs.Common.{ℕ, ◌<◌}
use Rattle.pq_gate.specs.Commuting.{Touches}
use Rattle.pq_gate.specs.Ports.{first_wire}
use Rattle.pq_match.specs.Redex.{gate_at}
use Rattle.pq_match.proofs.search.nearest_of.Given as goal

-- the gates before this one don't use the wire
abbrev pub invariant-loop-number : goal.invariant-loop-number
invariant-loop-number l = (number : ℕ) → 0 < number → number < l.number → ¬ Touches (gate_at l.pattern number) (first_wire (gate_at l.pattern 0))
