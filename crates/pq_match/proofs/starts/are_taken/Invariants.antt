use Rattle.std.proofs.Common.{ℕ, ◌<◌}
use Rattle.pq_gate.specs.Commuting.{Touches}
use Rattle.pq_links.specs.Slots.{no_wire}
use Rattle.pq_match.specs.Redex.{gate_at}
use Rattle.pq_match.proofs.starts.are_taken.Given as goal

abbrev pub invariant-loop-gate : goal.invariant-loop-gate
invariant-loop-gate l = (p : ℕ) → p < l.gate-index → ¬ Touches (gate_at l.gates p) no_wire
