use Rattle.std.proofs.Common.{ℕ, ◌<◌}
use Rattle.pq_gate.specs.Commuting.{Touches}
use Rattle.pq_match.specs.Redex.{gate_at}
use Rattle.pq_match.proofs.search.next_behind.Given as goal

-- the gates between don't use the wire
abbrev pub invariant-loop-later : goal.invariant-loop-later
invariant-loop-later l = (p : ℕ) → l.place < p → p < l.later → ¬ Touches (gate_at l.gates p) l.wire
