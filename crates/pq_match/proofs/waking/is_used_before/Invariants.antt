use Rattle.std.proofs.Common.{ℕ, ◌<◌, get_or}
use Rattle.pq_gate.specs.Commuting.{Touches}
use Rattle.pq_match.specs.Redex.{gate_at}
use Rattle.pq_match.proofs.waking.is_used_before.Given as goal

abbrev pub invariant-loop-earlier : goal.invariant-loop-earlier
invariant-loop-earlier l = (k : ℕ) → k < l.earlier → Touches (gate_at l.slots (get_or l.places k 0)) l.wire → ⊥
