use Rattle.std.proofs.Common.{◌≡◌, ℕ, ◌<◌, ◌%◌, false, true, slice_index, slice_index_or}
use Rattle.pq_gate.specs.Commuting.{Touches}
use Rattle.pq_match.specs.Redex.{gate_at}
use Rattle.pq_match.proofs.search.wires_used.Given as goal

abbrev pub invariant-loop-chosen : goal.invariant-loop-chosen
invariant-loop-chosen l = (s w : ℕ) → s < l.chosen → Touches (gate_at l.gates (slice_index l.places s)) w → slice_index_or l.used (w % 64) false ≡ true
