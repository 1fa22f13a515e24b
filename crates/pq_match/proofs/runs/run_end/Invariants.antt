use Rattle.std.proofs.Common.{◌≡◌, ℕ, ◌<◌, ◌≤◌, true}
use Rattle.pq_links.specs.Slots.{is_free}
use Rattle.pq_match.specs.Redex.{gate_at}
use Rattle.pq_match.proofs.runs.run_end.Given as goal

abbrev pub invariant-loop-place : goal.invariant-loop-place
invariant-loop-place l = (p : ℕ) → l.from ≤ p → p < l.place → is_free (gate_at l.slots p) ≡ true
