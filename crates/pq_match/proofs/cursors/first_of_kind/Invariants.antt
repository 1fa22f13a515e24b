use Rattle.std.proofs.Common.{◌≡◌, ℕ, ◌<◌, ◌≤◌}
use Rattle.pq_gate.specs.Kind.{kind_of}
use Rattle.pq_match.specs.Redex.{gate_at}
use Rattle.pq_match.proofs.cursors.first_of_kind.Given as goal

abbrev pub invariant-loop-place : goal.invariant-loop-place
invariant-loop-place l = (place : ℕ) → l.from ≤ place → place < l.place → kind_of (gate_at l.gates place) ≡ kind_of l.of_kind → ⊥
