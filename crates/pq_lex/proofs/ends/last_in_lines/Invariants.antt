use Rattle.std.proofs.Common.{ℕ, ◌+◌, ◌<◌, ◌≤◌, length, take}
use Rattle.pq_lex.specs.Ends.{IsEnded}
use Rattle.pq_lex.proofs.ends.last_in_lines.Given as goal

abbrev pub invariant-lines : goal.invariant-lines
invariant-lines l = record {
  within : l.left ≤ length l.text;
  none : (k : ℕ) → l.left ≤ k → k < length l.text → IsEnded l.fn.mode (take (k + 1) l.text) → ⊥;
}

abbrev pub decreases-lines : goal.decreases-lines
decreases-lines l = l.left
