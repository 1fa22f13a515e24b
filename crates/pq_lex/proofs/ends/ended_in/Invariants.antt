use Rattle.std.proofs.Common.{◌≡◌, ℕ, ◌+◌, ◌<◌, ◌≤◌, take}
use Rattle.pq_lex.specs.Ends.{mode_after, IsEnded}
use Rattle.pq_lex.proofs.ends.ended_in.Given as goal

abbrev pub invariant-loop-i : goal.invariant-loop-i
invariant-loop-i l = record {
  ended : 1 ≤ l.found.count → IsEnded l.fn.mode (take l.found.count l.text);
  within : l.found.count ≤ l.i;
  last : (k : ℕ) → l.found.count ≤ k → k < l.i → IsEnded l.fn.mode (take (k + 1) l.text) → ⊥;
  mode : l.found.mode ≡ mode_after l.fn.mode (take l.i l.text);
}
