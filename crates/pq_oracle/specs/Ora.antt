-- The oracle: what a list of gates is rewritten to.
use Rattle.std.specs.Prelude.{ℕ, ◌+◌, ◌%◌, Bool, true, false, List, length}
use Rattle.pq_gate.specs.declared.gate.Gate.{Gate}
use Rattle.pq_rules.specs.Row.{RowView}
use Rattle.pq_match.specs.Redex.{RedexView, HasNoRedex}
use Rattle.pq_match.specs.First.{IsFirst}
use Rattle.pq_match.specs.Rewrite.{rewritten}

-- the gates that the oracle leaves, whether it found a redex, and by how many eighths the matrix was turned
pub record Answer : Type 0 where
  pub gates : List Gate
  pub improved : Bool
  pub phase : ℕ

-- the answer to a list without a redex
abbrev pub untouched : List Gate → Answer
untouched gates = record { gates = gates; improved = false; phase = 0 }

-- an answer after one rewriting more, which has this phase
abbrev pub after_one : ℕ → Answer → Answer
after_one phase answer = record { gates = answer.gates; improved = true; phase = (phase + answer.phase) % 8 }

-- While there is a redex, the first one is rewritten; the phases of the rows are added modulo 8.
pub data Ora (rules : List RowView) : List Gate → Answer → Type 0 where
  ends : (gates : List Gate) → HasNoRedex rules gates → Ora rules gates (untouched gates)
  goes : (gates : List Gate) (redex : RedexView) (first : IsFirst rules gates (length gates) redex) (answer : Answer)
      → Ora rules (rewritten gates first.is.row.replacement redex) answer
      → Ora rules gates (after_one first.is.row.phase answer)
