-- What the oracle's calls answer.
use Rattle.std.specs.Prelude.{ℕ, Option, Some, None, List}
use Rattle.pq_gate.specs.declared.gate.Gate.{Gate}
use Rattle.pq_list.specs.Roomed.{Roomed}
use Rattle.pq_rules.specs.Row.{RowView}
use Rattle.pq_oracle.specs.declared.oracle.Outcome.{Outcome}
use Rattle.pq_oracle.specs.Ora.{Answer}

-- the gates that are left, with what came of the segment
abbrev pub answer_of : List Gate → Outcome → Answer
answer_of gates outcome = record { gates = gates; improved = outcome.improved; phase = outcome.phase }

-- what is left of a list of gates: an output, or where there is none, the gates themselves
abbrev pub left_of : Roomed Gate → Option (Roomed Gate) → List Gate
left_of input None = input.items
left_of input (Some output) = output.items

-- a segment that was worked: its ticket, its gates, and the oracle's answer under these rules
pub record WorkedView : Type 0 where
  pub ticket : ℕ
  pub input : List Gate
  pub answer : Answer
  pub rules : List RowView
