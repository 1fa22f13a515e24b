-- Rounds from the first fingers until there is no finger, and what is left then.
use Rattle.std.specs.Prelude.{ℕ, ◌+◌, ◌%◌, ◌<◌, ◌≤◌, List, [], ◌∷◌, length, Contains}
use Rattle.std.specs.List.{sum_by}
use Rattle.pq_gate.specs.declared.gate.Gate.{Gate}
use Rattle.pq_rules.specs.Row.{RowView}
use Rattle.pq_gaps.specs.Gaps.{segment_from, segment_to, first_fingers}
use Rattle.pq_match.specs.Redex.{RedexView, IsRedex, HasNoRedex}
use Rattle.pq_method.specs.declared.step.Step.{Step}
use Rattle.pq_method.specs.Round.{State, Round, run}

-- the numbers of a round, and how many gates there were before and after it
pub record RoundNumbers : Type 0 where
  pub step : Step
  pub before : ℕ
  pub after : ℕ

-- those of a round that led one state to another
abbrev pub numbers_of : State → State → Step → RoundNumbers
numbers_of before after step = record { step = step; before = length before.gates; after = length after.gates }

-- the oracle's calls in some rounds: the selected fingers of all of them
abbrev pub calls_of : List RoundNumbers → ℕ
calls_of rounds = sum_by (λ round. round.step.selected) rounds

-- by how many eighths some rounds turned together
abbrev pub phase_of : List RoundNumbers → ℕ
phase_of rounds = sum_by (λ round. round.step.phase) rounds % 8

-- the gates that are left, and the rounds in order
pub record Total : Type 0 where
  pub gates : List Gate
  pub rounds : List RoundNumbers

-- no round any more
abbrev pub no_rounds : List Gate → Total
no_rounds gates = record { gates = gates; rounds = [] }

-- a round, and then the others
abbrev pub after_round : RoundNumbers → Total → Total
after_round numbers total = record { gates = total.gates; rounds = numbers ∷ total.rounds }

-- rounds follow until there is no finger
pub data Rounds (rules : List RowView) (omega : ℕ) : State → Total → Type 0 where
  done : (gates : List Gate) → Rounds rules omega (record { gates = gates; fingers = [] }) (no_rounds gates)
  round : (before after : State) (step : Step) (total : Total) → 0 < length before.fingers → Round rules omega before after step
      → Rounds rules omega after total → Rounds rules omega before (after_round (numbers_of before after step) total)

-- the state that rounds begin with
abbrev pub first_state : ℕ → List Gate → State
first_state omega gates = record { gates = gates; fingers = first_fingers (length gates) omega }

-- what the optimiser makes of the gates
abbrev pub Opt : List RowView → ℕ → List Gate → Total → Type 0
Opt rules omega gates total = Rounds rules omega (first_state omega gates) total

-- no run of at most omega gates has a redex
abbrev pub Local : List RowView → ℕ → List Gate → Type 0
Local rules omega gates = (from to : ℕ) → from ≤ to → to ≤ length gates → to ≤ from + omega → HasNoRedex rules (run gates from to)

-- each run of at most omega gates that has a redex lies inside the segment of a finger
abbrev pub Cover : List RowView → ℕ → State → Type 0
Cover rules omega state = (from to : ℕ) (redex : RedexView) → from ≤ to → to ≤ length state.gates → to ≤ from + omega
    → IsRedex rules (run state.gates from to) redex
    → (finger : ℕ) × Contains state.fingers finger × (segment_from omega finger ≤ from) × (to ≤ segment_to omega (length state.gates) finger)
