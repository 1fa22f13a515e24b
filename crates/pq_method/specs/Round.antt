-- One round over a list of gates and its fingers.
use Rattle.std.specs.Prelude.{◌≡◌, ℕ, ◌+◌, ◌-◌, ◌%◌, ◌≤◌, if◌then◌else◌, List, [], ◌∷◌, length, map, take, drop, All}
use Rattle.std.specs.List.Sorted.{IsStrictlyIncreasing}
use Rattle.pq_gate.specs.declared.gate.Gate.{Gate}
use Rattle.pq_rules.specs.Row.{RowView}
use Rattle.pq_list.specs.Spliced.{spliced}
use Rattle.pq_gaps.specs.Gaps.{GapCut, segment_from, segment_to, selected, new_fingers}
use Rattle.pq_oracle.specs.Ora.{Answer, Ora}
use Rattle.pq_method.specs.declared.step.Step.{Step}

-- The gates, and the fingers: gaps where the gates are still to be looked at. A gap is numbered by the gates
-- before it.
pub record State : Type 0 where
  pub gates : List Gate
  pub fingers : List ℕ

-- the fingers rise, and are gaps of the gates, the ends included
pub record IsState (state : State) : Type 0 where
  pub rising : IsStrictlyIncreasing state.fingers
  pub inside : All (λ finger. finger ≤ length state.gates) state.fingers

-- the gates from one gap to another
abbrev pub run : List Gate → ℕ → ℕ → List Gate
run gates from to = take (to - from) (drop from gates)

-- What a round did at a selected finger: the gaps from which and to which its segment goes, and the oracle's
-- answer to the segment.
pub record Work : Type 0 where
  pub finger : ℕ
  pub from : ℕ
  pub to : ℕ
  pub answer : Answer

-- the same for the fingers, which the gates themselves don't matter to
abbrev pub cut_of : Work → GapCut
cut_of work = record {
  finger = work.finger;
  from = work.from;
  to = work.to;
  improved = work.answer.improved;
  lost = work.to - work.from - length work.answer.gates;
}

-- the finger's segment of these gates was given to the oracle
pub record IsWorkOf (rules : List RowView) (omega : ℕ) (gates : List Gate) (work : Work) : Type 0 where
  pub begins : work.from ≡ segment_from omega work.finger
  pub ends : work.to ≡ segment_to omega (length gates) work.finger
  pub oracle : Ora rules (run gates work.from work.to) work.answer

-- the gates with each answer in the place of its segment, where the segments are in order and don't overlap
abbrev pub joined : List Gate → List Work → List Gate
joined gates [] = gates
joined gates (work ∷ works) = spliced (joined gates works) work.from work.to work.answer.gates

-- how many segments were improved, and by how many eighths the segments turned together
abbrev pub improved_of : List Work → ℕ
improved_of [] = 0
improved_of (work ∷ works) = (if work.answer.improved then 1 else 0) + improved_of works

abbrev pub phases_of : List Work → ℕ
phases_of [] = 0
phases_of (work ∷ works) = work.answer.phase + phases_of works

-- A round: the segments of the selected fingers are given to the oracle, all at once, and its answers stand
-- in their places; the selected fingers are dropped, and so on (`new_fingers`).
pub record Round (rules : List RowView) (omega : ℕ) (before after : State) (step : Step) : Type 0 where
  pub works : List Work
  pub selects : map (λ (work : Work). work.finger) works ≡ selected omega before.fingers
  pub each : All (IsWorkOf rules omega before.gates) works
  pub gates : after.gates ≡ joined before.gates works
  pub fingers : after.fingers ≡ new_fingers (length before.gates) (map cut_of works) before.fingers
  pub selected_is : step.selected ≡ length works
  pub improved_is : step.improved ≡ improved_of works
  pub removed_is : step.removed ≡ length before.gates - length after.gates
  pub phase_is : step.phase ≡ phases_of works % 8
