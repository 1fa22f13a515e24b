-- Rounds leave no more gates than there were.
use Rattle.std.proofs.Common.{ℕ, ◌<◌, ◌≤◌, List, length, ap, arith}
use Rattle.std.specs.Prelude.{All}
use Rattle.pq_gate.specs.declared.gate.Gate.{Gate}
use Rattle.pq_rules.specs.Row.{RowView, IsSound}
use Rattle.pq_method.specs.declared.step.Step.{Step}
use Rattle.pq_method.specs.Round.{State, IsState, Round}
use Rattle.pq_method.specs.Opt.{Total, Rounds, done, round, first_state, Opt}
use Rattle.pq_method.proofs.Covering.{state_after}
use Rattle.pq_method.proofs.Joining.{round_fits}
use Rattle.pq_method.proofs.Keeping.{joined_short}
use Rattle.pq_method.proofs.OneOpt.{first_is_state}

pub round_shorter : (rules : List RowView) (w : ℕ) (before after : State) (step : Step) → All IsSound rules → IsState before →
    Round rules w before after step → length after.gates ≤ length before.gates
round_shorter rules w before after step sound state one =
    omega (
      arith,
      ap (λ (gates : List Gate). length gates) one.gates,
      joined_short rules w before.gates 0 one.works sound (round_fits rules w before after step state one),
    )

rounds_shorter : (rules : List RowView) (w : ℕ) (before : State) (total : Total) → 0 < w → All IsSound rules → IsState before →
    Rounds rules w before total → length total.gates ≤ length before.gates
rounds_shorter rules w _ _ some sound state (done gates) = omega arith
rounds_shorter rules w _ _ some sound state (round before after step total fingers one rest) =
    omega (
      arith,
      round_shorter rules w before after step sound state one,
      rounds_shorter rules w after total some sound (state_after rules w before after step some sound state one) rest,
    )

pub opt_shorter : (rules : List RowView) (w : ℕ) (gates : List Gate) (total : Total) → 0 < w → All IsSound rules →
    Opt rules w gates total → length total.gates ≤ length gates
opt_shorter rules w gates total some sound opt =
    rounds_shorter rules w (first_state w gates) total some sound (first_is_state w gates some) opt
