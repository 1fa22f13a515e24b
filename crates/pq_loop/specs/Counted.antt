-- What a finished loop counted, and what rounds from the first fingers end with.
use Rattle.std.specs.Prelude.{◌≡◌, ℕ, List, length}
use Rattle.pq_gate.specs.declared.gate.Gate.{Gate}
use Rattle.pq_rules.specs.Row.{RowView}
use Rattle.pq_method.specs.Opt.{Total, calls_of, phase_of, Opt}
use Rattle.pq_loop.specs.declared.looping.Finished.{Finished}

-- These gates are the ones that were left, and these rounds as many as were counted, with as many calls and the phase
-- that was counted.
pub record IsCounted (total : Total) (finished : Finished) : Type 0 where
  pub gates : finished.gates.items ≡ total.gates
  pub rounds : finished.rounds ≡ length total.rounds
  pub calls : finished.calls ≡ calls_of total.rounds
  pub phase : finished.phase ≡ phase_of total.rounds

-- what was left and counted is what the optimiser makes of the gates
pub record IsEndOf (rules : List RowView) (omega : ℕ) (gates : List Gate) (finished : Finished) : Type 0 where
  pub total : Total
  pub opt : Opt rules omega gates total
  pub counted : IsCounted total finished
