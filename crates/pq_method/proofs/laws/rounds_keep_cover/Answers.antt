use Rattle.pq_method.proofs.Covering.{state_after, cover_after}
use Rattle.pq_method.proofs.Falling.{round_falls, round_selects}
use Rattle.pq_method.proofs.Joining.{round_same}
use Rattle.pq_method.proofs.Shortening.{round_shorter}
use Rattle.pq_method.proofs.laws.rounds_keep_cover.Goals as goal

pub returns-clause-state : goal.returns-clause-state
returns-clause-state c = state_after

pub returns-clause-cover : goal.returns-clause-cover
returns-clause-cover c = cover_after

pub returns-clause-same : goal.returns-clause-same
returns-clause-same c = round_same

pub returns-clause-bound : goal.returns-clause-bound
returns-clause-bound c = round_falls

pub returns-clause-shorter : goal.returns-clause-shorter
returns-clause-shorter c = round_shorter

pub returns-clause-selects : goal.returns-clause-selects
returns-clause-selects c = round_selects
