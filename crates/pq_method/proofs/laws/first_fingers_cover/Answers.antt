use Rattle.pq_method.proofs.Ending.{first_covers}
use Rattle.pq_method.proofs.OneOpt.{first_is_state}
use Rattle.pq_method.proofs.laws.first_fingers_cover.Goals as goal

pub returns-clause-state : goal.returns-clause-state
returns-clause-state c = first_is_state

pub returns-clause-cover : goal.returns-clause-cover
returns-clause-cover c = first_covers
