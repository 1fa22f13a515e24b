use Rattle.pq_method.proofs.Ending.{opt_local, opt_same, opt_bound, opt_rounds}
use Rattle.pq_method.proofs.Shortening.{opt_shorter}
use Rattle.pq_method.proofs.laws.opt_is_local.Goals as goal

pub returns-clause-local : goal.returns-clause-local
returns-clause-local c = opt_local

pub returns-clause-same : goal.returns-clause-same
returns-clause-same c = opt_same

pub returns-clause-shorter : goal.returns-clause-shorter
returns-clause-shorter c = opt_shorter

pub returns-clause-bound : goal.returns-clause-bound
returns-clause-bound c = opt_bound

pub returns-clause-rounds : goal.returns-clause-rounds
returns-clause-rounds c = opt_rounds
