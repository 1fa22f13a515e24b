use Rattle.pq_method.proofs.OneOpt.{opt_some, opt_only}
use Rattle.pq_method.proofs.laws.opt_has_one_result.Goals as goal

pub returns-clause-some : goal.returns-clause-some
returns-clause-some c = opt_some

pub returns-clause-only : goal.returns-clause-only
returns-clause-only c = opt_only
