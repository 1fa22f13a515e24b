use Rattle.pq_array.proofs.Ranks.{rank-le, rank-lt, get_live}
use Rattle.pq_array.proofs.laws.rank_laws.Goals as goal

pub returns-clause-keeps : goal.returns-clause-keeps
returns-clause-keeps c = rank-le

pub returns-clause-rises : goal.returns-clause-rises
returns-clause-rises c = rank-lt

pub returns-clause-gate : goal.returns-clause-gate
returns-clause-gate c = get_live
