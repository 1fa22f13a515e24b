use Rattle.pq_gate.proofs.ExchangeLaws.{Commutes-symmetric}
use Rattle.pq_gate.proofs.laws.commuting_is_symmetric.Goals as goal

pub returns : goal.returns
returns c = Commutes-symmetric
