use Rattle.pq_gate.proofs.MoveLaws.{entry_exchange}
use Rattle.pq_gate.proofs.laws.commuting_gates_exchange.Goals as goal

pub returns : goal.returns
returns c = entry_exchange
