use Rattle.pq_gate.proofs.WireLaws.{commutes_by_both, commutes_by_first}
use Rattle.pq_gate.proofs.commuting.commutes.Goals as goal

pub returns-then-agree : goal.returns-then-agree
returns-then-agree c = search commutes_by_both

pub returns-else-agree : goal.returns-else-agree
returns-else-agree c = search commutes_by_first
