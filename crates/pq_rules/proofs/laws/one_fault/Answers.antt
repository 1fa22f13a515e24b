use Rattle.pq_rules.proofs.FaultLaws.{one_fault}
use Rattle.pq_rules.proofs.laws.one_fault.Goals as goal

pub returns : goal.returns
returns c = one_fault
