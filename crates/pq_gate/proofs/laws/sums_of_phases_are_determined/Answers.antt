use Rattle.pq_gate.proofs.PhaseLaws.{TurnsBy-unique}
use Rattle.pq_gate.proofs.laws.sums_of_phases_are_determined.Goals as goal

pub returns : goal.returns
returns c = TurnsBy-unique
