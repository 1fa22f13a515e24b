use Rattle.pq_gate.proofs.SameLaws.{same_congruent}
use Rattle.pq_gate.proofs.laws.same_in_longer_circuits.Goals as goal

pub returns : goal.returns
returns c = same_congruent
