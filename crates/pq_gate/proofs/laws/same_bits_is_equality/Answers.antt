use Rattle.pq_gate.proofs.BitLaws.{same_bits-iff}
use Rattle.pq_gate.proofs.laws.same_bits_is_equality.Goals as goal

pub returns : goal.returns
returns c = same_bits-iff
