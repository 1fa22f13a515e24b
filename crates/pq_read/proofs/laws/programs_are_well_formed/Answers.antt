use Rattle.pq_read.proofs.Kept.{reads_well_formed}
use Rattle.pq_read.proofs.laws.programs_are_well_formed.Goals as goal

pub returns : goal.returns
returns c = reads_well_formed
