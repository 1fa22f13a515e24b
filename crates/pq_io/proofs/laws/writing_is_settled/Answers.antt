use Rattle.pq_io.proofs.Settled.{writing_is_settled}
use Rattle.pq_io.proofs.laws.writing_is_settled.Goals as goal

pub returns : goal.returns
returns c = writing_is_settled
