use Rattle.pq_io.proofs.Settled.{reading_is_settled}
use Rattle.pq_io.proofs.laws.reading_is_settled.Goals as goal

pub returns : goal.returns
returns c = reading_is_settled
