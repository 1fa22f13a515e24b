use Rattle.pq_write.proofs.ReadBack.{reads_printed}
use Rattle.pq_write.proofs.laws.texts_are_read_back.Goals as goal

pub returns : goal.returns
returns c = reads_printed
