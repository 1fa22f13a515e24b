use Rattle.pq_read.specs.Words.{unsupported_words}
use Rattle.pq_read.proofs.word.is_unsupported.Goals as goal

pub returns : goal.returns
unfolding unsupported_words
returns c = c.is_among.ensures
