use Rattle.pq_text.specs.Name.{reserved_words}
use Rattle.pq_text.proofs.name.is_reserved.Goals as goal

pub returns : goal.returns
unfolding reserved_words
returns c = c.is_among.ensures
