use Rattle.pq_match.proofs.Moving.{rewriting_keeps}
use Rattle.pq_match.proofs.laws.rewriting_keeps_the_matrix.Goals as goal

pub returns : goal.returns
returns c = rewriting_keeps
