use Rattle.pq_lex.proofs.Ending.{ends_for_good}
use Rattle.pq_lex.proofs.laws.texts_end_for_good.Goals as goal

pub returns : goal.returns
returns c = λ p some h. ends_for_good p some h
