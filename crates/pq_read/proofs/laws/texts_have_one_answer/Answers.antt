use Rattle.pq_read.proofs.Answers.{one_answer}
use Rattle.pq_read.proofs.laws.texts_have_one_answer.Goals as goal

pub returns : goal.returns
returns c = one_answer
