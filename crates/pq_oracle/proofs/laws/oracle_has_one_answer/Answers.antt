use Rattle.pq_oracle.proofs.OneAnswer.{some_answer, one_answer}
use Rattle.pq_oracle.proofs.laws.oracle_has_one_answer.Goals as goal

pub returns-clause-some : goal.returns-clause-some
returns-clause-some c = λ rules gates sound. some_answer rules sound gates

pub returns-clause-only : goal.returns-clause-only
returns-clause-only c = λ rules gates answer other sound left right. one_answer rules sound left right
