use Rattle.pq_loop.proofs.Numbering.{sums_all}
use Rattle.pq_loop.proofs.one_round.step_of.Goals as goal

pub returns-clause-numbers : goal.returns-clause-numbers
returns-clause-numbers c = search sums_all
