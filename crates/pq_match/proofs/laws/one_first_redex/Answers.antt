use Rattle.pq_match.proofs.OneFirst.{one_found}
use Rattle.pq_match.proofs.SomeFirst.{some_first}
use Rattle.pq_match.proofs.laws.one_first_redex.Goals as goal

pub returns-clause-some : goal.returns-clause-some
returns-clause-some c = λ rules gates span sound. some_first rules gates sound span

pub returns-clause-only : goal.returns-clause-only
returns-clause-only c = one_found
