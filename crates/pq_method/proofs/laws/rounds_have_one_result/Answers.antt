use Rattle.pq_method.proofs.OneRound.{round_some, round_only}
use Rattle.pq_method.proofs.laws.rounds_have_one_result.Goals as goal

pub returns-clause-some : goal.returns-clause-some
returns-clause-some c = round_some

pub returns-clause-only : goal.returns-clause-only
returns-clause-only c = round_only
