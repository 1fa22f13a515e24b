use Rattle.pq_lex.proofs.Longest.{begins_longest}
use Rattle.pq_lex.proofs.laws.tokens_are_longest.Goals as goal

pub returns : goal.returns
returns c = begins_longest
