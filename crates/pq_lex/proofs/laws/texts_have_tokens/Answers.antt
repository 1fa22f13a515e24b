use Rattle.pq_lex.proofs.Lexing.{tokens_some}
use Rattle.pq_lex.proofs.laws.texts_have_tokens.Goals as goal

pub returns : goal.returns
returns c = tokens_some
