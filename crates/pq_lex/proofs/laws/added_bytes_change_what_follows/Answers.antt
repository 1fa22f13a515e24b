use Rattle.pq_lex.proofs.Added.{changes_later}
use Rattle.pq_lex.proofs.laws.added_bytes_change_what_follows.Goals as goal

pub returns : goal.returns
returns c = changes_later
