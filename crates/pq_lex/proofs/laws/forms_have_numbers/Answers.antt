use Rattle.pq_lex.proofs.Forms.{same_form}
use Rattle.pq_lex.proofs.laws.forms_have_numbers.Goals as goal

pub returns : goal.returns
returns c = same_form
