use Rattle.pq_text.proofs.Names.{lawful_told}
use Rattle.pq_text.proofs.name.is_lawful_name.Goals as goal

pub returns-clause-lawful : goal.returns-clause-lawful
returns-clause-lawful c = lawful_told c.has_name_form.result c.args.name.now c.has_name_form.ensures
