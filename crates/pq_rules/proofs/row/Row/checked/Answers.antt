use Rattle.pq_rules.proofs.FaultLaws.{no_fault_of}
use Rattle.pq_rules.proofs.row.Row.checked.Goals as goal

pub returns-clause-ok : goal.returns-clause-ok
returns-clause-ok c = no_fault_of c.args.raw c.args.phase c.requires
