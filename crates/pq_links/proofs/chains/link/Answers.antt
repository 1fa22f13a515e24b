use Rattle.std.proofs.Common.{rules}
use Rattle.pq_links.proofs.Linking.{linked_between}
use Rattle.pq_links.proofs.chains.link.Goals as goal

pub returns-clause-chained : goal.returns-clause-chained
returns-clause-chained c = search (rules, linked_between)
