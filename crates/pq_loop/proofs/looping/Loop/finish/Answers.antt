use Rattle.pq_loop.proofs.Kept.{local_of_view}
use Rattle.pq_loop.proofs.looping.Loop.finish.Goals as goal

pub returns-clause-local : goal.returns-clause-local
returns-clause-local c = local_of_view c.self.invariant c.self.view_is c.requires c.into_gates.ensures.items
