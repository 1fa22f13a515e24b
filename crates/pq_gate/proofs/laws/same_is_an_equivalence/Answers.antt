use Rattle.pq_gate.proofs.SameLaws.{same_symmetric, same_transitive, same_modulo}
use Rattle.pq_gate.proofs.laws.same_is_an_equivalence.Goals as goal

pub returns-clause-symmetric : goal.returns-clause-symmetric
returns-clause-symmetric c = same_symmetric

pub returns-clause-transitive : goal.returns-clause-transitive
returns-clause-transitive c = same_transitive

pub returns-clause-modulo : goal.returns-clause-modulo
returns-clause-modulo c = same_modulo
