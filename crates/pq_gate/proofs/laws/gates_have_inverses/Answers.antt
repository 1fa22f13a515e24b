use Rattle.pq_gate.proofs.InverseLaws.{same_inverse, same_inverse_before, inverse-inverse}
use Rattle.pq_gate.proofs.laws.gates_have_inverses.Goals as goal

pub returns-clause-behind : goal.returns-clause-behind
returns-clause-behind c = same_inverse

pub returns-clause-before : goal.returns-clause-before
returns-clause-before c = same_inverse_before

pub returns-clause-twice : goal.returns-clause-twice
returns-clause-twice c = inverse-inverse
