use Rattle.pq_gate.specs.declared.gate.Gate.TheVariants.{H, X, Cx}
use Rattle.pq_gate.proofs.InverseLaws.{same_inverse}
use Rattle.pq_gate.proofs.laws.pairs_do_nothing.Goals as goal

pub returns-clause-h : goal.returns-clause-h
returns-clause-h c = λ n w below. same_inverse n (H w) (below, tt)

pub returns-clause-x : goal.returns-clause-x
returns-clause-x c = λ n w below. same_inverse n (X w) (below, tt)

pub returns-clause-cx : goal.returns-clause-cx
returns-clause-cx c = λ n control target c_below t_below differ. same_inverse n (Cx control target) ((c_below, t_below, differ), tt)
