use Rattle.pq_gate.proofs.KindLaws.{kind_on_wires, kind_of-gate_on}
use Rattle.pq_gate.proofs.WireLaws.{uses_listed, lists_used, touched, touching}
use Rattle.pq_gate.proofs.laws.a_gate_is_its_kind_on_its_wires.Goals as goal

pub returns-clause-gate : goal.returns-clause-gate
returns-clause-gate c = kind_on_wires

pub returns-clause-kind : goal.returns-clause-kind
returns-clause-kind c = kind_of-gate_on

pub returns-clause-wires : goal.returns-clause-wires
returns-clause-wires c = λ g w. (lists_used g w, uses_listed g w)

pub returns-clause-ends : goal.returns-clause-ends
returns-clause-ends c = λ g w. (touched g w, touching g w)
