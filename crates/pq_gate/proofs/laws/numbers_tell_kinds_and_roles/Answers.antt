use Rattle.pq_gate.proofs.KindLaws.{same_kind, same_role, number_below, role_below}
use Rattle.pq_gate.proofs.laws.numbers_tell_kinds_and_roles.Goals as goal

pub returns-clause-kinds : goal.returns-clause-kinds
returns-clause-kinds c = same_kind

pub returns-clause-kinds_below : goal.returns-clause-kinds_below
returns-clause-kinds_below c = number_below

pub returns-clause-roles : goal.returns-clause-roles
returns-clause-roles c = same_role

pub returns-clause-roles_below : goal.returns-clause-roles_below
returns-clause-roles_below c = role_below
