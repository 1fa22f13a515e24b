use Rattle.pq_gate.proofs.RoleLaws.{commutes_roles, roles_commute, along_plays, plays_along_of, touches_plays, plays_touches_of, one_role}
use Rattle.pq_gate.proofs.laws.commuting_goes_by_roles.Goals as goal

pub returns-clause-commuting : goal.returns-clause-commuting
returns-clause-commuting c = λ n g h g_on h_on. (commutes_roles n g h g_on h_on, roles_commute g h)

pub returns-clause-along : goal.returns-clause-along
returns-clause-along c = λ along g w. (along_plays along g w, plays_along_of along g w)

pub returns-clause-touching : goal.returns-clause-touching
returns-clause-touching c = λ g w. (touches_plays g w, plays_touches_of g w)

pub returns-clause-one : goal.returns-clause-one
returns-clause-one c = one_role
