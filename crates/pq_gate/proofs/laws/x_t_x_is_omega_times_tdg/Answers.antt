use Rattle.pq_gate.proofs.EntryLaws.{X_T_X_is_turned_Tdg, X_T_X_same_Tdg}
use Rattle.pq_gate.proofs.laws.x_t_x_is_omega_times_tdg.Goals as goal

pub returns-clause-entries : goal.returns-clause-entries
returns-clause-entries c = X_T_X_is_turned_Tdg

pub returns-clause-same : goal.returns-clause-same
returns-clause-same c = X_T_X_same_Tdg
