use Rattle.pq_gate.proofs.MoveLaws.{entry_moves_past, same_moved_past, same_moved_inside}
use Rattle.pq_gate.proofs.laws.a_gate_moves_past_commuting_gates.Goals as goal

pub returns-clause-entries : goal.returns-clause-entries
returns-clause-entries c = entry_moves_past

pub returns-clause-same : goal.returns-clause-same
returns-clause-same c = same_moved_past

pub returns-clause-inside : goal.returns-clause-inside
returns-clause-inside c = same_moved_inside
