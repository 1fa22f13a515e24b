use Rattle.pq_command.proofs.Faultless.{gates_faultless, omega_faultless, qubits_faultless, seed_faultless, workers_faultless}
use Rattle.pq_command.proofs.reading.with_numbers.Goals as goal

pub small_number-omega-requires-clause-faultless :
    goal.small_number-omega-requires-clause-faultless
small_number-omega-requires-clause-faultless c = omega_faultless _ _ c.requires

pub small_number-workers-requires-clause-faultless :
    goal.small_number-workers-requires-clause-faultless
small_number-workers-requires-clause-faultless c = workers_faultless _ _ c.requires

pub number-seed-requires : goal.number-seed-requires
number-seed-requires c = seed_faultless c.args.command _ c.requires

pub small_number-qubits-requires-clause-faultless :
    goal.small_number-qubits-requires-clause-faultless
small_number-qubits-requires-clause-faultless c = qubits_faultless c.args.command _ c.requires

pub small_number-gates-requires-clause-faultless :
    goal.small_number-gates-requires-clause-faultless
small_number-gates-requires-clause-faultless c = gates_faultless c.args.command _ c.requires
