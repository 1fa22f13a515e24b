use Rattle.pq_generate.proofs.Formed.{formed}
use Rattle.pq_generate.proofs.generating.generate.Goals as goal

pub returns-clause-well_formed : goal.returns-clause-well_formed
returns-clause-well_formed c =
    formed _ _ _ _ c.in_ok-program.program c.in_ok-list.ensures c.in_ok-program.ensures c.requires.qubits c.requires.gates
