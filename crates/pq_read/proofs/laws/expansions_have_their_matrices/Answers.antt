use Rattle.pq_read.proofs.GateMatrices.{y_entries, cz_entries, cy_entries, swap_entries, ccx_entries}
use Rattle.pq_read.proofs.laws.expansions_have_their_matrices.Goals as goal

pub returns-clause-y : goal.returns-clause-y
returns-clause-y c = y_entries

pub returns-clause-cz : goal.returns-clause-cz
returns-clause-cz c = cz_entries

pub returns-clause-cy : goal.returns-clause-cy
returns-clause-cy c = cy_entries

pub returns-clause-swap : goal.returns-clause-swap
returns-clause-swap c = swap_entries

pub returns-clause-ccx : goal.returns-clause-ccx
returns-clause-ccx c = ccx_entries
