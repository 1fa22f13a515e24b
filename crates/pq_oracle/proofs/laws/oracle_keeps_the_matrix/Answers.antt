use Rattle.pq_oracle.proofs.Answering.{clean, improved, unchanged, phase, shorter, same}
use Rattle.pq_oracle.proofs.laws.oracle_keeps_the_matrix.Goals as goal

pub returns-clause-clean : goal.returns-clause-clean
returns-clause-clean c = clean

pub returns-clause-improved : goal.returns-clause-improved
returns-clause-improved c = improved

pub returns-clause-unchanged : goal.returns-clause-unchanged
returns-clause-unchanged c = unchanged

pub returns-clause-phase : goal.returns-clause-phase
returns-clause-phase c = phase

pub returns-clause-shorter : goal.returns-clause-shorter
returns-clause-shorter c = shorter

pub returns-clause-same : goal.returns-clause-same
returns-clause-same c = same
