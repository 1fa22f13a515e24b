use Rattle.pq_gaps.proofs.KeptGaps.{kept_gaps_rising, kept_gaps_exactly}
use Rattle.pq_gaps.proofs.laws.kept_gaps_are_kept.Goals as goal

pub returns-clause-rising : goal.returns-clause-rising
returns-clause-rising c = kept_gaps_rising

pub returns-clause-exactly : goal.returns-clause-exactly
returns-clause-exactly c = kept_gaps_exactly
