use Rattle.pq_finger.proofs.Exactly.{settled_rising, settled_exactly}
use Rattle.pq_finger.proofs.laws.settled_places_are_kept.Goals as goal

pub returns-clause-rising : goal.returns-clause-rising
returns-clause-rising c = settled_rising

pub returns-clause-exactly : goal.returns-clause-exactly
returns-clause-exactly c = settled_exactly
