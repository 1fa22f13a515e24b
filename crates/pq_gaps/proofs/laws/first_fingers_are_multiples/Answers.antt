use Rattle.pq_gaps.proofs.Multiples.{first_rises, first_contained, first_contains}
use Rattle.pq_gaps.proofs.laws.first_fingers_are_multiples.Goals as goal

pub returns-clause-rising : goal.returns-clause-rising
returns-clause-rising c = first_rises

pub returns-clause-exactly : goal.returns-clause-exactly
returns-clause-exactly c live window gap some = (first_contained live window gap some, first_contains live window gap some)
