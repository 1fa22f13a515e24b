use Rattle.pq_finger.proofs.RankLaws.{settled_ranked}
use Rattle.pq_finger.proofs.laws.settled_places_have_the_kept_gaps.Goals as goal

pub returns : goal.returns
returns c = settled_ranked
