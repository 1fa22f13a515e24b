use Rattle.pq_finger.proofs.RankLaws.{moved_ranked}
use Rattle.pq_finger.proofs.laws.moved_places_have_the_new_gaps.Goals as goal

pub returns : goal.returns
returns c = moved_ranked
