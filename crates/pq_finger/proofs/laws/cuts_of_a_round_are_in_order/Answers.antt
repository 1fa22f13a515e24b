use Rattle.pq_finger.proofs.RankLaws.{round_in_order}
use Rattle.pq_finger.proofs.laws.cuts_of_a_round_are_in_order.Goals as goal

pub returns : goal.returns
returns c = round_in_order
