use Rattle.std.proofs.Common.{◌∙◌}
use Rattle.pq_match.proofs.Awaiting.{same_more}
use Rattle.pq_match.proofs.waiting.Starts.settle_at.Goals as goal

pub loop-index-preserved : goal.loop-index-preserved
loop-index-preserved c = record {
  same = same_more c.loop-index-test.true c.loop-index.invariant.same c.settle.ensures.others;
  room = c.settle.ensures.room ∙ c.loop-index.invariant.room;
}
