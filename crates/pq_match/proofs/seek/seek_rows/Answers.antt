use Rattle.pq_match.proofs.Marking.{looks_on, near_more}
use Rattle.pq_match.proofs.LaneAlike.{lane_more}
use Rattle.pq_match.proofs.SeekRow.{tried_more_alike, tried_all_alike, tried_first_alike}
use Rattle.pq_match.proofs.seek.seek_rows.Goals as goal

pub loop-number-preserved : goal.loop-number-preserved
loop-number-preserved c = record {
  seen = near_more c.try_row.ensures.more c.loop-number.invariant.seen;
  more = looks_on c.loop-number.invariant.more c.try_row.ensures.more;
  last_lane = lane_more c.try_row.ensures.more c.loop-number.invariant.last_lane;
  first_lane = lane_more c.try_row.ensures.more c.loop-number.invariant.first_lane;
  tried = tried_more_alike c.loop-number.invariant.tried c.try_row.ensures.more c.in_default.ensures.finds;
}

pub returns-in-Some-clause-finds : goal.returns-in-Some-clause-finds
returns-in-Some-clause-finds c = tried_first_alike c.requires.linked.are c.loop-number.invariant.tried c.loop-number-test.true c.in-Some.ensures.finds

pub returns-clause-finds : goal.returns-clause-finds
returns-clause-finds c = record {
  near = c.loop-number.invariant.seen;
  none = tried_all_alike c.loop-number.invariant.tried c.loop-number-test.false;
}
