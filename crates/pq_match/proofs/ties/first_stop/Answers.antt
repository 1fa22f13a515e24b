use Rattle.pq_match.proofs.Marking.{looks_on}
use Rattle.pq_match.proofs.TyingLaws.{stop_goes_on}
use Rattle.pq_match.proofs.ties.first_stop.Goals as goal

pub walk-preserved : goal.walk-preserved
walk-preserved c = record {
  more = looks_on c.walk.invariant.more c.look_at.ensures.more;
  stop = stop_goes_on c.walk.invariant.stop (λ binds. (let yes = c.if-may_bind.ensures.1 binds in absurd (cc)))
      (c.next_on-place.ensures.next c.requires.wire (c.walk.invariant.stop.uses c.walk-test.true));
}
