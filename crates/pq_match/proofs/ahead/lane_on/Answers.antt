use Rattle.std.proofs.Common.{◌≡◌, true, false, ◌+◌, sym, subst, ◌∙◌}
use Rattle.pq_rules.specs.declared.seen.Seen.{Seen}
use Rattle.pq_rules.specs.Lanes.{passes_over}
use Rattle.pq_links.specs.Links.{IsNextOn}
use Rattle.pq_match.specs.declared.looked.Looked.{Looked}
use Rattle.pq_match.specs.Seek.{LooksAtMore}
use Rattle.pq_match.proofs.LaneAlike.{walk_goes_on, passed_more, lane_known, lane_to_end}
use Rattle.pq_match.proofs.ahead.lane_on.Goals as goal

pub returns-then-not-passes-clause-more : goal.returns-then-not-passes-clause-more
returns-then-not-passes-clause-more c = subst (λ (l : Looked). LooksAtMore l c.end_at.new.looked) c.walk.invariant.same c.end_at.ensures.more

pub returns-then-not-passes-clause-lane : goal.returns-then-not-passes-clause-lane
returns-then-not-passes-clause-lane c =
    lane_known c.see-sight.result c.walk.invariant.taken c.walk.invariant.walked c.walk.invariant.passed c.see-sight.ensures
    (subst (λ (s : Seen). passes_over s c.see-sight.result ≡ false) c.walk.invariant.own (sym c.passes.ensures ∙ c.if-not-passes.true)) c.end_at.ensures.ends

pub walk-preserved : goal.walk-preserved
walk-preserved c =
    let next : IsNextOn c.args.gates.now c.args.wire (c.walk.place + 1) c.next_on-place-in-walk.result =
    c.next_on-place-in-walk.ensures.next c.walk.invariant.taken (c.walk.invariant.walked.next.uses c.walk-test.true) in
    record {
      taken = c.walk.invariant.taken;
      own = c.walk.invariant.own;
      same = c.walk.invariant.same;
      walked = walk_goes_on c.walk.invariant.walked next;
      passed = passed_more c.see-sight.result c.walk.invariant.passed c.see-sight.ensures
          (subst (λ (s : Seen). passes_over s c.see-sight.result ≡ true) c.walk.invariant.own (sym c.passes.ensures ∙ c.if-not-passes.false)) c.pass.ensures.passed next;
    }

pub returns-clause-more : goal.returns-clause-more
returns-clause-more c = subst (λ (l : Looked). LooksAtMore l c.end_at-2.new.looked) c.walk.invariant.same c.end_at-2.ensures.more

pub returns-clause-lane : goal.returns-clause-lane
returns-clause-lane c =
    lane_to_end c.nothing.result c.nothing.ensures c.walk.invariant.taken c.walk.invariant.walked c.walk.invariant.passed c.walk-test.false c.end_at-2.ensures.ends
