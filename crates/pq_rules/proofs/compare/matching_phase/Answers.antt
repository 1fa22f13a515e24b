use Rattle.std.proofs.Common.{ℕ, ◌<◌, ◌*◌, arith}
use Rattle.pq_rules.specs.Pairs.{MatchesAt}
use Rattle.pq_rules.proofs.SearchLaws.{none_more, some_more}
use Rattle.pq_rules.proofs.compare.matching_phase.Goals as goal

pub loop-phase-preserved : goal.loop-phase-preserved
loop-phase-preserved c =
    let M = λ (k q : ℕ). MatchesAt c.args.left.now c.args.right.now c.args.size k q in
    record {
      inside = (let pair : c.in-Some.pair < c.args.size * c.args.size = c.in-Some.ensures.0 in let last = c.loop-phase.invariant.inside in omega (arith, c.max-last.ensures));
      none = none_more M c.loop-phase.phase c.loop-phase.last c.in-Some.pair c.max-last.result c.max-last.ensures
          c.loop-phase.invariant.none c.in-Some.ensures.2;
      some = some_more M c.loop-phase.phase c.loop-phase.last c.in-Some.pair c.max-last.result c.max-last.ensures
          (omega arith) c.loop-phase.invariant.some c.in-Some.ensures.1;
    }
