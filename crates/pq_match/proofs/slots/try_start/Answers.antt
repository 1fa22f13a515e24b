use Rattle.std.proofs.Common.{length, sym, eqb-true}
use Rattle.pq_match.proofs.LookingAlike.{failed_within}
use Rattle.pq_match.proofs.Settling.{none_still, settle_still, settle_failed}
use Rattle.pq_match.proofs.slots.try_start.Goals as goal

pub returns-then-is_empty-clause-finds : goal.returns-then-is_empty-clause-finds
returns-then-is_empty-clause-finds c =
    none_still c.count-sound.ensures.sound c.requires.whole.taken (c.rows_ahead-numbers.ensures.still (eqb-true (length c.rows_ahead-numbers.result.now) 0 (sym c.if-is_empty.ensures)))

pub returns-then-is_empty-clause-settled : goal.returns-then-is_empty-clause-settled
returns-then-is_empty-clause-settled c =
    settle_still c.requires.settled c.settle.ensures.others (c.rows_ahead-numbers.ensures.still (eqb-true (length c.rows_ahead-numbers.result.now) 0 (sym c.if-is_empty.ensures)))

pub returns-in_default-clause-settled : goal.returns-in_default-clause-settled
returns-in_default-clause-settled c =
    settle_failed c.requires.settled c.settle_failed.ensures.others c.settle_failed.ensures.failed c.settle_failed.ensures.noted
    (failed_within c.requires.whole.few c.requires.inside c.within.ensures.reach c.within.ensures.mask c.in_default.ensures.finds)
