use Rattle.std.proofs.Common.{length, sym, subst, arith}
use Rattle.pq_match.specs.Waiting.{StartsView, IsWaiting}
use Rattle.pq_match.proofs.Settling.{below_waiting}
use Rattle.pq_match.proofs.Starting.{below_all_none}
use Rattle.pq_match.proofs.Working.{none_held}
use Rattle.pq_match.proofs.slots.find_in.Goals as goal

pub returns-clause-none : goal.returns-clause-none
returns-clause-none c =
    let rules = c.args.rules.now in
    let slots = c.args.slots.now in
    let sound = c.count-sound.ensures.sound in
    let taken = c.requires.whole.taken in
    none_held rules sound slots taken
    (below_all_none
    (below_waiting rules slots c.starts.starts (length slots) sound taken c.starts.invariant.settled
    (λ start less waits. c.in_default.ensures.none start less (subst (λ (v : StartsView). IsWaiting v start) (sym c.least_waiting.ensures.same) waits)))
    (omega arith))
