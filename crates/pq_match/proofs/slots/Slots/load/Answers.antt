use Rattle.std.proofs.Common.{sym, subst}
use Rattle.pq_match.specs.Waiting.{StartsView, IsWaiting}
use Rattle.pq_match.proofs.Passing.{passed_still}
use Rattle.pq_match.proofs.slots.Slots.load.Goals as goal

pub returns-in_default-clause-none : goal.returns-in_default-clause-none
returns-in_default-clause-none c _ =
    passed_still c.count-sound.ensures.sound c.wait_passing.ensures.waits
    (λ start below waits. c.in_default.ensures.none start below (subst (λ (s : StartsView). IsWaiting s start) (sym c.in_default.ensures.same) waits))
