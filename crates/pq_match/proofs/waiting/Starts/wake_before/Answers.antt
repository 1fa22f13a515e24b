use Rattle.pq_match.proofs.Awaiting.{await_before}
use Rattle.pq_match.proofs.waiting.Starts.wake_before.Goals as goal

pub returns-clause-before : goal.returns-clause-before
returns-clause-before c =
    await_before c.requires.whole.few c.requires.place c.requires.wire c.requires.uses c.previous_on-near.ensures.previous c.place_before-far.ensures.last
    c.wake_with.ensures.waits c.wake_with-2.ensures.more c.wake_with-2.ensures.waits
