use Rattle.pq_match.specs.Waiting.{WaitMore}
use Rattle.pq_match.specs.Settled.{AwaitAround}
use Rattle.pq_match.proofs.waiting.Starts.wake_around.Given as goal

abbrev pub invariant-loop-index : goal.invariant-loop-index
invariant-loop-index l = record {
  around : AwaitAround l.slots l.places l.self l.index;
  more : WaitMore l.initial.self l.self;
}
