use Rattle.pq_match.specs.Waiting.{WaitMore}
use Rattle.pq_match.proofs.Awaiting.{RunWaits}
use Rattle.pq_match.proofs.waiting.Starts.wake_run.Given as goal

abbrev pub invariant-loop-start : goal.invariant-loop-start
invariant-loop-start l = record {
  run : RunWaits l.self l.from l.start;
  more : WaitMore l.initial.self l.self;
}
