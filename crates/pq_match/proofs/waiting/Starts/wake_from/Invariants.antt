use Rattle.std.proofs.Common.{◌+◌, ◌-◌, ◌<◌, length}
use Rattle.pq_gate.specs.Commuting.{Touches}
use Rattle.pq_match.specs.Redex.{gate_at}
use Rattle.pq_match.specs.Waiting.{WaitMore}
use Rattle.pq_match.specs.Settled.{AwaitBetween}
use Rattle.pq_match.proofs.waiting.Starts.wake_from.Given as goal

abbrev pub invariant-on : goal.invariant-on
invariant-on l = record {
  between : AwaitBetween l.slots l.self l.wire l.place l.at;
  more : WaitMore l.initial.self l.self;
  uses : l.at < length l.slots → Touches (gate_at l.slots l.at) l.wire;
}

abbrev pub decreases-on : goal.decreases-on
decreases-on l = l.last + 1 - l.at
