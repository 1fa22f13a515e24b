use Rattle.std.proofs.Common.{◌≡◌}
use Rattle.pq_match.specs.Settled.{AreSameBut}
use Rattle.pq_match.proofs.waiting.Starts.settle_at.Given as goal

abbrev pub invariant-loop-index : goal.invariant-loop-index
invariant-loop-index l = record {
  same : AreSameBut l.places l.initial.self l.self;
  room : l.self.room ≡ l.initial.self.room;
}
