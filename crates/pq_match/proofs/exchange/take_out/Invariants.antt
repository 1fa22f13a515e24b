use Rattle.std.proofs.Common.{◌≡◌, take}
use Rattle.pq_match.specs.Work.{AreWhole, AreFreed, AreGaps}
use Rattle.pq_match.proofs.exchange.take_out.Given as goal

abbrev pub invariant-loop-index : goal.invariant-loop-index
invariant-loop-index l = record {
  freed : AreFreed l.initial.slots l.slots (take l.index l.places);
  whole : AreWhole l.slots l.chains;
  gaps : AreGaps l.slots l.wires l.end l.gaps (take l.index l.pattern);
  room : l.chains.room ≡ l.initial.chains.room;
}
