use Rattle.std.proofs.Common.{◌≡◌, ◌+◌, map, take}
use Rattle.pq_rules.specs.Renaming.{renamed}
use Rattle.pq_match.specs.Work.{AreWhole, AreFilled, IsFreeRun, AreGaps}
use Rattle.pq_match.proofs.exchange.put_in.Given as goal

abbrev pub invariant-loop-index : goal.invariant-loop-index
invariant-loop-index l = record {
  filled : AreFilled l.initial.slots l.slots l.start (map (renamed l.wires) (take l.index l.replacement));
  whole : AreWhole l.slots l.chains;
  run : IsFreeRun l.slots (l.start + l.index) l.end;
  gaps : AreGaps l.slots l.wires l.end l.gaps l.replacement;
  room : l.chains.room ≡ l.initial.chains.room;
}
