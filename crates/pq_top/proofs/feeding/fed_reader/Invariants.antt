use Rattle.std.proofs.Common.{◌≡◌, ◌-◌, ◌≤◌, length}
use Rattle.pq_top.proofs.Pieces.{HasTaken}
use Rattle.pq_top.proofs.feeding.fed_reader.Given as goal

abbrev pub invariant-feeding : goal.invariant-feeding
invariant-feeding g l = record {
  room : length l.room ≡ 65536;
  taken : HasTaken (g.S.Source.left l.initial.source) (g.S.Source.left l.source) l.reader;
  fed : l.reader.fed ≡ l.taken;
  few : l.taken ≤ 67108864;
  options : l.reader.options ≡ l.fn.options;
  never_falls : g.S.Source.faults l.initial.source ≤ g.S.Source.faults l.source;
}

abbrev pub decreases-feeding : goal.decreases-feeding
decreases-feeding g l = 67108865 - l.taken
