use Rattle.std.proofs.Common.{◌<◌, true, false}
use Rattle.pq_links.specs.Wires.{wire_of}
use Rattle.pq_match.specs.Ahead.{IsLaneAlike}
use Rattle.pq_match.specs.Redex.{gate_at}
use Rattle.pq_match.specs.Seek.{LooksAtMore}
use Rattle.pq_match.proofs.SeekRow.{AreTriedAlike}
use Rattle.pq_match.proofs.seek.seek_rows.Given as goal

abbrev pub invariant-loop-number : goal.invariant-loop-number
invariant-loop-number l = record {
  seen : l.start < l.looked.reach;
  more : LooksAtMore l.fn.looked l.looked;
  last_lane : IsLaneAlike l.gates (wire_of true (gate_at l.gates l.start)) l.start l.looked l.last;
  first_lane : IsLaneAlike l.gates (wire_of false (gate_at l.gates l.start)) l.start l.looked l.first;
  tried : AreTriedAlike l.rules l.gates l.start l.looked l.numbers l.number-index;
}
