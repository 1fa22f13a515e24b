use Rattle.std.proofs.Common.{◌-◌, length}
use Rattle.pq_match.specs.Redex.{gate_at}
use Rattle.pq_match.specs.Seek.{LooksAtMore}
use Rattle.pq_match.specs.Ties.{IsStop}
use Rattle.pq_match.proofs.ties.first_stop.Given as goal

abbrev pub invariant-walk : goal.invariant-walk
invariant-walk l = record {
  more : LooksAtMore l.fn.looked l.looked;
  stop : IsStop l.gates (gate_at l.pattern l.binding.gate) l.binding.last l.wire l.from l.place;
}

abbrev pub decreases-walk : goal.decreases-walk
decreases-walk l = length l.gates - l.place
