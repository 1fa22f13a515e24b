use Rattle.std.proofs.Common.{◌<◌, ◌≤◌, length}
use Rattle.pq_gate.specs.Commuting.{Touches}
use Rattle.pq_links.specs.Links.{IsLastOn}
use Rattle.pq_match.specs.Redex.{gate_at}
use Rattle.pq_match.proofs.ties.first_on.Given as goal

abbrev pub invariant-back : goal.invariant-back
invariant-back l = record {
  ahead : l.from ≤ l.place;
  inside : l.place < length l.gates;
  uses : Touches (gate_at l.gates l.place) l.wire;
  last : IsLastOn l.gates l.wire l.place l.before;
}

abbrev pub decreases-back : goal.decreases-back
decreases-back l = l.place
