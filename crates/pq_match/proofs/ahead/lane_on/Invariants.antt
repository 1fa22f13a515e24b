use Rattle.std.proofs.Common.{◌≡◌, ◌≢◌, ◌-◌, length}
use Rattle.pq_rules.specs.declared.seen.Seen.TheVariants as seen
use Rattle.pq_rules.specs.Seen.{role_on}
use Rattle.pq_links.specs.Slots.{no_wire}
use Rattle.pq_match.specs.Ahead.{ArePassed}
use Rattle.pq_match.specs.Redex.{gate_at}
use Rattle.pq_match.proofs.LaneAlike.{IsWalkedTo}
use Rattle.pq_match.proofs.ahead.lane_on.Given as goal

abbrev pub invariant-walk : goal.invariant-walk
invariant-walk l = record {
  taken : l.wire ≢ no_wire;
  own : l.own ≡ seen.Plays (role_on l.wire (gate_at l.gates l.start));
  same : l.looked ≡ l.fn.looked;
  walked : IsWalkedTo l.gates l.wire l.start l.place;
  passed : ArePassed l.gates l.wire l.start l.place l.lane;
}

abbrev pub decreases-walk : goal.decreases-walk
decreases-walk l = length l.gates - l.place
