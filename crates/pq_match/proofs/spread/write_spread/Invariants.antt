use Rattle.std.proofs.Common.{◌≡◌, ◌*◌, take, length}
use Rattle.pq_links.specs.Slots.{spread}
use Rattle.pq_match.proofs.spread.write_spread.Given as goal

abbrev pub invariant-loop-place : goal.invariant-loop-place
invariant-loop-place l = record {
  slots : take (2 * l.place) l.slots ≡ spread (take l.place l.gates);
  long : length l.slots ≡ 2 * length l.gates;
}
