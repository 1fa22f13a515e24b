use Rattle.std.proofs.Common.{◌≡◌, ◌<◌, ◌≤◌, length, map, take, get_or, vec_capacity}
use Rattle.pq_array.specs.Cells.{rank}
use Rattle.pq_loop.proofs.segments.ranks_of.Given as goal

abbrev pub invariant-loop-place : goal.invariant-loop-place
invariant-loop-place l = record {
  ranks : l.ranks.items ≡ map (rank l.array) (take l.place-index l.places);
  capacity : vec_capacity l.ranks ≡ length l.places;
  before : l.before ≡ rank l.array l.earlier;
  ahead : l.place-index < length l.places → l.earlier ≤ get_or l.places l.place-index 0;
}
