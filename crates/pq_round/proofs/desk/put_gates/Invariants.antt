use Rattle.std.proofs.Common.{◌≡◌, ◌≤◌, length, take}
use Rattle.pq_round.specs.Results.{gates_at}
use Rattle.pq_round.proofs.desk.put_gates.Given as goal

abbrev pub invariant-loop-place : goal.invariant-loop-place
invariant-loop-place l = record {
  gathered : l.list.items ≡ gates_at l.cells (take l.place-index l.places);
  room : l.list.room ≡ l.fn.list.room;
  few : length l.list.items ≤ l.place-index;
}
