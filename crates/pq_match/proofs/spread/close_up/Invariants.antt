use Rattle.std.proofs.Common.{◌≡◌, take, vec_capacity}
use Rattle.pq_links.specs.Slots.{gates_in}
use Rattle.pq_match.proofs.spread.close_up.Given as goal

abbrev pub invariant-loop-slot : goal.invariant-loop-slot
invariant-loop-slot l = record {
  gates : l.gates.items ≡ gates_in (take l.slot-index l.slots);
  capacity : vec_capacity l.gates ≡ vec_capacity l.initial.gates;
}
