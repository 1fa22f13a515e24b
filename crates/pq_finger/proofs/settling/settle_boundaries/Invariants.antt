use Rattle.std.proofs.Common.{◌≡◌, ◌+◌, ◌-◌, ◌*◌, ◌<◌, ◌≤◌, ◌++◌, length, take, get_or, vec_len, vec_capacity}
use Rattle.std.specs.List.{All, flat_map}
use Rattle.pq_finger.specs.declared.cut.Cut.{Cut}
use Rattle.pq_gaps.specs.Gaps.{ascending}
use Rattle.pq_finger.specs.Settled.{new_places}
use Rattle.pq_finger.specs.Settling.{first_edge}
use Rattle.pq_finger.proofs.settling.settle_boundaries.Given as goal

abbrev pub invariant-loop-cut : goal.invariant-loop-cut
invariant-loop-cut l = record {
  list_is : l.list.items ≡ ascending (l.initial.list.items ++ flat_map new_places (take l.cut-index l.cuts));
  room : vec_len l.list + 2 * (length l.cuts - l.cut-index) ≤ vec_capacity l.list;
  ahead : (d : Cut) → l.cut-index < length l.cuts → All (λ y. y ≤ first_edge (get_or l.cuts l.cut-index d)) l.list.items;
}
