-- The settled places, and their order.
use Rattle.std.proofs.Common.{ℕ, not, List, ◌++◌, ◌⊎◌}
use Rattle.std.specs.Prelude.{◌↔◌}
use Rattle.std.specs.List.{Any, Contains, flat_map, filter, list_any, slice_index}
use Rattle.std.specs.List.Sorted.{IsStrictlyIncreasing}
use Rattle.pq_gaps.proofs.Putting.{increasing-ascending}
use Rattle.pq_gaps.proofs.KeptGaps.{kept_exactly, drops_exactly, edges_exactly}
use Rattle.pq_finger.specs.declared.cut.Cut.{Cut}
use Rattle.pq_finger.specs.Settled.{settled, is_dropped, new_places, DropsPlace, MakesPlace}

pub settled_exactly : (places : List ℕ) (cuts : List Cut) (place : ℕ) →
    Contains (settled places cuts) place ↔ ((Contains places place × (Any (DropsPlace places place) cuts → ⊥)) ⊎ Any (MakesPlace place) cuts)
unfolding settled
settled_exactly places cuts place =
    kept_exactly (is_dropped places) new_places (DropsPlace places place) (MakesPlace place) place places cuts
    (λ cut. drops_exactly cut.improved (slice_index places cut.finger) cut.from cut.to place)
    (λ cut. edges_exactly cut.improved cut.at_start cut.at_end cut.from cut.to place)

pub settled_rising : (places : List ℕ) (cuts : List Cut) → IsStrictlyIncreasing (settled places cuts)
unfolding settled
settled_rising places cuts = increasing-ascending (filter (λ place. not (list_any (is_dropped places place) cuts)) places ++ flat_map new_places cuts)
