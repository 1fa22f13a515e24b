use Rattle.std.specs.Prelude.{◌≡◌, ℕ, ◌+◌, ◌*◌, ◌<◌, ◌≤◌, not, if◌then◌else◌, List, ◌++◌, length, take, filter, slice_index, slice_index_or, All}
use Rattle.std.specs.List.{list_any, flat_map}
use Rattle.pq_finger.specs.declared.cut.Cut.{Cut}
use Rattle.pq_gaps.specs.Gaps.{ascending}
use Rattle.pq_finger.specs.Settled.{is_dropped, new_places}

-- the cut's finger and its segment come before the finger of this index at this place
abbrev pub IsBefore : ℕ → ℕ → Cut → Type 0
IsBefore index place cut = (cut.finger < index) × (cut.to ≤ place)

-- how far fingers that are put before the cut's boundaries may stand
abbrev pub first_edge : Cut → ℕ
first_edge cut = if cut.improved then cut.from else cut.to

-- the fingers at these places that stay, and the boundaries of the first cuts, `behind` in number
abbrev pub settled_front : List ℕ → List Cut → ℕ → ℕ → List ℕ
settled_front places cuts index behind =
    ascending (filter (λ place. not (list_any (is_dropped places place) cuts)) (take index places) ++ flat_map new_places (take behind cuts))

-- The fingers before this index are settled, and the boundaries of the cuts that are left behind: these
-- are before all that follows, and at most one more cut has its finger before this index.
pub record SettledUpTo (places : List ℕ) (cuts : List Cut) (list : List ℕ) (index behind : ℕ) : Type 0 where
  pub list_is : list ≡ settled_front places cuts index behind
  pub in_range : behind ≤ length cuts
  pub short : length list ≤ index + 2 * behind
  pub below : (k : ℕ) → index ≤ k → k < length places → All (λ place. place ≤ slice_index places k) list
  pub ahead : (d : Cut) → behind < length cuts → All (λ place. place ≤ first_edge (slice_index_or cuts behind d)) list
  pub left : (u k : ℕ) (d : Cut) → u < behind → index ≤ k → k < length places →
      IsBefore k (slice_index places k) (slice_index_or cuts u d)
  pub later : (u : ℕ) (d : Cut) → behind < u → u < length cuts → index ≤ (slice_index_or cuts u d).finger

-- and all cuts that are before the finger of this index are left behind
pub record IsAtFinger (places : List ℕ) (cuts : List Cut) (list : List ℕ) (index behind : ℕ) : Type 0 where
  pub so_far : SettledUpTo places cuts list index behind
  pub here : (d : Cut) → behind < length cuts → IsBefore index (slice_index places index) (slice_index_or cuts behind d) → ⊥
  pub later : (u : ℕ) (d : Cut) → behind < u → u < length cuts → index < (slice_index_or cuts u d).finger
