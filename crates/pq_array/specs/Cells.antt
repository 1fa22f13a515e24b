use Rattle.std.specs.List.{filter_map}
use Rattle.std.specs.List.Sorted.{IsStrictlyIncreasing}
use Rattle.std.specs.Prelude.{◌≡◌, ℕ, ◌+◌, ◌<◌, Option, Some, None, List, [], ◌∷◌, length, take, slice_index, slice_index_or, slice_get, IsSome, All, Contains}
pub use Rattle.pq_list.specs.Spliced.{spliced}

-- the gates that are left, in order of place: a cell holds a gate, or is a tombstone
abbrev pub live : {A : Type 0} → List (Option A) → List A
live cells = filter_map (λ cell. cell) cells

-- the cell at this place holds a gate
abbrev pub IsLive : {A : Type 0} → List (Option A) → ℕ → Type 0
IsLive cells place = IsSome (slice_index_or cells place None)

-- how many live cells stand before this place, which may be the end
abbrev pub rank : {A : Type 0} → List (Option A) → ℕ → ℕ
rank cells place = length (live (take place cells))

-- the places of the live cells in order, where the first cell has the place `first`
abbrev pub live_places_from : {A : Type 0} → ℕ → List (Option A) → List ℕ
live_places_from first [] = []
live_places_from first (None ∷ cells) = live_places_from (first + 1) cells
live_places_from first (Some gate ∷ cells) = first ∷ live_places_from (first + 1) cells

-- the places of the live cells in order
abbrev pub live_places : {A : Type 0} → List (Option A) → List ℕ
live_places cells = live_places_from 0 cells

-- the places of live gates that are neighbours: no live place between two of them is left out
pub record IsLiveRun {A : Type 0} (cells : List (Option A)) (places : List ℕ) : Type 0 where
  pub all_live : All (IsLive cells) places
  pub in_order : IsStrictlyIncreasing places
  pub whole : (place first last : ℕ) → IsLive cells place → Contains places first → Contains places last →
      first < place → place < last → Contains places place

-- the first of the places take the output in order, the others become tombstones, and all else stays
pub record Replaces {A : Type 0} (old new : List (Option A)) (places : List ℕ) (output : List A) : Type 0 where
  pub size : length new ≡ length old
  pub listed : (i : ℕ) → i < length places →
      slice_index_or new (slice_index places i) None ≡ slice_get output i
  pub others : (place : ℕ) → (Contains places place → ⊥) →
      slice_index_or new place None ≡ slice_index_or old place None
