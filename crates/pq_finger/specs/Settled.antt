use Rattle.std.specs.Prelude.{◌≡◌, ◌⊎◌, ℕ, ◌<◌, ◌≤◌, Bool, false, ◌||◌, not, ◌==◌, List, ◌++◌, length, filter, slice_index, All, AllPairs, IsTrue}
use Rattle.std.specs.List.{list_any, flat_map}
use Rattle.pq_finger.specs.declared.cut.Cut.{Cut}
use Rattle.pq_gaps.specs.Gaps.{ascending, is_inside, inner_edges}

-- the finger at this place was selected, or stands strictly inside the segment, which was improved
abbrev pub is_dropped : List ℕ → ℕ → Cut → Bool
is_dropped places place cut =
    (place == slice_index places cut.finger) || is_inside cut.improved cut.from cut.to place

-- the same as a fact
abbrev pub DropsPlace : List ℕ → ℕ → Cut → Type 0
DropsPlace places place cut =
    (place ≡ slice_index places cut.finger) ⊎ (IsTrue cut.improved × (cut.from < place) × (place < cut.to))

-- the place is a boundary of the segment, which was improved, and neither the start nor the end
abbrev pub MakesPlace : ℕ → Cut → Type 0
MakesPlace place cut =
    IsTrue cut.improved × (((place ≡ cut.from) × (cut.at_start ≡ false)) ⊎ ((place ≡ cut.to) × (cut.at_end ≡ false)))

-- the places that become fingers
abbrev pub new_places : Cut → List ℕ
new_places cut = inner_edges cut.improved cut.at_start cut.at_end cut.from cut.to

-- The fingers at these places that no cut drops, and the boundaries of the improved segments.
unfoldable pub settled : List ℕ → List Cut → List ℕ
settled places cuts =
    ascending (filter (λ place. not (list_any (is_dropped places place) cuts)) places ++ flat_map new_places cuts)

-- The cuts are those of fingers in order. Each finger stands in its segment, its ends included, and
-- no segment begins before an earlier one ends.
pub record AreInOrder (places : List ℕ) (cuts : List Cut) : Type 0 where
  pub in_range : All (λ cut. cut.finger < length places) cuts
  pub after_from : All (λ cut. cut.from ≤ slice_index places cut.finger) cuts
  pub before_to : All (λ cut. slice_index places cut.finger ≤ cut.to) cuts
  pub fingers_rise : AllPairs (λ cut later. cut.finger < later.finger) cuts
  pub apart : AllPairs (λ cut later. cut.to ≤ later.from) cuts
