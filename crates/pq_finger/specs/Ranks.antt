use Rattle.std.specs.Prelude.{◌≡◌, ◌↔◌, ◌⊎◌, ℕ, ◌+◌, ◌<◌, ◌≤◌, Bool, IsTrue, List, length, map, slice_index, All}
use Rattle.std.specs.List.{AllZip}
use Rattle.pq_finger.specs.declared.cut.Cut.{Cut}
use Rattle.pq_gaps.specs.Gaps.{GapCut, segment_from, segment_to, selected}

-- The gap of a place is its rank, the number of live cells before it. Of the places of live cells and
-- the end, which are those that `stands` tells, a later one has the greater rank.
abbrev pub IsRank : (ℕ → ℕ) → (ℕ → Bool) → Type 0
IsRank rank stands =
    (place later : ℕ) → IsTrue (stands place) → IsTrue (stands later) → place < later → rank place < rank later

-- the cut has at places what the other has at gaps, where the old list has this many live gates
pub record IsAtPlaces (rank : ℕ → ℕ) (stands : ℕ → Bool) (live : ℕ) (places : List ℕ) (gaps : GapCut) (cut : Cut) : Type 0 where
  pub in_range : cut.finger < length places
  pub finger : rank (slice_index places cut.finger) ≡ gaps.finger
  pub from_stands : IsTrue (stands cut.from)
  pub from : rank cut.from ≡ gaps.from
  pub to_stands : IsTrue (stands cut.to)
  pub to : rank cut.to ≡ gaps.to
  pub improved : cut.improved ≡ gaps.improved
  pub at_start : IsTrue cut.at_start ↔ (gaps.from ≡ 0)
  pub at_end : IsTrue cut.at_end ↔ (gaps.to ≡ live)

-- these fingers, at places that stand in order, are cut once for each selected one, in order, with its segment
pub record AreCutsOf (rank : ℕ → ℕ) (stands : ℕ → Bool) (omega live : ℕ) (places : List ℕ) (gaps : List GapCut) (cuts : List Cut) : Type 0 where
  pub all_stand : All (λ place. IsTrue (stands place)) places
  pub up_to_live : All (λ place. rank place ≤ live) places
  pub at_places : AllZip (IsAtPlaces rank stands live places) gaps cuts
  pub fingers : map (λ (cut : GapCut). cut.finger) gaps ≡ selected omega (map rank places)
  pub begin : All (λ cut. cut.from ≡ segment_from omega cut.finger) gaps
  pub end : All (λ cut. cut.to ≡ segment_to omega live cut.finger) gaps

-- What a round does to the ranks of places, where cells are left as tombstones. Between two places with no
-- improved segment between them there are as many live cells as before, and between the ends of an
-- improved segment so many fewer as it lost.
pub record LosesGates (old new : ℕ → ℕ) (gaps : List GapCut) (cuts : List Cut) : Type 0 where
  pub start : new 0 ≡ old 0
  pub outside : (place later : ℕ) → place ≤ later →
      All (λ cut. IsTrue cut.improved → (cut.to ≤ place) ⊎ (later ≤ cut.from)) cuts → new later + old place ≡ new place + old later
  pub inside : AllZip (λ (gap : GapCut) (cut : Cut). IsTrue cut.improved → new cut.to + gap.lost + old cut.from ≡ new cut.from + old cut.to) gaps cuts
