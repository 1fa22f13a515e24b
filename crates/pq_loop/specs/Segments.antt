-- The segments of a round as the loop has them: their gates at places of an array.
use Rattle.std.specs.Prelude.{◌≡◌, ℕ, ◌+◌, ◌-◌, ◌*◌, ◌%◌, ◌<◌, ◌≤◌, Bool, ◌||◌, ◌==◌, Option, None, List, [], ◌∷◌, length, map, slice_index, slice_index_or, is_some, All, AllPairs, IsTrue}
use Rattle.pq_gate.specs.declared.gate.Gate.{Gate}
use Rattle.pq_array.specs.Cells.{live, rank, IsLive}
use Rattle.pq_gaps.specs.Gaps.{GapCut, segment_from, segment_to, selected, ascending}
use Rattle.pq_oracle.specs.Outcomes.{WorkedView}
use Rattle.pq_finger.specs.declared.cut.Cut.{Cut}
use Rattle.pq_loop.specs.declared.segments.Segments.{Segments}
use Rattle.pq_method.specs.declared.step.Step.{Step}
use Rattle.pq_method.specs.Round.{State, Work, improved_of, phases_of}

-- the place is that of a live gate, or the end
abbrev pub stands : List (Option Gate) → ℕ → Bool
stands cells place = is_some (slice_index_or cells place None) || (place == length cells)

-- the live gates, and the fingers at these places as gaps
abbrev pub state_of : List (Option Gate) → List ℕ → State
state_of cells places = record { gates = live cells; fingers = map (rank cells) places }

-- the places of the live gates from one gap to another
pub record AreOfRun (cells : List (Option Gate)) (from to : ℕ) (places : List ℕ) : Type 0 where
  pub count : length places ≡ to - from
  pub live : (i : ℕ) → i < length places → IsLive cells (slice_index places i)
  pub ranks : (i : ℕ) → i < length places → rank cells (slice_index places i) ≡ from + i

-- one job for each of these gaps, with the places of its segment
pub record AreJobs (cells : List (Option Gate)) (omega : ℕ) (gaps : List ℕ) (jobs : List (List ℕ)) : Type 0 where
  pub count : length jobs ≡ length gaps
  pub each : (k : ℕ) → k < length gaps → AreOfRun cells
      (segment_from omega (slice_index gaps k)) (segment_to omega (length (live cells)) (slice_index gaps k)) (slice_index_or jobs k [])

-- what a round did at a gap, where the gates of its segment were worked
abbrev pub work_at : ℕ → ℕ → ℕ → WorkedView → Work
work_at omega live gap worked = record {
  finger = gap;
  from = segment_from omega gap;
  to = segment_to omega live gap;
  answer = worked.answer;
}

-- the same for each of some gaps, with the result of each
abbrev pub works_of : ℕ → ℕ → List ℕ → List WorkedView → List Work
works_of omega live [] results = []
works_of omega live (gap ∷ gaps) [] = []
works_of omega live (gap ∷ gaps) (worked ∷ results) = work_at omega live gap worked ∷ works_of omega live gaps results

-- The gaps are far enough apart for their segments, and inside the list; and each has its job.
pub record AreSegments (cells : List (Option Gate)) (segments : Segments) : Type 0 where
  pub apart : AllPairs (λ gap later. gap + 2 * segments.omega ≤ later) segments.gaps.items
  pub inside : All (λ gap. gap ≤ length (live cells)) segments.gaps.items
  pub jobs : AreJobs cells segments.omega segments.gaps.items segments.jobs

-- the gaps are those of the selected ones of the fingers at these places, whose indexes are there too
pub record AreOfFingers (cells : List (Option Gate)) (places : List ℕ) (segments : Segments) : Type 0 where
  pub gaps : segments.gaps.items ≡ selected segments.omega (map (rank cells) places)
  pub in_range : All (λ index. index < length places) segments.fingers.items
  pub fingers : map (λ index. rank cells (slice_index places index)) segments.fingers.items ≡ segments.gaps.items

-- the gaps of a cut are those of the segment of this gap
pub record IsCutHere (live omega gap : ℕ) (improved : Bool) (cut : GapCut) : Type 0 where
  pub finger : cut.finger ≡ gap
  pub from : cut.from ≡ segment_from omega gap
  pub to : cut.to ≡ segment_to omega live gap
  pub improved_is : cut.improved ≡ improved

-- the cut, with this word on whether its segment was improved
abbrev pub flagged : Bool → Cut → Cut
flagged improved cut = record { finger = cut.finger; improved = improved; from = cut.from; to = cut.to; at_start = cut.at_start; at_end = cut.at_end }

-- each of the cuts, with the word of a result
abbrev pub told : List Cut → List WorkedView → List Cut
told [] results = []
told (cut ∷ cuts) [] = []
told (cut ∷ cuts) (worked ∷ results) = flagged worked.answer.improved cut ∷ told cuts results

-- what a round did at the segments, where their gates were worked with these results
abbrev pub works_in : List (Option Gate) → Segments → List WorkedView → List Work
works_in cells segments results = works_of segments.omega (length (live cells)) segments.gaps.items results

-- the numbers of a round with these results, but for the removed gates
pub record AreNumbersOf (results : List WorkedView) (step : Step) : Type 0 where
  pub selected_is : step.selected ≡ length results
  pub improved_is : (omega live : ℕ) (gaps : List ℕ) → length gaps ≡ length results → step.improved ≡ improved_of (works_of omega live gaps results)
  pub phase_is : (omega live : ℕ) (gaps : List ℕ) → length gaps ≡ length results → step.phase ≡ phases_of (works_of omega live gaps results) % 8

-- These places, moved to live places or the end without a live gate between: the ranks stay.
pub record AreMoved (cells : List (Option Gate)) (places moved : List ℕ) : Type 0 where
  pub to : List ℕ
  pub ranks : map (rank cells) to ≡ map (rank cells) places
  pub stand : All (λ place. IsTrue (stands cells place)) to
  pub moved_is : moved ≡ ascending to
