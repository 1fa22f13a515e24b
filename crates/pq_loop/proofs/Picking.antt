-- The gaps of the selected fingers, and their jobs.
use Rattle.std.proofs.Common.{◌≡◌, ℕ, ◌<◌, ◌≤◌, Option, List, [], ◌∷◌, length, get_or, map, refl, sym, arith}
use Rattle.std.specs.Prelude.{All, slice_index}
use Rattle.std.proofs.lemmas.List.{get_or-map}
use Rattle.std.proofs.lemmas.List.Elements.{All-head, All-tail, All-map, All-contains, All-from_get_or, Contains-get_or}
use Rattle.pq_gate.specs.declared.gate.Gate.{Gate}
use Rattle.pq_array.specs.Cells.{live, IsLive, rank}
use Rattle.pq_array.proofs.Ranks.{rank-le-live}
use Rattle.pq_gaps.specs.Gaps.{selected}
use Rattle.pq_gaps.proofs.Selections.{selected_contained}
use Rattle.pq_loop.specs.Segments.{AreJobs}

-- selected ranks are gaps of the gates
pub selected_inside : (cells : List (Option Gate)) (reach : ℕ) (places : List ℕ) → All (λ gap. gap ≤ length (live cells)) (selected reach (map (rank cells) places))
selected_inside cells reach places k d lt =
    All-contains (λ gap. gap ≤ length (live cells)) (map (rank cells) places) (get_or (selected reach (map (rank cells) places)) k d)
    (All-map (λ gap. gap ≤ length (live cells)) (rank cells) places (λ i e in'. rank-le-live cells (get_or places i e)))
    (selected_contained reach (get_or (selected reach (map (rank cells) places)) k d) (map (rank cells) places)
    (Contains-get_or (selected reach (map (rank cells) places)) k d lt))

-- two functions that agree on the numbers of a list
pub map_agree : (f g : ℕ → ℕ) (xs : List ℕ) → All (λ x. f x ≡ g x) xs → map f xs ≡ map g xs
map_agree f g [] same = refl
map_agree f g (x ∷ xs) same =
    let first : f x ≡ g x = All-head (λ y. f y ≡ g y) x xs same in
    let rest : map f xs ≡ map g xs = map_agree f g xs (All-tail (λ y. f y ≡ g y) x xs same) in
    cc

-- the ranks of the places with some indexes are the ranks with these indexes
pub ranks_at : (cells : List (Option Gate)) (places indexes : List ℕ) → All (λ index. index < length places) indexes →
    map (λ index. rank cells (slice_index places index)) indexes ≡ map (slice_index (map (rank cells) places)) indexes
ranks_at cells places indexes inside =
    map_agree (λ index. rank cells (slice_index places index)) (slice_index (map (rank cells) places)) indexes
    (λ k d lt. sym (get_or-map (rank cells) places (get_or indexes k d) 0 0 (inside k d lt)))

-- the jobs of gaps hold live places
pub jobs_live : (cells : List (Option Gate)) (reach : ℕ) (gaps : List ℕ) (jobs : List (List ℕ)) → AreJobs cells reach gaps jobs →
    All (λ places. All (IsLive cells) places) jobs
jobs_live cells reach gaps jobs are =
    All-from_get_or (λ places. All (IsLive cells) places) jobs []
    (λ k lt. All-from_get_or (IsLive cells) (get_or jobs k []) 0 ((are.each k (omega (arith, are.count))).live))
