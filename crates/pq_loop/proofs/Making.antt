-- Making the jobs, one for each gap.
use Rattle.std.proofs.Common.{◌≡◌, ℕ, zero, suc, ◌+◌, ◌*◌, ◌<◌, ◌≤◌, ◌⊎◌, inl, inr, Option, List, [], ◌∷◌, ◌++◌, length, get_or, refl, sym, ap, ◌∙◌, arith, append_assoc}
use Rattle.std.specs.Prelude.{All, AllPairs}
use Rattle.std.specs.List.{concat}
use Rattle.std.specs.List.Sorted.{IsStrictlyIncreasing}
use Rattle.std.proofs.lemmas.Bool.{cases_lt}
use Rattle.std.proofs.lemmas.List.{append-nil, length_push, get_or_push, get_or_append_left}
use Rattle.std.proofs.lemmas.List.Elements.{All-append, All-from_get_or}
use Rattle.pq_gate.specs.declared.gate.Gate.{Gate}
use Rattle.pq_array.specs.Cells.{live, rank}
use Rattle.pq_array.proofs.Ranks.{rank-le}
use Rattle.pq_gaps.specs.Gaps.{segment_from, segment_to}
use Rattle.pq_loop.specs.Segments.{AreOfRun, AreJobs}
use Rattle.pq_loop.proofs.Growing.{increasing_append}

-- the jobs of the gaps before this index, whose places come before the segments of all later gaps
pub record JobsUpTo (cells : List (Option Gate)) (reach : ℕ) (gaps : List ℕ) (index : ℕ) (jobs : List (List ℕ)) : Type 0 where
  pub count : length jobs ≡ index
  pub each : (k : ℕ) → k < index → AreOfRun cells
      (segment_from reach (get_or gaps k 0)) (segment_to reach (length (live cells)) (get_or gaps k 0)) (get_or jobs k [])
  pub rising : IsStrictlyIncreasing (concat jobs)
  pub before : (k : ℕ) → index ≤ k → k < length gaps → All (λ place. rank cells place < segment_from reach (get_or gaps k 0)) (concat jobs)

-- none at first
pub jobs_none : (cells : List (Option Gate)) (reach : ℕ) (gaps : List ℕ) → JobsUpTo cells reach gaps 0 []
jobs_none cells reach gaps = record {
  count = refl;
  each = λ k lt. absurd (omega arith);
  rising = λ k lt. absurd (omega arith);
  before = λ k from lt i d in'. absurd (omega arith);
}

-- lists joined, and one more
concat_push : (jobs : List (List ℕ)) (places : List ℕ) → concat (jobs ++ places ∷ []) ≡ concat jobs ++ places
concat_push [] places = append-nil places
concat_push (job ∷ jobs) places = ap (λ (l : List ℕ). job ++ l) (concat_push jobs places) ∙ sym (append_assoc job (concat jobs) places)

-- of two places the one with the smaller rank comes first
pub before_by_rank : (cells : List (Option Gate)) (p q : ℕ) → rank cells p < rank cells q → p < q
before_by_rank cells p q less = by (cases_lt p q)
  where
    by : (p < q) ⊎ (q ≤ p) → p < q
    by (inl first) = first
    by (inr behind) = absurd (omega (arith, rank-le cells q p behind))

-- a job of the next gap comes behind the others
pub behind_jobs : (cells : List (Option Gate)) (reach : ℕ) (gaps : List ℕ) (index to : ℕ) (jobs : List (List ℕ)) (places : List ℕ) → index < length gaps →
    JobsUpTo cells reach gaps index jobs → AreOfRun cells (segment_from reach (get_or gaps index 0)) to places →
    All (λ earlier. All (λ place. earlier < place) places) (concat jobs)
behind_jobs cells reach gaps index to jobs places here so_far are =
    λ i d lt. All-from_get_or (λ y. get_or (concat jobs) i d < y) places 0
    (λ k in'. before_by_rank cells (get_or (concat jobs) i d) (get_or places k 0)
    (omega (arith, so_far.before index (omega arith) here i d lt, are.ranks k in')))

-- so the places of all rise
joined_rise : (cells : List (Option Gate)) (reach : ℕ) (gaps : List ℕ) (index to : ℕ) (jobs : List (List ℕ)) (places : List ℕ) → index < length gaps →
    JobsUpTo cells reach gaps index jobs → AreOfRun cells (segment_from reach (get_or gaps index 0)) to places → IsStrictlyIncreasing places →
    IsStrictlyIncreasing (concat jobs ++ places)
joined_rise cells reach gaps index to jobs places here so_far are up =
    increasing_append (concat jobs) places so_far.rising up (behind_jobs cells reach gaps index to jobs places here so_far are)

-- with it the jobs go one gap further
pub jobs_more : (cells : List (Option Gate)) (reach : ℕ) (gaps : List ℕ) (index : ℕ) (jobs : List (List ℕ)) (places : List ℕ) → index < length gaps →
    AllPairs (λ gap later. gap + 2 * reach ≤ later) gaps → JobsUpTo cells reach gaps index jobs →
    AreOfRun cells (segment_from reach (get_or gaps index 0)) (segment_to reach (length (live cells)) (get_or gaps index 0)) places →
    IsStrictlyIncreasing places → JobsUpTo cells reach gaps (index + 1) (jobs ++ places ∷ [])
jobs_more cells reach gaps index jobs places here apart so_far are up = record {
  count = omega (arith, length_push jobs places, so_far.count);
  each = λ k lt. at_index k (cases_lt k index) lt;
  rising = rw concat_push (joined_rise cells reach gaps index (segment_to reach (length (live cells)) (get_or gaps index 0)) jobs places here so_far are up);
  before = λ k from lt. rw concat_push
      (All-append (λ place. rank cells place < segment_from reach (get_or gaps k 0)) (concat jobs) places (so_far.before k (omega arith) lt)
      (All-from_get_or (λ place. rank cells place < segment_from reach (get_or gaps k 0)) places 0
      (λ i in'. omega (arith, are.ranks i in', are.count, apart index k 0 (omega arith) lt))));
}
  where
    at_index : (k : ℕ) → (k < index) ⊎ (index ≤ k) → k < index + 1 → AreOfRun cells
        (segment_from reach (get_or gaps k 0)) (segment_to reach (length (live cells)) (get_or gaps k 0)) (get_or (jobs ++ places ∷ []) k [])
    at_index k (inl earlier) lt = rw (get_or_append_left jobs (places ∷ []) [] k (omega (arith, so_far.count))) (so_far.each k earlier)
    at_index k (inr last) lt =
        let same : k ≡ index = omega arith in
        rw (get_or_push jobs places [] k (omega (arith, so_far.count)), same) are

-- at the end there is one for each gap
pub jobs_all : (cells : List (Option Gate)) (reach : ℕ) (gaps : List ℕ) (index : ℕ) (jobs : List (List ℕ)) → length gaps ≤ index → index ≤ length gaps →
    JobsUpTo cells reach gaps index jobs → AreJobs cells reach gaps jobs
jobs_all cells reach gaps index jobs end inside so_far =
    record { count = omega (arith, so_far.count); each = λ k lt. so_far.each k (omega arith) }

-- gaps that stand apart are few
pub gaps_far : (reach : ℕ) (gaps : List ℕ) (k : ℕ) → 2 ≤ reach → AllPairs (λ gap later. gap + 2 * reach ≤ later) gaps → k < length gaps → 4 * k ≤ get_or gaps k 0
gaps_far reach gaps zero least apart lt = omega arith
gaps_far reach gaps (suc k) least apart lt =
    omega (arith, gaps_far reach gaps k least apart (omega arith), apart k (suc k) 0 (omega arith) lt)
