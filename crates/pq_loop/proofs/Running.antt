-- Walking over the live places of a run, cell by cell.
use Rattle.std.proofs.Common.{◌≡◌, ℕ, suc, ◌+◌, ◌<◌, ◌≤◌, ◌⊎◌, inl, inr, Option, List, [], ◌∷◌, ◌++◌, length, get_or, subst, arith}
use Rattle.std.specs.Prelude.{All}
use Rattle.std.specs.List.Sorted.{IsStrictlyIncreasing}
use Rattle.std.proofs.lemmas.Bool.{cases_lt}
use Rattle.std.proofs.lemmas.List.{length_push, get_or_push, get_or_append_left}
use Rattle.std.proofs.lemmas.List.Elements.{All-push}
use Rattle.pq_gate.specs.declared.gate.Gate.{Gate}
use Rattle.pq_array.specs.Cells.{IsLive, rank}
use Rattle.pq_array.proofs.Ranks.{live_inside, rank-suc_live}
use Rattle.pq_loop.specs.Segments.{AreOfRun}
use Rattle.pq_loop.proofs.Growing.{increasing_push}

-- the live places from a gap up to the one of this number, all of them below a place that has the number as its rank
pub record Runs (cells : List (Option Gate)) (from number place : ℕ) (list : List ℕ) : Type 0 where
  pub places : AreOfRun cells from number list
  pub up : from ≤ number
  pub rank_is : rank cells place ≡ number
  pub inside : place ≤ length cells
  pub below : All (λ listed. listed < place) list
  pub rising : IsStrictlyIncreasing list

-- none at the gap itself
pub runs_none : (cells : List (Option Gate)) (from place : ℕ) → rank cells place ≡ from → place ≤ length cells → Runs cells from from place []
runs_none cells from place is inside = record {
  places = record { count = omega arith; live = λ i lt. absurd (omega arith); ranks = λ i lt. absurd (omega arith) };
  up = omega arith;
  rank_is = is;
  inside = inside;
  below = λ k d lt. absurd (omega arith);
  rising = λ k lt. absurd (omega arith);
}

-- an index of a list with one more item
last_or_before : (list : List ℕ) (more i : ℕ) → i < length (list ++ more ∷ []) → (i < length list) ⊎ (length list ≡ i)
last_or_before list more i lt = by (cases_lt i (length list))
  where
    by : (i < length list) ⊎ (length list ≤ i) → (i < length list) ⊎ (length list ≡ i)
    by (inl before) = inl before
    by (inr behind) = inr (omega (arith, length_push list more))

-- what holds of each item and of one more
push_each : (P : ℕ → ℕ → Type 0) (list : List ℕ) (more : ℕ) → ((i : ℕ) → i < length list → P i (get_or list i 0)) → P (length list) more →
    (i : ℕ) → i < length (list ++ more ∷ []) → P i (get_or (list ++ more ∷ []) i 0)
push_each P list more each last i lt = by (last_or_before list more i lt)
  where
    by : (i < length list) ⊎ (length list ≡ i) → P i (get_or (list ++ more ∷ []) i 0)
    by (inl before) = rw (get_or_append_left list (more ∷ []) 0 i before) (each i before)
    by (inr at) = rw (get_or_push list more 0 i at) (subst (λ (n : ℕ). P n more) at last)

-- the next live place is one more
pub runs_more : (cells : List (Option Gate)) (from number place next : ℕ) (list : List ℕ) → Runs cells from number place list →
    IsLive cells next → rank cells next ≡ rank cells place → place ≤ next → Runs cells from (number + 1) (next + 1) (list ++ next ∷ [])
runs_more cells from number place next list runs here same after = record {
  places = record {
    count = omega (arith, length_push list next, runs.places.count, runs.up);
    live = push_each (λ i p. IsLive cells p) list next runs.places.live here;
    ranks = push_each (λ i p. rank cells p ≡ from + i) list next runs.places.ranks (omega (arith, runs.places.count, runs.up, runs.rank_is));
  };
  up = omega (arith, runs.up);
  rank_is = let step : next + 1 ≡ suc next = omega arith in rw step (omega (arith, rank-suc_live cells next here, runs.rank_is));
  inside = omega (arith, live_inside cells next here);
  below = All-push (λ listed. listed < next + 1) list next (λ k d lt. omega (arith, runs.below k d lt)) (omega arith);
  rising = increasing_push list next runs.rising (λ k d lt. omega (arith, runs.below k d lt));
}
