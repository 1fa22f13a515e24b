-- The places of live gates and the end: their ranks rise as they do.
use Rattle.std.proofs.Common.{◌≡◌, ℕ, ◌+◌, ◌<◌, ◌≤◌, ◌⊎◌, inl, inr, Option, None, List, length, get_or, map, arith, true, eqb}
use Rattle.std.specs.Prelude.{is_some, IsTrue, All}
use Rattle.std.specs.List.Sorted.{IsStrictlyIncreasing}
use Rattle.std.proofs.lemmas.Bool.{or_cases, or_left, or_right, eqb-true, eq-eqb, cases_lt}
use Rattle.std.proofs.lemmas.List.{get_or-map, length-map}
use Rattle.pq_gate.specs.declared.gate.Gate.{Gate}
use Rattle.pq_array.specs.Cells.{live, IsLive, rank}
use Rattle.pq_array.proofs.Ranks.{live_inside, rank-lt, rank_end}
use Rattle.pq_loop.specs.Segments.{stands}

-- what stands is a live place or the end
pub stands_cases : (cells : List (Option Gate)) (place : ℕ) → IsTrue (stands cells place) → IsLive cells place ⊎ (place ≡ length cells)
stands_cases cells place is = by (or_cases (is_some (get_or cells place None)) (eqb place (length cells)) is)
  where
    by : (is_some (get_or cells place None) ≡ true) ⊎ (eqb place (length cells) ≡ true) → IsLive cells place ⊎ (place ≡ length cells)
    by (inl here) = inl here
    by (inr last) = inr (eqb-true place (length cells) last)

-- a live place stands
pub live_stands : (cells : List (Option Gate)) (place : ℕ) → IsLive cells place → IsTrue (stands cells place)
live_stands cells place here = or_left (is_some (get_or cells place None)) (eqb place (length cells)) here

-- and the end does
pub end_stands : (cells : List (Option Gate)) (place : ℕ) → place ≡ length cells → IsTrue (stands cells place)
end_stands cells place last = or_right (is_some (get_or cells place None)) (eqb place (length cells)) (eq-eqb place (length cells) last)

-- what stands isn't behind the end
pub standing_inside : (cells : List (Option Gate)) (place : ℕ) → IsTrue (stands cells place) → place ≤ length cells
standing_inside cells place is = by (stands_cases cells place is)
  where
    by : IsLive cells place ⊎ (place ≡ length cells) → place ≤ length cells
    by (inl here) = omega (arith, live_inside cells place here)
    by (inr last) = omega arith

-- what stands before the end is live
pub live_before_end : (cells : List (Option Gate)) (place : ℕ) → IsTrue (stands cells place) → place < length cells → IsLive cells place
live_before_end cells place is before = by (stands_cases cells place is)
  where
    by : IsLive cells place ⊎ (place ≡ length cells) → IsLive cells place
    by (inl here) = here
    by (inr last) = absurd (omega arith)

-- of two places that stand the later one has the greater rank
pub standing_rises : (cells : List (Option Gate)) (p q : ℕ) → IsTrue (stands cells p) → IsTrue (stands cells q) → p < q → rank cells p < rank cells q
standing_rises cells p q sp sq lt = rank-lt cells p q (live_before_end cells p sp (omega (arith, standing_inside cells q sq))) lt

-- so the greater rank has the later place
pub standing_from_rank : (cells : List (Option Gate)) (p q : ℕ) → IsTrue (stands cells p) → IsTrue (stands cells q) → rank cells p ≤ rank cells q → p ≤ q
standing_from_rank cells p q sp sq le = by (cases_lt q p)
  where
    by : (q < p) ⊎ (p ≤ q) → p ≤ q
    by (inl above) = absurd (omega (arith, standing_rises cells q p sq sp above))
    by (inr right) = right

-- and one rank has one place
pub standing_one : (cells : List (Option Gate)) (p q : ℕ) → IsTrue (stands cells p) → IsTrue (stands cells q) → rank cells p ≡ rank cells q → p ≡ q
standing_one cells p q sp sq same =
    let up : p ≤ q = standing_from_rank cells p q sp sq (omega arith) in
    let down : q ≤ p = standing_from_rank cells q p sq sp (omega arith) in
    omega arith

-- a place whose rank is below the number of live gates stands before the end
pub before_end : (cells : List (Option Gate)) (place : ℕ) → rank cells place < length (live cells) → place < length cells
before_end cells place below = by (cases_lt place (length cells))
  where
    by : (place < length cells) ⊎ (length cells ≤ place) → place < length cells
    by (inl before) = before
    by (inr behind) = absurd (omega (arith, rank_end cells place behind))

-- the ranks of places that stand and rise do too
pub ranks_rise : (cells : List (Option Gate)) (places : List ℕ) → All (λ place. IsTrue (stands cells place)) places → IsStrictlyIncreasing places
    → IsStrictlyIncreasing (map (rank cells) places)
ranks_rise cells places stand rises k below =
    let long : length (map (rank cells) places) ≡ length places = length-map places (rank cells) in
    let second : k + 1 < length places = omega arith in
    let first : k < length places = omega arith in
    rw (get_or-map (rank cells) places k 0 0 first, get_or-map (rank cells) places (k + 1) 0 0 second)
    (standing_rises cells (get_or places k 0) (get_or places (k + 1) 0) (stand k 0 first) (stand (k + 1) 0 second) (rises k second))
