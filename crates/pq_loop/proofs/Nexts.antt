-- The next live place from a place on.
use Rattle.std.proofs.Common.{◌≡◌, ℕ, ◌+◌, ◌-◌, ◌<◌, ◌≤◌, Option, Some, None, List, length, refl, sym, ap, ◌∙◌, arith}
use Rattle.std.specs.Prelude.{◌↔◌, IsNone, IsSome}
use Rattle.pq_gate.specs.declared.gate.Gate.{Gate}
use Rattle.pq_array.specs.Cells.{live, IsLive, rank}
use Rattle.pq_array.proofs.Ranks.{rank_end, rank_stays}

-- no place from this one on is live
abbrev pub IsLast : List (Option Gate) → ℕ → Type 0
IsLast cells place = (later : ℕ) → place ≤ later → IsLive cells later → ⊥

-- then all live gates are before it
pub rank_of_last : (cells : List (Option Gate)) (place : ℕ) → IsLast cells place → rank cells place ≡ length (live cells)
rank_of_last cells place last =
    sym (rank_stays cells place (length cells) (λ later from before. last later from)) ∙ rank_end cells (place + length cells) (omega arith)

-- where live gates are left there is a next one
pub next_some : (cells : List (Option Gate)) (place : ℕ) (next : Option ℕ) → rank cells place < length (live cells) →
    (IsNone next ↔ ((later : ℕ) → place ≤ later → IsLive cells later → ⊥)) → IsSome next
next_some cells place None below says = absurd (omega (arith, rank_of_last cells place (says.0 refl)))
next_some cells place (Some next) below says = refl

-- it has the same rank
pub next_rank : (cells : List (Option Gate)) (place next : ℕ) → place ≤ next →
    ((later : ℕ) → place ≤ later → IsLive cells later → next ≤ later) → rank cells next ≡ rank cells place
next_rank cells place next after least =
    let whole : next ≡ place + (next - place) = omega arith in
    ap (λ (p : ℕ). rank cells p) whole ∙ rank_stays cells place (next - place) (λ later from before here. omega (arith, least later from here))
