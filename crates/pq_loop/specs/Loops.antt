-- What contracts see of a loop.
use Rattle.std.specs.Prelude.{ℕ, cond, nat_lt, ◌+◌, ◌*◌, ◌<◌, ◌≤◌, Option, List, length, All, IsTrue}
use Rattle.pq_gate.specs.declared.gate.Gate.{Gate}
use Rattle.pq_limits.specs.Limits.{IsOmega}
use Rattle.pq_limits.specs.declared.TheConstants.{MAX_GATES}
use Rattle.pq_rules.specs.Row.{RowView, IsSound}
use Rattle.pq_array.specs.Cells.{live}
use Rattle.pq_method.specs.Round.{State, IsState}
use Rattle.pq_method.specs.Opt.{Cover}
use Rattle.pq_loop.specs.Segments.{stands, state_of}

-- The state, and how many cells the gates stand in; the window length and the rules; the rounds so far, the oracle's calls (the
-- selected fingers of these rounds), the phase of these rounds together, and the number of the first fingers.
pub record LoopView : Type 0 where
  pub state : State
  pub cells : ℕ
  pub omega : ℕ
  pub rules : List RowView
  pub rounds : ℕ
  pub calls : ℕ
  pub phase : ℕ
  pub first_fingers : ℕ

-- How many cells a round leaves, where there were so many and so many gates are left: the gates are put into as many cells as they
-- are where twice the gates are fewer than the cells.
abbrev pub cells_left : ℕ → ℕ → ℕ
cells_left cells gates = cond (nat_lt (2 * gates) cells) gates cells

-- nothing is overlooked: each run of at most Omega gates that has a redex lies in the segment of a finger
abbrev pub IsCovered : LoopView → Type 0
IsCovered loop = ∥ Cover loop.rules loop.omega loop.state ∥₁

-- What a loop keeps. The fingers are at places of live gates, or at the end; nothing is overlooked; and the calls
-- so far, with the fingers and twice the gates that are left, are few.
pub record IsKept (cells : List (Option Gate)) (fingers : List ℕ) (rules : List RowView) (omega rounds calls phase : ℕ) : Type 0 where
  pub omega_is : IsOmega omega
  pub sound : All IsSound rules
  pub few : length cells ≤ MAX_GATES
  pub stand : All (λ place. IsTrue (stands cells place)) fingers
  pub is_state : IsState (state_of cells fingers)
  pub cover : ∥ Cover rules omega (state_of cells fingers) ∥₁
  pub bound : calls + (length fingers + 2 * length (live cells)) ≤ 3 * MAX_GATES
  pub rounds_few : rounds ≤ calls
  pub turn : phase < 8
