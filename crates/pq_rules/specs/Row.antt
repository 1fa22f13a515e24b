use Rattle.std.specs.Prelude.{ℕ, ◌<◌, ◌≤◌, List, length}
use Rattle.std.specs.List.{Any}
use Rattle.pq_limits.specs.declared.TheConstants.{MIN_ROW_WIRES, MAX_ROW_WIRES, MAX_ROW_GATES}
use Rattle.pq_gate.specs.declared.gate.Gate.{Gate}
use Rattle.pq_gate.specs.Circuit.{IsCircuit}
use Rattle.pq_gate.specs.Commuting.{Touches}
use Rattle.pq_gate.specs.Matrix.{Same}

-- A row of rules: on its wires the pattern may be replaced by the replacement, which turns the whole
-- matrix back by ω^phase.
pub record RowView : Type 0 where
  pub wires : ℕ
  pub pattern : List Gate
  pub replacement : List Gate
  pub phase : ℕ

-- some gate uses the wire
abbrev pub Uses : List Gate → ℕ → Type 0
Uses gates w = Any (λ gate. Touches gate w) gates

-- there are 1 to 3 wires, both sides are circuits on them, and the pattern uses all of them
pub record HasItsWires (wires : ℕ) (pattern replacement : List Gate) : Type 0 where
  pub some : MIN_ROW_WIRES ≤ wires
  pub few : wires ≤ MAX_ROW_WIRES
  pub left : IsCircuit wires pattern
  pub right : IsCircuit wires replacement
  pub used : (w : ℕ) → w < wires → Uses pattern w

-- the pattern has at most 8 gates, and the replacement fewer
pub record Shortens (pattern replacement : List Gate) : Type 0 where
  pub short : length pattern ≤ MAX_ROW_GATES
  pub shorter : length replacement < length pattern

-- The row has its wires, and shortens; the pattern's matrix is ω^phase times the replacement's.
pub record IsSound (row : RowView) : Type 0 where
  pub wires : HasItsWires row.wires row.pattern row.replacement
  pub shortens : Shortens row.pattern row.replacement
  pub turn : row.phase ≤ 7
  pub same : Same row.wires row.pattern row.replacement row.phase
