use Rattle.std.specs.Prelude.{◌≡◌, ℕ, ◌<◌, ◌^◌, Bool, List, [], slice_index_or}
use Rattle.pq_gate.specs.declared.gate.Gate.{Gate}
use Rattle.pq_gate.specs.declared.ring.Ring.{Ring}
use Rattle.pq_gate.specs.Matrix.{Entry}
use Rattle.pq_gate.specs.Ring.{rooted}
use Rattle.pq_rules.specs.Bounds.{zeros}
use Rattle.pq_rules.specs.States.{state}

-- a column of eight has the weights of the states with the numbers 0 to 7
abbrev pub HasWeights : ℕ → List Ring → (List Bool → Ring) → Type 0
HasWeights n column f = (x : ℕ) → x < 8 → slice_index_or column x zeros ≡ f (state n x)

-- the columns of a circuit's matrix on n wires, times √2^roots more: column y has what leads to the state y
abbrev pub IsMatrix : ℕ → ℕ → List Gate → List (List Ring) → Type 0
IsMatrix n roots gates columns = (y : ℕ) → y < 2 ^ n →
    HasWeights n (slice_index_or columns y []) (λ x. rooted roots (Entry gates x (state n y)))
