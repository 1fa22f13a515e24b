use Rattle.std.specs.List.{AllByRecursion}
use Rattle.std.specs.Prelude.{◌≢◌, ℕ, ◌<◌, List, [], ◌∷◌}
use Rattle.pq_gate.specs.declared.gate.Gate.{Gate}
use Rattle.pq_gate.specs.Ports.{wires_of}

-- the one or two wires of a gate are below n, and two of them are different
abbrev pub AreOn : ℕ → List ℕ → Type 0
AreOn n [] = Unit {0}
AreOn n (wire ∷ []) = wire < n
AreOn n (first ∷ second ∷ rest) = (first < n) × (second < n) × (first ≢ second)

-- the gate acts on wires below n, and a CX on two different ones
abbrev pub IsOnWires : ℕ → Gate → Type 0
IsOnWires n gate = AreOn n (wires_of gate)

-- a circuit on n wires is a list of gates on them, in the order in which they act
abbrev pub IsCircuit : ℕ → List Gate → Type 0
IsCircuit n gates = AllByRecursion (IsOnWires n) gates
