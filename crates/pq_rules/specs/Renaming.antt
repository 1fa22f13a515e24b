use Rattle.std.specs.Prelude.{◌≡◌, ℕ, ◌<◌, List, length, slice_index}
use Rattle.pq_gate.specs.declared.gate.Gate.{Gate}
use Rattle.pq_gate.specs.Kind.{kind_of, gate_on}
use Rattle.pq_gate.specs.Ports.{first_wire, last_wire}

-- A renaming leads the wires below m to different wires below n. It is the list of the wires that
-- they are led to.
pub record IsRenaming (m n : ℕ) (e : List ℕ) : Type 0 where
  pub whole : length e ≡ m
  pub inside : (w : ℕ) → w < m → slice_index e w < n
  pub apart : (v w : ℕ) → v < m → w < m → slice_index e v ≡ slice_index e w → v ≡ w

-- the gate of the same kind on the wires that its wires are led to
abbrev pub renamed : List ℕ → Gate → Gate
renamed e gate = gate_on (kind_of gate) (slice_index e (first_wire gate)) (slice_index e (last_wire gate))
