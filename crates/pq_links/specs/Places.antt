use Rattle.std.specs.Prelude.{ℕ, List, slice_index_or}
use Rattle.pq_gate.specs.declared.gate.Gate.{Gate}
use Rattle.pq_gate.specs.declared.gate.Gate.TheVariants.{H}

-- the gate at a place; past the end there is none, and this is H on wire 0
abbrev pub gate_at : List Gate → ℕ → Gate
gate_at gates place = slice_index_or gates place (H 0)
