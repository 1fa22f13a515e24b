use Rattle.std.specs.Prelude.{ℕ, ◌+◌}
use Rattle.pq_gate.specs.declared.gate.Eighths.{Eighths}
use Rattle.pq_gate.specs.declared.gate.Eighths.TheVariants.{T, S, Z, Sdg, Tdg}
use Rattle.pq_gate.specs.declared.gate.Gate.{Gate}
use Rattle.pq_gate.specs.declared.gate.Gate.TheVariants.{H, X, Phase, Cx}
use Rattle.pq_gate.specs.declared.kind.Kind.{Kind}
use Rattle.pq_gate.specs.declared.kind.Kind.TheVariants as kind

-- what the gate is, but for its wires
abbrev pub kind_of : Gate → Kind
kind_of (H wire) = kind.H
kind_of (X wire) = kind.X
kind_of (Phase eighths wire) = kind.Phase eighths
kind_of (Cx control target) = kind.Cx

-- the gate of this kind on these wires; one on a single wire is on the first
abbrev pub gate_on : Kind → ℕ → ℕ → Gate
gate_on kind.H first last = H first
gate_on kind.X first last = X first
gate_on kind.Cx first last = Cx first last
gate_on (kind.Phase eighths) first last = Phase eighths first

-- the phases are numbered from 0
abbrev pub rank_of : Eighths → ℕ
rank_of T = 0
rank_of S = 1
rank_of Z = 2
rank_of Sdg = 3
rank_of Tdg = 4

-- the number of a kind
abbrev pub number_of : Kind → ℕ
number_of kind.H = 0
number_of kind.X = 1
number_of kind.Cx = 2
number_of (kind.Phase eighths) = 3 + rank_of eighths
