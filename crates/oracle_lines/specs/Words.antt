-- The words of gates.
use Rattle.std.specs.Prelude.{ℕ, ◌+◌, List, [], ◌∷◌, ◌++◌, codes}
use Rattle.pq_gate.specs.declared.gate.Eighths.{Eighths}
use Rattle.pq_gate.specs.declared.gate.Eighths.TheVariants.{T, S, Z, Sdg, Tdg}
use Rattle.pq_gate.specs.declared.gate.Gate.{Gate}
use Rattle.pq_gate.specs.declared.gate.Gate.TheVariants.{H, X, Phase, Cx}

-- the digit of a wire below 10
abbrev pub digit_of : ℕ → ℕ
digit_of wire = 48 + wire

-- the name of a phase
abbrev pub phase_name : Eighths → List ℕ
phase_name T = codes "t"
phase_name S = codes "s"
phase_name Z = codes "z"
phase_name Sdg = codes "sdg"
phase_name Tdg = codes "tdg"

-- the word of a gate on wires below 10: its name and their digits
abbrev pub word_of : Gate → List ℕ
word_of (H wire) = codes "h" ++ digit_of wire ∷ []
word_of (X wire) = codes "x" ++ digit_of wire ∷ []
word_of (Phase eighths wire) = phase_name eighths ++ digit_of wire ∷ []
word_of (Cx control target) = codes "cx" ++ digit_of control ∷ digit_of target ∷ []
