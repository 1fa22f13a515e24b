-- Generated programs.
use Rattle.std.specs.Prelude.{ℕ, zero, suc, ◌+◌, ◌-◌, ◌/◌, ◌%◌, ◌==◌, if◌then◌else◌, List, [], ◌∷◌, codes}
use Rattle.rand_xoshiro.specs.SplitMix64.{mix_u64}
use Rattle.pq_gate.specs.declared.gate.Gate.{Gate}
use Rattle.pq_gate.specs.declared.gate.Gate.TheVariants.{H, X, Phase, Cx}
use Rattle.pq_gate.specs.declared.gate.Eighths.TheVariants.{T, S, Z, Sdg, Tdg}
use Rattle.pq_text.specs.Program.{ProgramView}

-- The target of a CX on n qubits, whose control this is: of the n - 1 other qubits one is taken by the number.
abbrev pub target_of : ℕ → ℕ → ℕ → ℕ
target_of n control number = (control + 1 + number % (n - 1)) % n

-- A CX whose control and target are taken by the number; on one qubit an H.
abbrev pub cx_of : ℕ → ℕ → Gate
cx_of n number = if n == 1 then H 0 else Cx (number % n) (target_of n (number % n) (number / n))

-- the gate of this kind, 0 to 7, on n qubits, whose wires are taken by the number
abbrev pub gate_of : ℕ → ℕ → ℕ → Gate
gate_of kind n number =
    if kind == 0 then H (number % n)
    else if kind == 1 then X (number % n)
    else if kind == 2 then Phase Z (number % n)
    else if kind == 3 then Phase S (number % n)
    else if kind == 4 then Phase Sdg (number % n)
    else if kind == 5 then Phase T (number % n)
    else if kind == 6 then Phase Tdg (number % n)
    else cx_of n number

-- so many gates on n qubits, one for each word of SplitMix64 from this state on
abbrev pub gates_from : ℕ → ℕ → ℕ → List Gate
gates_from zero n state = []
gates_from (suc count) n state =
    let word = (mix_u64 state).0 in gate_of (word % 8) n (word / 8) ∷ gates_from count n (mix_u64 state).1

-- the program of these gates on so many qubits: one quantum register `q`, and nothing but the gates
abbrev pub on_one_register : ℕ → List Gate → ProgramView
on_one_register qubits gates = record {
  qregs = record { name = codes "q"; size = qubits } ∷ [];
  cregs = [];
  gates = gates;
  tail = [];
}

-- the program of a seed, a number of qubits and a number of gates
abbrev pub generated : ℕ → ℕ → ℕ → ProgramView
generated seed qubits gates = on_one_register qubits (gates_from gates qubits seed)
