-- The canonical text of a program.
use Rattle.std.specs.Prelude.{ℕ, ◌-◌, List, [], ◌∷◌, ◌++◌, map, flat_map, codes, decimal, nat_lt, if◌then◌else◌}
use Rattle.std.specs.List.{join_with_byte}
use Rattle.pq_gate.specs.declared.gate.Gate.{Gate}
use Rattle.pq_gate.specs.declared.gate.Gate.TheVariants.{H, X, Phase, Cx}
use Rattle.pq_gate.specs.Ports.{wires_of}
use Rattle.pq_gate.specs.declared.gate.Eighths.{Eighths}
use Rattle.pq_gate.specs.declared.gate.Eighths.TheVariants.{T, S, Z, Sdg, Tdg}
use Rattle.pq_text.specs.Program.{RegisterView, TailView, Barrier, Measure, ProgramView}

-- the two lines that each text begins with
unfoldable pub header : List ℕ
header = codes "OPENQASM 2.0;\ninclude \"qelib1.inc\";\n"

-- `NAME[INDEX]`: 91 is `[` and 93 is `]`
abbrev pub indexed : List ℕ → ℕ → List ℕ
indexed name index = name ++ (91 ∷ decimal index ++ 93 ∷ [])

-- a wire or a bit by its register and its index there; nothing is written for one past the last register
abbrev pub place : List RegisterView → ℕ → List ℕ
place [] n = []
place (r ∷ rs) n = if nat_lt n r.size then indexed r.name n else place rs (n - r.size)

-- `NAME[SIZE];` after `qreg` or `creg`
abbrev pub register_line : List ℕ → RegisterView → List ℕ
register_line word r = word ++ (32 ∷ indexed r.name r.size ++ codes ";\n")

-- a word, a space, the arguments with a comma between each two, and the end of the line
abbrev pub statement : List ℕ → List (List ℕ) → List ℕ
statement word arguments = word ++ (32 ∷ join_with_byte 44 arguments ++ codes ";\n")

-- the word that a gate is written with
abbrev pub phase_word : Eighths → List ℕ
phase_word T = codes "t"
phase_word S = codes "s"
phase_word Z = codes "z"
phase_word Sdg = codes "sdg"
phase_word Tdg = codes "tdg"

abbrev pub gate_word : Gate → List ℕ
gate_word (H wire) = codes "h"
gate_word (X wire) = codes "x"
gate_word (Phase eighths wire) = phase_word eighths
gate_word (Cx control target) = codes "cx"

-- the line of a gate over the quantum registers: its word and its wires
abbrev pub gate_line : List RegisterView → Gate → List ℕ
gate_line qregs gate = statement (gate_word gate) (map (place qregs) (wires_of gate))

-- the line of an entry of the tail over the quantum and the classical registers
abbrev pub tail_line : List RegisterView → List RegisterView → TailView → List ℕ
tail_line qregs cregs (Barrier wires) = statement (codes "barrier") (map (place qregs) wires)
tail_line qregs cregs (Measure wire bit) =
    codes "measure " ++ (place qregs wire ++ (codes " -> " ++ (place cregs bit ++ codes ";\n")))

-- The whole text: the two lines of the header, one line for each quantum register, one for each classical
-- one, one for each gate, and one for each entry of the tail.
abbrev pub print : ProgramView → List ℕ
print p =
    header
    ++ (flat_map (register_line (codes "qreg")) p.qregs
    ++ (flat_map (register_line (codes "creg")) p.cregs
    ++ (flat_map (gate_line p.qregs) p.gates
    ++ flat_map (tail_line p.qregs p.cregs) p.tail)))
