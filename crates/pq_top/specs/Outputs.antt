-- What each command makes of the program that is read, or generated.
use Rattle.std.specs.Prelude.{◌≡◌, ℕ, ◌+◌, ◌-◌, ◌*◌, ◌≤◌, ◌⊎◌, List, ◌++◌, length, codes, decimal}
use Rattle.std.specs.List.{flat_map}
use Rattle.pq_limits.specs.declared.TheConstants.{MAX_INPUT}
use Rattle.pq_gate.specs.declared.gate.Gate.{Gate}
use Rattle.pq_gate.specs.Circuit.{IsCircuit}
use Rattle.pq_gate.specs.Matrix.{Same}
use Rattle.pq_text.specs.Program.{ProgramView, places_of}
use Rattle.pq_text.specs.Print.{print}
use Rattle.pq_read.specs.declared.program.Options.{Options}
use Rattle.pq_read.specs.Reads.{Reads}
use Rattle.pq_rules.specs.Table.{builtin_rows}
use Rattle.pq_match.specs.Redex.{RedexView}
use Rattle.pq_match.specs.First.{IsFirst, HasNoneWithin}
use Rattle.pq_loop.specs.Gaps.{first_fingers}
use Rattle.pq_loop.specs.Opt.{Total, calls_of, phase_of, Opt, Local}
use Rattle.pq_write.specs.declared.report.ReportNumbers.{ReportNumbers}
use Rattle.pq_write.specs.Report.{report_text}
use Rattle.pq_generate.specs.Generated.{generated}
use Rattle.pq_command.specs.declared.settings.Settings.{Settings}
use Rattle.pq_command.specs.declared.settings.Settings.TheVariants as settings

-- a text that is accepted when it is read in this way: it is within the limit, and stands for a program
pub record IsAccepted (options : Options) (text : List ℕ) : Type 0 where
  pub within : length text ≤ MAX_INPUT
  pub program : ProgramView
  pub read : Reads text options program

-- the program with these gates in place of its own
abbrev pub with_gates : ProgramView → List Gate → ProgramView
with_gates program gates = record program { gates = gates }

-- Where the old gates are a circuit, so are the new ones, and the old ones' matrix is theirs turned by the phase.
pub record KeepsMatrix (old new : List Gate) (phase : ℕ) : Type 0 where
  pub same : (n : ℕ) → IsCircuit n old → Same n old new phase

-- What rounds leave of a program's gates, under the built-in rules and with the window length Omega. The matrix of
-- its own gates is that of the gates that are left, turned by the phase. No run of at most Omega neighbouring
-- gates that are left has a redex. The calls of the oracle are at most the first fingers and twice the removed gates.
pub record IsOptimised (omega : ℕ) (program : ProgramView) (total : Total) : Type 0 where
  pub opt : Opt builtin_rows omega program.gates total
  pub same : Same (places_of program.qregs) program.gates total.gates (phase_of total.rounds)
  pub local : Local builtin_rows omega total.gates
  pub bound : calls_of total.rounds ≤ length (first_fingers (length program.gates) omega) + 2 * (length program.gates - length total.gates)

-- the report on these gates and what rounds left of them
abbrev pub report_of : ℕ → List Gate → Total → ReportNumbers
report_of omega gates total = record {
  gates_in = length gates;
  gates_out = length total.gates;
  rounds = length total.rounds;
  calls = calls_of total.rounds;
  first_fingers = length (first_fingers (length gates) omega);
  phase = phase_of total.rounds;
}

-- The text stands for a program. The output is the canonical text of the same program with the gates that rounds
-- leave of its own, and then the report.
pub record IsOptText (omega : ℕ) (options : Options) (text output : List ℕ) : Type 0 where
  pub program : ProgramView
  pub read : Reads text options program
  pub total : Total
  pub optimised : IsOptimised omega program total
  pub written : output ≡ print (with_gates program total.gates) ++ report_text (report_of omega program.gates total)

-- a number after a space
abbrev pub spaced : ℕ → List ℕ
spaced number = codes " " ++ decimal number

-- `redex R at P1 P2 ..`: the number of the row, and all places
unfoldable pub redex_line : RedexView → List ℕ
redex_line redex = codes "redex " ++ (decimal redex.row ++ (codes " at" ++ (flat_map spaced redex.places ++ codes "\n")))

unfoldable pub local_line : List ℕ
local_line = codes "local\n"

-- the gates have a redex within the span, and the output names the first
pub record NamesRedex (omega : ℕ) (gates : List Gate) (output : List ℕ) : Type 0 where
  pub redex : RedexView
  pub first : IsFirst builtin_rows gates omega redex
  pub not_local : ¬ Local builtin_rows omega gates
  pub written : output ≡ redex_line redex

-- the gates have no redex within the span, and the output says so
pub record SaysLocal (omega : ℕ) (gates : List Gate) (output : List ℕ) : Type 0 where
  pub none : HasNoneWithin builtin_rows gates omega
  pub local : Local builtin_rows omega gates
  pub written : output ≡ local_line

-- The text stands for a program. With status 1 its gates have a redex within the span of Omega, with status 0 they
-- have none, and the output says which.
pub record IsCheckText (omega : ℕ) (options : Options) (text : List ℕ) (status : ℕ) (output : List ℕ) : Type 0 where
  pub program : ProgramView
  pub read : Reads text options program
  pub says : ((status ≡ 0) × SaysLocal omega program.gates output) ⊎ ((status ≡ 1) × NamesRedex omega program.gates output)

-- the output is the report on optimising the generated program
pub record IsBenchText (omega seed qubits gates : ℕ) (output : List ℕ) : Type 0 where
  pub total : Total
  pub optimised : IsOptimised omega (generated seed qubits gates) total
  pub written : output ≡ report_text (report_of omega (generated seed qubits gates).gates total)

-- What a command makes: the status and the output, of the text that was read where it reads one.
abbrev pub Makes : Settings → List ℕ → ℕ → List ℕ → Type 0
Makes (settings.Opt omega workers drop_barriers) text status output =
    (status ≡ 0) × IsOptText omega (record { drop_barriers = drop_barriers }) text output
Makes (settings.Check omega drop_barriers) text status output =
    IsCheckText omega (record { drop_barriers = drop_barriers }) text status output
Makes (settings.Gen seed qubits gates) text status output = (status ≡ 0) × (output ≡ print (generated seed qubits gates))
Makes (settings.Bench omega workers seed qubits gates) text status output =
    (status ≡ 0) × IsBenchText omega seed qubits gates output
