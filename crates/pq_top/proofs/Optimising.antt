-- What rounds leave of the gates of a program, under the built-in rules.
use Rattle.std.proofs.Common.{◌≡◌, ℕ, ◌+◌, ◌-◌, ◌*◌, ◌<◌, ◌≤◌, Result, Ok, Err, List, [], ◌++◌, length, ap, sym, subst, ◌∙◌, arith}
use Rattle.std.specs.Prelude.{All, IfOk}
use Rattle.pq_gate.specs.declared.gate.Gate.{Gate}
use Rattle.pq_gate.specs.Circuit.{IsCircuit}
use Rattle.pq_gate.specs.Matrix.{Same}
use Rattle.pq_text.specs.Program.{ProgramView, places_of}
use Rattle.pq_text.specs.WellFormed.{WellFormed}
use Rattle.pq_text.specs.Print.{print}
use Rattle.pq_read.specs.declared.program.Options.{Options}
use Rattle.pq_read.specs.declared.program.Program.{Program}
use Rattle.pq_read.specs.Environment.{view}
use Rattle.pq_read.specs.Reads.{Reads}
use Rattle.pq_rules.specs.Row.{RowView, IsSound}
use Rattle.pq_rules.specs.Table.{builtin_rows}
use Rattle.pq_loop.specs.declared.looping.Finished.{Finished}
use Rattle.pq_loop.specs.Gaps.{first_fingers}
use Rattle.pq_board.specs.Steps.{Numbers}
use Rattle.pq_loop.specs.Loops.{LoopView}
use Rattle.pq_loop.specs.Opt.{Total, phase_of, Opt, Local}
use Rattle.pq_loop.specs.Counted.{IsCounted, IsEndOf}
use Rattle.pq_method.proofs.Ending.{opt_local, opt_same, opt_bound}
use Rattle.pq_write.specs.declared.report.ReportNumbers.{ReportNumbers}
use Rattle.pq_write.specs.Report.{report_text}
use Rattle.pq_generate.specs.Generated.{generated}
use Rattle.pq_top.specs.Outputs.{with_gates, report_of, KeepsMatrix, IsOptimised, IsOptText, IsBenchText}
use Rattle.pq_top.proofs.Leading.{IsOnItsWay, led_to_end}
use Rattle.pq_method.proofs.Shortening.{opt_shorter}

-- What holds of all that rounds from the first fingers leave.
pub record IsLeft (w : ℕ) (gates : List Gate) (finished : Finished) : Type 0 where
  pub opt : IsEndOf builtin_rows w gates finished
  pub same : KeepsMatrix gates finished.gates.items finished.phase
  pub local : Local builtin_rows w finished.gates.items
  pub shorter : length finished.gates.items ≤ length gates
  pub bound : finished.calls ≤ length (first_fingers (length gates) w) + 2 * (length gates - length finished.gates.items)

left_by_opt : (w : ℕ) (gates : List Gate) (finished : Finished) → 0 < w → All IsSound builtin_rows → IsEndOf builtin_rows w gates finished →
    IsLeft w gates finished
left_by_opt w gates finished some sound is = record {
  opt = is;
  same = record {
    same = λ n circuit.
        subst (λ (phase : ℕ). Same n gates finished.gates.items phase) (sym is.counted.phase)
        (subst (λ (left : List Gate). Same n gates left (phase_of is.total.rounds)) (sym is.counted.gates)
        (opt_same builtin_rows w gates is.total n some sound is.opt circuit));
  };
  local = subst (Local builtin_rows w) (sym is.counted.gates) (opt_local builtin_rows w gates is.total some sound is.opt);
  shorter = omega (arith, long, shorter);
  bound = omega (arith, long, shorter, is.counted.calls, opt_bound builtin_rows w gates is.total some sound is.opt);
}
  where
    long : length finished.gates.items ≡ length is.total.gates
    long = ap (λ (left : List Gate). length left) is.counted.gates

    shorter : length is.total.gates ≤ length gates
    shorter = opt_shorter builtin_rows w gates is.total some sound is.opt

-- what a loop answers at its end
pub left_at_end : {E : Type 0} (result : Result Finished E) (rules : List RowView) (w : ℕ) (gates : List Gate) (old log : List Numbers) (loop : LoopView) → 2 ≤ w →
    rules ≡ builtin_rows → All IsSound rules → IsOnItsWay builtin_rows w gates old loop log → loop.state.fingers ≡ [] →
    IfOk result (λ finished. finished.gates.items ≡ loop.state.gates) →
    IfOk result (λ finished. (finished.rounds ≡ loop.rounds) × (finished.calls ≡ loop.calls) × (finished.phase ≡ loop.phase)
    × (finished.first_fingers ≡ loop.first_fingers)) →
    IfOk result (λ finished. IsLeft w gates finished)
left_at_end (Err error) rules w gates old log loop least rules_are sound way none gates_are counts = tt
left_at_end (Ok finished) rules w gates old log loop least rules_are sound way none gates_are counts =
    left_by_opt w gates finished (omega arith) (subst (All IsSound) rules_are sound)
    (led_to_end builtin_rows w gates old log loop finished way none gates_are counts)

-- the program with these gates, no more than its own
pub still_well_formed : (p : ProgramView) (gates : List Gate) → WellFormed p → length gates ≤ length p.gates →
    IsCircuit (places_of p.qregs) gates → WellFormed (with_gates p gates)
still_well_formed p gates formed shorter circuit = record {
  registers = formed.registers;
  names = formed.names;
  qubits = formed.qubits;
  bits = formed.bits;
  circuit = circuit;
  gates = omega (arith, shorter, formed.gates);
  tail = formed.tail;
  entries = formed.entries;
}

-- The gates that are left of those that were handed on, which are a program's.

-- the program with the gates that are left is well formed
pub formed_with : (p : Program) (given : List Gate) (finished : Finished) → given ≡ p.gates.items → WellFormed (view p) →
    length finished.gates.items ≤ length given → KeepsMatrix given finished.gates.items finished.phase →
    WellFormed (view (record { qregs = p.qregs; cregs = p.cregs; gates = finished.gates; tail = p.tail }))
formed_with p given finished is formed shorter keeps =
    still_well_formed (view p) finished.gates.items formed
    (subst (λ (gates : List Gate). length finished.gates.items ≤ length gates) is shorter)
    ((subst (λ (gates : List Gate). KeepsMatrix gates finished.gates.items finished.phase) is keeps).same (places_of (view p).qregs) formed.circuit).right

-- what rounds leave of the gates of a well formed program
pub optimised_by : (w : ℕ) (program : ProgramView) (given : List Gate) (finished : Finished) → given ≡ program.gates → WellFormed program →
    (is : IsEndOf builtin_rows w given finished) → KeepsMatrix given finished.gates.items finished.phase → Local builtin_rows w finished.gates.items →
    finished.calls ≤ length (first_fingers (length given) w) + 2 * (length given - length finished.gates.items) →
    IsOptimised w program is.total
optimised_by w program given finished given_is formed is keeps local bound = record {
  opt = subst (λ (gates : List Gate). Opt builtin_rows w gates is.total) given_is is.opt;
  same = subst (λ (phase : ℕ). Same (places_of program.qregs) program.gates is.total.gates phase) is.counted.phase
      (subst (λ (left : List Gate). Same (places_of program.qregs) program.gates left finished.phase) is.counted.gates
      ((subst (λ (gates : List Gate). KeepsMatrix gates finished.gates.items finished.phase) given_is keeps).same (places_of program.qregs) formed.circuit));
  local = subst (Local builtin_rows w) is.counted.gates local;
  bound = omega (arith, few, is.counted.calls, ap (λ (left : List Gate). length left) is.counted.gates);
}
  where
    few : finished.calls ≤ length (first_fingers (length program.gates) w) + 2 * (length program.gates - length finished.gates.items)
    few = subst (λ (gates : List Gate). finished.calls ≤ length (first_fingers (length gates) w) + 2 * (length gates - length finished.gates.items)) given_is bound

-- the numbers of a report, where the gates that were handed on are these
abbrev pub numbers_of : ℕ → ℕ → Finished → ReportNumbers
numbers_of count fingers finished = record {
  gates_in = count;
  gates_out = length finished.gates.items;
  rounds = finished.rounds;
  calls = finished.calls;
  first_fingers = fingers;
  phase = finished.phase;
}

pub reported : (w count fingers : ℕ) (gates : List Gate) (total : Total) (finished : Finished) → IsCounted total finished → count ≡ length gates →
    fingers ≡ length (first_fingers (length gates) w) → numbers_of count fingers finished ≡ report_of w gates total
reported w count fingers gates total finished counted count_is fingers_are = λ i. record {
  gates_in = count_is i;
  gates_out = length (counted.gates i);
  rounds = counted.rounds i;
  calls = counted.calls i;
  first_fingers = fingers_are i;
  phase = counted.phase i;
}

-- the text that is written with its report is the optimised one
pub opt_text_by : (w count : ℕ) (text output : List ℕ) (options : Options) (p : Program) (given : List Gate) (finished : Finished) (report : ReportNumbers) →
    given ≡ p.gates.items → count ≡ length p.gates.items → WellFormed (view p) → Reads text options (view p) →
    IsEndOf builtin_rows w given finished → KeepsMatrix given finished.gates.items finished.phase → Local builtin_rows w finished.gates.items →
    finished.calls ≤ length (first_fingers (length given) w) + 2 * (length given - length finished.gates.items) →
    finished.first_fingers ≡ length (first_fingers (length given) w) → report ≡ numbers_of count finished.first_fingers finished →
    output ≡ print (view (record { qregs = p.qregs; cregs = p.cregs; gates = finished.gates; tail = p.tail })) ++ report_text report →
    IsOptText w options text output
opt_text_by w count text output options p given finished report given_is long formed read is keeps local bound fingers report_is written = record {
  program = view p;
  read = read;
  total = is.total;
  optimised = optimised_by w (view p) given finished given_is formed is keeps local bound;
  written = written ∙ ap (λ r. print (with_gates (view p) finished.gates.items) ++ report_text r)
      (report_is ∙ reported w count finished.first_fingers p.gates.items is.total finished is.counted long
      (fingers ∙ ap (λ (gates : List Gate). length (first_fingers (length gates) w)) given_is))
      ∙ ap (λ (left : List Gate). print (with_gates (view p) left) ++ report_text (report_of w p.gates.items is.total)) is.counted.gates;
}

-- and so is the report on a generated program
pub bench_text_by : (w seed qubits gates count : ℕ) (output : List ℕ) (p : Program) (given : List Gate) (finished : Finished) (report : ReportNumbers) →
    given ≡ p.gates.items → count ≡ length p.gates.items → view p ≡ generated seed qubits gates → WellFormed (view p) →
    IsEndOf builtin_rows w given finished → KeepsMatrix given finished.gates.items finished.phase → Local builtin_rows w finished.gates.items →
    finished.calls ≤ length (first_fingers (length given) w) + 2 * (length given - length finished.gates.items) →
    finished.first_fingers ≡ length (first_fingers (length given) w) → report ≡ numbers_of count finished.first_fingers finished →
    output ≡ report_text report → IsBenchText w seed qubits gates output
bench_text_by w seed qubits gates count output p given finished report given_is long made formed is keeps local bound fingers report_is written = record {
  total = is.total;
  optimised = subst (λ (program : ProgramView). IsOptimised w program is.total) made (optimised_by w (view p) given finished given_is formed is keeps local bound);
  written = written ∙ ap report_text
      (report_is ∙ reported w count finished.first_fingers p.gates.items is.total finished is.counted long
      (fingers ∙ ap (λ (list : List Gate). length (first_fingers (length list) w)) given_is)
      ∙ ap (λ (program : ProgramView). report_of w program.gates is.total) made);
}
