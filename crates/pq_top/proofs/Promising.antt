-- What `opt` promises of its text and its output.
use Rattle.std.proofs.Common.{◌≡◌, ℕ, ◌+◌, ◌-◌, ◌*◌, ◌≤◌, Result, Ok, Err, Option, Some, List, ◌++◌, length, refl, sym, ap, subst, ◌∙◌, arith}
use Rattle.std.proofs.lemmas.List.{append_cancel_left}
use Rattle.std.specs.Io.KnownBytes.{Appends}
use Rattle.pq_limits.specs.declared.TheConstants.{MAX_INPUT}
use Rattle.pq_gate.specs.declared.gate.Gate.{Gate}
use Rattle.pq_gate.specs.Matrix.{Same}
use Rattle.pq_io.specs.Whole.{TakesAll, ReadsToEnd}
use Rattle.pq_text.specs.Program.{ProgramView, places_of}
use Rattle.pq_text.specs.WellFormed.{WellFormed}
use Rattle.pq_text.specs.Print.{print}
use Rattle.pq_read.specs.declared.program.Options.{Options}
use Rattle.pq_read.specs.Reads.{Reads}
use Rattle.pq_read.proofs.Kept.{reads_well_formed}
use Rattle.pq_rules.specs.Table.{builtin_rows}
use Rattle.pq_loop.specs.Opt.{Total, calls_of, phase_of, Opt, Local}
use Rattle.pq_loop.specs.Gaps.{first_fingers}
use Rattle.pq_rules.proofs.BuiltinRows.{builtin_rows_sound}
use Rattle.pq_method.proofs.Shortening.{opt_shorter}
use Rattle.pq_write.proofs.ReadBack.{reads_printed}
use Rattle.pq_write.specs.declared.report.ReportNumbers.{ReportNumbers}
use Rattle.pq_command.specs.declared.fault.UsageFault.{UsageFault}
use Rattle.pq_command.specs.declared.settings.Settings.{Settings}
use Rattle.pq_command.specs.declared.settings.Settings.TheVariants as settings
use Rattle.pq_command.specs.Ranges.{IsInRange}
use Rattle.pq_command.proofs.InRange.{asked_in_range}
use Rattle.pq_top.specs.Request.{reads_by}
use Rattle.pq_top.specs.Outputs.{with_gates, report_of, IsOptText, Makes}
use Rattle.pq_top.specs.Answers.{HasRead, Produces}
use Rattle.pq_top.specs.Promise.{OptRun, Optimises}
use Rattle.pq_top.proofs.OneOutput.{one_output_of_others}
use Rattle.pq_top.proofs.Optimising.{still_well_formed}

-- the settings that words ask for, others where they have a fault
abbrev settings_of : Settings → Result Settings UsageFault → Settings
settings_of other (Ok wanted) = wanted
settings_of other (Err fault) = other

-- what was read of a source that tells its bytes
told_text : (before after : Option (List ℕ)) (text read : List ℕ) → before ≡ Some text → TakesAll before after read → read ≡ text
told_text before after text read told taken = (subst (λ (b : Option (List ℕ)). TakesAll b after read) told taken).0

-- what was put into a sink that tells its bytes
told_output : (before after : Option (List ℕ)) (held output written : List ℕ) → before ≡ Some held → after ≡ Some (held ++ output) → Appends before after written
    → written ≡ output
told_output before after held output written was now put =
    sym (append_cancel_left held output written
    (subst (λ (a : Option (List ℕ)). Appends (Some held) a written) now (subst (λ (b : Option (List ℕ)). Appends b after written) was put)))

-- what a run of `opt` makes
pub made_by : (w workers : ℕ) (options : Options) (text output : List ℕ) → OptRun w workers options text output
    → Makes (settings.Opt w workers options.drop_barriers) text 0 output
made_by w workers options text output run =
    let produces : Produces run.words run.source 0 run.done.written = run.done.produces in
    let opt : Settings = settings.Opt w workers options.drop_barriers in
    let wanted : produces.wanted ≡ opt = ap (settings_of opt) (sym produces.asks ∙ run.asks) in
    let reads : ReadsToEnd run.source.before run.source.after MAX_INPUT produces.text =
    subst (λ (s : Settings). HasRead (reads_by s) run.source produces.text) wanted produces.reads in
    let read : produces.text ≡ text = told_text run.source.before run.source.after text produces.text run.gave reads.taken in
    let put : run.done.written ≡ output =
    told_output run.sink.before run.sink.after run.held output run.done.written run.before run.after run.done.holds in
    subst (λ (written : List ℕ). Makes opt text 0 written) put
    (subst (λ (given : List ℕ). Makes opt given 0 run.done.written) read
    (subst (λ (s : Settings). Makes s produces.text 0 run.done.written) wanted produces.makes))

pub optimised_by_run : (w workers : ℕ) (options : Options) (text output : List ℕ) → OptRun w workers options text output
    → (p q : ProgramView) × (report : ReportNumbers) × Optimises w options text output p q report
optimised_by_run w workers options text output run =
    let is : IsOptText w options text output = (made_by w workers options text output run).1 in
    let ranges : IsInRange (settings.Opt w workers options.drop_barriers) = asked_in_range run.words (settings.Opt w workers options.drop_barriers) run.asks in (
      is.program,
      with_gates is.program is.total.gates,
      report_of w is.program.gates is.total,
      record { range = ranges.0; read = is.read; total = is.total; optimised = is.optimised; left = refl; reported = refl; written = is.written },
    )

pub same_output : (w workers others : ℕ) (options : Options) (text output other : List ℕ) → OptRun w workers options text output
    → OptRun w others options text other → output ≡ other
same_output w workers others options text output other run another =
    (one_output_of_others (settings.Opt w workers options.drop_barriers) (settings.Opt w others options.drop_barriers) text 0 0 output other (others, refl)
    (made_by w workers options text output run) (made_by w others options text other another)).1

-- the parts of the promise
gates_left : (w : ℕ) (options : Options) (text output : List ℕ) (p q : ProgramView) (report : ReportNumbers) (is : Optimises w options text output p q report)
    → q.gates ≡ is.total.gates
gates_left w options text output p q report is = ap (λ (r : ProgramView). r.gates) is.left

pub framed : (w : ℕ) (options : Options) (text output : List ℕ) (p q : ProgramView) (report : ReportNumbers) → Optimises w options text output p q report
    → (q.qregs ≡ p.qregs) × (q.cregs ≡ p.cregs) × (q.tail ≡ p.tail)
framed w options text output p q report is =
    (ap (λ (r : ProgramView). r.qregs) is.left, ap (λ (r : ProgramView). r.cregs) is.left, ap (λ (r : ProgramView). r.tail) is.left)

pub read_again : (w : ℕ) (options : Options) (text output : List ℕ) (p q : ProgramView) (report : ReportNumbers) → Optimises w options text output p q report
    → Reads (print q) options q
read_again w options text output p q report is =
    let formed : WellFormed p = reads_well_formed text options p is.read in
    let shorter : length is.total.gates ≤ length p.gates =
    opt_shorter builtin_rows w p.gates is.total (omega (arith, is.range.least)) builtin_rows_sound is.optimised.opt in
    reads_printed q options
    (subst WellFormed (sym is.left)
    (still_well_formed p is.total.gates formed shorter is.optimised.same.right))

pub keeps_matrix : (w : ℕ) (options : Options) (text output : List ℕ) (p q : ProgramView) (report : ReportNumbers) → Optimises w options text output p q report
    → Same (places_of p.qregs) p.gates q.gates report.phase
keeps_matrix w options text output p q report is =
    subst (λ (phase : ℕ). Same (places_of p.qregs) p.gates q.gates phase) (sym (ap (λ (r : ReportNumbers). r.phase) is.reported))
    (subst (λ (gates : List Gate). Same (places_of p.qregs) p.gates gates (phase_of is.total.rounds)) (sym (gates_left w options text output p q report is)) is.optimised.same)

pub is_local : (w : ℕ) (options : Options) (text output : List ℕ) (p q : ProgramView) (report : ReportNumbers) → Optimises w options text output p q report
    → Local builtin_rows w q.gates
is_local w options text output p q report is =
    subst (Local builtin_rows w) (sym (gates_left w options text output p q report is)) is.optimised.local

pub few_calls : (w : ℕ) (options : Options) (text output : List ℕ) (p q : ProgramView) (report : ReportNumbers) → Optimises w options text output p q report
    → report.calls ≤ report.first_fingers + 2 * (length p.gates - length q.gates)
few_calls w options text output p q report is =
    subst (λ (r : ReportNumbers). r.calls ≤ r.first_fingers + 2 * (length p.gates - length q.gates)) (sym is.reported)
    (subst (λ (gates : List Gate). calls_of is.total.rounds ≤ length (first_fingers (length p.gates) w) + 2 * (length p.gates - length gates))
    (sym (gates_left w options text output p q report is)) is.optimised.bound)

pub counts_gates : (w : ℕ) (options : Options) (text output : List ℕ) (p q : ProgramView) (report : ReportNumbers) → Optimises w options text output p q report
    → (report.gates_in ≡ length p.gates) × (report.gates_out ≡ length q.gates)
counts_gates w options text output p q report is = (
  ap (λ (r : ReportNumbers). r.gates_in) is.reported,
  ap (λ (r : ReportNumbers). r.gates_out) is.reported ∙ ap (λ (gates : List Gate). length gates) (sym (gates_left w options text output p q report is)),
)

pub counts_rounds : (w : ℕ) (options : Options) (text output : List ℕ) (p q : ProgramView) (report : ReportNumbers) → Optimises w options text output p q report
    → (total : Total) × Opt builtin_rows w p.gates total × (q.gates ≡ total.gates) × (report.rounds ≡ length total.rounds) × (report.calls ≡ calls_of total.rounds)
    × (report.phase ≡ phase_of total.rounds)
counts_rounds w options text output p q report is = (
  is.total,
  is.optimised.opt,
  gates_left w options text output p q report is,
  ap (λ (r : ReportNumbers). r.rounds) is.reported,
  ap (λ (r : ReportNumbers). r.calls) is.reported,
  ap (λ (r : ReportNumbers). r.phase) is.reported,
)
