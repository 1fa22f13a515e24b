-- A command makes one output of a text, with one status.
use Rattle.std.proofs.Common.{◌≡◌, ◌⊎◌, ℕ, List, ◌++◌, inl, inr, ap, ap₂, sym, subst, ◌∙◌}
use Rattle.pq_gate.specs.declared.gate.Gate.{Gate}
use Rattle.pq_text.specs.Program.{ProgramView}
use Rattle.pq_text.specs.Print.{print}
use Rattle.pq_read.specs.declared.program.Options.{Options}
use Rattle.pq_read.specs.Reads.{Reads}
use Rattle.pq_read.proofs.Answers.{one_answer}
use Rattle.pq_rules.specs.Table.{builtin_rows}
use Rattle.pq_rules.proofs.BuiltinRows.{builtin_rows_sound}
use Rattle.pq_match.proofs.OneFirst.{one_first}
use Rattle.pq_loop.specs.Opt.{Total, Opt}
use Rattle.pq_method.proofs.OneOpt.{opt_only}
use Rattle.pq_write.specs.Report.{report_text}
use Rattle.pq_generate.specs.Generated.{generated}
use Rattle.pq_command.specs.declared.settings.Settings.{Settings}
use Rattle.pq_command.specs.declared.settings.Settings.TheVariants as settings
use Rattle.pq_top.specs.Request.{DifferInWorkers}
use Rattle.pq_top.specs.Outputs.{with_gates, report_of, redex_line, IsOptimised, IsOptText, NamesRedex, SaysLocal, IsCheckText, IsBenchText, Makes}

one_program : (options : Options) (text : List ℕ) (p q : ProgramView) → Reads text options p → Reads text options q → p ≡ q
one_program options text p q left right = (one_answer text options).one_program p q left right

one_total : (w : ℕ) (p q : ProgramView) (total other : Total) → p ≡ q → IsOptimised w p total → IsOptimised w q other → total ≡ other
one_total w p q total other same left right =
    opt_only builtin_rows w p.gates total other builtin_rows_sound left.opt
    (subst (λ (r : ProgramView). Opt builtin_rows w r.gates other) (sym same) right.opt)

one_opt : (w : ℕ) (options : Options) (text output other : List ℕ) → IsOptText w options text output → IsOptText w options text other → output ≡ other
one_opt w options text output other left right =
    let programs : left.program ≡ right.program = one_program options text left.program right.program left.read right.read in
    let totals : left.total ≡ right.total = one_total w left.program right.program left.total right.total programs left.optimised right.optimised in
    left.written
    ∙ ap₂ (λ (p : ProgramView) (total : Total). print (with_gates p total.gates) ++ report_text (report_of w p.gates total)) programs totals
    ∙ sym right.written

one_bench : (w seed qubits gates : ℕ) (output other : List ℕ) → IsBenchText w seed qubits gates output → IsBenchText w seed qubits gates other → output ≡ other
one_bench w seed qubits gates output other left right =
    let program : ProgramView = generated seed qubits gates in
    let totals : left.total ≡ right.total = one_total w program program left.total right.total (λ i. program) left.optimised right.optimised in
    left.written ∙ ap (λ (total : Total). report_text (report_of w program.gates total)) totals ∙ sym right.written

one_line : (w : ℕ) (gates : List Gate) (output other : List ℕ) → NamesRedex w gates output → NamesRedex w gates other → output ≡ other
one_line w gates output other left right =
    let redexes : left.redex ≡ right.redex = one_first builtin_rows gates w left.redex right.redex builtin_rows_sound left.first right.first in
    left.written ∙ ap redex_line redexes ∙ sym right.written

-- what a check of these gates says
abbrev Says : ℕ → List Gate → ℕ → List ℕ → Type 0
Says w gates status output = ((status ≡ 0) × SaysLocal w gates output) ⊎ ((status ≡ 1) × NamesRedex w gates output)

one_said : (w : ℕ) (gates : List Gate) (status another : ℕ) (output other : List ℕ) → Says w gates status output → Says w gates another other →
    (status ≡ another) × (output ≡ other)
one_said w gates status another output other (inl left) (inl right) = (left.0 ∙ sym right.0, left.1.written ∙ sym right.1.written)
one_said w gates status another output other (inl left) (inr right) = absurd (right.1.not_local left.1.local)
one_said w gates status another output other (inr left) (inl right) = absurd (left.1.not_local right.1.local)
one_said w gates status another output other (inr left) (inr right) = (left.0 ∙ sym right.0, one_line w gates output other left.1 right.1)

one_check : (w : ℕ) (options : Options) (text : List ℕ) (status another : ℕ) (output other : List ℕ) → IsCheckText w options text status output →
    IsCheckText w options text another other → (status ≡ another) × (output ≡ other)
one_check w options text status another output other left right =
    let programs : left.program ≡ right.program = one_program options text left.program right.program left.read right.read in
    one_said w left.program.gates status another output other left.says
    (subst (λ (p : ProgramView). Says w p.gates another other) (sym programs) right.says)

pub one_output : (wanted : Settings) (text : List ℕ) (status another : ℕ) (output other : List ℕ) → Makes wanted text status output →
    Makes wanted text another other → (status ≡ another) × (output ≡ other)
one_output (settings.Opt w workers drops) text status another output other left right =
    (left.0 ∙ sym right.0, one_opt w (record { drop_barriers = drops }) text output other left.1 right.1)
one_output (settings.Check w drops) text status another output other left right =
    one_check w (record { drop_barriers = drops }) text status another output other left right
one_output (settings.Gen seed qubits gates) text status another output other left right = (left.0 ∙ sym right.0, left.1 ∙ sym right.1)
one_output (settings.Bench w workers seed qubits gates) text status another output other left right =
    (left.0 ∙ sym right.0, one_bench w seed qubits gates output other left.1 right.1)

-- what settings make, others make that differ in the workers alone
pub made_by_others : (wanted others : Settings) (text : List ℕ) (status : ℕ) (output : List ℕ) → DifferInWorkers wanted others → Makes wanted text status output →
    Makes others text status output
made_by_others (settings.Opt w workers drops) others text status output differ makes = subst (λ (s : Settings). Makes s text status output) (sym differ.1) makes
made_by_others (settings.Bench w workers seed qubits gates) others text status output differ makes =
    subst (λ (s : Settings). Makes s text status output) (sym differ.1) makes
made_by_others _ others text status output differ makes = absurd differ

pub one_output_of_others : (wanted others : Settings) (text : List ℕ) (status another : ℕ) (output other : List ℕ) → DifferInWorkers wanted others →
    Makes wanted text status output → Makes others text another other → (status ≡ another) × (output ≡ other)
one_output_of_others wanted others text status another output other differ left right =
    one_output others text status another output other (made_by_others wanted others text status output differ left) right
