-- What the promise of `opt` speaks of.
use Rattle.std.specs.Prelude.{◌≡◌, ℕ, List, ◌++◌, Some}
use Rattle.pq_limits.specs.Limits.{IsOmega}
use Rattle.pq_text.specs.Program.{ProgramView}
use Rattle.pq_text.specs.Print.{print}
use Rattle.pq_read.specs.declared.program.Options.{Options}
use Rattle.pq_read.specs.Reads.{Reads}
use Rattle.pq_loop.specs.Opt.{Total}
use Rattle.pq_write.specs.declared.report.ReportNumbers.{ReportNumbers}
use Rattle.pq_write.specs.Report.{report_text}
use Rattle.pq_command.specs.declared.settings.Settings.TheVariants as settings
use Rattle.pq_top.specs.Device.{Moved}
use Rattle.pq_top.specs.Request.{AskFor}
use Rattle.pq_top.specs.Outputs.{with_gates, report_of, IsOptimised}
use Rattle.pq_top.specs.Answers.{IsDone}

-- A run of `opt` that was done: the words ask for it with this Omega and so many workers, the source gave this text, and
-- the sink holds this output more.
pub record OptRun (omega workers : ℕ) (options : Options) (text output : List ℕ) : Type 0 where
  pub words : List (List ℕ)
  pub asks : AskFor words (settings.Opt omega workers options.drop_barriers)
  pub source : Moved
  pub sink : Moved
  pub done : IsDone words source sink 0
  pub gave : source.before ≡ Some text
  pub held : List ℕ
  pub before : sink.before ≡ Some held
  pub after : sink.after ≡ Some (held ++ output)

-- With this Omega the text is optimised to the output: from the program p that it stands for to q, with this report.
pub record Optimises (omega : ℕ) (options : Options) (text output : List ℕ) (p q : ProgramView) (report : ReportNumbers) : Type 0 where
  pub range : IsOmega omega
  pub read : Reads text options p
  pub total : Total
  pub optimised : IsOptimised omega p total
  pub left : q ≡ with_gates p total.gates
  pub reported : report ≡ report_of omega p.gates total
  pub written : output ≡ print q ++ report_text report
