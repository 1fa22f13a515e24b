-- What a run adds to the log of receipts.
use Rattle.std.specs.Prelude.{◌≡◌, ℕ, true, List, ◌++◌, map}
use Rattle.pq_gate.specs.declared.gate.Gate.{Gate}
use Rattle.pq_text.specs.Program.{ProgramView}
use Rattle.pq_read.specs.declared.program.Options.{Options}
use Rattle.pq_read.specs.Reads.{Reads}
use Rattle.pq_rules.specs.Table.{builtin_rows}
use Rattle.pq_board.specs.Steps.{Numbers}
use Rattle.pq_loop.specs.Opt.{Total, Opt}
use Rattle.pq_loop.specs.Receipts.{receipt_of}
use Rattle.pq_generate.specs.Generated.{generated}
use Rattle.pq_command.specs.declared.settings.Settings.{Settings}
use Rattle.pq_command.specs.declared.settings.Settings.TheVariants as settings
use Rattle.pq_top.specs.declared.answer.Answer.{Answer}
use Rattle.pq_top.specs.declared.answer.Answer.TheVariants.{Done, WriteFault, OutOfMemory}
use Rattle.pq_top.specs.declared.answer.Output.{Output}
use Rattle.pq_top.specs.Device.{Moved}
use Rattle.pq_top.specs.Request.{AskFor, reads_by}
use Rattle.pq_top.specs.Answers.{HasRead}

-- the log has the receipts that it had, and then maybe more
abbrev pub Follows : List Numbers → List Numbers → Type 0
Follows old new = (more : List Numbers) × (new ≡ old ++ more)

-- the log has one receipt more for each round of the optimiser on these gates, in order
pub record LogsRounds (omega : ℕ) (gates : List Gate) (old new : List Numbers) : Type 0 where
  pub total : Total
  pub opt : Opt builtin_rows omega gates total
  pub holds : new ≡ old ++ map receipt_of total.rounds

-- the same for the gates of the program that a text stands for
pub record LogsText (omega : ℕ) (options : Options) (text : List ℕ) (old new : List Numbers) : Type 0 where
  pub program : ProgramView
  pub read : Reads text options program
  pub rounds : LogsRounds omega program.gates old new

-- What a command logs that makes its output, of the text that was read where it reads one.
abbrev pub Logs : Settings → List ℕ → List Numbers → List Numbers → Type 0
Logs (settings.Opt omega workers drop_barriers) text old new = LogsText omega (record { drop_barriers = drop_barriers }) text old new
Logs (settings.Bench omega workers seed qubits gates) text old new = LogsRounds omega (generated seed qubits gates).gates old new
Logs _ text old new = new ≡ old

-- The words ask for a command, the text that it wants was read to its end, and the log has what it logs.
pub record HasLogged (words : List (List ℕ)) (input : Moved) (old new : List Numbers) : Type 0 where
  pub wanted : Settings
  pub asks : AskFor words wanted
  pub text : List ℕ
  pub reads : HasRead (reads_by wanted) input text
  pub logs : Logs wanted text old new

-- the same for settings that were read, and none where a redex was found
pub record LogsFor (wanted : Settings) (input : Moved) (old new : List Numbers) (output : Output) : Type 0 where
  pub text : List ℕ
  pub reads : HasRead (reads_by wanted) input text
  pub logs : Logs wanted text old new
  pub found : output.found ≡ true → new ≡ old

-- where there is no output the log stays, unless memory runs out
abbrev pub LogsFailure : List Numbers → List Numbers → Answer → Type 0
LogsFailure old new OutOfMemory = Follows old new
LogsFailure old new _ = new ≡ old

-- what an answer means for the log
abbrev pub LogsBy : List (List ℕ) → Moved → List Numbers → List Numbers → Answer → Type 0
LogsBy words input old new (Done found) = HasLogged words input old new × (found ≡ true → new ≡ old)
LogsBy words input old new (WriteFault sent) = HasLogged words input old new
LogsBy words input old new answer = LogsFailure old new answer
