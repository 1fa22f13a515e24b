-- What came of the work, before its note is put and its status answered.
use Rattle.std.specs.Prelude.{◌≡◌, ℕ, Bool, if◌then◌else◌, List, [], Some, IsSome, Err}
use Rattle.std.specs.Io.KnownBytes.{Appends}
use Rattle.pq_limits.specs.declared.TheConstants.{MAX_INPUT}
use Rattle.pq_io.specs.Whole.{ReadsToEnd, ReadsUpToFault, WritesUpToFault}
use Rattle.pq_read.specs.declared.program.Options.{Options}
use Rattle.pq_read.specs.declared.program.Program.{Program}
use Rattle.pq_read.specs.Environment.{view}
use Rattle.pq_read.specs.Reads.{Reads}
use Rattle.pq_read.specs.Feeding.{ReaderView, StandsFor}
use Rattle.pq_text.specs.WellFormed.{WellFormed}
use Rattle.pq_command.specs.declared.settings.Settings.{Settings}
use Rattle.pq_command.specs.Asked.{asked}
use Rattle.pq_top.specs.declared.answer.Answer.{Answer}
use Rattle.pq_top.specs.declared.answer.Output.{Output}
use Rattle.pq_top.specs.declared.answer.Answer.TheVariants.{Done, Usage, Refused, ReadFault, WriteFault, OutOfMemory}
use Rattle.pq_top.specs.Device.{Moved}
use Rattle.pq_top.specs.Request.{reads_by}
use Rattle.pq_top.specs.Outputs.{Makes}
use Rattle.pq_top.specs.Notes.{usage_line, refusal_line, read_fault_line, write_fault_line, out_of_memory_line}
use Rattle.pq_top.specs.Answers.{HasRead, HasRefusal, HasReadFault, HasWriteFault, IsDone, Refuses}

-- the status of work that was done: 1 where it found a redex
abbrev pub status_by : Bool → ℕ
status_by found = if found then 1 else 0

-- what an answer means, of the words, the source and the sink
abbrev pub Means : List (List ℕ) → Moved → Moved → Answer → Type 0
Means words input output (Done found) = IsDone words input output (status_by found)
Means words input output (Usage fault) = asked words ≡ Err fault
Means words input output (Refused refusal) = HasRefusal words input refusal
Means words input output (ReadFault taken) = HasReadFault words input taken
Means words input output (WriteFault sent) = HasWriteFault words input output sent
Means words input output OutOfMemory = Unit {0}

-- the answers that come before the source is looked at
abbrev pub LeavesSource : Answer → Type 0
LeavesSource (Usage fault) = Unit {0}
LeavesSource _ = ⊥

-- the answers that come before the sink is written to
abbrev pub LeavesSink : Answer → Type 0
LeavesSink (Done found) = ⊥
LeavesSink (WriteFault sent) = ⊥
LeavesSink _ = Unit {0}

-- the answers that come before a line is noted, as there is none
abbrev pub LeavesNotes : Answer → Type 0
LeavesNotes (Done found) = Unit {0}
LeavesNotes _ = ⊥

-- the status of an answer
abbrev pub status_of : Answer → ℕ
status_of (Done found) = status_by found
status_of (Usage fault) = 2
status_of (Refused refusal) = 3
status_of (ReadFault taken) = 4
status_of (WriteFault sent) = 5
status_of OutOfMemory = 6

-- the line that is put into the notes, none where the work was done
abbrev pub note_line : Answer → List ℕ
note_line (Done found) = []
note_line (Usage fault) = usage_line fault
note_line (Refused refusal) = refusal_line refusal
note_line (ReadFault taken) = read_fault_line taken
note_line (WriteFault sent) = write_fault_line sent
note_line OutOfMemory = out_of_memory_line

-- a reader was fed all that the source gave, which is no more than the limit
pub record HasFed (input : Moved) (reader : ReaderView) : Type 0 where
  pub text : List ℕ
  pub reads : ReadsToEnd input.before input.after MAX_INPUT text
  pub stands : StandsFor reader text

-- the source was read to its end, and its text stands for a well formed program
pub record HasProgram (options : Options) (input : Moved) (program : Program) : Type 0 where
  pub text : List ℕ
  pub reads : ReadsToEnd input.before input.after MAX_INPUT text
  pub read : Reads text options (view program)
  pub formed : WellFormed (view program)

-- the source failed, or it is refused
abbrev pub FailsToRead : Options → Moved → Answer → Type 0
FailsToRead options input (Refused refusal) = Refuses options input refusal
FailsToRead options input (ReadFault taken) = ReadsUpToFault input.before input.after input.was input.now MAX_INPUT taken
FailsToRead options input OutOfMemory = Unit {0}
FailsToRead options input _ = ⊥

-- an output comes of the settings and the text that was read
pub record Gives (wanted : Settings) (input : Moved) (output : Output) : Type 0 where
  pub text : List ℕ
  pub reads : HasRead (reads_by wanted) input text
  pub makes : Makes wanted text (status_by output.found) output.text.items

-- none does, since the command reads a text and the source failed or was refused, or memory was
abbrev pub FailsFor : Settings → Moved → Answer → Type 0
FailsFor wanted input (Refused refusal) = (options : Options) × (reads_by wanted ≡ Some options) × Refuses options input refusal
FailsFor wanted input (ReadFault taken) = IsSome (reads_by wanted) × ReadsUpToFault input.before input.after input.was input.now MAX_INPUT taken
FailsFor wanted input OutOfMemory = Unit {0}
FailsFor wanted input _ = ⊥

-- the output was written, or the sink failed
abbrev pub WritesOutput : Moved → Output → Answer → Type 0
WritesOutput device output (Done found) = (found ≡ output.found) × Appends device.before device.after output.text.items
WritesOutput device output (WriteFault sent) = WritesUpToFault device.before device.after device.was device.now output.text.items sent
WritesOutput device output _ = ⊥
