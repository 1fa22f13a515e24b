-- What each status says.
use Rattle.std.specs.Prelude.{◌≡◌, ℕ, ◌+◌, ◌⊎◌, List, Option, Some, None, Err}
use Rattle.std.specs.Io.KnownBytes.{Appends}
use Rattle.pq_limits.specs.declared.TheConstants.{MAX_INPUT}
use Rattle.pq_io.specs.Whole.{ReadsToEnd, ReadsUpToFault, WritesUpToFault, TakesFirst}
use Rattle.pq_read.specs.declared.program.Options.{Options}
use Rattle.pq_read.specs.Reads.{Refused}
use Rattle.pq_command.specs.declared.fault.UsageFault.{UsageFault}
use Rattle.pq_command.specs.declared.settings.Settings.{Settings}
use Rattle.pq_command.specs.Asked.{asked}
use Rattle.pq_top.specs.declared.answer.Refusal.{Refusal}
use Rattle.pq_top.specs.declared.answer.Refusal.TheVariants.{Text, TooLong}
use Rattle.pq_top.specs.Device.{Moved, Noted}
use Rattle.pq_top.specs.Request.{AskFor, AskToRead, reads_by}
use Rattle.pq_top.specs.Outputs.{Makes}
use Rattle.pq_top.specs.Notes.{usage_line, refusal_line, read_fault_line, write_fault_line}

-- where a command reads a text, the source was read to its end and gave this one
abbrev pub HasRead : Option Options → Moved → List ℕ → Type 0
HasRead None input text = Unit {0}
HasRead (Some options) input text = ReadsToEnd input.before input.after MAX_INPUT text

-- The words ask for these settings, the text that they want was read to its end, and this status and this output
-- come of it.
pub record Produces (words : List (List ℕ)) (input : Moved) (status : ℕ) (output : List ℕ) : Type 0 where
  pub wanted : Settings
  pub asks : AskFor words wanted
  pub text : List ℕ
  pub reads : HasRead (reads_by wanted) input text
  pub makes : Makes wanted text status output

-- The command was done, and the sink holds its whole output more.
pub record IsDone (words : List (List ℕ)) (input output : Moved) (status : ℕ) : Type 0 where
  pub written : List ℕ
  pub produces : Produces words input status written
  pub holds : Appends output.before output.after written

-- The words have a fault, and the note names it.
pub record IsUsage (words : List (List ℕ)) (notes : Moved) : Type 0 where
  pub fault : UsageFault
  pub asks : asked words ≡ Err fault
  pub noted : Noted notes (usage_line fault)

-- The source gave more bytes than the limit; or it was read to its end, and this is the first fault of its text.
abbrev pub Refuses : Options → Moved → Refusal → Type 0
Refuses options input TooLong = TakesFirst input.before input.after (MAX_INPUT + 1)
Refuses options input (Text fault) = (text : List ℕ) × ReadsToEnd input.before input.after MAX_INPUT text × Refused text options fault.kind fault.line fault.column

-- The words ask for a command that reads a text, and the source is refused for this reason.
pub record HasRefusal (words : List (List ℕ)) (input : Moved) (refusal : Refusal) : Type 0 where
  pub options : Options
  pub asks : AskToRead words options
  pub refuses : Refuses options input refusal

-- The source is refused, and the note says why.
pub record IsRefused (words : List (List ℕ)) (input notes : Moved) : Type 0 where
  pub refusal : Refusal
  pub refused : HasRefusal words input refusal
  pub noted : Noted notes (refusal_line refusal)

-- The words ask for a command that reads a text, and the source failed after so many bytes.
pub record HasReadFault (words : List (List ℕ)) (input : Moved) (taken : ℕ) : Type 0 where
  pub options : Options
  pub asks : AskToRead words options
  pub failed : ReadsUpToFault input.before input.after input.was input.now MAX_INPUT taken

-- The source failed, and the note has the number of the bytes before.
pub record IsReadFault (words : List (List ℕ)) (input notes : Moved) : Type 0 where
  pub taken : ℕ
  pub failed : HasReadFault words input taken
  pub noted : Noted notes (read_fault_line taken)

-- The output was made, and the sink failed after so many bytes of it.
pub record HasWriteFault (words : List (List ℕ)) (input output : Moved) (sent : ℕ) : Type 0 where
  pub status : ℕ
  pub written : List ℕ
  pub produces : Produces words input status written
  pub failed : WritesUpToFault output.before output.after output.was output.now written sent

-- The sink failed, and the note has the number of the bytes before.
pub record IsWriteFault (words : List (List ℕ)) (input output notes : Moved) : Type 0 where
  pub sent : ℕ
  pub failed : HasWriteFault words input output sent
  pub noted : Noted notes (write_fault_line sent)

-- the statuses that there are
abbrev pub IsStatus : ℕ → Type 0
IsStatus status = (status ≡ 0) ⊎ ((status ≡ 1) ⊎ ((status ≡ 2) ⊎ ((status ≡ 3) ⊎ ((status ≡ 4) ⊎ ((status ≡ 5) ⊎ (status ≡ 6))))))

-- it is this status, unless memory ran out
abbrev pub IsUnlessMemory : ℕ → ℕ → Type 0
IsUnlessMemory status wanted = (status ≡ wanted) ⊎ (status ≡ 6)

-- the command was done, with status 0 or 1, unless memory ran out
abbrev pub IsDoneUnlessMemory : List (List ℕ) → Moved → Moved → ℕ → Type 0
IsDoneUnlessMemory words input output status =
    ((status ≡ 0) × IsDone words input output 0) ⊎ (((status ≡ 1) × IsDone words input output 1) ⊎ (status ≡ 6))

-- the command was done, with status 0, unless memory ran out
abbrev pub IsMadeUnlessMemory : List (List ℕ) → Moved → Moved → ℕ → Type 0
IsMadeUnlessMemory words input output status = ((status ≡ 0) × IsDone words input output 0) ⊎ (status ≡ 6)
