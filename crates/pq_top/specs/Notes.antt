-- The lines that are put into the notes.
use Rattle.std.specs.Prelude.{ℕ, List, ◌++◌, codes, decimal}
use Rattle.pq_limits.specs.declared.TheConstants.{MAX_INPUT}
use Rattle.pq_read.specs.Kinds.{number_of, name_of}
use Rattle.pq_read.specs.declared.refusal.Refusal.{Refusal as Fault}
use Rattle.pq_command.specs.CommandLine.{name_of as switch_name}
use Rattle.pq_command.specs.declared.fault.UsageFault.{UsageFault}
use Rattle.pq_command.specs.declared.fault.UsageFault.TheVariants.{Words, Command, Unwanted, Missing, Number, Range}
use Rattle.pq_top.specs.declared.notes.Piece.{Piece}
use Rattle.pq_top.specs.declared.notes.Piece.TheVariants as pieces
use Rattle.pq_top.specs.declared.answer.Refusal.{Refusal}
use Rattle.pq_top.specs.declared.answer.Refusal.TheVariants.{Text, TooLong}

-- the text of a piece of a line
abbrev pub piece_text : Piece → List ℕ
piece_text (pieces.Text text) = text.now
piece_text (pieces.Number number) = decimal number

-- a fault of the words
abbrev pub usage_text : UsageFault → List ℕ
usage_text Words = codes "words"
usage_text Command = codes "command"
usage_text (Unwanted switch) = codes "unwanted " ++ switch_name switch
usage_text (Missing switch) = codes "missing " ++ switch_name switch
usage_text (Number switch) = codes "number " ++ switch_name switch
usage_text (Range switch) = codes "range " ++ switch_name switch

unfoldable pub usage_line : UsageFault → List ℕ
usage_line fault = codes "popqc: usage: " ++ (usage_text fault ++ codes "\n")

-- `NUMBER KIND at LINE:COLUMN`
unfoldable pub fault_line : Fault → List ℕ
fault_line fault =
    codes "popqc: refused " ++ (decimal (number_of fault.kind) ++ (codes " " ++ (name_of fault.kind
    ++ (codes " at " ++ (decimal fault.line ++ (codes ":" ++ (decimal fault.column ++ codes "\n")))))))

unfoldable pub refusal_line : Refusal → List ℕ
refusal_line (Text fault) = fault_line fault
refusal_line TooLong = codes "popqc: refused: more than " ++ (decimal MAX_INPUT ++ codes " bytes\n")

unfoldable pub read_fault_line : ℕ → List ℕ
read_fault_line taken = codes "popqc: read fault after " ++ (decimal taken ++ codes " bytes\n")

unfoldable pub write_fault_line : ℕ → List ℕ
write_fault_line sent = codes "popqc: write fault after " ++ (decimal sent ++ codes " bytes\n")

unfoldable pub out_of_memory_line : List ℕ
out_of_memory_line = codes "popqc: out of memory\n"
