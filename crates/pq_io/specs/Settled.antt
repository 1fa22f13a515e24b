-- What reading and writing as a whole come to where no fault comes.
use Rattle.std.specs.Prelude.{◌≡◌, ℕ, ◌<◌, ◌≤◌, List, length, Option, Some, Result, IsOk}
use Rattle.pq_io.specs.Faults.{Rose}
use Rattle.pq_io.specs.Whole.{ReadsWhole, WritesWhole}
use Rattle.pq_io.specs.declared.whole.ReadWhole.{ReadWhole}
use Rattle.pq_io.specs.declared.whole.ReadWhole.TheVariants.{Bytes, Failed, TooLong, OutOfMemory}
use Rattle.pq_io.specs.declared.whole.WriteFault.{WriteFault}

-- The answer to a source that has these bytes left, unless memory runs out.
abbrev pub IsAnswerTo : List ℕ → ℕ → ReadWhole → Type 0
IsAnswerTo left limit (Bytes read) = (length left ≤ limit) × (read.items ≡ left)
IsAnswerTo left limit (Failed _) = ⊥
IsAnswerTo left limit TooLong = limit < length left
IsAnswerTo left limit OutOfMemory = Unit {0}

-- Where the count of faults didn't rise, the bytes that were left settle the answer.
abbrev pub ReadingIsSettled : Type 0
ReadingIsSettled = (left : List ℕ) (after : Option (List ℕ)) (was now limit : ℕ) (answer : ReadWhole) → ¬ Rose was now
    → ReadsWhole (Some left) after was now limit answer → IsAnswerTo left limit answer

-- Where the count of faults didn't rise, the whole text was put.
abbrev pub WritingIsSettled : Type 0
WritingIsSettled = (before after : Option (List ℕ)) (was now : ℕ) (text : List ℕ) (answer : Result (Unit {0}) WriteFault) → ¬ Rose was now
    → WritesWhole before after was now text answer → IsOk answer
