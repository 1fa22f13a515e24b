-- What is read from a source and written to a sink as a whole.
use Rattle.std.specs.Prelude.{◌≡◌, ℕ, ◌+◌, ◌<◌, ◌≤◌, List, [], length, take, drop, Option, None, Some, Result, Ok, Err}
use Rattle.std.specs.Io.KnownBytes.{Appends}
use Rattle.pq_io.specs.Faults.{Rose}
use Rattle.pq_io.specs.declared.whole.ReadWhole.{ReadWhole}
use Rattle.pq_io.specs.declared.whole.ReadWhole.TheVariants.{Bytes, Failed, TooLong, OutOfMemory}
use Rattle.pq_io.specs.declared.whole.WriteFault.{WriteFault}

-- Where it is told what was left, it was these bytes, and nothing is left now.
abbrev pub TakesAll : Option (List ℕ) → Option (List ℕ) → List ℕ → Type 0
TakesAll None after bytes = Unit {0}
TakesAll (Some left) after bytes = (bytes ≡ left) × (after ≡ Some [])

-- Where it is told what was left, exactly the first so many bytes of it were taken.
abbrev pub TakesFirst : Option (List ℕ) → Option (List ℕ) → ℕ → Type 0
TakesFirst None after count = Unit {0}
TakesFirst (Some left) after count = (count ≤ length left) × (after ≡ Some (drop count left))

-- the source was read to its end, and gave these bytes
pub record ReadsToEnd (before after : Option (List ℕ)) (limit : ℕ) (bytes : List ℕ) : Type 0 where
  pub within : length bytes ≤ limit
  pub taken : TakesAll before after bytes

-- the source failed after so many bytes
pub record ReadsUpToFault (before after : Option (List ℕ)) (was now limit count : ℕ) : Type 0 where
  pub rose : Rose was now
  pub within : count ≤ limit
  pub taken : TakesFirst before after count

-- some bytes were taken, no more than one over the limit
pub record ReadsSome (before after : Option (List ℕ)) (limit : ℕ) : Type 0 where
  pub count : ℕ
  pub within : count ≤ limit + 1
  pub taken : TakesFirst before after count

-- What was left in a source before and after, its count of faults before and after, the limit, and the answer.
abbrev pub ReadsWhole : Option (List ℕ) → Option (List ℕ) → ℕ → ℕ → ℕ → ReadWhole → Type 0
ReadsWhole before after was now limit (Bytes read) = ReadsToEnd before after limit read.items
ReadsWhole before after was now limit (Failed count) = ReadsUpToFault before after was now limit count
ReadsWhole before after was now limit TooLong = TakesFirst before after (limit + 1)
ReadsWhole before after was now limit OutOfMemory = ReadsSome before after limit

-- the sink failed after so many bytes of the text
pub record WritesUpToFault (before after : Option (List ℕ)) (was now : ℕ) (text : List ℕ) (count : ℕ) : Type 0 where
  pub rose : Rose was now
  pub within : count < length text
  pub put : Appends before after (take count text)

-- What a sink held before and after, its count of faults before and after, the text, and the answer.
abbrev pub WritesWhole : Option (List ℕ) → Option (List ℕ) → ℕ → ℕ → List ℕ → Result (Unit {0}) WriteFault → Type 0
WritesWhole before after was now text (Ok _) = Appends before after text
WritesWhole before after was now text (Err fault) = WritesUpToFault before after was now text fault.sent
