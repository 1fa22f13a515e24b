-- Sources and sinks in memory, as contracts see them.
use Rattle.std.specs.Prelude.{◌≡◌, ℕ, ◌-◌, ◌≤◌, ◌⊎◌, min, List, ◌++◌, length, take, drop, Contains, Result, Ok, Err}
use Rattle.pq_io.specs.Faults.{counted}
use Rattle.pq_io.specs.declared.stream.Failed.{Failed}

-- A source in memory: the bytes that are left, how many a call gives at most, the numbers of the calls that fail,
-- and how many calls and faults there were.
pub record SourceInMemory : Type 0 where
  pub left : List ℕ
  pub step : ℕ
  pub fails : List ℕ
  pub calls : ℕ
  pub faults : ℕ

-- how many bytes a call gives into so much room
abbrev pub given_count : SourceInMemory → ℕ → ℕ
given_count source room = min source.step (min room (length source.left))

-- the source after a call that gave so many bytes
abbrev pub after_giving : SourceInMemory → ℕ → SourceInMemory
after_giving source count = record source { left = drop count source.left; calls = counted source.calls }

-- the source after a call that failed
abbrev pub after_failing : SourceInMemory → SourceInMemory
after_failing source = record source { calls = counted source.calls; faults = counted source.faults }

-- A call gave the next bytes. Its number doesn't stand among those that fail.
pub record GivesNext (old new : SourceInMemory) (into : List ℕ) (count : ℕ) : Type 0 where
  pub works : ¬ Contains old.fails old.calls
  pub number : count ≡ given_count old (length into)
  pub bytes : take count into ≡ take count old.left
  pub rest : new ≡ after_giving old count

-- A call failed. Its number stands among those that fail.
pub record FailsToGive (old new : SourceInMemory) : Type 0 where
  pub cause : Contains old.fails old.calls
  pub rest : new ≡ after_failing old

-- the source before and after a call, what the call put into its room, and its answer
abbrev pub TakesFrom : SourceInMemory → SourceInMemory → List ℕ → Result ℕ Failed → Type 0
TakesFrom old new into (Ok count) = GivesNext old new into count
TakesFrom old new into (Err _) = FailsToGive old new

-- A sink in memory: the bytes that it holds, how many it has room for, how many a call takes at most, the numbers
-- of the calls that fail, and how many calls and faults there were.
pub record SinkInMemory : Type 0 where
  pub held : List ℕ
  pub room : ℕ
  pub step : ℕ
  pub fails : List ℕ
  pub calls : ℕ
  pub faults : ℕ

-- how many bytes of a piece a call takes
abbrev pub put_count : SinkInMemory → ℕ → ℕ
put_count sink len = min sink.step (min len (sink.room - length sink.held))

-- the sink after a call that took these bytes
abbrev pub after_putting : SinkInMemory → List ℕ → SinkInMemory
after_putting sink bytes = record sink { held = sink.held ++ bytes; calls = counted sink.calls }

-- the sink after a call that failed
abbrev pub after_refusing : SinkInMemory → SinkInMemory
after_refusing sink = record sink { calls = counted sink.calls; faults = counted sink.faults }

-- no room is free
abbrev pub IsFull : SinkInMemory → Type 0
IsFull sink = sink.room ≤ length sink.held

-- A call took a prefix of the piece. Its number doesn't stand among those that fail, and some room was free.
pub record KeepsFront (old new : SinkInMemory) (piece : List ℕ) (count : ℕ) : Type 0 where
  pub works : ¬ Contains old.fails old.calls
  pub room : ¬ IsFull old
  pub number : count ≡ put_count old (length piece)
  pub rest : new ≡ after_putting old (take count piece)

-- A call failed. Its number stands among those that fail, or no room was free.
pub record FailsToKeep (old new : SinkInMemory) : Type 0 where
  pub cause : Contains old.fails old.calls ⊎ IsFull old
  pub rest : new ≡ after_refusing old

-- the sink before and after a call, the piece, and the answer
abbrev pub PutsInto : SinkInMemory → SinkInMemory → List ℕ → Result ℕ Failed → Type 0
PutsInto old new piece (Ok count) = KeepsFront old new piece count
PutsInto old new piece (Err _) = FailsToKeep old new
