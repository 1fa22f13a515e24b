-- Sources and sinks in memory that never fail, as contracts see them.
use Rattle.std.specs.Prelude.{◌≡◌, ℕ, min, List, ◌++◌, length, take, drop, Result, Ok, Err}
use Rattle.pq_io.specs.declared.stream.Failed.{Failed}

-- A source that never fails: the bytes that are left, and how many a call gives at most.
pub record SureSourceView : Type 0 where
  pub left : List ℕ
  pub step : ℕ

-- a call gave the next bytes
pub record GivesSome (old new : SureSourceView) (into : List ℕ) (count : ℕ) : Type 0 where
  pub number : count ≡ min old.step (min (length into) (length old.left))
  pub bytes : take count into ≡ take count old.left
  pub rest : new ≡ record old { left = drop count old.left }

-- the source before and after a call, what the call put into its room, and its answer
abbrev pub SurelyGives : SureSourceView → SureSourceView → List ℕ → Result ℕ Failed → Type 0
SurelyGives old new into (Ok count) = GivesSome old new into count
SurelyGives old new into (Err _) = ⊥

-- A sink that never fails: the first bytes that were put, how many of them it keeps, and how many a call takes at most.
pub record SureSinkView : Type 0 where
  pub held : List ℕ
  pub room : ℕ
  pub step : ℕ

-- a call took a prefix of the piece, of which the sink keeps what has room
pub record KeepsWhatFits (old new : SureSinkView) (piece : List ℕ) (count : ℕ) : Type 0 where
  pub number : count ≡ min old.step (length piece)
  pub rest : new ≡ record old { held = take old.room (old.held ++ take count piece) }

-- the sink before and after a call, the piece, and the answer
abbrev pub SurelyPuts : SureSinkView → SureSinkView → List ℕ → Result ℕ Failed → Type 0
SurelyPuts old new piece (Ok count) = KeepsWhatFits old new piece count
SurelyPuts old new piece (Err _) = ⊥
