-- Statements that are read whatever follows the text.
use Rattle.std.specs.Prelude.{◌≡◌, ℕ, ◌+◌, ◌≤◌, true, List, [], ◌∷◌, length, Result, Ok, Err}
use Rattle.pq_lex.specs.Token.{TokenView}
use Rattle.pq_lex.specs.Lex.{Place, Position, tokens}
use Rattle.pq_lex.specs.Added.{extended}
use Rattle.pq_lex.specs.Ends.{spliced, missing_at, AreClosed}
use Rattle.pq_read.specs.declared.refusal.Refusal.{Refusal}
use Rattle.pq_read.specs.declared.refusal.ReadError.{ReadError}
use Rattle.pq_read.specs.declared.refusal.ReadError.TheVariants as errors
use Rattle.pq_read.specs.declared.program.Options.{Options}
use Rattle.pq_read.specs.Environment.{Env}
use Rattle.pq_read.specs.Reads.{read_tokens}

-- Closed tokens, whatever follows in place of their end, are read as what follows is after them.
abbrev pub AreRead : Options → Env → List TokenView → Env → List TokenView → Type 0
AreRead options E ts F left = (end : Place) → AreClosed end true ts
    → (left ≡ missing_at end ∷ []) × ((more : List TokenView) → 1 ≤ length more → read_tokens options E (spliced ts more) ≡ read_tokens options F more)

-- They are refused, whatever follows.
abbrev pub FailsAmong : Options → Env → List TokenView → ReadError → Type 0
FailsAmong options E ts errors.OutOfMemory = Unit {0}
FailsAmong options E ts (errors.Refused fault) = (end : Place) → AreClosed end true ts
    → (more : List TokenView) → 1 ≤ length more → read_tokens options E (spliced ts more) ≡ Err fault

abbrev pub FailsOn : {A : Type 0} → Options → Env → List TokenView → Result A ReadError → Type 0
FailsOn options E ts (Ok x) = Unit {0}
FailsOn options E ts (Err e) = FailsAmong options E ts e

-- Whatever follows, reading from the one position with the one environment comes to the same as from the other.
abbrev pub Leads : Options → Env → Position → Env → Position → Type 0
Leads options E p F q = (more : List ℕ) → read_tokens options E (tokens (extended p more)) ≡ read_tokens options F (tokens (extended q more))

-- Whatever follows, the text is refused.
abbrev pub FailsAt : Options → Env → Position → ReadError → Type 0
FailsAt options E p errors.OutOfMemory = Unit {0}
FailsAt options E p (errors.Refused fault) = (more : List ℕ) → read_tokens options E (tokens (extended p more)) ≡ Err fault

abbrev pub FailsFrom : {A : Type 0} → Options → Env → Position → Result A ReadError → Type 0
FailsFrom options E p (Ok x) = Unit {0}
FailsFrom options E p (Err e) = FailsAt options E p e

-- A fault is known, whatever follows.
abbrev pub HasFault : Options → Env → Position → Type 0
HasFault options E p = (fault : Refusal) × FailsAt options E p (errors.Refused fault)

-- a line and a column that are together at most a bound
abbrev pub IsWithin : (ℕ × ℕ) → ℕ → Type 0
IsWithin place bound = (1 ≤ place.1) × (place.0 + place.1 ≤ bound)
