-- A reader of pieces, and the text that was fed to it.
use Rattle.std.specs.Prelude.{◌≡◌, ℕ, ◌+◌, ◌≤◌, List, ◌++◌, length, Result, Err}
use Rattle.pq_lex.specs.Lex.{Position, tokens}
use Rattle.pq_lex.specs.Added.{extended}
use Rattle.pq_limits.specs.declared.TheConstants.{MAX_GATES}
use Rattle.pq_text.specs.Program.{ProgramView}
use Rattle.pq_read.specs.declared.refusal.Refusal.{Refusal}
use Rattle.pq_read.specs.declared.program.Options.{Options}
use Rattle.pq_read.specs.declared.reader.Progress.{Progress}
use Rattle.pq_read.specs.declared.reader.Progress.TheVariants as progress
use Rattle.pq_read.specs.Environment.{Env}
use Rattle.pq_read.specs.Drafts.{env_of}
use Rattle.pq_read.specs.Reads.{read_tokens, read_of}
use Rattle.pq_read.specs.Begins.{position_of, IsBegun}

-- How far a reader is: what it has read, and what it holds of the rest; or the fault of the text.
pub data Standing : Type 0 where
  Before : (env : Env) (rest : Position) → Standing
  AtFault : (fault : Refusal) → Standing

-- a reader: how it reads, how many bytes were fed, and how far it is
pub record ReaderView : Type 0 where
  pub options : Options
  pub fed : ℕ
  pub standing : Standing

-- what reading comes to where more follows
abbrev pub read_on : Options → Standing → List ℕ → Result ProgramView Refusal
read_on options (Before env rest) more = read_tokens options env (tokens (extended rest more))
read_on options (AtFault fault) more = Err fault

-- The reader stands for a text: it counts its bytes, and whatever follows, it comes to what the whole text does.
pub record StandsFor (r : ReaderView) (text : List ℕ) : Type 0 where
  pub counted : r.fed ≡ length text
  pub read : (more : List ℕ) → read_of (text ++ more) r.options ≡ read_on r.options r.standing more

-- how far a reader is, by what it holds
abbrev pub standing_of : Progress → Standing
standing_of (progress.Reading draft begun) = Before (env_of draft) (position_of begun)
standing_of (progress.Refused fault) = AtFault fault

-- What it holds is bounded by what was fed.
abbrev pub IsHeld : ℕ → Progress → Type 0
IsHeld fed (progress.Reading draft begun) = (length draft.gates.items ≤ MAX_GATES) × IsBegun (fed + 2) begun
IsHeld fed (progress.Refused fault) = Unit {0}
