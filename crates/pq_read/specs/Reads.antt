-- Which program a text stands for, or its first fault.
use Rattle.std.specs.Prelude.{◌≡◌, ◌⊎◌, ℕ, Bool, ◌&&◌, List, [], ◌∷◌, Result, Ok, Err, if◌then◌else◌}
use Rattle.pq_lex.specs.declared.token.Form.TheVariants.{Missing}
use Rattle.pq_lex.specs.Token.{TokenView}
use Rattle.pq_lex.specs.Lex.{tokens_of}
use Rattle.pq_text.specs.Program.{ProgramView}
use Rattle.pq_read.specs.declared.refusal.Kind.{Kind}
use Rattle.pq_read.specs.declared.refusal.Refusal.{Refusal}
use Rattle.pq_read.specs.declared.refusal.ReadError.{ReadError}
use Rattle.pq_read.specs.declared.refusal.ReadError.TheVariants as errors
use Rattle.pq_read.specs.declared.program.Options.{Options}
use Rattle.pq_read.specs.Faults.{◌>>=◌, is_form, head}
use Rattle.pq_read.specs.Environment.{Env, start}
use Rattle.pq_read.specs.After.{after}
use Rattle.pq_read.specs.Pieces.{Front, cut}

-- nothing is left: the end of the text stands where the next statement would begin, and the header was read
abbrev pub is_done : Env → List TokenView → Bool
is_done E rest = E.header && is_form Missing (head rest)

-- the pieces in order up to the first fault, and then the rest
unfoldable pub read_pieces : Options → Env → List (List TokenView) → List TokenView → Result ProgramView Refusal
read_pieces options E [] rest = if is_done E rest then Ok E.program else (after options E rest >>= λ F. Ok F.program)
read_pieces options E (piece ∷ pieces) rest = after options E piece >>= λ F. read_pieces options F pieces rest

unfoldable pub read_tokens : Options → Env → List TokenView → Result ProgramView Refusal
read_tokens options E ts = read_pieces options E (cut Front ts).pieces (cut Front ts).rest

unfoldable pub read_of : List ℕ → Options → Result ProgramView Refusal
read_of text options = read_tokens options start (tokens_of text)

-- the text stands for the program
abbrev pub Reads : List ℕ → Options → ProgramView → Type 0
Reads text options p = read_of text options ≡ Ok p

-- the text is refused for this fault
abbrev pub Refused : List ℕ → Options → Kind → ℕ → ℕ → Type 0
Refused text options kind line column = read_of text options ≡ Err (record { kind = kind; line = line; column = column })

-- A text that isn't read is refused for its fault, unless memory ran out.
abbrev pub IsRefusedFor : List ℕ → Options → ReadError → Type 0
IsRefusedFor text options errors.OutOfMemory = Unit {0}
IsRefusedFor text options (errors.Refused fault) = Refused text options fault.kind fault.line fault.column

-- There is a program or a fault, only one of them, and never both.
pub record HasOneAnswer (text : List ℕ) (options : Options) : Type 0 where
  pub some : ((p : ProgramView) × Reads text options p) ⊎ ((fault : Refusal) × Refused text options fault.kind fault.line fault.column)
  pub one_program : (p q : ProgramView) → Reads text options p → Reads text options q → p ≡ q
  pub one_fault : (fault other : Refusal) → Refused text options fault.kind fault.line fault.column → Refused text options other.kind other.line other.column → fault ≡ other
  pub not_both : (p : ProgramView) (fault : Refusal) → Reads text options p → Refused text options fault.kind fault.line fault.column → ⊥
