-- What a function returned against what is read.
use Rattle.std.specs.Prelude.{◌≡◌, ◌==◌, false, List, Result, Ok, Err, if◌then◌else◌, [], ◌∷◌}
use Rattle.pq_lex.specs.declared.token.Form.TheVariants.{Semicolon}
use Rattle.pq_lex.specs.Token.{TokenView, number_of, is_last}
use Rattle.pq_lex.specs.declared.token.Form.{Form}
use Rattle.pq_lex.specs.Lex.{Position, tokens}
use Rattle.pq_read.specs.declared.refusal.Refusal.{Refusal}
use Rattle.pq_read.specs.declared.refusal.ReadError.{ReadError}
use Rattle.pq_read.specs.declared.refusal.ReadError.TheVariants as errors
use Rattle.pq_read.specs.Faults.{is_form}

-- What a function returned, seen by view, is what reading gives, unless memory ran out.
abbrev pub Fails : {Y : Type 0} → ReadError → Result Y Refusal → Type 0
Fails errors.OutOfMemory reading = Unit {0}
Fails (errors.Refused fault) reading = reading ≡ Err fault

abbrev pub Gives : {X Y : Type 0} → (X → Y) → Result X ReadError → Result Y Refusal → Type 0
Gives view (Ok x) reading = reading ≡ Ok (view x)
Gives view (Err e) reading = Fails e reading

-- the tokens of the piece that a cursor is in, and those after that piece
unfoldable pub through : List TokenView → List TokenView
through [] = []
through (t ∷ ts) = t ∷ (if is_form Semicolon t then [] else through ts)

unfoldable pub beyond : List TokenView → List TokenView
beyond [] = []
beyond (t ∷ ts) = if is_form Semicolon t then ts else beyond ts

abbrev pub left : Position → List TokenView
left p = through (tokens p)

abbrev pub later : Position → List TokenView
later p = beyond (tokens p)

-- a form that neither ends a piece nor is the last of a text
pub record IsInside (form : Form) : Type 0 where
  pub no_end : (number_of form == number_of Semicolon) ≡ false
  pub no_last : is_last form ≡ false
