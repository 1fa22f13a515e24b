-- What is wrong with a token, and readers of tokens that stop at the first fault.
use Rattle.std.specs.Prelude.{ℕ, Bool, true, false, ◌==◌, List, [], ◌∷◌, Result, Ok, Err, if◌then◌else◌}
use Rattle.std.specs.List.{list_all}
use Rattle.std.specs.Char.{is_ascii_digit}
use Rattle.std.specs.Str.Parse.{digits_value}
use Rattle.pq_lex.specs.declared.token.Form.{Form}
use Rattle.pq_lex.specs.declared.token.Form.TheVariants.{Number, Missing, Malformed}
use Rattle.pq_lex.specs.Token.{TokenView, number_of}
use Rattle.pq_read.specs.declared.refusal.Kind.{Kind}
use Rattle.pq_read.specs.declared.refusal.Kind.TheVariants.{BadToken, Syntax}
use Rattle.pq_read.specs.declared.refusal.Refusal.{Refusal}

-- a fault of this kind at a token
abbrev pub refused : Kind → TokenView → Refusal
refused kind t = record { kind = kind; line = t.line; column = t.column }

-- a token that isn't allowed at its place
abbrev pub unexpected_kind : Form → Kind
unexpected_kind form = if number_of form == number_of Malformed then BadToken else Syntax

abbrev pub unexpected : TokenView → Refusal
unexpected t = refused (unexpected_kind t.form) t

infixl 10 ◌>>=◌
abbrev pub ◌>>=◌ : {A B : Type 0} → Result A Refusal → (A → Result B Refusal) → Result B Refusal
(Ok x) >>= f = f x
(Err e) >>= f = Err e

-- a fault, unless the test passes
abbrev pub required : Bool → Refusal → Result (Unit {0}) Refusal
required true fault = Ok tt
required false fault = Err fault

-- A value that was read, and the tokens after it.
abbrev pub Reading : Type 0 → Type 0
Reading A = Result (A × List TokenView) Refusal

abbrev pub is_form : Form → TokenView → Bool
is_form form t = number_of t.form == number_of form

-- What is read where the tokens have ended. No piece and no rest of a text ends so: each of them has a
-- last token that nothing is read after.
abbrev pub ended : TokenView
ended = record { form = Missing; bytes = []; line = 0; column = 0 }

abbrev pub head : List TokenView → TokenView
head [] = ended
head (t ∷ ts) = t

-- the next token, which must be of this form
abbrev pub demanded : Form → List TokenView → Reading TokenView
demanded form [] = Err (unexpected ended)
demanded form (t ∷ ts) = if is_form form t then Ok (t, ts) else Err (unexpected t)

-- the next token, which must be an integer
unfoldable pub integer_at : List TokenView → Reading TokenView
integer_at ts = do
  t ← demanded Number ts
  if list_all is_ascii_digit t.0.bytes then Ok t else Err (refused Syntax t.0)

abbrev pub value_of : TokenView → ℕ
value_of t = digits_value 10 t.bytes
