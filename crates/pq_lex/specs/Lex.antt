-- The tokens of a text with their places.
use Rattle.std.specs.Prelude.{ℕ, Bool, false, zero, suc, ◌+◌, ◌==◌, List, [], ◌∷◌, take, drop, if◌then◌else◌}
use Rattle.pq_lex.specs.declared.token.Form.{Form}
use Rattle.pq_lex.specs.declared.token.Form.TheVariants.{Missing}
use Rattle.pq_lex.specs.Token.{TokenView, is_last, is_integer}
use Rattle.pq_lex.specs.Front.{Front, fronted, blank_length, front}

-- a line and a column, both counted from 1
pub record Place : Type 0 where
  pub line : ℕ
  pub column : ℕ

-- the place after a byte: a newline ends its line
abbrev pub after : ℕ → Place → Place
after b at = if b == 10 then record { line = at.line + 1; column = 1 } else record { line = at.line; column = at.column + 1 }

-- a token at a place: its form, and its bytes at the start of a text
abbrev pub placed : Front → Place → List ℕ → TokenView
placed f at text = record { form = f.form; bytes = take f.count text; line = at.line; column = at.column }

-- A token of some bytes, and then what stands after these; one of no bytes is the last.
abbrev pub then_rest : ℕ → TokenView → (ℕ → List TokenView) → List TokenView
then_rest zero t rest = t ∷ []
then_rest (suc more) t rest = t ∷ rest more

-- The bytes at the start are skipped where there are some to skip, else there is a token.
abbrev pub shown : ℕ → Front → Place → List ℕ → (ℕ → List TokenView) → List TokenView
shown (suc more) f at text rest = rest more
shown zero f at text rest = then_rest f.count (placed f at text) rest

-- The tokens of a text that begins at a place, where the first `within` bytes still belong to what
-- stands before it. They end with the first malformed token, or with the missing one at the end.
unfoldable pub lex : ℕ → Place → List ℕ → List TokenView
lex within at [] = placed (fronted Missing 0) at [] ∷ []
lex (suc within) at (b ∷ rest) = lex within (after b at) rest
lex zero at (b ∷ rest) = shown (blank_length (b ∷ rest)) (front (b ∷ rest)) at (b ∷ rest) (λ more. lex more (after b at) rest)

-- what is left of a text, and the place where that begins
pub record Position : Type 0 where
  pub rest : List ℕ
  pub line : ℕ
  pub column : ℕ

-- after some bytes of its line
abbrev pub moved : ℕ → Position → Position
moved count p = record { rest = drop count p.rest; line = p.line; column = p.column + count }

-- after a newline
abbrev pub next_line : Position → Position
next_line p = record { rest = drop 1 p.rest; line = p.line + 1; column = 1 }

abbrev pub tokens : Position → List TokenView
tokens p = lex 0 (record { line = p.line; column = p.column }) p.rest

-- the tokens from one on, where `later` are those after it if it isn't the last
abbrev pub from_token : TokenView → List TokenView → List TokenView
from_token t later = t ∷ (if is_last t.form then [] else later)

abbrev pub first_form : List TokenView → Form
first_form [] = Missing
first_form (t ∷ ts) = t.form

abbrev pub begins_integer : List TokenView → Bool
begins_integer [] = false
begins_integer (t ∷ ts) = is_integer t

-- the tokens of a whole text
abbrev pub tokens_of : List ℕ → List TokenView
tokens_of text = tokens (record { rest = text; line = 1; column = 1 })
