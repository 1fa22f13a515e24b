-- Which bytes have the form of a token, and that a token is the longest prefix of a text that has one.
use Rattle.std.specs.Prelude.{◌≡◌, ◌⊎◌, ℕ, ◌≤◌, Bool, true, false, not, ◌||◌, ◌==◌, List, [], ◌∷◌, ◌++◌, length, codes}
use Rattle.std.specs.List.{list_all}
use Rattle.std.specs.Char.{is_ascii_digit, is_ascii_alphabetic}
use Rattle.pq_lex.specs.declared.token.Form.{Form}
use Rattle.pq_lex.specs.declared.token.Form.TheVariants.{Word, Number, Quoted, Semicolon, Comma, LeftParenthesis, RightParenthesis, LeftBracket, RightBracket, LeftBrace, RightBrace, Plus, Minus, Star, Slash, Caret, Arrow, DoubleEqual, Missing, Malformed}
use Rattle.pq_lex.specs.Token.{TokenView, is_last}
use Rattle.pq_lex.specs.Front.{is_word_byte, is_unquotable, is_separator}
use Rattle.pq_lex.specs.Lex.{Position, tokens}

-- a letter, then letters, digits and `_`
abbrev pub IsWord : List ℕ → Type 0
IsWord [] = ⊥
IsWord (b ∷ rest) = (is_ascii_alphabetic b ≡ true) × (list_all is_word_byte rest ≡ true)

abbrev pub AreDigits : List ℕ → Type 0
AreDigits bytes = list_all is_ascii_digit bytes ≡ true

-- nothing, or a `.` and digits
abbrev pub IsFraction : List ℕ → Type 0
IsFraction [] = Unit {0}
IsFraction (b ∷ rest) = (b ≡ 46) × AreDigits rest

-- digits, at least one, perhaps after a sign
abbrev pub IsSigned : List ℕ → Type 0
IsSigned [] = ⊥
IsSigned (b ∷ rest) = AreDigits (b ∷ rest) ⊎ ((b == 43 || b == 45) ≡ true) × AreDigits rest × (1 ≤ length rest)

-- nothing, or `e` or `E`, perhaps a sign, and digits
abbrev pub IsExponent : List ℕ → Type 0
IsExponent [] = Unit {0}
IsExponent (b ∷ rest) = ((b == 101 || b == 69) ≡ true) × IsSigned rest

-- digits, with at most one `.` before, among or after them, and perhaps an exponent
pub record IsNumber (bytes : List ℕ) : Type 0 where
  pub whole : List ℕ
  pub fraction : List ℕ
  pub exponent : List ℕ
  pub is : bytes ≡ whole ++ (fraction ++ exponent)
  pub digits : AreDigits whole
  pub part : IsFraction fraction
  pub power : IsExponent exponent
  pub some : (1 ≤ length whole) ⊎ (2 ≤ length fraction)

abbrev pub is_quotable : ℕ → Bool
is_quotable b = not (is_unquotable b)

-- bytes without `"` and newline between two `"`
pub record IsQuoted (bytes : List ℕ) : Type 0 where
  pub inside : List ℕ
  pub is : bytes ≡ 34 ∷ (inside ++ 34 ∷ [])
  pub line : list_all is_quotable inside ≡ true

abbrev pub mark_text : Form → List ℕ
mark_text Semicolon = codes ";"
mark_text Comma = codes ","
mark_text LeftParenthesis = codes "("
mark_text RightParenthesis = codes ")"
mark_text LeftBracket = codes "["
mark_text RightBracket = codes "]"
mark_text LeftBrace = codes "{"
mark_text RightBrace = codes "}"
mark_text Plus = codes "+"
mark_text Minus = codes "-"
mark_text Star = codes "*"
mark_text Slash = codes "/"
mark_text Caret = codes "^"
mark_text Arrow = codes "->"
mark_text DoubleEqual = codes "=="
mark_text _ = []

abbrev pub IsMark : Form → List ℕ → Type 0
IsMark form bytes = bytes ≡ mark_text form

-- The bytes have this form.
abbrev pub HasForm : Form → List ℕ → Type 0
HasForm Word bytes = IsWord bytes
HasForm Number bytes = IsNumber bytes
HasForm Quoted bytes = IsQuoted bytes
HasForm Missing bytes = ⊥
HasForm Malformed bytes = ⊥
HasForm form bytes = IsMark form bytes

-- A separator or a comment stands at the start.
abbrev pub BeginsBlank : List ℕ → Type 0
BeginsBlank [] = ⊥
BeginsBlank (b ∷ []) = is_separator b ≡ true
BeginsBlank (b ∷ c ∷ rest) = (is_separator b ≡ true) ⊎ (b ≡ 47) × (c ≡ 47)

-- The token stands at the start of a text. Its bytes have its form, and no longer prefix of the text has any form;
-- a missing or a malformed token has no bytes, and only the end of the text is missing.
pub record IsLongest (p : Position) (t : TokenView) : Type 0 where
  pub place : (t.line ≡ p.line) × (t.column ≡ p.column)
  pub front : (later : List ℕ) × (p.rest ≡ t.bytes ++ later)
  pub formed : is_last t.form ≡ false → HasForm t.form t.bytes
  pub longest : (form : Form) (bytes later : List ℕ) → p.rest ≡ bytes ++ later → HasForm form bytes → length bytes ≤ length t.bytes
  pub none : is_last t.form ≡ true → t.bytes ≡ []
  pub ended : t.form ≡ Missing → p.rest ≡ []

-- Where nothing is to be skipped, the first token is the longest.
abbrev pub BeginsLongest : Position → Type 0
BeginsLongest p = (BeginsBlank p.rest → ⊥) → (t : TokenView) (later : List TokenView) → tokens p ≡ t ∷ later → IsLongest p t
