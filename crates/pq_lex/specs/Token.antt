-- A token as contracts see it.
use Rattle.std.specs.Prelude.{ℕ, Bool, true, false, ◌==◌, ◌&&◌, List}
use Rattle.std.specs.List.{list_all}
use Rattle.std.specs.Char.{is_ascii_digit}
use Rattle.pq_lex.specs.declared.token.Form.{Form}
use Rattle.pq_lex.specs.declared.token.Form.TheVariants.{Word, Number, Quoted, Semicolon, Comma, LeftParenthesis, RightParenthesis, LeftBracket, RightBracket, LeftBrace, RightBrace, Plus, Minus, Star, Slash, Caret, Arrow, DoubleEqual, Missing, Malformed}
use Rattle.pq_lex.specs.declared.token.Token.{Token}

-- what kind it is, its bytes, and the line and the column of its first byte, both counted from 1
pub record TokenView : Type 0 where
  pub form : Form
  pub bytes : List ℕ
  pub line : ℕ
  pub column : ℕ

-- a token without where its bytes lie in memory
abbrev pub seen : Token → TokenView
seen t = record { form = t.form; bytes = t.bytes.now; line = t.line; column = t.column }

-- the number of a form in the order in which they are listed
abbrev pub number_of : Form → ℕ
number_of Word = 0
number_of Number = 1
number_of Quoted = 2
number_of Semicolon = 3
number_of Comma = 4
number_of LeftParenthesis = 5
number_of RightParenthesis = 6
number_of LeftBracket = 7
number_of RightBracket = 8
number_of LeftBrace = 9
number_of RightBrace = 10
number_of Plus = 11
number_of Minus = 12
number_of Star = 13
number_of Slash = 14
number_of Caret = 15
number_of Arrow = 16
number_of DoubleEqual = 17
number_of Missing = 18
number_of Malformed = 19

-- nothing is read after such a token
abbrev pub is_last : Form → Bool
is_last Missing = true
is_last Malformed = true
is_last _ = false

-- a number of digits alone
abbrev pub is_integer : TokenView → Bool
is_integer t = number_of t.form == number_of Number && list_all is_ascii_digit t.bytes
