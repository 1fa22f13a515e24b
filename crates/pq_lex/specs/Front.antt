-- What stands at the start of a text: the longest form that fits.
use Rattle.std.specs.Prelude.{ℕ, ◌+◌, Bool, false, not, ◌&&◌, ◌||◌, ◌==◌, List, [], ◌∷◌, drop, if◌then◌else◌}
use Rattle.std.specs.List.{position_or_len}
use Rattle.std.specs.Char.{is_ascii_digit, is_ascii_alphabetic, is_ascii_alphanumeric}
use Rattle.pq_lex.specs.declared.token.Form.{Form}
use Rattle.pq_lex.specs.declared.token.Form.TheVariants.{Word, Number, Quoted, Semicolon, Comma, LeftParenthesis, RightParenthesis, LeftBracket, RightBracket, LeftBrace, RightBrace, Plus, Minus, Star, Slash, Caret, Arrow, DoubleEqual, Missing, Malformed}

-- a letter, a digit or `_`
abbrev pub is_word_byte : ℕ → Bool
is_word_byte b = is_ascii_alphanumeric b || b == 95

abbrev pub is_outside_word : ℕ → Bool
is_outside_word b = not (is_word_byte b)

abbrev pub is_no_digit : ℕ → Bool
is_no_digit b = not (is_ascii_digit b)

abbrev pub is_newline : ℕ → Bool
is_newline b = b == 10

-- what a text between quotes can't hold: a newline or `"`
abbrev pub is_unquotable : ℕ → Bool
is_unquotable b = b == 10 || b == 34

-- a space, a tab, a carriage return or a newline
abbrev pub is_separator : ℕ → Bool
is_separator b = b == 32 || b == 9 || b == 13 || b == 10

-- How many bytes at the start are skipped as one: a separator, or a comment up to the newline or the end.
abbrev pub comment_length : List ℕ → ℕ
comment_length (b ∷ c ∷ rest) = if b == 47 && c == 47 then 2 + position_or_len is_newline rest else 0
comment_length _ = 0

abbrev pub blank_length : List ℕ → ℕ
blank_length [] = 0
blank_length (b ∷ rest) = if is_separator b then 1 else comment_length (b ∷ rest)

-- a form, and how many bytes it takes; none for the end and for what is malformed
pub record Front : Type 0 where
  pub form : Form
  pub count : ℕ

abbrev pub fronted : Form → ℕ → Front
fronted form count = record { form = form; count = count }

-- `e` or `E`, then perhaps a sign, then a digit at least: how many bytes it has, 0 where it isn't there
abbrev pub some_digits : ℕ → List ℕ → ℕ
some_digits before rest = if position_or_len is_no_digit rest == 0 then 0 else before + position_or_len is_no_digit rest

abbrev pub exponent_digits : List ℕ → ℕ
exponent_digits [] = 0
exponent_digits (b ∷ rest) = if b == 43 || b == 45 then some_digits 2 rest else some_digits 1 (b ∷ rest)

abbrev pub exponent_length : List ℕ → ℕ
exponent_length [] = 0
exponent_length (b ∷ rest) = if b == 101 || b == 69 then exponent_digits rest else 0

-- a `.` and the digits after it
abbrev pub fraction_length : List ℕ → ℕ
fraction_length [] = 0
fraction_length (b ∷ rest) = if b == 46 then 1 + position_or_len is_no_digit rest else 0

-- digits with at most one `.` among, before or after them; a `.` alone is none
abbrev pub decimal_length : List ℕ → ℕ
decimal_length text =
    let whole = position_or_len is_no_digit text in
    let all = whole + fraction_length (drop whole text) in
    if whole == 0 && all == 1 then 0 else all

abbrev pub number_front : List ℕ → Front
number_front text =
    let count = decimal_length text in
    if count == 0 then fronted Malformed 0 else fronted Number (count + exponent_length (drop count text))

-- what follows the first `"`: bytes, and the `"` that closes them on the same line
abbrev pub is_quote : List ℕ → Bool
is_quote [] = false
is_quote (b ∷ rest) = b == 34

abbrev pub quoted_front : List ℕ → Front
quoted_front rest =
    let inside = position_or_len is_unquotable rest in
    if is_quote (drop inside rest) then fronted Quoted (inside + 2) else fronted Malformed 0

-- the form of two bytes where the second one is next, else another
abbrev pub begins_with : ℕ → List ℕ → Bool
begins_with mark [] = false
begins_with mark (b ∷ rest) = b == mark

-- the byte of a mark that no longer mark begins with, 0 for the other forms
abbrev pub mark_byte : Form → ℕ
mark_byte Semicolon = 59
mark_byte Comma = 44
mark_byte LeftParenthesis = 40
mark_byte RightParenthesis = 41
mark_byte LeftBracket = 91
mark_byte RightBracket = 93
mark_byte LeftBrace = 123
mark_byte RightBrace = 125
mark_byte _ = 0

abbrev pub mark_front : ℕ → List ℕ → Front
mark_front b rest =
    if b == 59 then fronted Semicolon 1
    else if b == 44 then fronted Comma 1
    else if b == 40 then fronted LeftParenthesis 1
    else if b == 41 then fronted RightParenthesis 1
    else if b == 91 then fronted LeftBracket 1
    else if b == 93 then fronted RightBracket 1
    else if b == 123 then fronted LeftBrace 1
    else if b == 125 then fronted RightBrace 1
    else if b == 43 then fronted Plus 1
    else if b == 42 then fronted Star 1
    else if b == 47 then fronted Slash 1
    else if b == 94 then fronted Caret 1
    else if b == 45 then (if begins_with 62 rest then fronted Arrow 2 else fronted Minus 1)
    else if b == 61 then (if begins_with 61 rest then fronted DoubleEqual 2 else fronted Malformed 0)
    else fronted Malformed 0

unfoldable pub front : List ℕ → Front
front [] = fronted Missing 0
front (b ∷ rest) =
    if is_ascii_alphabetic b then fronted Word (1 + position_or_len is_outside_word rest)
    else if is_ascii_digit b || b == 46 then number_front (b ∷ rest)
    else if b == 34 then quoted_front rest
    else mark_front b rest

abbrev pub form_and_count : (Form × ℕ) → Front
form_and_count pair = fronted pair.0 pair.1
