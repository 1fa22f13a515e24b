-- What a barrier has next.
use Rattle.std.specs.Prelude.{Bool, ◌&&◌, nat_lt, min, List, [], ◌∷◌, Option, Some, None, if◌then◌else◌}
use Rattle.std.specs.List.{list_all}
use Rattle.std.specs.Char.{is_ascii_digit}
use Rattle.pq_lex.specs.declared.front.TheConstants.{GREAT}
use Rattle.pq_lex.specs.declared.token.Form.TheVariants.{Word, Number, Comma, LeftBracket, RightBracket}
use Rattle.pq_lex.specs.Token.{TokenView}
use Rattle.pq_text.specs.Program.{RegisterView}
use Rattle.pq_read.specs.declared.argument.Span.{Span}
use Rattle.pq_read.specs.declared.known.Expected.{Expected}
use Rattle.pq_read.specs.declared.known.Expected.TheVariants.{Name, AfterName, Index, AfterIndex, AfterBracket, Nothing}
use Rattle.pq_read.specs.Faults.{is_form, value_of}
use Rattle.pq_read.specs.Environment.{span_from}

-- behind a name
abbrev pub named : Option Span → Expected
named (Some span) = AfterName span
named None = Nothing

-- whether a number is an index of a register, by a value that stops growing at a million
abbrev pub is_index : Span → TokenView → Bool
is_index span t = list_all is_ascii_digit t.bytes && nat_lt (min (value_of t) GREAT) span.size

-- behind a token: the name of a register, perhaps an index of it in brackets, a comma, and so on
abbrev pub after_token : List RegisterView → Expected → TokenView → Expected
after_token regs Name t = if is_form Word t then named (span_from 0 regs t.bytes) else Nothing
after_token regs (AfterName span) t = if is_form LeftBracket t then Index span else if is_form Comma t then Name else Nothing
after_token regs (Index span) t = if is_form Number t && is_index span t then AfterIndex else Nothing
after_token regs AfterIndex t = if is_form RightBracket t then AfterBracket else Nothing
after_token regs AfterBracket t = if is_form Comma t then Name else Nothing
after_token regs Nothing t = Nothing

-- behind some tokens
abbrev pub expected_after : List RegisterView → Expected → List TokenView → Expected
expected_after regs e [] = e
expected_after regs e (t ∷ ts) = expected_after regs (after_token regs e t) ts

-- the tokens behind the first one
abbrev pub behind_first : List TokenView → List TokenView
behind_first [] = []
behind_first (t ∷ ts) = ts
