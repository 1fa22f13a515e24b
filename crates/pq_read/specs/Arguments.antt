-- The arguments of statements.
use Rattle.std.specs.Prelude.{ℕ, zero, suc, ◌+◌, Bool, true, false, not, ◌&&◌, ◌==◌, nat_lt, List, [], ◌∷◌, ◌++◌, Option, Some, None, Result, Ok, Err, if◌then◌else◌}
use Rattle.std.specs.List.{list_any}
use Rattle.pq_lex.specs.declared.token.Form.TheVariants.{Word, LeftBracket, RightBracket, Comma}
use Rattle.pq_lex.specs.Token.{TokenView}
use Rattle.pq_text.specs.Program.{RegisterView}
use Rattle.pq_read.specs.declared.refusal.Kind.TheVariants.{Syntax, UnknownRegister, IndexOutOfRange, SameQubit, SizeMismatch}
use Rattle.pq_read.specs.declared.refusal.Refusal.{Refusal}
use Rattle.pq_read.specs.declared.argument.Span.{Span}
use Rattle.pq_read.specs.declared.argument.Argument.{Argument}
use Rattle.pq_read.specs.Lists.{any_below}
use Rattle.pq_read.specs.Faults.{◌>>=◌, Reading, refused, is_form, head, demanded, integer_at, value_of}
use Rattle.pq_read.specs.Words.{is_name}
use Rattle.pq_read.specs.Environment.{span_from}

-- the register that a word names
abbrev pub known : TokenView → Option Span → Result Span Refusal
known t (Some span) = Ok span
known t None = Err (refused UnknownRegister t)

abbrev pub register_of : List RegisterView → TokenView → Result Span Refusal
register_of regs t = if is_name t.bytes then known t (span_from 0 regs t.bytes) else Err (refused Syntax t)

-- a whole register, or one place of it; both have the place of the register's name in the text
abbrev pub whole : Span → TokenView → Argument
whole span t = record { first = span.first; count = span.size; whole = true; line = t.line; column = t.column }

abbrev pub single : Span → TokenView → ℕ → Argument
single span t index = record { first = span.first + index; count = 1; whole = false; line = t.line; column = t.column }

-- what follows `[` in an argument
unfoldable pub indexed_at : Span → TokenView → List TokenView → Reading Argument
indexed_at span t ts = do
  i ← integer_at ts
  index ← (if nat_lt (value_of i.0) span.size then Ok (value_of i.0) else Err (refused IndexOutOfRange i.0))
  c ← demanded RightBracket i.1
  Ok (single span t index, c.1)

-- An argument over these registers. One that is a name alone is known to be whole by the token after it.
unfoldable pub argument_at : List RegisterView → List TokenView → Reading Argument
argument_at regs ts = do
  t ← demanded Word ts
  span ← register_of regs t.0
  if is_form LeftBracket (head t.1) then (demanded LeftBracket t.1 >>= λ b. indexed_at span t.0 b.1) else Ok (whole span t.0, t.1)

-- the place that an argument has in the instance k
abbrev pub place_at : Argument → ℕ → ℕ
place_at a k = if a.whole then a.first + k else a.first

-- two registers of different sizes
abbrev pub differ : Argument → Argument → Bool
differ a b = (a.whole && b.whole) && not (a.count == b.count)

-- two arguments that are the same place in some instance
abbrev pub instances_of : Argument → Argument → ℕ
instances_of a b = if a.whole then a.count else b.count

abbrev pub meet : Argument → Argument → Bool
meet a b = any_below (instances_of a b) (λ k. place_at a k == place_at b k)

-- a whole argument after the earlier ones of a gate
abbrev pub fits : List Argument → Argument → Result (Unit {0}) Refusal
fits earlier a =
    if list_any (differ a) earlier then Err (record { kind = SizeMismatch; line = a.line; column = a.column })
    else if list_any (meet a) earlier then Err (record { kind = SameQubit; line = a.line; column = a.column })
    else Ok tt

-- as many arguments of a gate more, each after a comma
unfoldable pub arguments_after : List RegisterView → ℕ → List Argument → List TokenView → Reading (List Argument)
arguments_after regs zero earlier ts = Ok (earlier, ts)
arguments_after regs (suc more) earlier ts = do
  c ← demanded Comma ts
  a ← argument_at regs c.1
  one ← fits earlier a.0
  arguments_after regs more (earlier ++ a.0 ∷ []) a.1

-- the arguments of a gate: one, and some more
unfoldable pub arguments_at : List RegisterView → ℕ → List TokenView → Reading (List Argument)
arguments_at regs more ts = do
  a ← argument_at regs ts
  arguments_after regs more (a.0 ∷ []) a.1
