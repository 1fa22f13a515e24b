-- The statement that isn't finished.
use Rattle.std.specs.Prelude.{◌≡◌, ℕ, ◌+◌, ◌≤◌, List, ◌++◌, length}
use Rattle.pq_lex.specs.declared.ends.Mode.TheVariants.{Code}
use Rattle.pq_lex.specs.Lex.{Position, tokens}
use Rattle.pq_lex.specs.Added.{extended}
use Rattle.pq_lex.specs.Ends.{mode_after}
use Rattle.pq_read.specs.declared.begun.Begun.{Begun}

-- where it begins
abbrev pub position_of : Begun → Position
position_of b = record { rest = b.bytes.items; line = b.line; column = b.column }

-- the same with a piece behind it
abbrev pub joined : Begun → List ℕ → Position
joined b piece = record { rest = b.bytes.items ++ piece; line = b.line; column = b.column }

-- Its line, its column and the number of its bytes are together at most a bound, and its mode is the one behind it.
pub record IsBegun (bound : ℕ) (b : Begun) : Type 0 where
  pub column : 1 ≤ b.column
  pub within : b.line + (b.column + length b.bytes.items) ≤ bound
  pub mode : b.mode ≡ mode_after Code b.bytes.items

-- Another position with the same tokens, whatever follows.
pub record AreSettled (p q : Position) : Type 0 where
  pub same : (more : List ℕ) → tokens (extended q more) ≡ tokens (extended p more)
  pub mode : mode_after Code q.rest ≡ mode_after Code p.rest
  pub place : q.line + (q.column + length q.rest) ≤ p.line + (p.column + length p.rest)
  pub column : 1 ≤ q.column
