use Rattle.std.proofs.Common.{◌≡◌, ℕ, ◌+◌, ◌≤◌, List, length}
use Rattle.pq_lex.specs.Lex.{tokens}
use Rattle.pq_lex.specs.Added.{extended}
use Rattle.pq_lex.specs.Ends.{mode_after}
use Rattle.pq_lex.specs.declared.ends.Mode.TheVariants.{Code}
use Rattle.pq_lex.proofs.lexer.Lexer.skip_followed.Given as goal

abbrev pub invariant-blanks : goal.invariant-blanks
invariant-blanks l = record {
  same : (more : List ℕ) → tokens (extended l.self more) ≡ tokens (extended l.initial.self more);
  mode : mode_after Code l.self.rest ≡ mode_after Code l.initial.self.rest;
  place : l.self.line + (l.self.column + length l.self.rest) ≤ l.initial.self.line + (l.initial.self.column + length l.initial.self.rest);
}

abbrev pub decreases-blanks : goal.decreases-blanks
decreases-blanks l = length l.self.rest
