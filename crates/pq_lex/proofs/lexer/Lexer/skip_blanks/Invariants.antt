use Rattle.std.proofs.Common.{◌≡◌, length}
use Rattle.pq_lex.specs.Lex.{tokens}
use Rattle.pq_lex.proofs.lexer.Lexer.skip_blanks.Given as goal

abbrev pub invariant-loop-self : goal.invariant-loop-self
invariant-loop-self l = tokens l.self ≡ tokens l.initial.self

abbrev pub decreases-loop-self : goal.decreases-loop-self
decreases-loop-self l = length l.self.rest
