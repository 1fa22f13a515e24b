use Rattle.std.proofs.Common.{length, sym, ap, ◌∙◌, eqb}
use Rattle.pq_lex.specs.Lex.{Position}
use Rattle.pq_lex.proofs.Direct.{end_there, end_last}
use Rattle.pq_lex.proofs.lexer.Lexer.is_at_end.Goals as goal

pub returns-clause-end : goal.returns-clause-end
returns-clause-end c =
    c.is_empty.ensures ∙ (ap (λ (p : Position). eqb (length p.rest) 0) c.self.view_is ∙ end_there c.skip_blanks.new.self c.skip_blanks.ensures.none)

pub returns-clause-last : goal.returns-clause-last
returns-clause-last c = λ is.
    end_last c.skip_blanks.new.self (sym (ap (λ (p : Position). eqb (length p.rest) 0) c.self.view_is) ∙ (sym c.is_empty.ensures ∙ is))
