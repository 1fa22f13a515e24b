use Rattle.std.proofs.Common.{sym, ap, ◌∙◌, eqb}
use Rattle.pq_lex.specs.Token.{number_of}
use Rattle.pq_lex.specs.Front.{begins_with}
use Rattle.pq_lex.specs.Lex.{first_form}
use Rattle.pq_lex.proofs.Direct.{mark_there, mark_other}
use Rattle.pq_lex.proofs.lexer.Lexer.eat.Goals as goal

pub take-requires-clause-front : goal.take-requires-clause-front
take-requires-clause-front c =
    mark_there c.args.mark c.skip_blanks.new.self.rest c.requires
    ((λ i. begins_with (sym c.byte_of.ensures i) (sym c.self.view_is i).rest) ∙ (sym c.is_next.ensures.next ∙ c.if-is_next.true))

pub returns-else-is_next-clause-other : goal.returns-else-is_next-clause-other
returns-else-is_next-clause-other c =
    ap (λ ts. eqb (number_of (first_form ts)) (number_of c.args.mark)) (sym c.skip_blanks.ensures.same)
    ∙ mark_other c.args.mark c.skip_blanks.new.self c.skip_blanks.ensures.none c.requires
    ((λ i. begins_with (sym c.byte_of.ensures i) (sym c.self.view_is i).rest) ∙ (sym c.is_next.ensures.next ∙ c.if-is_next.false))
