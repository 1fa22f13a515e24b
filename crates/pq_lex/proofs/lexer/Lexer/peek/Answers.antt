use Rattle.std.proofs.Common.{◌≤◌, length, ap, subst, ◌∙◌}
use Rattle.pq_lex.specs.Front.{form_and_count, front}
use Rattle.pq_lex.specs.Lex.{Position}
use Rattle.pq_lex.proofs.Lexing.{peeked, peeked_last}
use Rattle.pq_lex.proofs.lexer.Lexer.peek.Goals as goal

pub returns-clause-form : goal.returns-clause-form
returns-clause-form c =
    let found = form_and_count c.token_front-form.result in
    peeked c.skip_blanks.new.self found c.skip_blanks.ensures.none
    (c.token_front-form.ensures.front ∙ ap (λ (p : Position). front p.rest) c.self.view_is)
    (subst (λ (p : Position). found.count ≤ length p.rest) c.self.view_is c.token_front-form.ensures.within)

pub returns-clause-last : goal.returns-clause-last
returns-clause-last c =
    let found = form_and_count c.token_front-form.result in
    peeked_last c.skip_blanks.new.self found c.skip_blanks.ensures.none
    (c.token_front-form.ensures.front ∙ ap (λ (p : Position). front p.rest) c.self.view_is)
    (subst (λ (p : Position). found.count ≤ length p.rest) c.self.view_is c.token_front-form.ensures.within)
