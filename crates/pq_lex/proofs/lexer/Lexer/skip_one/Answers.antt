use Rattle.std.proofs.Common.{get_or, sym, ap, ◌∙◌}
use Rattle.pq_lex.specs.Lex.{Position, tokens}
use Rattle.pq_lex.proofs.Lexing.{skip-newline, skip-blank}
use Rattle.pq_lex.proofs.lexer.Lexer.skip_one.Goals as goal

pub returns-then-self-eq10-clause-same : goal.returns-then-self-eq10-clause-same
returns-then-self-eq10-clause-same c =
    let now = c.args.self.now in
    ap tokens c.begin_line.ensures
    ∙ sym (skip-newline now.line now.column now.rest (ap (λ (p : Position). get_or p.rest 0 0) (sym c.self.view_is) ∙ c.if-self-eq10.true))

pub returns-else-self-eq10-clause-same : goal.returns-else-self-eq10-clause-same
returns-else-self-eq10-clause-same c =
    let now = c.args.self.now in
    ap tokens c.advance.ensures
    ∙ sym (skip-blank c.args.count now.line now.column now.rest
    (λ is. c.if-self-eq10.false (ap (λ (p : Position). get_or p.rest 0 0) c.self.view_is ∙ is)) c.requires.some c.requires.blank c.requires.within)
