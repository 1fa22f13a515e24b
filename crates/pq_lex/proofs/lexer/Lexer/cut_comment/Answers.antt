use Rattle.std.proofs.Common.{◌≡◌, ◌≤◌, length, subst, sym}
use Rattle.pq_lex.specs.Front.{blank_length}
use Rattle.pq_lex.specs.Lex.{Position}
use Rattle.pq_lex.proofs.Ending.{comment_cut, mode_cut}
use Rattle.pq_lex.proofs.lexer.Lexer.cut_comment.Goals as goal

pub returns-clause-same : goal.returns-clause-same
returns-clause-same c = λ more. rw (← c.self.view_is) (comment_cut c.self.inside.line c.self.inside.column c.self.inside.rest.now more
    (subst (λ (p : Position). blank_length p.rest ≡ length p.rest) (sym c.self.view_is) c.requires.comment)
    (subst (λ (p : Position). 3 ≤ length p.rest) (sym c.self.view_is) c.requires.long))

pub returns-clause-mode : goal.returns-clause-mode
returns-clause-mode c = rw (← c.self.view_is) (mode_cut c.self.inside.rest.now
    (subst (λ (p : Position). blank_length p.rest ≡ length p.rest) (sym c.self.view_is) c.requires.comment)
    (subst (λ (p : Position). 3 ≤ length p.rest) (sym c.self.view_is) c.requires.long))
