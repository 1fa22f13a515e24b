use Rattle.std.proofs.Common.{refl, ap}
use Rattle.pq_lex.specs.Front.{fronted}
use Rattle.pq_lex.specs.Lex.{Position, placed}
use Rattle.pq_lex.proofs.Lexing.{next-token}
use Rattle.pq_lex.proofs.Malformed.{sure_token}
use Rattle.pq_lex.proofs.lexer.Lexer.take.Goals as goal

pub returns-clause-taken : goal.returns-clause-taken
returns-clause-taken c =
    let found = fronted c.args.form c.args.count in
    next-token c.args.self.now c.args.self.now found _ c.advance.new.self refl c.requires.none c.requires.front c.requires.within
    (ap (λ (p : Position). placed found (record { line = p.line; column = p.column }) p.rest) c.self.view_is)
    c.advance.ensures

pub returns-clause-sure : goal.returns-clause-sure
returns-clause-sure c = λ inner followed more.
    let found = fronted c.args.form c.args.count in
    sure_token c.args.self.now found _ c.advance.new.self more c.requires.none c.requires.front inner followed
    (ap (λ (p : Position). placed found (record { line = p.line; column = p.column }) p.rest) c.self.view_is)
    c.advance.ensures
