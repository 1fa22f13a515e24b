use Rattle.pq_lex.specs.Token.{seen}
use Rattle.pq_lex.specs.Lex.{tokens}
use Rattle.pq_read.proofs.Steps.{demanded-known, beyond-known}
use Rattle.pq_read.proofs.token.demand_mark.Goals as goal

pub returns-in-Some-clause-read : goal.returns-in-Some-clause-read
returns-in-Some-clause-read c =
    demanded-known c.args.mark (seen c.in-Some.token) (tokens c.args.lexer.now) (tokens c.eat.new.self) c.in-Some.ensures.found c.in-Some.ensures.form c.requires.inside

pub returns-in-Some-clause-later : goal.returns-in-Some-clause-later
returns-in-Some-clause-later c =
    beyond-known c.args.mark (seen c.in-Some.token) (tokens c.args.lexer.now) (tokens c.eat.new.self) c.in-Some.ensures.found c.in-Some.ensures.form c.requires.inside
