use Rattle.std.proofs.Common.{Ok, sym, ap, ◌∙◌}
use Rattle.pq_lex.specs.Token.{seen}
use Rattle.pq_lex.specs.Lex.{tokens}
use Rattle.pq_read.specs.Gives.{left}
use Rattle.pq_read.proofs.Steps.{demanded-known, beyond-known, head-known, test-known, test-other}
use Rattle.pq_read.proofs.token.goes_over.Goals as goal

pub returns-in-Some-clause-test : goal.returns-in-Some-clause-test
returns-in-Some-clause-test c = sym (test-known c.args.mark (seen c.in-Some.field-0) (tokens c.args.lexer.now) (tokens c.eat.new.self) c.in-Some.ensures.found c.in-Some.ensures.form)

pub returns-in-Some-clause-read : goal.returns-in-Some-clause-read
returns-in-Some-clause-read c = λ _.
    demanded-known c.args.mark (seen c.in-Some.field-0) (tokens c.args.lexer.now) (tokens c.eat.new.self) c.in-Some.ensures.found c.in-Some.ensures.form c.requires.inside
    ∙ ap (λ t. Ok (t, left c.eat.new.self)) (sym (head-known (seen c.in-Some.field-0) (tokens c.args.lexer.now) (tokens c.eat.new.self) c.in-Some.ensures.found))

pub returns-in-Some-clause-later : goal.returns-in-Some-clause-later
returns-in-Some-clause-later c =
    beyond-known c.args.mark (seen c.in-Some.field-0) (tokens c.args.lexer.now) (tokens c.eat.new.self) c.in-Some.ensures.found c.in-Some.ensures.form c.requires.inside

pub returns-in-None-clause-test : goal.returns-in-None-clause-test
returns-in-None-clause-test c = sym (test-other c.args.mark (tokens c.args.lexer.now) c.in-None.ensures.other)
