use Rattle.std.proofs.Common.{refl}
use Rattle.pq_lex.specs.declared.token.Form.TheVariants.{Number}
use Rattle.pq_lex.specs.Token.{seen}
use Rattle.pq_lex.specs.Lex.{tokens}
use Rattle.pq_read.proofs.Steps.{integer-known, beyond-known}
use Rattle.pq_read.proofs.token.integer.Goals as goal

pub returns-in-Some-clause-read : goal.returns-in-Some-clause-read
returns-in-Some-clause-read c =
    integer-known (seen c.in-Some.x.0) (tokens c.args.lexer.now) (tokens c.integer.new.self) c.in-Some.ensures.found c.in-Some.ensures.form c.in-Some.ensures.digits

pub returns-in-Some-clause-later : goal.returns-in-Some-clause-later
returns-in-Some-clause-later c =
    beyond-known Number (seen c.in-Some.x.0) (tokens c.args.lexer.now) (tokens c.integer.new.self) c.in-Some.ensures.found c.in-Some.ensures.form (record { no_end = refl; no_last = refl })
