use Rattle.std.proofs.Common.{refl}
use Rattle.pq_lex.specs.declared.token.Form.TheVariants.{Word}
use Rattle.pq_lex.specs.Token.{seen}
use Rattle.pq_lex.specs.Lex.{tokens}
use Rattle.pq_read.proofs.Steps.{demanded-known, beyond-known}
use Rattle.pq_read.proofs.token.demand_word.Goals as goal

pub returns-in-Some-clause-read : goal.returns-in-Some-clause-read
returns-in-Some-clause-read c =
    demanded-known Word (seen c.in-Some.token) (tokens c.args.lexer.now) (tokens c.word.new.self) c.in-Some.ensures.found c.in-Some.ensures.form (record { no_end = refl; no_last = refl })

pub returns-in-Some-clause-later : goal.returns-in-Some-clause-later
returns-in-Some-clause-later c =
    beyond-known Word (seen c.in-Some.token) (tokens c.args.lexer.now) (tokens c.word.new.self) c.in-Some.ensures.found c.in-Some.ensures.form (record { no_end = refl; no_last = refl })
