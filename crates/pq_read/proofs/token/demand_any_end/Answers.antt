use Rattle.std.proofs.Common.{sym, ◌∙◌}
use Rattle.pq_lex.specs.declared.token.Form.TheVariants.{Semicolon}
use Rattle.pq_lex.specs.Token.{seen}
use Rattle.pq_lex.specs.Lex.{tokens}
use Rattle.pq_read.proofs.Steps.{demanded-end, beyond-end, demanded-other}
use Rattle.pq_read.proofs.token.demand_any_end.Goals as goal

pub returns-then-has_form-clause-read : goal.returns-then-has_form-clause-read
returns-then-has_form-clause-read c =
    demanded-end (seen c.next-token.result) (tokens c.args.lexer.now) (tokens c.next-token.new.self) c.next-token.ensures (sym c.has_form.ensures ∙ c.if-has_form.true)

pub returns-then-has_form-clause-later : goal.returns-then-has_form-clause-later
returns-then-has_form-clause-later c =
    beyond-end (seen c.next-token.result) (tokens c.args.lexer.now) (tokens c.next-token.new.self) c.next-token.ensures (sym c.has_form.ensures ∙ c.if-has_form.true)

pub returns-else-has_form-clause-read : goal.returns-else-has_form-clause-read
returns-else-has_form-clause-read c =
    rw c.unexpected.ensures (demanded-other Semicolon (seen c.next-token.result) (tokens c.args.lexer.now) (tokens c.next-token.new.self) c.next-token.ensures (sym c.has_form.ensures ∙ c.if-has_form.false))
