use Rattle.std.proofs.Common.{true, false, sym, ◌∙◌}
use Rattle.pq_lex.specs.Token.{seen}
use Rattle.pq_lex.specs.Lex.{tokens}
use Rattle.pq_read.proofs.Steps.{header-found, header-later, header-other}
use Rattle.pq_read.proofs.header.read_header_word.Goals as goal

pub returns-then-is_header_word-clause-read : goal.returns-then-is_header_word-clause-read
returns-then-is_header_word-clause-read c =
    header-found (seen c.next-token.result) (tokens c.args.lexer.now) (tokens c.next-token.new.self) c.next-token.ensures (sym c.is_header_word.ensures ∙ c.if-is_header_word.true)

pub returns-then-is_header_word-clause-later : goal.returns-then-is_header_word-clause-later
returns-then-is_header_word-clause-later c =
    header-later (seen c.next-token.result) (tokens c.args.lexer.now) (tokens c.next-token.new.self) c.next-token.ensures (sym c.is_header_word.ensures ∙ c.if-is_header_word.true)

pub returns-then-has_form-clause-read : goal.returns-then-has_form-clause-read
returns-then-has_form-clause-read c =
    rw c.refused.ensures (header-other (seen c.next-token.result) (tokens c.args.lexer.now) (tokens c.next-token.new.self) true c.next-token.ensures (sym c.is_header_word.ensures ∙ c.if-is_header_word.false) (sym c.has_form.ensures ∙ c.if-has_form.true))

pub returns-else-has_form-clause-read : goal.returns-else-has_form-clause-read
returns-else-has_form-clause-read c =
    rw c.refused-else-has_form.ensures (header-other (seen c.next-token.result) (tokens c.args.lexer.now) (tokens c.next-token.new.self) false c.next-token.ensures (sym c.is_header_word.ensures ∙ c.if-is_header_word.false) (sym c.has_form.ensures ∙ c.if-has_form.false))
