use Rattle.std.proofs.lemmas.Result.{err_from_is_err_and}
use Rattle.pq_lex.specs.Lex.{tokens}
use Rattle.pq_read.specs.Drafts.{env_of}
use Rattle.pq_lex.specs.Token.{seen}
use Rattle.pq_read.proofs.Leading.{ended_read, ended_fails}
use Rattle.pq_read.proofs.statements.read_ended.Goals as goal

pub returns-in_err-read_statements-clause-fails : goal.returns-in_err-read_statements-clause-fails
returns-in_err-read_statements-clause-fails c =
    let p = err_from_is_err_and c.from_residual.result c.from_residual.ensures.1 in
    rw (p.1, p.2) (ended_fails c.in_err-read_statements.field-0.0 c.args.options (env_of c.args.draft.now) (record { rest = c.args.text.now; line = c.args.line; column = c.args.column }) c.at-lexer.result
    c.at-lexer.ensures c.requires.column c.requires.ended c.in_err-read_statements.ensures.fails)

pub returns-clause-read : goal.returns-clause-read
returns-clause-read c =
    (ended_read c.args.options (env_of c.args.draft.now) (env_of c.read_statements.new.draft) (record { rest = c.args.text.now; line = c.args.line; column = c.args.column }) c.at-lexer.result
    (tokens c.read_statements.new.lexer) (tokens c.next-end.new.self) (seen c.next-end.result) c.at-lexer.ensures c.requires.column c.requires.ended c.in_ok-read_statements.ensures.read c.next-end.ensures).0

pub returns-clause-place : goal.returns-clause-place
returns-clause-place c =
    (ended_read c.args.options (env_of c.args.draft.now) (env_of c.read_statements.new.draft) (record { rest = c.args.text.now; line = c.args.line; column = c.args.column }) c.at-lexer.result
    (tokens c.read_statements.new.lexer) (tokens c.next-end.new.self) (seen c.next-end.result) c.at-lexer.ensures c.requires.column c.requires.ended c.in_ok-read_statements.ensures.read c.next-end.ensures).1
