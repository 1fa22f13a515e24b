use Rattle.std.proofs.Common.{◌≡◌, ◌<◌, length, ap, sym, ◌∙◌, arith}
use Rattle.std.proofs.lemmas.Result.{err_from_is_err_and}
use Rattle.pq_lex.specs.Lex.{tokens}
use Rattle.pq_lex.proofs.Lexing.{tokens_some}
use Rattle.pq_read.specs.Drafts.{env_of}
use Rattle.pq_read.specs.Reads.{read_tokens}
use Rattle.pq_read.specs.Gives.{beyond}
use Rattle.pq_read.proofs.Pieces.{read_on, read_done, read_fails, beyond_less}
use Rattle.pq_read.proofs.statements.read_pieces.Goals as goal

pub returns-then-is_done-clause-read : goal.returns-then-is_done-clause-read
returns-then-is_done-clause-read c =
    let E = env_of c.pieces.draft in
    let done = sym c.is_done.ensures.test ∙ c.if-is_done.true in
    sym c.pieces.invariant.0
    ∙ (ap (read_tokens c.args.options E) (sym c.is_done.ensures.same)
    ∙ read_done c.args.options E (tokens c.is_done.new.lexer) done (c.is_done.ensures.last c.if-is_done.true))

pub pieces-preserved : goal.pieces-preserved
pieces-preserved c =
    let E = env_of c.pieces.draft in
    let on = read_on c.args.options E (env_of c.piece.new.self) (tokens c.is_done.new.lexer) (tokens c.piece.new.lexer) c.in_ok-piece.ensures.read c.in_ok-piece.ensures.later (tokens_some c.piece.new.lexer) in
    (sym on ∙ (ap (read_tokens c.args.options E) c.is_done.ensures.same ∙ c.pieces.invariant.0), c.in_ok-piece.ensures.within)

pub pieces-smaller : goal.pieces-smaller
pieces-smaller c =
    let same : length (tokens c.is_done.new.lexer) ≡ length (tokens c.pieces.lexer) = ap length c.is_done.ensures.same in
    let later : length (tokens c.piece.new.lexer) ≡ length (beyond (tokens c.is_done.new.lexer)) = ap length c.in_ok-piece.ensures.later in
    let less : length (beyond (tokens c.is_done.new.lexer)) < length (tokens c.is_done.new.lexer) = beyond_less (tokens c.is_done.new.lexer) (tokens_some c.is_done.new.lexer) in
    let fewer : length (tokens c.piece.new.lexer) < length (tokens c.pieces.lexer) = omega arith in
    fewer

pub returns-in_err-piece-clause-read : goal.returns-in_err-piece-clause-read
returns-in_err-piece-clause-read c =
    let E = env_of c.pieces.draft in
    let p = err_from_is_err_and c.from_residual.result c.from_residual.ensures.1 in
    let open_end = sym c.is_done.ensures.test ∙ c.if-is_done.false in
    rw (p.1, p.2) (read_fails c.in_err-piece.field-0.0 c.args.options E (tokens c.is_done.new.lexer) (read_tokens c.args.options (env_of c.args.draft.now) (tokens c.args.lexer.now)) c.in_err-piece.ensures.read open_end
    (tokens_some c.is_done.new.lexer) (ap (read_tokens c.args.options E) c.is_done.ensures.same ∙ c.pieces.invariant.0))
