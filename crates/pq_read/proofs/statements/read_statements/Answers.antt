use Rattle.std.proofs.Common.{◌≡◌, ◌<◌, true, length, ap, sym, ◌∙◌, subst, arith, List, []}
use Rattle.std.proofs.lemmas.Result.{err_from_is_err_and}
use Rattle.pq_lex.specs.Token.{TokenView}
use Rattle.pq_lex.specs.Lex.{Place, tokens}
use Rattle.pq_lex.specs.Ends.{spliced, AreClosed}
use Rattle.pq_lex.proofs.Lexing.{tokens_some}
use Rattle.pq_read.specs.Drafts.{env_of}
use Rattle.pq_read.specs.Reads.{read_tokens}
use Rattle.pq_read.specs.Gives.{beyond}
use Rattle.pq_read.proofs.Pieces.{beyond_less}
use Rattle.pq_read.proofs.Splicing.{head_form, statement_on, statement_closed, statements_end, fails_among}
use Rattle.pq_read.proofs.statements.read_statements.Goals as goal

pub returns-then-is_at_end-clause-read : goal.returns-then-is_at_end-clause-read
returns-then-is_at_end-clause-read c =
    let same = c.is_at_end.ensures.same in
    let missing = head_form (tokens c.is_at_end.new.self) ∙ (sym c.is_at_end.ensures.end ∙ c.if-is_at_end.true) in
    λ end closed.
    let here = subst (λ (ts : List TokenView). AreClosed end true ts) (sym same) (c.statements.invariant.closed end closed) in
    let last = statements_end c.args.options (env_of c.statements.draft) end (tokens c.is_at_end.new.self) in (
      (last [] here missing).0,
      λ more some. sym (c.statements.invariant.on end closed more some) ∙ (ap (λ (ts : List TokenView). read_tokens c.args.options (env_of c.statements.draft) (spliced ts more)) (sym same) ∙ (last more here missing).1),
    )

pub statements-preserved : goal.statements-preserved
statements-preserved c =
    let same = c.is_at_end.ensures.same in
    let ts = tokens c.is_at_end.new.self in
    let new = tokens c.piece.new.lexer in
    let other = head_form ts ∙ (sym c.is_at_end.ensures.end ∙ c.if-is_at_end.false) in
    let here = λ (end : Place) (closed : AreClosed end true (tokens c.args.lexer.now)). subst (λ (ts : List TokenView). AreClosed end true ts) (sym same) (c.statements.invariant.closed end closed) in
    let some = tokens_some c.piece.new.lexer in
    record {
      closed = λ end closed. statement_closed end ts new (here end closed) other c.in_ok-piece.ensures.later some;
      on = λ end closed more more_some.
          sym (statement_on c.args.options (env_of c.statements.draft) (env_of c.piece.new.self) end ts new more (here end closed) other c.in_ok-piece.ensures.read c.in_ok-piece.ensures.later some more_some)
          ∙ (ap (λ (ts : List TokenView). read_tokens c.args.options (env_of c.statements.draft) (spliced ts more)) same ∙ c.statements.invariant.on end closed more more_some);
      gates = c.in_ok-piece.ensures.within;
    }

pub statements-smaller : goal.statements-smaller
statements-smaller c =
    let same : length (tokens c.is_at_end.new.self) ≡ length (tokens c.statements.lexer) = ap length c.is_at_end.ensures.same in
    let later : length (tokens c.piece.new.lexer) ≡ length (beyond (tokens c.is_at_end.new.self)) = ap length c.in_ok-piece.ensures.later in
    let less : length (beyond (tokens c.is_at_end.new.self)) < length (tokens c.is_at_end.new.self) = beyond_less (tokens c.is_at_end.new.self) (tokens_some c.is_at_end.new.self) in
    let fewer : length (tokens c.piece.new.lexer) < length (tokens c.statements.lexer) = omega arith in
    fewer

pub returns-in_err-piece-clause-fails : goal.returns-in_err-piece-clause-fails
returns-in_err-piece-clause-fails c =
    let same = c.is_at_end.ensures.same in
    let ts = tokens c.is_at_end.new.self in
    let other = head_form ts ∙ (sym c.is_at_end.ensures.end ∙ c.if-is_at_end.false) in
    let p = err_from_is_err_and c.from_residual.result c.from_residual.ensures.1 in
    rw (p.1, p.2) (fails_among c.in_err-piece.field-0.0 c.args.options (env_of c.args.draft.now) (env_of c.statements.draft) (tokens c.args.lexer.now) ts other (tokens_some c.is_at_end.new.self)
    (λ end closed. subst (λ (ts : List TokenView). AreClosed end true ts) (sym same) (c.statements.invariant.closed end closed))
    (λ end closed more some. ap (λ (ts : List TokenView). read_tokens c.args.options (env_of c.statements.draft) (spliced ts more)) same ∙ c.statements.invariant.on end closed more some)
    c.in_err-piece.ensures.read)
