use Rattle.std.proofs.Common.{◌≡◌, [], ap, sym, ◌∙◌, Ok, true, false}
use Rattle.std.proofs.lemmas.Result.{err_from_is_err_and}
use Rattle.pq_lex.specs.declared.token.Form.TheVariants.{Comma}
use Rattle.pq_read.specs.Faults.{is_form, head}
use Rattle.pq_read.specs.After.{barrier_wires}
use Rattle.pq_read.specs.Gives.{through, left}
use Rattle.pq_read.proofs.Barriers.{barrier_more, barrier_done, barrier_fails}
use Rattle.pq_read.proofs.tail_statement.read_wires.Goals as goal

pub returns-in_err-a-clause-read : goal.returns-in_err-a-clause-read
returns-in_err-a-clause-read c =
    let p = err_from_is_err_and c.from_residual-in_err-a.result c.from_residual-in_err-a.ensures.1 in
    rw (p.1, p.2) (barrier_fails c.in_err-a.field-0.0 c.args.quantum.now c.loop-wires.wires (left c.loop-wires.lexer) (barrier_wires c.args.quantum.now [] 0 (left c.args.lexer.now)) c.in_err-a.ensures.read c.loop-wires.invariant.0)

pub returns-then-not-goes_over-clause-read : goal.returns-then-not-goes_over-clause-read
returns-then-not-goes_over-clause-read c =
    let is : is_form Comma (head (left c.read_argument.new.lexer)) ≡ false = sym c.goes_over.ensures.test ∙ c.if-not-goes_over.true in
    let done = barrier_done c.args.quantum.now c.loop-wires.wires (left c.loop-wires.lexer) (c.in_ok-a.a, left c.read_argument.new.lexer) c.in_ok-a.ensures.read is in
    let same = c.goes_over.ensures.same c.if-not-goes_over.true in
    sym c.loop-wires.invariant.0 ∙ (done ∙ (λ i. Ok ((sym c.in_ok-adjoin_argument.ensures ∙ sym c.into_wires.ensures) i, through (sym same i))))

pub loop-wires-preserved : goal.loop-wires-preserved
loop-wires-preserved c =
    let is : is_form Comma (head (left c.read_argument.new.lexer)) ≡ true = sym c.goes_over.ensures.test ∙ c.if-not-goes_over.false in
    let next = c.goes_over.ensures.read c.if-not-goes_over.false in
    let more = barrier_more c.args.quantum.now c.loop-wires.wires (left c.loop-wires.lexer) (c.in_ok-a.a, left c.read_argument.new.lexer) (head (left c.read_argument.new.lexer), left c.goes_over.new.lexer) c.in_ok-a.ensures.read is next in (
      ap (λ ws. barrier_wires c.args.quantum.now ws 0 (left c.goes_over.new.lexer)) c.in_ok-adjoin_argument.ensures ∙ (sym more.0 ∙ c.loop-wires.invariant.0),
      c.goes_over.ensures.later ∙ (c.in_ok-a.ensures.later ∙ c.loop-wires.invariant.1),
    )

pub loop-wires-smaller : goal.loop-wires-smaller
loop-wires-smaller c =
    let is : is_form Comma (head (left c.read_argument.new.lexer)) ≡ true = sym c.goes_over.ensures.test ∙ c.if-not-goes_over.false in
    let next = c.goes_over.ensures.read c.if-not-goes_over.false in
    let more = barrier_more c.args.quantum.now c.loop-wires.wires (left c.loop-wires.lexer) (c.in_ok-a.a, left c.read_argument.new.lexer) (head (left c.read_argument.new.lexer), left c.goes_over.new.lexer) c.in_ok-a.ensures.read is next in
    more.1
