use Rattle.std.proofs.Common.{sym, ap, ◌∙◌, inl, inr}
use Rattle.std.proofs.lemmas.List.{take_rest}
use Rattle.pq_lex.specs.Front.{fraction_length, exponent_length}
use Rattle.pq_lex.proofs.Direct.{integer_there}
use Rattle.pq_lex.proofs.Others.{no_integer}
use Rattle.pq_lex.proofs.front.integer_front.Goals as goal
use Rattle.pq_lex.proofs.front.integer_front.Goals.{else-fraction-eq0-via-then-fraction-eq0+else-exponent-eq0, else-fraction-eq0-via-else-fraction-eq0}

pub returns-then-exponent-eq0-clause-front : goal.returns-then-exponent-eq0-clause-front
returns-then-exponent-eq0-clause-front c = λ some.
    let rest = sym (take_rest c.args.text.now c.valued_digits-count.result.0) in
    integer_there c.args.text.now c.valued_digits-count.result.0 c.valued_digits-count.ensures.place some
    (ap fraction_length rest ∙ (sym c.fraction.ensures.count ∙ c.if-fraction-eq0.true)) (ap exponent_length rest ∙ (sym c.exponent.ensures.count ∙ c.if-exponent-eq0.true))

pub returns-then-exponent-eq0-clause-none : goal.returns-then-exponent-eq0-clause-none
returns-then-exponent-eq0-clause-none c = λ none. no_integer c.args.text.now c.valued_digits-count.result.0 c.valued_digits-count.ensures.place (inl none)

pub returns-else-fraction-eq0-clause-none : goal.returns-else-fraction-eq0-clause-none
returns-else-fraction-eq0-clause-none c = λ _.
    let rest = take_rest c.args.text.now c.valued_digits-count.result.0 in
    no_integer c.args.text.now c.valued_digits-count.result.0 c.valued_digits-count.ensures.place (inr (λ part power.
    elim c.else-fraction-eq0.branch [
      | else-fraction-eq0-via-then-fraction-eq0+else-exponent-eq0 w ↦ w.if-exponent-eq0.false (w.exponent.ensures.count ∙ (ap exponent_length rest ∙ power))
      | else-fraction-eq0-via-else-fraction-eq0 w ↦ w.if-fraction-eq0.false (c.fraction.ensures.count ∙ (ap fraction_length rest ∙ part))
    ]))
