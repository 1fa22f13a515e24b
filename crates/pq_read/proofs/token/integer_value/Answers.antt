use Rattle.std.proofs.Common.{◌+◌, ◌*◌, get_or, min, sym, ap, ◌∙◌}
use Rattle.pq_read.proofs.Names.{digit_range}
use Rattle.pq_read.proofs.Values.{value_more, all_digits_more}
use Rattle.pq_read.proofs.token.integer_value.Goals as goal

pub loop-digit-preserved : goal.loop-digit-preserved
loop-digit-preserved c =
    let ds = c.args.digits.now in
    let i = c.loop-digit.digit-index in
    let range = digit_range (get_or ds i 0) (sym c.if-not-is_ascii_digit.ensures.value) in (
      all_digits_more ds i c.loop-digit-test.true (sym c.if-not-is_ascii_digit.ensures.value) c.loop-digit.invariant.0,
      c.min-value.ensures ∙ (ap (λ x. min (c.loop-digit.value * 10 + x) 1000000) c.from.ensures ∙ value_more ds i c.loop-digit.value 1000000 c.loop-digit-test.true range.0 range.1 c.loop-digit.invariant.1),
    )
