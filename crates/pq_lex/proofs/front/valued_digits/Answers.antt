use Rattle.std.proofs.Common.{◌+◌, ◌*◌, not, get_or, min, sym, ap, ◌∙◌, arith}
use Rattle.std.proofs.lemmas.List.Sums.{position_or_len_is}
use Rattle.pq_lex.specs.Front.{is_no_digit}
use Rattle.pq_lex.proofs.Values.{digit_range, value_more, all_digits_more, no_digit_before}
use Rattle.pq_lex.proofs.front.valued_digits.Goals as goal

pub loop-i-preserved : goal.loop-i-preserved
loop-i-preserved c =
    let ds = c.args.text.now in
    let i = c.loop-i.i in
    let digit = sym c.if-not-is_ascii_digit.ensures.value in
    let range = digit_range (get_or ds i 0) digit in
    record {
      before = no_digit_before ds i c.loop-i.invariant.before digit;
      digits = all_digits_more ds i c.loop-i-test.true digit c.loop-i.invariant.digits;
      value = c.min-value.ensures
          ∙ (ap (λ x. min (c.loop-i.value * 10 + x) 1000000) c.from.ensures ∙ value_more ds i c.loop-i.value 1000000 c.loop-i-test.true range.0 range.1 c.loop-i.invariant.value);
    }

pub returns-then-not-is_ascii_digit-clause-place : goal.returns-then-not-is_ascii_digit-clause-place
returns-then-not-is_ascii_digit-clause-place c =
    sym (position_or_len_is is_no_digit c.args.text.now c.loop-i.i 0 (omega arith) c.loop-i.invariant.before (λ _. ap not (sym c.if-not-is_ascii_digit.ensures.value)))

pub returns-clause-place : goal.returns-clause-place
returns-clause-place c =
    sym (position_or_len_is is_no_digit c.args.text.now _ 0 (omega arith) (λ k h. c.loop-i.invariant.before k (omega arith)) (λ h. absurd (omega arith)))
