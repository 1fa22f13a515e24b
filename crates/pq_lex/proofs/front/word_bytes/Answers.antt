use Rattle.std.proofs.Common.{sym, arith}
use Rattle.std.proofs.lemmas.List.Sums.{position_or_len_is}
use Rattle.pq_lex.specs.Front.{is_outside_word}
use Rattle.pq_lex.proofs.front.word_bytes.Goals as goal

pub returns-then-ends_word-clause-place : goal.returns-then-ends_word-clause-place
returns-then-ends_word-clause-place c =
    sym (position_or_len_is is_outside_word c.args.text.now c.loop-i.i 0 (omega arith) c.loop-i.invariant (λ _. sym (c.if-ends_word.ensures)))

pub returns-clause-place : goal.returns-clause-place
returns-clause-place c =
    sym (position_or_len_is is_outside_word c.args.text.now _ 0 (omega arith) (λ k h. c.loop-i.invariant k (omega arith)) (λ h. absurd (omega arith)))
