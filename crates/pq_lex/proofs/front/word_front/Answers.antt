use Rattle.std.proofs.Common.{sym, ap, ◌∙◌, arith}
use Rattle.std.specs.List.{position_or_len}
use Rattle.std.proofs.lemmas.List.{take_rest}
use Rattle.pq_lex.specs.Front.{is_outside_word}
use Rattle.pq_lex.proofs.Direct.{word_there}
use Rattle.pq_lex.proofs.Others.{no_word}
use Rattle.pq_lex.proofs.front.word_front.Goals as goal

pub returns-in-len1-up-clause-front : goal.returns-in-len1-up-clause-front
returns-in-len1-up-clause-front c = λ some.
    word_there c.args.text.now c.word_bytes.result c.in-len1-up.len_at_least (sym c.is_ascii_alphabetic.ensures.value ∙ c.if-is_ascii_alphabetic.true)
    (c.word_bytes.ensures.place ∙ ap (position_or_len is_outside_word) (take_rest c.args.text.now 1))

pub returns-in_default-clause-none : goal.returns-in_default-clause-none
returns-in_default-clause-none c = λ _. no_word c.args.text.now (λ some. absurd (let less = c.in_default.len_below in omega arith))

pub returns-in_default-2-clause-none : goal.returns-in_default-2-clause-none
returns-in_default-2-clause-none c = λ _. no_word c.args.text.now (λ _. sym c.is_ascii_alphabetic.ensures.value ∙ c.if-is_ascii_alphabetic.false)
