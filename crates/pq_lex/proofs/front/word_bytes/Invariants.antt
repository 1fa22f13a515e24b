use Rattle.std.proofs.Common.{◌≡◌, ℕ, ◌<◌, false, get_or}
use Rattle.pq_lex.specs.Front.{is_outside_word}
use Rattle.pq_lex.proofs.front.word_bytes.Given as goal

abbrev pub invariant-loop-i : goal.invariant-loop-i
invariant-loop-i l = (k : ℕ) → k < l.i → is_outside_word (get_or l.text k 0) ≡ false
