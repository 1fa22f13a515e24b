use Rattle.std.proofs.Common.{◌≡◌, ℕ, ◌<◌, true, false, take, get_or, min}
use Rattle.std.specs.List.{list_all}
use Rattle.std.specs.Char.{is_ascii_digit}
use Rattle.std.specs.Str.Parse.{digits_value}
use Rattle.pq_lex.specs.Front.{is_no_digit}
use Rattle.pq_lex.proofs.front.valued_digits.Given as goal

abbrev pub invariant-loop-i : goal.invariant-loop-i
invariant-loop-i l = record {
  before : (k : ℕ) → k < l.i → is_no_digit (get_or l.text k 0) ≡ false;
  digits : list_all is_ascii_digit (take l.i l.text) ≡ true;
  value : l.value ≡ min (digits_value 10 (take l.i l.text)) 1000000;
}
