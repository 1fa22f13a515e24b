-- Names.
use Rattle.std.proofs.Common.{◌≡◌, ℕ, ◌<◌, ◌≤◌, true, List, get_or, length, inl, inr, arith}
use Rattle.std.specs.Char.{is_ascii_digit}
use Rattle.std.proofs.lemmas.Bool.{cases_lt}
use Rattle.std.proofs.lemmas.List.{get_or_past}
use Rattle.std.proofs.lemmas.Bool.Decides.{nat_tests}
use Rattle.std.specs.Str.{IsUtf8}
use Rattle.std.proofs.lemmas.Str.{IsUtf8-from_ascii}
use Rattle.pq_text.specs.Name.{is_name, IsNameByte}
pub use Rattle.pq_text.proofs.Names.{and_both, name_is_lawful, lawful_is_name}

digit_low : (c : ℕ) → is_ascii_digit c ≡ true → 48 ≤ c
digit_low c h = grind (arith, nat_tests)

digit_high : (c : ℕ) → is_ascii_digit c ≡ true → c ≤ 57
digit_high c h = grind (arith, nat_tests)

pub digit_range : (c : ℕ) → is_ascii_digit c ≡ true → (48 ≤ c) × (c ≤ 57)
digit_range c h = (digit_low c h, digit_high c h)

name_byte_small : (c : ℕ) → IsNameByte c → c < 128
name_byte_small c h = grind (arith, nat_tests)

pub name_is_ascii : (w : List ℕ) → is_name w ≡ true → IsUtf8 w
name_is_ascii w h =
    IsUtf8-from_ascii w (λ i. elim (cases_lt i (length w)) [
      | inl lt ↦ name_byte_small (get_or w i 0) ((name_is_lawful w h).bytes i 0 lt)
      | inr le ↦ let past : get_or w i 0 ≡ 0 = get_or_past w i 0 le in omega arith
    ])
