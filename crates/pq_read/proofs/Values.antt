-- The value of digits, as far as it grows.
use Rattle.std.proofs.Common.{◌≡◌, ℕ, ◌+◌, ◌-◌, ◌*◌, ◌<◌, ◌≤◌, true, List, length, take, get_or, min, ◌&&◌, ◌∙◌, arith}
use Rattle.std.proofs.lemmas.Bool.Decides.{nat_tests}
use Rattle.std.proofs.lemmas.List.Folds.{list_all_more}
use Rattle.std.proofs.lemmas.Int.Digits.{digits_value_more}
use Rattle.std.specs.List.{list_all}
use Rattle.std.specs.Char.{is_ascii_digit, digit_value}
use Rattle.std.specs.Str.Parse.{digits_value}

digit_value_is : (c : ℕ) → 48 ≤ c → c ≤ 57 → digit_value c ≡ c - 48
digit_value_is c low high = grind (arith, nat_tests)

-- a value that stops growing at a bound grows by one digit
pub value_more : (ds : List ℕ) (i value bound : ℕ) → i < length ds → 48 ≤ get_or ds i 0 → get_or ds i 0 ≤ 57
    → value ≡ min (digits_value 10 (take i ds)) bound → min (value * 10 + (get_or ds i 0 - 48)) bound ≡ min (digits_value 10 (take (i + 1) ds)) bound
value_more ds i value bound h low high so_far =
    let e : digits_value 10 (take (i + 1) ds) ≡ digits_value 10 (take i ds) * 10 + digit_value (get_or ds i 0) = digits_value_more 10 ds i h in
    let d : digit_value (get_or ds i 0) ≡ get_or ds i 0 - 48 = digit_value_is (get_or ds i 0) low high in
    omega arith

pub all_digits_more : (ds : List ℕ) (i : ℕ) → i < length ds → is_ascii_digit (get_or ds i 0) ≡ true → list_all is_ascii_digit (take i ds) ≡ true
    → list_all is_ascii_digit (take (i + 1) ds) ≡ true
all_digits_more ds i h here so_far = list_all_more is_ascii_digit ds i 0 h ∙ (λ j. so_far j && here j)
