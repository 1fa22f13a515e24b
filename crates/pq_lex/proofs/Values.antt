-- The value of digits, as far as it grows.
use Rattle.std.proofs.Common.{◌≡◌, ℕ, ◌+◌, ◌-◌, ◌*◌, ◌<◌, ◌≤◌, true, false, not, List, length, take, get_or, min, ◌&&◌, ap, ◌∙◌, subst, inl, inr, arith}
use Rattle.std.proofs.lemmas.Bool.{cases_lt}
use Rattle.pq_lex.specs.Front.{is_no_digit}
use Rattle.std.proofs.lemmas.Bool.Decides.{nat_tests}
use Rattle.std.proofs.lemmas.List.Folds.{list_all_more}
use Rattle.std.proofs.lemmas.Int.Digits.{digits_value_more}
use Rattle.std.specs.List.{list_all}
use Rattle.std.specs.Char.{is_ascii_digit, digit_value}
use Rattle.std.specs.Str.Parse.{digits_value}

digit_low : (c : ℕ) → is_ascii_digit c ≡ true → 48 ≤ c
digit_low c h = grind (arith, nat_tests)

digit_high : (c : ℕ) → is_ascii_digit c ≡ true → c ≤ 57
digit_high c h = grind (arith, nat_tests)

-- the bytes of digits
pub digit_range : (c : ℕ) → is_ascii_digit c ≡ true → (48 ≤ c) × (c ≤ 57)
digit_range c h = (digit_low c h, digit_high c h)

digit_value_is : (c : ℕ) → 48 ≤ c → c ≤ 57 → digit_value c ≡ c - 48
digit_value_is c low high = grind (arith, nat_tests)

-- a value that stops growing at a bound grows by one digit
pub value_more : (ds : List ℕ) (i value bound : ℕ) → i < length ds → 48 ≤ get_or ds i 0 → get_or ds i 0 ≤ 57
    → value ≡ min (digits_value 10 (take i ds)) bound → min (value * 10 + (get_or ds i 0 - 48)) bound ≡ min (digits_value 10 (take (i + 1) ds)) bound
value_more ds i value bound h low high so_far =
    let e : digits_value 10 (take (i + 1) ds) ≡ digits_value 10 (take i ds) * 10 + digit_value (get_or ds i 0) = digits_value_more 10 ds i h in
    let d : digit_value (get_or ds i 0) ≡ get_or ds i 0 - 48 = digit_value_is (get_or ds i 0) low high in
    omega arith

pub all_digits_more : (ds : List ℕ) (i : ℕ) → i < length ds → is_ascii_digit (get_or ds i 0) ≡ true → list_all is_ascii_digit (take i ds) ≡ true
    → list_all is_ascii_digit (take (i + 1) ds) ≡ true
all_digits_more ds i h here so_far = list_all_more is_ascii_digit ds i 0 h ∙ (λ j. so_far j && here j)

-- one digit more, and none before it ends the digits
pub no_digit_before : (ds : List ℕ) (i : ℕ) → ((k : ℕ) → k < i → is_no_digit (get_or ds k 0) ≡ false) → is_ascii_digit (get_or ds i 0) ≡ true
    → (k : ℕ) → k < i + 1 → is_no_digit (get_or ds k 0) ≡ false
no_digit_before ds i before here k h =
    elim (cases_lt k i) [
      | inl lt ↦ before k lt
      | inr le ↦ let same : i ≡ k = omega arith in subst (λ j. is_no_digit (get_or ds j 0) ≡ false) same (ap not here)
    ]
