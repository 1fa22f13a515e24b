-- Texts of digits, and what a parse makes of them.
use Rattle.std.proofs.Common.{◌≡◌, ◌<◌, ◌≤◌, ◌^◌, ◌↔◌, IsTrue, ℕ, Bool, true, List, length, get_or, Result, Ok, Err, ap, ◌∙◌}
use Rattle.std.specs.List.{list_all}
use Rattle.std.specs.Char.{is_ascii_digit}
use Rattle.std.specs.Int.{IsInRange}
use Rattle.std.specs.Option.{SomeIff}
use Rattle.std.specs.Result.{OkIff, result_ok}
use Rattle.std.specs.Str.Parse.{digits_value, ParsesUnsigned}
use Rattle.std.proofs.lemmas.Bool.{le-leb, leb-true}
use Rattle.std.specs.Cmp.{both_ways}
use Rattle.std.proofs.lemmas.List.{get_or_default}
use Rattle.clap.proofs.WalkLemmas.{both}
use Rattle.std.proofs.lemmas.List.Sums.{AllPass-from_list_all, list_all-from_AllPass}
use Rattle.std.proofs.lemmas.Str.Parse.{IsNumeralModel, numerals_by_value, tells_by_index, parse_digits}
use Rattle.pq_command.specs.Asked.{is_number}

-- a test of each element is `list_all`
pub same_test : (p : ℕ → Bool) (r : Bool) (xs : List ℕ) → (IsTrue r ↔ ((k : ℕ) → k < length xs → p (get_or xs k 0) ≡ true)) → r ≡ list_all p xs
same_test p r xs h = both_ways r (list_all p xs)
    (λ passes. list_all-from_AllPass p xs (λ k d lt. ap p (get_or_default xs k d 0 lt) ∙ h.0 passes k lt))
    (λ all. h.1 (λ k lt. AllPass-from_list_all p xs all k 0 lt))

-- the answer at a text of a fitting length
pub number_test : (r : Bool) (text : List ℕ) → (IsTrue r ↔ ((k : ℕ) → k < length text → is_ascii_digit (get_or text k 0) ≡ true)) → 1 ≤ length text → length text ≤ 20 → r ≡ is_number text
number_test r text h some short =
    rw (le-leb 1 (length text) some, le-leb (length text) 20 short) (same_test is_ascii_digit r text h)

own : IsNumeralModel (λ ds. (i : ℕ) → i < length ds → IsInRange 48 57 (get_or ds i 0)) (digits_value 10)
own = numerals_by_value _ tells_by_index

-- with no error left out
some_if : {E : Type 0} (r : Result ℕ E) (A P : Type 0) (v : ℕ) → OkIff r (A × P) v → A → SomeIff (result_ok r) P v
some_if (Ok x) A P v h a = (h.0.1, h.1)
some_if (Err e) A P v h a = λ p. h (a, p)

pub digits_of : (text : List ℕ) → is_number text ≡ true → (0 < length text) × ((i : ℕ) → i < length text → IsInRange 48 57 (get_or text i 0))
digits_of text h =
    let parts = both _ _ h in
    let more = both _ _ parts.1 in (
      leb-true 1 _ parts.0,
      λ i lt.
          let digit = both _ _ (AllPass-from_list_all is_ascii_digit text more.1 i 0 lt) in
          (leb-true 48 _ digit.0, leb-true _ 57 digit.1),
    )

-- a number parses where its value fits
pub value_parsed : {E : Type 0} (text : List ℕ) (r : Result ℕ E) → ParsesUnsigned 64 10 text r → is_number text ≡ true → SomeIff (result_ok r) (digits_value 10 text < 2 ^ 64) (digits_value 10 text)
value_parsed text r parsed h =
    let d = digits_of text h in
    some_if r _ _ _ (parse_digits own 64 text r parsed d.1) d.0
