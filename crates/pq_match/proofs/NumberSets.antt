-- Sets of numbers in words of 64 bits.
use Rattle.std.proofs.Common.{◌≡◌, ◌≢◌, ℕ, ◌+◌, ◌*◌, ◌/◌, ◌%◌, ◌^◌, ◌<◌, ◌≤◌, ◌⊎◌, List, length, get_or, set, bit_or, bit_and, inl, inr, sym, ap, ◌∙◌, arith}
use Rattle.std.specs.Prelude.{◌↔◌}
use Rattle.std.specs.Int.{bit_at, bit_not, trailing_zeros, w64}
use Rattle.std.proofs.lemmas.Bool.{cases_eq, cases_lt}
use Rattle.std.proofs.lemmas.Nat.{mod_below}
use Rattle.std.proofs.lemmas.Nat.Bits.{bit_at_set_same, bit_at_set_other, bit_at_clear_same, bit_at_clear_other, bit_at-zero, bit_at-trailing_zeros}
use Rattle.std.proofs.lemmas.List.{get_or-set_same, get_or-set_other}
use Rattle.pq_match.specs.Waiting.{HasNumber}

-- the word of a number changed
module _ (words : List ℕ) (number value : ℕ) (inside : number / 64 < length words) where
  at_it : bit_at (get_or (set words (number / 64) value) (number / 64) 0) (number % 64) ≡ bit_at value (number % 64)
  at_it = ap (λ (x : ℕ). bit_at x (number % 64)) (get_or-set_same words (number / 64) value 0 inside)

  same_elsewhere : ((bit : ℕ) → bit < 64 → bit ≢ number % 64 → bit_at value bit ≡ bit_at (get_or words (number / 64) 0) bit) → (other : ℕ) → other ≢ number →
      bit_at (get_or (set words (number / 64) value) (other / 64) 0) (other % 64) ≡ bit_at (get_or words (other / 64) 0) (other % 64)
  same_elsewhere others other differs = by (cases_eq (other / 64) (number / 64))
    where
      by : (other / 64 ≡ number / 64) ⊎ (other / 64 ≡ number / 64 → ⊥) →
          bit_at (get_or (set words (number / 64) value) (other / 64) 0) (other % 64) ≡ bit_at (get_or words (other / 64) 0) (other % 64)
      by (inl same) =
          let apart : other % 64 ≢ number % 64 = λ alike. differs (omega arith) in
          ap (λ (k : ℕ). bit_at (get_or (set words (number / 64) value) k 0) (other % 64)) same
          ∙ (ap (λ (x : ℕ). bit_at x (other % 64)) (get_or-set_same words (number / 64) value 0 inside)
          ∙ (others (other % 64) (mod_below other 64 (omega arith)) apart ∙ ap (λ (k : ℕ). bit_at (get_or words k 0) (other % 64)) (sym same)))
      by (inr apart) = ap (λ (x : ℕ). bit_at x (other % 64)) (get_or-set_other words (number / 64) (other / 64) value 0 apart)

  has_same : ((bit : ℕ) → bit < 64 → bit ≢ number % 64 → bit_at value bit ≡ bit_at (get_or words (number / 64) 0) bit) → (other : ℕ) → other ≢ number →
      HasNumber (set words (number / 64) value) other ↔ HasNumber words other
  has_same others other differs =
      (λ it. record { has = sym (same_elsewhere others other differs) ∙ it.has }, λ it. record { has = same_elsewhere others other differs ∙ it.has })

pub inserted_has : (words : List ℕ) (number : ℕ) → number / 64 < length words →
    HasNumber (set words (number / 64) (bit_or (get_or words (number / 64) 0) (1 * 2 ^ (number % 64) % 18446744073709551616))) number
inserted_has words number inside = record {
  has = at_it words number _ inside ∙ bit_at_set_same w64 (get_or words (number / 64) 0) (number % 64) (mod_below number 64 (omega arith));
}

pub inserted_others : (words : List ℕ) (number : ℕ) → number / 64 < length words → (other : ℕ) → other ≢ number →
    HasNumber (set words (number / 64) (bit_or (get_or words (number / 64) 0) (1 * 2 ^ (number % 64) % 18446744073709551616))) other ↔ HasNumber words other
inserted_others words number inside =
    has_same words number _ inside (λ bit below apart. bit_at_set_other w64 (get_or words (number / 64) 0) (number % 64) (mod_below number 64 (omega arith)) bit apart)

pub removed_not : (words : List ℕ) (number : ℕ) → number / 64 < length words →
    HasNumber (set words (number / 64) (bit_and (get_or words (number / 64) 0) (bit_not w64 (1 * 2 ^ (number % 64) % 18446744073709551616)))) number → ⊥
removed_not words number inside it =
    let none = at_it words number _ inside ∙ bit_at_clear_same w64 (get_or words (number / 64) 0) (number % 64) (mod_below number 64 (omega arith)) in
    let clash : 0 ≡ 1 = sym none ∙ it.has in
    absurd (omega (arith, clash))

pub removed_others : (words : List ℕ) (number : ℕ) → number / 64 < length words → (other : ℕ) → other ≢ number →
    HasNumber (set words (number / 64) (bit_and (get_or words (number / 64) 0) (bit_not w64 (1 * 2 ^ (number % 64) % 18446744073709551616)))) other ↔ HasNumber words other
removed_others words number inside =
    has_same words number _ inside (λ bit below apart. bit_at_clear_other w64 (get_or words (number / 64) 0) (number % 64) (mod_below number 64 (omega arith)) bit below apart)

-- no number of the set lies in words of 0
pub none_at_zero : {words : List ℕ} {number : ℕ} → get_or words (number / 64) 0 ≡ 0 → HasNumber words number → ⊥
none_at_zero {words} {number} none it =
    let clash : 0 ≡ 1 = sym (ap (λ (x : ℕ). bit_at x (number % 64)) none ∙ bit_at-zero (number % 64)) ∙ it.has in absurd (omega (arith, clash))

-- no number of the set lies in these words
pub record NoneIn (words : List ℕ) (from end : ℕ) : Type 0 where
  pub none : (number : ℕ) → 64 * from ≤ number → number < 64 * end → HasNumber words number → ⊥

pub none_yet : (words : List ℕ) (from : ℕ) → NoneIn words from from
none_yet words from = record { none = λ number above below it. omega arith }

pub none_more : {words : List ℕ} {from end : ℕ} → NoneIn words from end → get_or words end 0 ≡ 0 → NoneIn words from (end + 1)
none_more {words} {from} {end} before zeroes = record { none = λ number above below it. by number above below it (cases_lt number (64 * end)) }
  where
    by : (number : ℕ) → 64 * from ≤ number → number < 64 * (end + 1) → HasNumber words number → (number < 64 * end) ⊎ (64 * end ≤ number) → ⊥
    by number above below it (inl less) = before.none number above less it
    by number above below it (inr here) =
        let at : number / 64 ≡ end = omega arith in
        none_at_zero (ap (λ (k : ℕ). get_or words k 0) at ∙ zeroes) it

-- the lowest number of a word
pub record IsLowestIn (words : List ℕ) (word number : ℕ) : Type 0 where
  pub has : HasNumber words number
  pub before : (other : ℕ) → 64 * word ≤ other → other < number → HasNumber words other → ⊥

pub lowest_is : {words : List ℕ} {word bit : ℕ} → bit < 64 → bit_at (get_or words word 0) bit ≡ 1 → ((other : ℕ) → other < bit → bit_at (get_or words word 0) other ≡ 0) →
    IsLowestIn words word (word * 64 + bit)
lowest_is {words} {word} {bit} below set_there zero_before = record {
  has = record {
    has = (let at : (word * 64 + bit) / 64 ≡ word = omega arith in let same : (word * 64 + bit) % 64 ≡ bit = omega arith in
        ap (λ (k : ℕ). bit_at (get_or words k 0) ((word * 64 + bit) % 64)) at ∙ (ap (bit_at (get_or words word 0)) same ∙ set_there));
  };
  before = λ other above less it.
      (let at : other / 64 ≡ word = omega arith in
      let lower : other % 64 < bit = omega arith in
      let clash : 0 ≡ 1 = sym (ap (λ (k : ℕ). bit_at (get_or words k 0) (other % 64)) at ∙ zero_before (other % 64) lower) ∙ it.has in
      omega arith);
}

-- the place of the lowest bit
pub lowest_bit_is : (word : ℕ) → 0 < word → word < 18446744073709551616 →
    (trailing_zeros w64 word < 64) × (bit_at word (trailing_zeros w64 word) ≡ 1) × ((i : ℕ) → i < trailing_zeros w64 word → bit_at word i ≡ 0)
lowest_bit_is word some fits = bit_at-trailing_zeros w64 word some fits

-- so it is the lowest from an earlier word on, where those between have none
pub least_of : {words : List ℕ} {from word number : ℕ} → NoneIn words from word → IsLowestIn words word number → (other : ℕ) → 64 * from ≤ other → other < number → HasNumber words other → ⊥
least_of {words} {from} {word} none lowest other above less it = by (cases_lt other (64 * word))
  where
    by : (other < 64 * word) ⊎ (64 * word ≤ other) → ⊥
    by (inl before) = none.none other above before it
    by (inr here) = lowest.before other here less it
