-- The parts of tokens: what the scanner counts has its form, and is the most that has it.
use Rattle.std.proofs.Common.{◌≡◌, ℕ, ◌+◌, ◌≤◌, Bool, true, false, not, ◌&&◌, ◌||◌, eqb, cond, List, [], ◌∷◌, ◌++◌, length, drop, refl, sym, ap, ◌∙◌, subst, arith, inl, inr, length-append}
use Rattle.std.specs.List.{position_or_len, list_all}
use Rattle.std.specs.Char.{is_ascii_digit}
use Rattle.std.proofs.lemmas.Bool.Decides.{nat_tests}
use Rattle.std.proofs.lemmas.List.{append_assoc}
use Rattle.std.proofs.Math.Seq.{drop-append_seam}
use borrow.Author.Tests.{eqb-true, eqb-false}
use Rattle.pq_lex.specs.Front.{is_no_digit, some_digits, exponent_digits, exponent_length, fraction_length}
use Rattle.pq_lex.specs.Grammar.{AreDigits, IsFraction, IsSigned, IsExponent}
use Rattle.pq_lex.proofs.Plain.{by_test, and_both}
use Rattle.pq_lex.proofs.Direct.{digit_is}

-- so many bytes at the start, and what they are
pub record Takes (P : List ℕ → Type 0) (count : ℕ) (text : List ℕ) : Type 0 where
  pub bytes : List ℕ
  pub later : List ℕ
  pub is : text ≡ bytes ++ later
  pub counted : count ≡ length bytes
  pub formed : P bytes

pub later_is : {P : List ℕ → Type 0} {count : ℕ} {text : List ℕ} → (t : Takes P count text) → drop count text ≡ t.later
later_is t = (λ i. drop (t.counted i) (t.is i)) ∙ drop-append_seam t.bytes t.later

-- nothing is taken
pub nothing : (P : List ℕ → Type 0) (text : List ℕ) → P [] → Takes P 0 text
nothing P text h = record { bytes = []; later = text; is = refl; counted = refl; formed = h }

-- the bytes at the start that pass are as many as there are before the first that doesn't
pub passing : (p q : ℕ → Bool) → ((b : ℕ) → p b ≡ false → q b ≡ true) → (text : List ℕ) → Takes (λ bytes. list_all q bytes ≡ true) (position_or_len p text) text
passing p q turn [] = nothing (λ bytes. list_all q bytes ≡ true) [] refl
passing p q turn (b ∷ rest) =
    let t : Takes (λ bytes. list_all q bytes ≡ true) (position_or_len p rest) rest = passing p q turn rest in
    elim (p b) as (λ s. p b ≡ s → Takes (λ bytes. list_all q bytes ≡ true) (cond (not s) (1 + position_or_len p rest) 0) (b ∷ rest)) [
      | true ↦ λ is. nothing (λ bytes. list_all q bytes ≡ true) (b ∷ rest) refl
      | false ↦ λ is. record {
        bytes = b ∷ t.bytes;
        later = t.later;
        is = ap (λ l. b ∷ l) t.is;
        counted = let e : position_or_len p rest ≡ length t.bytes = t.counted in omega arith;
        formed = (λ i. turn b is i && t.formed i);
      }
    ] refl

-- and no fewer
pub passed : (p q : ℕ → Bool) → ((b : ℕ) → q b ≡ true → p b ≡ false) → (bytes more : List ℕ) → list_all q bytes ≡ true → position_or_len p (bytes ++ more) ≡ length bytes + position_or_len p more
passed p q turn [] more all = omega arith
passed p q turn (b ∷ bytes) more all =
    let both = and_both (q b) (list_all q bytes) all in
    let later : position_or_len p (bytes ++ more) ≡ length bytes + position_or_len p more = passed p q turn bytes more both.1 in
    ap (λ s. cond (not s) (1 + position_or_len p (bytes ++ more)) 0) (turn b both.0) ∙ (omega arith)

pub stopped : (p : ℕ → Bool) (b : ℕ) (rest : List ℕ) → p b ≡ true → position_or_len p (b ∷ rest) ≡ 0
stopped p b rest is = ap (λ s. cond (not s) (1 + position_or_len p rest) 0) is

pub no_other : (b : ℕ) → is_ascii_digit b ≡ true → is_no_digit b ≡ false
no_other b h = grind (arith, nat_tests)

pub digits_taken : (text : List ℕ) → Takes AreDigits (position_or_len is_no_digit text) text
digits_taken text = passing is_no_digit is_ascii_digit digit_is text

pub digits_passed : (bytes more : List ℕ) → AreDigits bytes → position_or_len is_no_digit (bytes ++ more) ≡ length bytes + position_or_len is_no_digit more
digits_passed bytes more all = passed is_no_digit is_ascii_digit no_other bytes more all

-- a fraction
pub fraction_taken : (text : List ℕ) → Takes IsFraction (fraction_length text) text
fraction_taken [] = nothing IsFraction [] tt
fraction_taken (b ∷ rest) =
    by_test (λ n. Takes IsFraction n (b ∷ rest)) (eqb b 46) (1 + position_or_len is_no_digit rest) 0
    (λ is. let t : Takes AreDigits (position_or_len is_no_digit rest) rest = digits_taken rest in
    record { bytes = b ∷ t.bytes; later = t.later; is = ap (λ l. b ∷ l) t.is; counted = (let e : position_or_len is_no_digit rest ≡ length t.bytes = t.counted in omega arith); formed = (eqb-true b 46 is, t.formed) })
    (λ _. nothing IsFraction (b ∷ rest) tt)

-- an exponent
signed_taken : (k : ℕ) (before rest : List ℕ) (P : List ℕ → Type 0) → length before ≡ k → P [] → ((digits : List ℕ) → AreDigits digits → 1 ≤ length digits → P (before ++ digits)) → Takes P (some_digits k rest) (before ++ rest)
signed_taken k before rest P len none some =
    let t : Takes AreDigits (position_or_len is_no_digit rest) rest = digits_taken rest in
    by_test (λ n. Takes P n (before ++ rest)) (eqb (position_or_len is_no_digit rest) 0) 0 (k + position_or_len is_no_digit rest)
    (λ _. nothing P (before ++ rest) none)
    (λ other. record {
      bytes = before ++ t.bytes;
      later = t.later;
      is = ap (λ l. before ++ l) t.is ∙ sym (append_assoc before t.bytes t.later);
      counted = ap (λ n. n + position_or_len is_no_digit rest) (sym len) ∙ (ap (λ n. length before + n) t.counted ∙ sym (length-append before t.bytes));
      formed = some t.bytes t.formed (let ne : position_or_len is_no_digit rest ≡ 0 → ⊥ = eqb-false _ _ other in let e : position_or_len is_no_digit rest ≡ length t.bytes = t.counted in omega arith);
    })

pub exponent_taken : (text : List ℕ) → Takes IsExponent (exponent_length text) text
exponent_taken [] = nothing IsExponent [] tt
exponent_taken (b ∷ []) = by_test (λ n. Takes IsExponent n (b ∷ [])) (eqb b 101 || eqb b 69) 0 0 (λ _. nothing IsExponent (b ∷ []) tt) (λ _. nothing IsExponent (b ∷ []) tt)
exponent_taken (b ∷ c ∷ rest) =
    by_test (λ n. Takes IsExponent n (b ∷ c ∷ rest)) (eqb b 101 || eqb b 69) (exponent_digits (c ∷ rest)) 0
    (λ is. by_test (λ n. Takes IsExponent n (b ∷ c ∷ rest)) (eqb c 43 || eqb c 45) (some_digits 2 rest) (some_digits 1 (c ∷ rest))
    (λ sign. signed_taken 2 (b ∷ c ∷ []) rest IsExponent refl tt (λ digits all some. (is, inr (sign, all, some))))
    (λ _. signed_taken 1 (b ∷ []) (c ∷ rest) IsExponent refl tt (λ digits all some. (is, unsigned digits all some))))
    (λ _. nothing IsExponent (b ∷ c ∷ rest) tt)
  where
    unsigned : (digits : List ℕ) → AreDigits digits → 1 ≤ length digits → IsSigned digits
    unsigned [] all some = absurd (omega arith)
    unsigned (d ∷ ds) all some = inl all

-- an exponent at the start counts whole
signed_least : (n k : ℕ) (digits more : List ℕ) → AreDigits digits → 1 ≤ length digits → n ≡ k + length digits → n ≤ some_digits k (digits ++ more)
signed_least n k digits more all some is =
    let e : position_or_len is_no_digit (digits ++ more) ≡ length digits + position_or_len is_no_digit more = digits_passed digits more all in
    by_test (λ m. n ≤ m) (eqb (position_or_len is_no_digit (digits ++ more)) 0) 0 (k + position_or_len is_no_digit (digits ++ more))
    (λ zero. let z : position_or_len is_no_digit (digits ++ more) ≡ 0 = eqb-true _ _ zero in absurd (omega arith))
    (λ _. omega arith)

digit_no_sign : (b : ℕ) → is_ascii_digit b ≡ true → (eqb b 43 || eqb b 45) ≡ false
digit_no_sign b h = grind (arith, nat_tests)

exponent_digits_least : (rest more : List ℕ) → IsSigned rest → 1 + length rest ≤ exponent_digits (rest ++ more)
exponent_digits_least [] more h = absurd h
exponent_digits_least (b ∷ rest) more (inl all) =
    subst (λ t. 1 + length (b ∷ rest) ≤ cond t (some_digits 2 (rest ++ more)) (some_digits 1 (b ∷ (rest ++ more)))) (sym (digit_no_sign b (and_both _ _ all).0))
    (signed_least (1 + length (b ∷ rest)) 1 (b ∷ rest) more all (omega arith) refl)
exponent_digits_least (b ∷ rest) more (inr signed) =
    subst (λ t. 1 + length (b ∷ rest) ≤ cond t (some_digits 2 (rest ++ more)) (some_digits 1 (b ∷ (rest ++ more)))) (sym signed.0)
    (signed_least (1 + length (b ∷ rest)) 2 rest more signed.1 signed.2 (omega arith))

pub exponent_least : (bytes more : List ℕ) → IsExponent bytes → length bytes ≤ exponent_length (bytes ++ more)
exponent_least [] more h = omega arith
exponent_least (b ∷ rest) more h =
    let least : 1 + length rest ≤ exponent_digits (rest ++ more) = exponent_digits_least rest more h.1 in
    subst (λ t. length (b ∷ rest) ≤ cond t (exponent_digits (rest ++ more)) 0) (sym h.0) (omega arith)
