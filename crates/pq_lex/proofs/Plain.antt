-- The bytes that a token or a blank takes hold no newline, but for a newline alone.
use Rattle.std.proofs.Common.{◌≡◌, ℕ, zero, suc, ◌+◌, ◌-◌, ◌<◌, Bool, true, false, ◌&&◌, ◌||◌, eqb, cond, List, [], ◌∷◌, drop, get_or, refl, sym, ap, ◌∙◌, subst, arith, ◌⊎◌, inl, inr}
use Rattle.std.specs.List.{position_or_len}
use Rattle.std.specs.Char.{is_ascii_digit, is_ascii_alphabetic}
use Rattle.std.proofs.lemmas.List.Sums.{fails_before_first}
use Rattle.std.proofs.lemmas.List.{get_or-drop}
use Rattle.std.proofs.lemmas.Bool.{false≢true, cases_lt, eqb-false}
use Rattle.std.proofs.Math.Numerals.{one-add}
use Rattle.std.proofs.Math.Dec.{eqb-suc-zero}
use borrow.Author.Tests.{eqb-true}
use Rattle.pq_lex.specs.declared.token.Form.TheVariants.{Word, Number, Quoted, Semicolon, Comma, LeftParenthesis, RightParenthesis, LeftBracket, RightBracket, LeftBrace, RightBrace, Plus, Minus, Star, Slash, Caret, Arrow, DoubleEqual, Malformed}
use Rattle.pq_lex.specs.Token.{is_last}
use Rattle.pq_lex.specs.Front.{is_outside_word, is_no_digit, is_newline, is_unquotable, is_separator, comment_length, blank_length, Front, fronted, some_digits, exponent_digits, exponent_length, fraction_length, decimal_length, number_front, is_quote, quoted_front, begins_with, mark_front, front}

-- the first n bytes hold no newline
abbrev pub Plain : ℕ → List ℕ → Type 0
Plain n text = (k : ℕ) → k < n → get_or text k 0 ≡ 10 → ⊥

plain-none : (text : List ℕ) → Plain 0 text
plain-none text k h = absurd (omega arith)

plain-before : (p : ℕ → Bool) (text : List ℕ) → p 10 ≡ true → Plain (position_or_len p text) text
plain-before p text newline k h is = false≢true (sym (fails_before_first p text k 0 h) ∙ ap p is ∙ newline)

plain-cons : (b n : ℕ) (text : List ℕ) → (b ≡ 10 → ⊥) → Plain n text → Plain (1 + n) (b ∷ text)
plain-cons b n text other rest zero h = other
plain-cons b n text other rest (suc k) h = rest k (omega arith)

plain-join : (n m : ℕ) (text : List ℕ) → Plain n text → Plain m (drop n text) → Plain (n + m) text
plain-join n m text a b k h =
    elim (cases_lt k n) [
      | inl lt ↦ a k lt
      | inr le ↦ λ is. let e : n + (k - n) ≡ k = omega arith in b (k - n) (omega arith) (get_or-drop n text (k - n) 0 ∙ (ap (λ i. get_or text i 0) e ∙ is))
    ]

-- a choice has what both sides have
abbrev pub by_test : {A : Type 0} (P : A → Type 0) (b : Bool) (x y : A) → (b ≡ true → P x) → (b ≡ false → P y) → P (cond b x y)
by_test P true x y pass fail = pass refl
by_test P false x y pass fail = fail refl

pub or_cases : (a b : Bool) → (a || b) ≡ true → (a ≡ true) ⊎ (b ≡ true)
or_cases true b h = inl refl
or_cases false b h = inr h

pub and_both : (a b : Bool) → (a && b) ≡ true → (a ≡ true) × (b ≡ true)
and_both true b h = (refl, h)
and_both false b h = absurd (false≢true h)

is_other : (b c : ℕ) → eqb b c ≡ true → (eqb c 10 ≡ false) → b ≡ 10 → ⊥
is_other b c is differs newline = eqb-false c 10 differs (sym (eqb-true b c is) ∙ newline)

plain-fraction : (text : List ℕ) → Plain (fraction_length text) text
plain-fraction [] = plain-none []
plain-fraction (b ∷ rest) =
    by_test (λ n. Plain n (b ∷ rest)) (eqb b 46) (1 + position_or_len is_no_digit rest) 0
    (λ is. plain-cons b _ rest (is_other b 46 is refl) (plain-before is_no_digit rest refl))
    (λ _. plain-none (b ∷ rest))

plain-decimal : (text : List ℕ) → Plain (decimal_length text) text
plain-decimal text =
    let whole = position_or_len is_no_digit text in
    let all = whole + fraction_length (drop whole text) in
    by_test (λ n. Plain n text) (eqb whole 0 && eqb all 1) 0 all
    (λ _. plain-none text)
    (λ _. plain-join whole (fraction_length (drop whole text)) text (plain-before is_no_digit text refl) (plain-fraction (drop whole text)))

plain-exponent_digits : (e : ℕ) (rest : List ℕ) → (e ≡ 10 → ⊥) → Plain (exponent_digits rest) (e ∷ rest)
plain-exponent_digits e [] other = plain-none (e ∷ [])
plain-exponent_digits e (b ∷ rest) other =
    by_test (λ n. Plain n (e ∷ b ∷ rest)) (eqb b 43 || eqb b 45) (some_digits 2 rest) (some_digits 1 (b ∷ rest))
    (λ is. by_test (λ n. Plain n (e ∷ b ∷ rest)) (eqb (position_or_len is_no_digit rest) 0) 0 (2 + position_or_len is_no_digit rest)
    (λ _. plain-none (e ∷ b ∷ rest))
    (λ _. let sign : b ≡ 10 → ⊥ = elim (or_cases _ _ is) [ inl p ↦ is_other b 43 p refl | inr m ↦ is_other b 45 m refl ] in
    let regrouped : 1 + (1 + position_or_len is_no_digit rest) ≡ 2 + position_or_len is_no_digit rest = omega arith in
    subst (λ i. Plain i (e ∷ b ∷ rest)) regrouped (plain-cons e _ (b ∷ rest) other (plain-cons b _ rest sign (plain-before is_no_digit rest refl)))))
    (λ _. by_test (λ n. Plain n (e ∷ b ∷ rest)) (eqb (position_or_len is_no_digit (b ∷ rest)) 0) 0 (1 + position_or_len is_no_digit (b ∷ rest))
    (λ _. plain-none (e ∷ b ∷ rest))
    (λ _. plain-cons e _ (b ∷ rest) other (plain-before is_no_digit (b ∷ rest) refl)))

plain-exponent : (text : List ℕ) → Plain (exponent_length text) text
plain-exponent [] = plain-none []
plain-exponent (b ∷ rest) =
    by_test (λ n. Plain n (b ∷ rest)) (eqb b 101 || eqb b 69) (exponent_digits rest) 0
    (λ is. plain-exponent_digits b rest (elim (or_cases _ _ is) [ inl p ↦ is_other b 101 p refl | inr m ↦ is_other b 69 m refl ]))
    (λ _. plain-none (b ∷ rest))

-- What stands at the start takes bytes without newline, and it takes none exactly where it is the last.
pub record IsPlain (text : List ℕ) (f : Front) : Type 0 where
  pub plain : Plain f.count text
  pub some : eqb f.count 0 ≡ is_last f.form

none_is_last : (text : List ℕ) → IsPlain text (fronted Malformed 0)
none_is_last text = record { plain = plain-none text; some = refl }

one_byte : (b : ℕ) (rest : List ℕ) → (b ≡ 10 → ⊥) → Plain 1 (b ∷ rest)
one_byte b rest other zero h = other
one_byte b rest other (suc k) h = absurd (omega arith)

one_more-is_some : (n : ℕ) → eqb (1 + n) 0 ≡ false
one_more-is_some n = rw one-add (eqb-suc-zero n)

more-is_some : (n m : ℕ) → eqb n 0 ≡ false → eqb (n + m) 0 ≡ false
more-is_some n m h = let ne : n ≡ 0 → ⊥ = eqb-false n 0 h in let e : n + m ≡ 1 + ((n + m) - 1) = omega arith in rw e (one_more-is_some ((n + m) - 1))

number_is_plain : (text : List ℕ) → IsPlain text (number_front text)
number_is_plain text =
    let count = decimal_length text in
    by_test (IsPlain text) (eqb count 0) (fronted Malformed 0) (fronted Number (count + exponent_length (drop count text)))
    (λ _. none_is_last text)
    (λ some. record { plain = plain-join count _ text (plain-decimal text) (plain-exponent (drop count text)); some = more-is_some count _ some })

is_quote_plain : (rest : List ℕ) → is_quote rest ≡ true → Plain 1 rest
is_quote_plain [] h = absurd (false≢true h)
is_quote_plain (b ∷ rest) h = one_byte b rest (is_other b 34 h refl)

quoted_is_plain : (b : ℕ) (rest : List ℕ) → (b ≡ 10 → ⊥) → IsPlain (b ∷ rest) (quoted_front rest)
quoted_is_plain b rest other =
    let inside = position_or_len is_unquotable rest in
    by_test (IsPlain (b ∷ rest)) (is_quote (drop inside rest)) (fronted Quoted (inside + 2)) (fronted Malformed 0)
    (λ closed. record {
      plain = let e : 1 + (inside + 1) ≡ inside + 2 = omega arith in
          subst (λ i. Plain i (b ∷ rest)) e (plain-cons b (inside + 1) rest other (plain-join inside 1 rest (plain-before is_unquotable rest refl) (is_quote_plain (drop inside rest) closed)));
      some = let e : inside + 2 ≡ 1 + (inside + 1) = omega arith in rw e (one_more-is_some (inside + 1));
    })
    (λ _. none_is_last (b ∷ rest))

two_bytes : (b mark : ℕ) (rest : List ℕ) → (b ≡ 10 → ⊥) → eqb mark 10 ≡ false → begins_with mark rest ≡ true → Plain 2 (b ∷ rest)
two_bytes b mark [] other differs next = absurd (false≢true next)
two_bytes b mark (c ∷ rest) other differs next =
    let e : 1 + 1 ≡ 2 = refl in subst (λ i. Plain i (b ∷ c ∷ rest)) e (plain-cons b 1 (c ∷ rest) other (one_byte c rest (is_other c mark next differs)))

mark_is_plain : (b : ℕ) (rest : List ℕ) → (b ≡ 10 → ⊥) → IsPlain (b ∷ rest) (mark_front b rest)
mark_is_plain b rest other =
    let P : Front → Type 0 = IsPlain (b ∷ rest) in
    let one : Plain 1 (b ∷ rest) = one_byte b rest other in
    by_test P (eqb b 59) (fronted Semicolon 1) _ (λ _. record { plain = one; some = refl }) (λ _.
    by_test P (eqb b 44) (fronted Comma 1) _ (λ _. record { plain = one; some = refl }) (λ _.
    by_test P (eqb b 40) (fronted LeftParenthesis 1) _ (λ _. record { plain = one; some = refl }) (λ _.
    by_test P (eqb b 41) (fronted RightParenthesis 1) _ (λ _. record { plain = one; some = refl }) (λ _.
    by_test P (eqb b 91) (fronted LeftBracket 1) _ (λ _. record { plain = one; some = refl }) (λ _.
    by_test P (eqb b 93) (fronted RightBracket 1) _ (λ _. record { plain = one; some = refl }) (λ _.
    by_test P (eqb b 123) (fronted LeftBrace 1) _ (λ _. record { plain = one; some = refl }) (λ _.
    by_test P (eqb b 125) (fronted RightBrace 1) _ (λ _. record { plain = one; some = refl }) (λ _.
    by_test P (eqb b 43) (fronted Plus 1) _ (λ _. record { plain = one; some = refl }) (λ _.
    by_test P (eqb b 42) (fronted Star 1) _ (λ _. record { plain = one; some = refl }) (λ _.
    by_test P (eqb b 47) (fronted Slash 1) _ (λ _. record { plain = one; some = refl }) (λ _.
    by_test P (eqb b 94) (fronted Caret 1) _ (λ _. record { plain = one; some = refl }) (λ _.
    by_test P (eqb b 45) _ _
    (λ _. by_test P (begins_with 62 rest) (fronted Arrow 2) (fronted Minus 1)
    (λ next. record { plain = two_bytes b 62 rest other refl next; some = refl })
    (λ _. record { plain = one; some = refl })) (λ _.
    by_test P (eqb b 61) _ (fronted Malformed 0)
    (λ _. by_test P (begins_with 61 rest) (fronted DoubleEqual 2) (fronted Malformed 0)
    (λ next. record { plain = two_bytes b 61 rest other refl next; some = refl })
    (λ _. none_is_last (b ∷ rest)))
    (λ _. none_is_last (b ∷ rest)))))))))))))))

pub front_is_plain : (b : ℕ) (rest : List ℕ) → (b ≡ 10 → ⊥) → IsPlain (b ∷ rest) (front (b ∷ rest))
unfolding front
front_is_plain b rest other =
    let P : Front → Type 0 = IsPlain (b ∷ rest) in
    by_test P (is_ascii_alphabetic b) (fronted Word (1 + position_or_len is_outside_word rest)) _
    (λ _. record { plain = plain-cons b _ rest other (plain-before is_outside_word rest refl); some = one_more-is_some _ }) (λ _.
    by_test P (is_ascii_digit b || eqb b 46) (number_front (b ∷ rest)) _ (λ _. number_is_plain (b ∷ rest)) (λ _.
    by_test P (eqb b 34) (quoted_front rest) (mark_front b rest) (λ _. quoted_is_plain b rest other) (λ _. mark_is_plain b rest other)))

pub blank_is_plain : (b : ℕ) (rest : List ℕ) → (b ≡ 10 → ⊥) → Plain (blank_length (b ∷ rest)) (b ∷ rest)
blank_is_plain b [] other = by_test (λ n. Plain n (b ∷ [])) (is_separator b) 1 0 (λ _. one_byte b [] other) (λ _. plain-none (b ∷ []))
blank_is_plain b (c ∷ rest) other =
    by_test (λ n. Plain n (b ∷ c ∷ rest)) (is_separator b) 1 (comment_length (b ∷ c ∷ rest)) (λ _. one_byte b (c ∷ rest) other) (λ _.
    by_test (λ n. Plain n (b ∷ c ∷ rest)) (eqb b 47 && eqb c 47) (2 + position_or_len is_newline rest) 0
    (λ both. let e : 1 + (1 + position_or_len is_newline rest) ≡ 2 + position_or_len is_newline rest = omega arith in
    subst (λ i. Plain i (b ∷ c ∷ rest)) e (plain-cons b _ (c ∷ rest) other (plain-cons c _ rest (is_other c 47 (and_both _ _ both).1 refl) (plain-before is_newline rest refl))))
    (λ _. plain-none (b ∷ c ∷ rest)))
