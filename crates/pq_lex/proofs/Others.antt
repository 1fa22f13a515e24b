-- What isn't a word or an integer, told by the bytes at the start.
use Rattle.std.proofs.Common.{◌≡◌, ◌⊎◌, ℕ, zero, suc, ◌+◌, ◌<◌, ◌≤◌, Bool, true, false, ◌&&◌, ◌||◌, eqb, cond, List, [], ◌∷◌, ◌++◌, length, take, drop, get_or, refl, sym, ap, ◌∙◌, subst, arith, inl, inr, length-append}
use Rattle.std.specs.List.{position_or_len, list_all}
use Rattle.std.specs.Char.{is_ascii_digit, is_ascii_alphabetic}
use Rattle.std.proofs.lemmas.Bool.{false≢true, ne_eqb}
use Rattle.std.proofs.lemmas.Bool.Decides.{nat_tests}
use Rattle.std.proofs.lemmas.List.{get_or-take, length-take-le}
use Rattle.std.proofs.lemmas.List.Folds.{list_all_at}
use Rattle.std.proofs.lemmas.List.Sums.{passes_at_first}
use borrow.Author.Tests.{eqb-false}
use Rattle.pq_lex.specs.declared.token.Form.TheVariants.{Word, Quoted, Malformed}
use Rattle.pq_lex.specs.Token.{TokenView, number_of, is_integer}
use Rattle.pq_lex.specs.Grammar.{IsNumber}
use Rattle.pq_lex.specs.Front.{is_outside_word, is_no_digit, is_unquotable, Front, fronted, blank_length, exponent_length, fraction_length, decimal_length, number_front, is_quote, quoted_front, begins_with, mark_front, front}
use Rattle.pq_lex.specs.Lex.{Place, after, placed, then_rest, shown, lex, Position, tokens, first_form, begins_integer}
use Rattle.pq_lex.proofs.Plain.{by_test}
use Rattle.pq_lex.proofs.Direct.{first_front}
use Rattle.pq_lex.proofs.Longest.{number_taken}
use Rattle.pq_lex.proofs.Parts.{Takes}

-- the form comes behind word and number in the order of the forms
abbrev Behind : Front → Type 0
Behind f = 2 ≤ number_of f.form

one_behind : (c : Bool) (x y : Front) → Behind x → Behind y → Behind (cond c x y)
one_behind true x y p q = p
one_behind false x y p q = q

mark_behind : (b : ℕ) (rest : List ℕ) → Behind (mark_front b rest)
mark_behind b rest =
    one_behind (eqb b 59) _ _ (omega arith) (one_behind (eqb b 44) _ _ (omega arith) (one_behind (eqb b 40) _ _ (omega arith) (one_behind (eqb b 41) _ _ (omega arith)
    (one_behind (eqb b 91) _ _ (omega arith) (one_behind (eqb b 93) _ _ (omega arith) (one_behind (eqb b 123) _ _ (omega arith) (one_behind (eqb b 125) _ _ (omega arith)
    (one_behind (eqb b 43) _ _ (omega arith) (one_behind (eqb b 42) _ _ (omega arith) (one_behind (eqb b 47) _ _ (omega arith) (one_behind (eqb b 94) _ _ (omega arith)
    (one_behind (eqb b 45) _ _ (one_behind (begins_with 62 rest) _ _ (omega arith) (omega arith))
    (one_behind (eqb b 61) _ _ (one_behind (begins_with 61 rest) _ _ (omega arith) (omega arith)) (omega arith))))))))))))))

-- where no letter is first, no word is
pub no_word : (text : List ℕ) → (1 ≤ length text → is_ascii_alphabetic (get_or text 0 0) ≡ false) → eqb (number_of (front text).form) 0 ≡ false
unfolding front
no_word [] other = refl
no_word (b ∷ rest) other =
    by_test Other (is_ascii_alphabetic b) (fronted Word (1 + position_or_len is_outside_word rest)) _ (λ letter. absurd (false≢true (sym (other (omega arith)) ∙ letter)))
    (λ _. by_test Other (is_ascii_digit b || eqb b 46) (number_front (b ∷ rest)) _
    (λ _. by_test Other (eqb (decimal_length (b ∷ rest)) 0) (fronted Malformed 0) _ (λ _. refl) (λ _. refl))
    (λ _. by_test Other (eqb b 34) (quoted_front rest) _
    (λ _. by_test Other (is_quote (drop (position_or_len is_unquotable rest) rest)) (fronted Quoted _) _ (λ _. refl) (λ _. refl))
    (λ _. ne_eqb _ 0 (let behind : 2 ≤ number_of (mark_front b rest).form = mark_behind b rest in λ is. absurd (omega arith)))))
  where
    Other : Front → Type 0
    Other f = eqb (number_of f.form) 0 ≡ false

-- some bytes that go on behind the digits they begin with aren't digits alone
longer : (text : List ℕ) (n : ℕ) → position_or_len is_no_digit text < n → n ≤ length text → list_all is_ascii_digit (take n text) ≡ false
longer text n less within =
    let d : ℕ = position_or_len is_no_digit text in
    let len : length (take n text) ≡ n = length-take-le n text within in
    list_all_at is_ascii_digit (take n text) d 0 (omega arith)
    (ap is_ascii_digit (get_or-take n text d 0 less) ∙ no_digit_is (get_or text d 0) (passes_at_first is_no_digit text 0 (omega arith)))
  where
    no_digit_is : (b : ℕ) → is_no_digit b ≡ true → is_ascii_digit b ≡ false
    no_digit_is b h = grind (arith, nat_tests)

goes_on : (whole part all power : ℕ) → all ≡ whole + part → (part ≡ 0 → power ≡ 0 → ⊥) → whole < all + power
goes_on whole zero all zero is more = absurd (more refl refl)
goes_on whole zero all (suc power) is more = omega arith
goes_on whole (suc part) all power is more = omega arith

-- a number that isn't its digits alone goes on behind them
number_longer : (text : List ℕ) → eqb (decimal_length text) 0 ≡ false
    → (position_or_len is_no_digit text ≡ 0) ⊎ (fraction_length (drop (position_or_len is_no_digit text) text) ≡ 0 → exponent_length (drop (position_or_len is_no_digit text) text) ≡ 0 → ⊥)
    → position_or_len is_no_digit text < decimal_length text + exponent_length (drop (decimal_length text) text)
number_longer text some more =
    let whole : ℕ = position_or_len is_no_digit text in
    let part : ℕ = fraction_length (drop whole text) in
    by_test (λ d. eqb d 0 ≡ false → whole < d + exponent_length (drop d text)) (eqb whole 0 && eqb (whole + part) 1) 0 (whole + part)
    (λ _ never. absurd (false≢true (sym never)))
    (λ _ some. by whole part some more) some
  where
    by : (whole part : ℕ) → eqb (whole + part) 0 ≡ false → (whole ≡ 0) ⊎ (part ≡ 0 → exponent_length (drop whole text) ≡ 0 → ⊥) → whole < (whole + part) + exponent_length (drop (whole + part) text)
    by whole part some (inl none) = let n : whole + part ≡ 0 → ⊥ = eqb-false _ _ some in omega arith
    by whole part some (inr more) =
        goes_on whole part (whole + part) (exponent_length (drop (whole + part) text)) refl
        (λ p e. more p (let same : whole ≡ whole + part = omega arith in ap (λ n. exponent_length (drop n text)) same ∙ e))

-- where no digits are first, or a fraction or an exponent follows them, no integer is
pub no_integer : (text : List ℕ) (digits : ℕ) → digits ≡ position_or_len is_no_digit text
    → (digits ≡ 0) ⊎ (fraction_length (drop digits text) ≡ 0 → exponent_length (drop digits text) ≡ 0 → ⊥)
    → (eqb (number_of (front text).form) 1 && list_all is_ascii_digit (take (front text).count text)) ≡ false
unfolding front
no_integer [] digits at more = refl
no_integer (b ∷ rest) digits at more =
    by_test Other (is_ascii_alphabetic b) (fronted Word (1 + position_or_len is_outside_word rest)) _ (λ _. refl)
    (λ _. by_test Other (is_ascii_digit b || eqb b 46) (number_front text) _
    (λ _. by_test Other (eqb (decimal_length text) 0) (fronted Malformed 0) _ (λ _. refl) (λ some. number some))
    (λ _. by_test Other (eqb b 34) (quoted_front rest) _
    (λ _. by_test Other (is_quote (drop (position_or_len is_unquotable rest) rest)) (fronted Quoted _) _ (λ _. refl) (λ _. refl))
    (λ _. ap (λ t. t && list_all is_ascii_digit (take (mark_front b rest).count text))
    (ne_eqb (number_of (mark_front b rest).form) 1 (let behind : 2 ≤ number_of (mark_front b rest).form = mark_behind b rest in λ is. absurd (omega arith))))))
  where
    text : List ℕ
    text = b ∷ rest

    Other : Front → Type 0
    Other f = (eqb (number_of f.form) 1 && list_all is_ascii_digit (take f.count text)) ≡ false

    number : eqb (decimal_length text) 0 ≡ false → list_all is_ascii_digit (take (decimal_length text + exponent_length (drop (decimal_length text) text)) text) ≡ false
    number some =
        let n : ℕ = decimal_length text + exponent_length (drop (decimal_length text) text) in
        let t : Takes IsNumber n text = number_taken text some in
        let within : n ≤ length text = within_text t.bytes t.later n t.is t.counted in
        longer text n (number_longer text some (subst (λ d. (d ≡ 0) ⊎ (fraction_length (drop d text) ≡ 0 → exponent_length (drop d text) ≡ 0 → ⊥)) at more)) within
      where
        within_text : (bytes later : List ℕ) (n : ℕ) → text ≡ bytes ++ later → n ≡ length bytes → n ≤ length text
        within_text bytes later n is counted = let all : length text ≡ length bytes + length later = ap length is ∙ length-append bytes later in omega arith

-- the first token isn't a word where the text doesn't begin with one
pub word_other : (before p : Position) → tokens p ≡ tokens before → blank_length p.rest ≡ 0 → eqb (number_of (front p.rest).form) 0 ≡ false → eqb (number_of (first_form (tokens before))) 0 ≡ false
word_other before p same none other =
    ap (λ ts. eqb (number_of (first_form ts)) 0) (sym same) ∙ (ap (λ f. eqb (number_of f) 0) (first_front p.line p.column p.rest none) ∙ other)

integer_then : (n : ℕ) (t : TokenView) (rest : ℕ → List TokenView) → begins_integer (then_rest n t rest) ≡ is_integer t
integer_then zero t rest = refl
integer_then (suc n) t rest = refl

integer_front_is : (line column : ℕ) (text : List ℕ) → blank_length text ≡ 0
    → begins_integer (lex 0 (record { line = line; column = column }) text) ≡ (eqb (number_of (front text).form) 1 && list_all is_ascii_digit (take (front text).count text))
unfolding lex front
integer_front_is line column [] none = refl
integer_front_is line column (b ∷ rest) none =
    let at : Place = record { line = line; column = column } in
    ap (λ n. begins_integer (shown n (front (b ∷ rest)) at (b ∷ rest) (λ more. lex more (after b at) rest))) none
    ∙ integer_then (front (b ∷ rest)).count (placed (front (b ∷ rest)) at (b ∷ rest)) (λ more. lex more (after b at) rest)

-- nor an integer
pub integer_other : (before p : Position) → tokens p ≡ tokens before → blank_length p.rest ≡ 0
    → (eqb (number_of (front p.rest).form) 1 && list_all is_ascii_digit (take (front p.rest).count p.rest)) ≡ false → begins_integer (tokens before) ≡ false
integer_other before p same none other = ap begins_integer (sym same) ∙ (integer_front_is p.line p.column p.rest none ∙ other)
