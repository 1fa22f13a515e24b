-- Tokens that are known by their first byte alone.
use Rattle.std.proofs.Common.{◌≡◌, ℕ, zero, suc, ◌+◌, ◌≤◌, Bool, true, false, not, ◌&&◌, ◌||◌, eqb, cond, List, [], ◌∷◌, length, drop, get_or, refl, sym, ap, ◌∙◌, subst, arith}
use Rattle.std.specs.List.{position_or_len}
use Rattle.std.specs.Char.{is_ascii_digit, is_ascii_alphabetic}
use Rattle.std.proofs.lemmas.Bool.{false≢true}
use Rattle.std.proofs.lemmas.Bool.Decides.{nat_tests}
use Rattle.std.proofs.Math.Dec.{eqb-suc-zero}
use borrow.Author.Tests.{eqb-true, eq-eqb}
use Rattle.pq_lex.specs.declared.token.Form.{Form}
use Rattle.pq_lex.specs.declared.token.Form.TheVariants.{Word, Number, Quoted, Semicolon, Comma, LeftParenthesis, RightParenthesis, LeftBracket, RightBracket, LeftBrace, RightBrace, Plus, Minus, Star, Slash, Caret, Arrow, DoubleEqual, Missing, Malformed}
use Rattle.pq_lex.specs.Token.{TokenView, number_of}
use Rattle.pq_lex.specs.Front.{is_outside_word, is_no_digit, is_unquotable, Front, fronted, blank_length, exponent_length, fraction_length, decimal_length, number_front, is_quote, quoted_front, begins_with, mark_byte, mark_front, front}
use Rattle.pq_lex.specs.Lex.{Place, after, then_rest, shown, lex, Position, tokens, first_form}
use Rattle.pq_lex.proofs.Forms.{same_form}

-- a word is known by its first byte
pub word_there : (text : List ℕ) (count : ℕ) → 1 ≤ length text → is_ascii_alphabetic (get_or text 0 0) ≡ true → count ≡ position_or_len is_outside_word (drop 1 text)
    → fronted Word (1 + count) ≡ front text
unfolding front
word_there [] count some is at = absurd (omega arith)
word_there (b ∷ rest) count some is at = ap (λ n. fronted Word (1 + n)) at ∙ sym (ap (λ c. cond c (fronted Word (1 + position_or_len is_outside_word rest))
    (cond (is_ascii_digit b || eqb b 46) (number_front (b ∷ rest)) (cond (eqb b 34) (quoted_front rest) (mark_front b rest)))) is)

-- what a form tells of the first byte: it isn't the missing one, and a mark has its byte
told : ℕ → Form → Bool
told b f = not (eqb (number_of f) 18) && (eqb (mark_byte f) 0 || eqb (mark_byte f) b)

pick : (c : Bool) (b : ℕ) (x y : Front) → (c ≡ true → told b x.form ≡ true) → told b y.form ≡ true → told b (cond c x y).form ≡ true
pick true b x y h k = h refl
pick false b x y h k = k

turn : (b k : ℕ) → eqb b k ≡ true → eqb k b ≡ true
turn b k e = eq-eqb k b (sym (eqb-true b k e))

mark_told : (b : ℕ) (rest : List ℕ) → told b (mark_front b rest).form ≡ true
unfolding told
mark_told b rest =
    pick (eqb b 59) b _ _ (turn b 59) (pick (eqb b 44) b _ _ (turn b 44) (pick (eqb b 40) b _ _ (turn b 40) (pick (eqb b 41) b _ _ (turn b 41)
    (pick (eqb b 91) b _ _ (turn b 91) (pick (eqb b 93) b _ _ (turn b 93) (pick (eqb b 123) b _ _ (turn b 123) (pick (eqb b 125) b _ _ (turn b 125)
    (pick (eqb b 43) b _ _ (λ _. refl) (pick (eqb b 42) b _ _ (λ _. refl) (pick (eqb b 47) b _ _ (λ _. refl) (pick (eqb b 94) b _ _ (λ _. refl)
    (pick (eqb b 45) b _ _ (λ _. pick (begins_with 62 rest) b _ _ (λ _. refl) refl)
    (pick (eqb b 61) b _ _ (λ _. pick (begins_with 61 rest) b _ _ (λ _. refl) refl) refl)))))))))))))

front_told : (b : ℕ) (rest : List ℕ) → told b (front (b ∷ rest)).form ≡ true
unfolding told front
front_told b rest =
    pick (is_ascii_alphabetic b) b _ _ (λ _. refl) (pick (is_ascii_digit b || eqb b 46) b _ _ (λ _. pick (eqb (decimal_length (b ∷ rest)) 0) b _ _ (λ _. refl) refl)
    (pick (eqb b 34) b _ _ (λ _. pick (is_quote (drop (position_or_len is_unquotable rest) rest)) b _ _ (λ _. refl) refl) (mark_told b rest)))

mark_next : (m : Form) → 1 ≤ mark_byte m → (rest : List ℕ) → fronted m 1 ≡ front (mark_byte m ∷ rest)
unfolding front
mark_next Semicolon h rest = refl
mark_next Comma h rest = refl
mark_next LeftParenthesis h rest = refl
mark_next RightParenthesis h rest = refl
mark_next LeftBracket h rest = refl
mark_next RightBracket h rest = refl
mark_next LeftBrace h rest = refl
mark_next RightBrace h rest = refl
mark_next Word h rest = absurd (omega arith)
mark_next Number h rest = absurd (omega arith)
mark_next Quoted h rest = absurd (omega arith)
mark_next Plus h rest = absurd (omega arith)
mark_next Minus h rest = absurd (omega arith)
mark_next Star h rest = absurd (omega arith)
mark_next Slash h rest = absurd (omega arith)
mark_next Caret h rest = absurd (omega arith)
mark_next Arrow h rest = absurd (omega arith)
mark_next DoubleEqual h rest = absurd (omega arith)
mark_next Missing h rest = absurd (omega arith)
mark_next Malformed h rest = absurd (omega arith)

-- a mark is known by its byte
pub mark_there : (m : Form) (text : List ℕ) → 1 ≤ mark_byte m → begins_with (mark_byte m) text ≡ true → fronted m 1 ≡ front text
mark_there m [] h is = absurd (false≢true is)
mark_there m (b ∷ rest) h is = mark_next m h rest ∙ ap (λ x. front (x ∷ rest)) (sym (eqb-true b (mark_byte m) is))

first_then : (n : ℕ) (t : TokenView) (rest : ℕ → List TokenView) → first_form (then_rest n t rest) ≡ t.form
first_then zero t rest = refl
first_then (suc n) t rest = refl

pub first_front : (line column : ℕ) (text : List ℕ) → blank_length text ≡ 0 → first_form (lex 0 (record { line = line; column = column }) text) ≡ (front text).form
unfolding lex front
first_front line column [] none = refl
first_front line column (b ∷ rest) none =
    let at : Place = record { line = line; column = column } in
    ap (λ n. first_form (shown n (front (b ∷ rest)) at (b ∷ rest) (λ more. lex more (after b at) rest))) none ∙ first_then _ _ _

missing_byte : (m : Form) → 1 ≤ mark_byte m → eqb 18 (number_of m) ≡ false
missing_byte m h = elim (eqb 18 (number_of m)) as (λ t. eqb 18 (number_of m) ≡ t → t ≡ false) [
  | true ↦ λ is. absurd (none (subst (λ f. 1 ≤ mark_byte f) (sym (same_form Missing m (eqb-true 18 (number_of m) is))) h))
  | false ↦ λ is. refl
] refl
  where
    none : 1 ≤ 0 → ⊥
    none h = omega arith

other_byte : (b : ℕ) (f m : Form) → told b f ≡ true → 1 ≤ mark_byte m → eqb b (mark_byte m) ≡ false → eqb (number_of f) (number_of m) ≡ false
unfolding told
other_byte b f m is h other = elim (eqb (number_of f) (number_of m)) as (λ t. eqb (number_of f) (number_of m) ≡ t → t ≡ false) [
  | true ↦ λ same.
      let e : f ≡ m = same_form f m (eqb-true _ _ same) in
      let at : (eqb (mark_byte m) 0 || eqb (mark_byte m) b) ≡ true = ap (λ g. eqb (mark_byte g) 0 || eqb (mark_byte g) b) (sym e) ∙ second _ _ is in
      absurd (neither (mark_byte m) b h other at)
  | false ↦ λ same. refl
] refl
  where
    second : (a c : Bool) → (a && c) ≡ true → c ≡ true
    second true c h = h
    second false c h = absurd (false≢true h)

    neither : (n b : ℕ) → 1 ≤ n → eqb b n ≡ false → (eqb n 0 || eqb n b) ≡ true → ⊥
    neither n b some other is = grind (arith, nat_tests)

-- the next form isn't that of a mark whose byte isn't next
pub mark_other : (m : Form) (p : Position) → blank_length p.rest ≡ 0 → 1 ≤ mark_byte m → begins_with (mark_byte m) p.rest ≡ false
    → eqb (number_of (first_form (tokens p))) (number_of m) ≡ false
unfolding front
mark_other m p none h other = ap (λ f. eqb (number_of f) (number_of m)) (first_front p.line p.column p.rest none) ∙ by p.rest other where
  by : (text : List ℕ) → begins_with (mark_byte m) text ≡ false → eqb (number_of (front text).form) (number_of m) ≡ false
  by [] is = missing_byte m h
  by (b ∷ rest) is = other_byte b (front (b ∷ rest)).form m (front_told b rest) h is

-- the end of a text is known by that nothing is left
pub end_there : (p : Position) → blank_length p.rest ≡ 0 → eqb (length p.rest) 0 ≡ eqb (number_of (first_form (tokens p))) 18
unfolding front told
end_there p none = by p.rest ∙ sym (ap (λ f. eqb (number_of f) 18) (first_front p.line p.column p.rest none)) where
  first : (a c : Bool) → (not a && c) ≡ true → a ≡ false
  first true c h = absurd (false≢true h)
  first false c h = refl

  by : (text : List ℕ) → eqb (length text) 0 ≡ eqb (number_of (front text).form) 18
  by [] = refl
  by (b ∷ rest) = eqb-suc-zero (length rest) ∙ sym (first _ _ (front_told b rest))

pub end_last : (p : Position) → eqb (length p.rest) 0 ≡ true → length (tokens p) ≡ 1
unfolding lex
end_last p is = by p.rest is where
  by : (text : List ℕ) → eqb (length text) 0 ≡ true → length (lex 0 (record { line = p.line; column = p.column }) text) ≡ 1
  by [] h = refl
  by (b ∷ rest) h = absurd (false≢true (sym (eqb-suc-zero (length rest)) ∙ h))

pub digit_no_letter : (b : ℕ) → is_no_digit b ≡ false → is_ascii_alphabetic b ≡ false
digit_no_letter b h = grind (arith, nat_tests)

pub digit_is : (b : ℕ) → is_no_digit b ≡ false → is_ascii_digit b ≡ true
digit_is b h = grind (arith, nat_tests)

some_digits_first : (b : ℕ) (rest : List ℕ) → 1 ≤ position_or_len is_no_digit (b ∷ rest) → is_no_digit b ≡ false
some_digits_first b rest h = elim (is_no_digit b) as (λ t. 1 ≤ cond (not t) (1 + position_or_len is_no_digit rest) 0 → t ≡ false) [ true ↦ λ some. absurd (omega arith) | false ↦ λ some. refl ] h

-- an integer is known by its digits, where neither a fraction nor an exponent follows them
pub integer_there : (text : List ℕ) (count : ℕ) → count ≡ position_or_len is_no_digit text → 1 ≤ count → fraction_length (drop count text) ≡ 0 → exponent_length (drop count text) ≡ 0
    → fronted Number count ≡ front text
unfolding front
integer_there [] count at some no_fraction no_exponent = absurd (omega arith)
integer_there (b ∷ rest) count at some no_fraction no_exponent =
    let text = b ∷ rest in
    let digit : is_no_digit b ≡ false = some_digits_first b rest (subst (λ n. 1 ≤ n) at some) in
    let w = position_or_len is_no_digit text in
    let whole : eqb count 0 ≡ false = positive count some in
    let decimal : decimal_length text ≡ count =
    ap (λ n. cond (eqb n 0 && eqb (n + fraction_length (drop n text)) 1) 0 (n + fraction_length (drop n text))) (sym at)
    ∙ (ap (λ f. cond (eqb count 0 && eqb (count + f) 1) 0 (count + f)) no_fraction
    ∙ (ap (λ t. cond (t && eqb (count + 0) 1) 0 (count + 0)) whole ∙ (omega arith))) in
    let number : number_front text ≡ fronted Number count =
    ap (λ n. cond (eqb n 0) (fronted Malformed 0) (fronted Number (n + exponent_length (drop n text)))) decimal
    ∙ (ap (λ t. cond t (fronted Malformed 0) (fronted Number (count + exponent_length (drop count text)))) whole
    ∙ (ap (λ x. fronted Number (count + x)) no_exponent ∙ ap (fronted Number) (omega arith))) in
    sym (ap (λ c. cond c (fronted Word (1 + position_or_len is_outside_word rest))
    (cond (is_ascii_digit b || eqb b 46) (number_front text) (cond (eqb b 34) (quoted_front rest) (mark_front b rest)))) (digit_no_letter b digit)
    ∙ (ap (λ c. cond (c || eqb b 46) (number_front text) (cond (eqb b 34) (quoted_front rest) (mark_front b rest))) (digit_is b digit) ∙ number))
  where
    positive : (n : ℕ) → 1 ≤ n → eqb n 0 ≡ false
    positive zero h = absurd (omega arith)
    positive (suc n) h = eqb-suc-zero n
