-- A token is the longest prefix of a text that has a token's form.
use Rattle.std.proofs.Common.{◌≡◌, ◌⊎◌, ℕ, zero, suc, ◌+◌, ◌≤◌, Bool, true, false, not, ◌&&◌, ◌||◌, eqb, cond, List, [], ◌∷◌, ◌++◌, length, take, drop, codes, refl, sym, ap, ◌∙◌, subst, arith, inl, inr, length-append}
use Rattle.std.specs.List.{position_or_len}
use Rattle.std.specs.Char.{is_ascii_digit, is_ascii_alphabetic}
use Rattle.std.proofs.lemmas.Bool.{false≢true}
use Rattle.std.proofs.lemmas.Bool.Decides.{nat_tests}
use Rattle.std.proofs.lemmas.List.{append_assoc, take-append-le, take_all, nil_from_length}
use Rattle.std.proofs.Math.Seq.{drop-append_seam, drop-append-add}
use borrow.Author.Tests.{eqb-true, eqb-false}
use Rattle.pq_lex.specs.declared.token.Form.{Form}
use Rattle.pq_lex.specs.declared.token.Form.TheVariants.{Word, Number, Quoted, Semicolon, Comma, LeftParenthesis, RightParenthesis, LeftBracket, RightBracket, LeftBrace, RightBrace, Plus, Minus, Star, Slash, Caret, Arrow, DoubleEqual, Missing, Malformed}
use Rattle.pq_lex.specs.Token.{TokenView, number_of, is_last}
use Rattle.pq_lex.specs.Front.{is_word_byte, is_outside_word, is_no_digit, is_newline, is_unquotable, is_separator, blank_length, Front, fronted, exponent_length, fraction_length, decimal_length, number_front, is_quote, quoted_front, begins_with, mark_front, front}
use Rattle.pq_lex.specs.Grammar.{IsWord, AreDigits, IsFraction, IsExponent, IsNumber, is_quotable, IsQuoted, HasForm, BeginsBlank, BeginsLongest}
use Rattle.pq_lex.specs.Lex.{placed, Position, first_form}
use Rattle.pq_lex.proofs.Plain.{by_test, and_both, front_is_plain}
use Rattle.pq_lex.proofs.Lexing.{lex-token}
use Rattle.pq_lex.proofs.Direct.{digit_no_letter, end_there}
use Rattle.pq_lex.proofs.Parts.{Takes, later_is, nothing, passing, passed, stopped, no_other, digits_taken, digits_passed, fraction_taken, exponent_taken, exponent_least}

-- the mantissa of a number
mantissa_some : (whole fraction : ℕ) → (eqb whole 0 && eqb (whole + fraction) 1) ≡ false → eqb (whole + fraction) 0 ≡ false → (1 ≤ whole) ⊎ (2 ≤ fraction)
mantissa_some zero fraction one none =
    inr (let n : 0 + fraction ≡ 0 → ⊥ = eqb-false _ _ none in let o : 0 + fraction ≡ 1 → ⊥ = eqb-false _ _ one in omega arith)
mantissa_some (suc whole) fraction one none = inl (omega arith)

number_of_parts : (text : List ℕ) (w : Takes AreDigits (position_or_len is_no_digit text) text) (f : Takes IsFraction (fraction_length w.later) w.later) (e : Takes IsExponent (exponent_length f.later) f.later)
    → (1 ≤ length w.bytes) ⊎ (2 ≤ length f.bytes) → Takes IsNumber ((length w.bytes + length f.bytes) + exponent_length f.later) text
number_of_parts text w f e some = record {
  bytes = w.bytes ++ (f.bytes ++ e.bytes);
  later = e.later;
  is = w.is
      ∙ (ap (λ l. w.bytes ++ l) (f.is ∙ (ap (λ l. f.bytes ++ l) e.is ∙ sym (append_assoc f.bytes e.bytes e.later))) ∙ sym (append_assoc w.bytes (f.bytes ++ e.bytes) e.later));
  counted = let a : length (w.bytes ++ (f.bytes ++ e.bytes)) ≡ length w.bytes + length (f.bytes ++ e.bytes) = length-append w.bytes (f.bytes ++ e.bytes) in
      let b : length (f.bytes ++ e.bytes) ≡ length f.bytes + length e.bytes = length-append f.bytes e.bytes in
      let c : exponent_length f.later ≡ length e.bytes = e.counted in omega arith;
  formed = record { whole = w.bytes; fraction = f.bytes; exponent = e.bytes; is = refl; digits = w.formed; part = f.formed; power = e.formed; some = some };
}

pub number_taken : (text : List ℕ) → eqb (decimal_length text) 0 ≡ false → Takes IsNumber (decimal_length text + exponent_length (drop (decimal_length text) text)) text
number_taken text some =
    let w : Takes AreDigits (position_or_len is_no_digit text) text = digits_taken text in
    let f : Takes IsFraction (fraction_length w.later) w.later = fraction_taken w.later in
    let e : Takes IsExponent (exponent_length f.later) f.later = exponent_taken f.later in
    let whole : ℕ = position_or_len is_no_digit text in
    let part : fraction_length (drop whole text) ≡ length f.bytes = ap fraction_length (later_is w) ∙ f.counted in
    let all : whole + fraction_length (drop whole text) ≡ length w.bytes + length f.bytes = (λ i. w.counted i + part i) in
    by_test (λ d. eqb d 0 ≡ false → Takes IsNumber (d + exponent_length (drop d text)) text) (eqb whole 0 && eqb (whole + fraction_length (drop whole text)) 1) 0 (whole + fraction_length (drop whole text))
    (λ _ never. absurd (false≢true (sym never)))
    (λ one some. number_by text w f e (whole + fraction_length (drop whole text)) all
    (mantissa_some (length w.bytes) (length f.bytes) ((λ i. eqb (sym w.counted i) 0 && eqb (sym all i) 1) ∙ one) (ap (λ n. eqb n 0) (sym all) ∙ some))) some
  where
    number_by : (text : List ℕ) (w : Takes AreDigits (position_or_len is_no_digit text) text) (f : Takes IsFraction (fraction_length w.later) w.later) (e : Takes IsExponent (exponent_length f.later) f.later)
        (d : ℕ) → d ≡ length w.bytes + length f.bytes → (1 ≤ length w.bytes) ⊎ (2 ≤ length f.bytes) → Takes IsNumber (d + exponent_length (drop d text)) text
    number_by text w f e d is some =
        let left : drop d text ≡ f.later =
        (λ i. drop (is i) ((w.is ∙ (ap (λ l. w.bytes ++ l) f.is ∙ sym (append_assoc w.bytes f.bytes f.later))) i))
        ∙ (ap (λ n. drop n ((w.bytes ++ f.bytes) ++ f.later)) (sym (length-append w.bytes f.bytes)) ∙ drop-append_seam (w.bytes ++ f.bytes) f.later) in
        subst (λ n. Takes IsNumber n text) (λ i. sym is i + exponent_length (sym left i)) (number_of_parts text w f e some)

-- What the scanner finds at the start has its form.
abbrev pub Formed : Form → List ℕ → Type 0
Formed form bytes = is_last form ≡ false → HasForm form bytes

abbrev Sound : List ℕ → Front → Type 0
Sound text f = Takes (Formed f.form) f.count text

malformed : (text : List ℕ) → Sound text (fronted Malformed 0)
malformed text = nothing (Formed Malformed) text (λ never. absurd (false≢true (sym never)))

number_sound : (text : List ℕ) → Sound text (number_front text)
number_sound text =
    let count = decimal_length text in
    by_test (Sound text) (eqb count 0) (fronted Malformed 0) (fronted Number (count + exponent_length (drop count text))) (λ _. malformed text)
    (λ some. let t = number_taken text some in record { bytes = t.bytes; later = t.later; is = t.is; counted = t.counted; formed = λ _. t.formed })

quote_first : (l : List ℕ) → is_quote l ≡ true → (later : List ℕ) × (l ≡ 34 ∷ later)
quote_first [] h = absurd (false≢true h)
quote_first (b ∷ l) h = (l, ap (λ x. x ∷ l) (eqb-true b 34 h))

quotable : (b : ℕ) → is_unquotable b ≡ false → is_quotable b ≡ true
quotable b h = ap not h

quoted_sound : (b : ℕ) (rest : List ℕ) → eqb b 34 ≡ true → Sound (b ∷ rest) (quoted_front rest)
quoted_sound b rest is =
    let t = passing is_unquotable is_quotable quotable rest in
    let inside = position_or_len is_unquotable rest in
    by_test (Sound (b ∷ rest)) (is_quote (drop inside rest)) (fronted Quoted (inside + 2)) (fronted Malformed 0)
    (λ closed. let l = quote_first (drop inside rest) closed in
    record {
      bytes = 34 ∷ (t.bytes ++ 34 ∷ []);
      later = l.0;
      is = (λ i. eqb-true b 34 is i ∷ (t.is ∙ (ap (λ m. t.bytes ++ m) (sym (later_is t) ∙ l.1) ∙ sym (append_assoc t.bytes (34 ∷ []) l.0))) i);
      counted = let n : length (t.bytes ++ 34 ∷ []) ≡ length t.bytes + 1 = length-append t.bytes (34 ∷ []) in
          let c : inside ≡ length t.bytes = t.counted in omega arith;
      formed = λ _. record { inside = t.bytes; is = refl; line = t.formed };
    })
    (λ _. malformed (b ∷ rest))

one_mark : (form : Form) (b c : ℕ) (rest : List ℕ) → eqb b c ≡ true → (b ≡ c → Formed form (b ∷ [])) → Sound (b ∷ rest) (fronted form 1)
one_mark form b c rest is formed = record { bytes = b ∷ []; later = rest; is = refl; counted = refl; formed = formed (eqb-true b c is) }

two_marks : (form : Form) (b c d : ℕ) (rest : List ℕ) → eqb b c ≡ true → begins_with d rest ≡ true → ((l : List ℕ) → l ≡ c ∷ d ∷ [] → Formed form l) → Sound (b ∷ rest) (fronted form 2)
two_marks form b c d [] is next formed = absurd (false≢true next)
two_marks form b c d (e ∷ rest) is next formed =
    record { bytes = b ∷ e ∷ []; later = rest; is = refl; counted = refl; formed = formed (b ∷ e ∷ []) (λ i. eqb-true b c is i ∷ eqb-true e d next i ∷ []) }

mark_sound : (b : ℕ) (rest : List ℕ) → Sound (b ∷ rest) (mark_front b rest)
mark_sound b rest =
    let P : Front → Type 0 = Sound (b ∷ rest) in
    by_test P (eqb b 59) _ _ (λ is. one_mark Semicolon b 59 rest is (λ e _ i. e i ∷ [])) (λ _.
    by_test P (eqb b 44) _ _ (λ is. one_mark Comma b 44 rest is (λ e _ i. e i ∷ [])) (λ _.
    by_test P (eqb b 40) _ _ (λ is. one_mark LeftParenthesis b 40 rest is (λ e _ i. e i ∷ [])) (λ _.
    by_test P (eqb b 41) _ _ (λ is. one_mark RightParenthesis b 41 rest is (λ e _ i. e i ∷ [])) (λ _.
    by_test P (eqb b 91) _ _ (λ is. one_mark LeftBracket b 91 rest is (λ e _ i. e i ∷ [])) (λ _.
    by_test P (eqb b 93) _ _ (λ is. one_mark RightBracket b 93 rest is (λ e _ i. e i ∷ [])) (λ _.
    by_test P (eqb b 123) _ _ (λ is. one_mark LeftBrace b 123 rest is (λ e _ i. e i ∷ [])) (λ _.
    by_test P (eqb b 125) _ _ (λ is. one_mark RightBrace b 125 rest is (λ e _ i. e i ∷ [])) (λ _.
    by_test P (eqb b 43) _ _ (λ is. one_mark Plus b 43 rest is (λ e _ i. e i ∷ [])) (λ _.
    by_test P (eqb b 42) _ _ (λ is. one_mark Star b 42 rest is (λ e _ i. e i ∷ [])) (λ _.
    by_test P (eqb b 47) _ _ (λ is. one_mark Slash b 47 rest is (λ e _ i. e i ∷ [])) (λ _.
    by_test P (eqb b 94) _ _ (λ is. one_mark Caret b 94 rest is (λ e _ i. e i ∷ [])) (λ _.
    by_test P (eqb b 45) _ _
    (λ is. by_test P (begins_with 62 rest) _ _ (λ next. two_marks Arrow b 45 62 rest is next (λ l e _. e)) (λ _. one_mark Minus b 45 rest is (λ e _ i. e i ∷ []))) (λ _.
    by_test P (eqb b 61) _ _
    (λ is. by_test P (begins_with 61 rest) _ _ (λ next. two_marks DoubleEqual b 61 61 rest is next (λ l e _. e)) (λ _. malformed (b ∷ rest)))
    (λ _. malformed (b ∷ rest)))))))))))))))

word_byte : (b : ℕ) → is_outside_word b ≡ false → is_word_byte b ≡ true
word_byte b h = twice (is_word_byte b) h where
  twice : (t : Bool) → not t ≡ false → t ≡ true
  twice true h = refl
  twice false h = absurd (false≢true (sym h))

pub front_sound : (text : List ℕ) → Sound text (front text)
unfolding front
front_sound [] = nothing (Formed Missing) [] (λ never. absurd (false≢true (sym never)))
front_sound (b ∷ rest) =
    let P : Front → Type 0 = Sound (b ∷ rest) in
    by_test P (is_ascii_alphabetic b) (fronted Word (1 + position_or_len is_outside_word rest)) _
    (λ is. let t = passing is_outside_word is_word_byte word_byte rest in
    record { bytes = b ∷ t.bytes; later = t.later; is = ap (λ l. b ∷ l) t.is; counted = (let c : position_or_len is_outside_word rest ≡ length t.bytes = t.counted in omega arith); formed = λ _. (is, t.formed) }) (λ _.
    by_test P (is_ascii_digit b || eqb b 46) (number_front (b ∷ rest)) _ (λ _. number_sound (b ∷ rest)) (λ _.
    by_test P (eqb b 34) (quoted_front rest) (mark_front b rest) (λ is. quoted_sound b rest is) (λ _. mark_sound b rest)))

-- a number at the start counts whole
AreStopped : List ℕ → Type 0
AreStopped rest = (position_or_len is_no_digit rest ≡ 0) × (fraction_length rest ≡ 0)

-- the digits and the fraction at the start: at least these, and no more where neither goes on
mantissa_counted : (whole fraction rest : List ℕ) → AreDigits whole → IsFraction fraction
    → (let text : List ℕ = whole ++ (fraction ++ rest) in
    let all : ℕ = position_or_len is_no_digit text + fraction_length (drop (position_or_len is_no_digit text) text) in
    (length whole ≤ position_or_len is_no_digit text) × (length whole + length fraction ≤ all) × (AreStopped rest → all ≡ length whole + length fraction))
unfolding AreStopped
mantissa_counted whole [] rest digits part =
    let text : List ℕ = whole ++ rest in
    let w : position_or_len is_no_digit text ≡ length whole + position_or_len is_no_digit rest = digits_passed whole rest digits in (
      omega arith,
      omega arith,
      λ stop.
          let n : position_or_len is_no_digit text ≡ length whole + 0 = w ∙ ap (λ k. length whole + k) stop.0 in
          let left : drop (position_or_len is_no_digit text) text ≡ rest = ap (λ k. drop k text) n ∙ drop-append-add whole rest 0 in
          let f : fraction_length (drop (position_or_len is_no_digit text) text) ≡ 0 = ap fraction_length left ∙ stop.1 in
          omega arith,
    )
mantissa_counted whole (b ∷ digits) rest all part =
    let text : List ℕ = whole ++ (b ∷ (digits ++ rest)) in
    let point : position_or_len is_no_digit (b ∷ (digits ++ rest)) ≡ 0 = stopped is_no_digit b (digits ++ rest) (ap is_no_digit part.0) in
    let w : position_or_len is_no_digit text ≡ length whole + position_or_len is_no_digit (b ∷ (digits ++ rest)) = digits_passed whole (b ∷ (digits ++ rest)) all in
    let n : position_or_len is_no_digit text ≡ length whole + 0 = w ∙ ap (λ k. length whole + k) point in
    let left : drop (position_or_len is_no_digit text) text ≡ b ∷ (digits ++ rest) = ap (λ k. drop k text) n ∙ drop-append-add whole (b ∷ (digits ++ rest)) 0 in
    let f : fraction_length (drop (position_or_len is_no_digit text) text) ≡ 1 + position_or_len is_no_digit (digits ++ rest) =
    ap fraction_length left ∙ ap (λ x. cond (eqb x 46) (1 + position_or_len is_no_digit (digits ++ rest)) 0) part.0 in
    let d : position_or_len is_no_digit (digits ++ rest) ≡ length digits + position_or_len is_no_digit rest = digits_passed digits rest part.1 in (
      omega arith,
      omega arith,
      λ stop. let s : position_or_len is_no_digit rest ≡ 0 = stop.0 in omega arith,
    )

decimal_least : (whole fraction rest : List ℕ) → AreDigits whole → IsFraction fraction → (1 ≤ length whole) ⊎ (2 ≤ length fraction)
    → (let d : ℕ = decimal_length (whole ++ (fraction ++ rest)) in
    (length whole + length fraction ≤ d) × (AreStopped rest → d ≡ length whole + length fraction))
decimal_least whole fraction rest digits part some =
    let text : List ℕ = whole ++ (fraction ++ rest) in
    let w : ℕ = position_or_len is_no_digit text in
    let all : ℕ = w + fraction_length (drop w text) in
    let c = mantissa_counted whole fraction rest digits part in
    let in_whole : length whole ≤ w = c.0 in
    let least : length whole + length fraction ≤ all = c.1 in
    by_test (λ d. (length whole + length fraction ≤ d) × (AreStopped rest → d ≡ length whole + length fraction)) (eqb w 0 && eqb all 1) 0 all
    (λ lone. let both = and_both _ _ lone in
    let z : w ≡ 0 = eqb-true w 0 both.0 in
    let o : all ≡ 1 = eqb-true all 1 both.1 in
    absurd (elim some as (λ _. ⊥) [ inl h ↦ omega arith | inr h ↦ omega arith ]))
    (λ _. (least, c.2))

exponent_stops : (b : ℕ) → (eqb b 101 || eqb b 69) ≡ true → (is_no_digit b ≡ true) × (eqb b 46 ≡ false)
exponent_stops b h = (grind (arith, nat_tests), grind (arith, nat_tests))

number_least : (bytes more : List ℕ) → IsNumber bytes → length bytes ≤ (number_front (bytes ++ more)).count
unfolding AreStopped
number_least bytes more n =
    let len : length bytes ≡ length (n.whole ++ (n.fraction ++ n.exponent)) = ap length n.is in
    let a : length (n.whole ++ (n.fraction ++ n.exponent)) ≡ length n.whole + length (n.fraction ++ n.exponent) = length-append n.whole (n.fraction ++ n.exponent) in
    let b : length (n.fraction ++ n.exponent) ≡ length n.fraction + length n.exponent = length-append n.fraction n.exponent in
    let text : List ℕ = n.whole ++ (n.fraction ++ (n.exponent ++ more)) in
    let regrouped : bytes ++ more ≡ text =
    ap (λ l. l ++ more) n.is ∙ (append_assoc n.whole (n.fraction ++ n.exponent) more ∙ ap (λ l. n.whole ++ l) (append_assoc n.fraction n.exponent more)) in
    let d = decimal_least n.whole n.fraction (n.exponent ++ more) n.digits n.part n.some in
    let least : length n.whole + length n.fraction ≤ decimal_length text = d.0 in
    let some : 1 ≤ length n.whole + length n.fraction = elim n.some [ inl h ↦ omega arith | inr h ↦ omega arith ] in
    let power : length n.exponent ≤ exponent_length (drop (decimal_length text) text) = by_power n.whole n.fraction n.exponent more n.power d.1 in
    subst (λ l. length bytes ≤ (number_front l).count) (sym regrouped)
    (by_test (λ (f : Front). length bytes ≤ f.count) (eqb (decimal_length text) 0) (fronted Malformed 0) (fronted Number (decimal_length text + exponent_length (drop (decimal_length text) text)))
    (λ zero. let z : decimal_length text ≡ 0 = eqb-true _ _ zero in absurd (omega arith))
    (λ _. omega arith))
  where
    by_power : (whole fraction exponent more : List ℕ) → IsExponent exponent → (let text : List ℕ = whole ++ (fraction ++ (exponent ++ more)) in
        ((position_or_len is_no_digit (exponent ++ more) ≡ 0) × (fraction_length (exponent ++ more) ≡ 0) → decimal_length text ≡ length whole + length fraction) → length exponent ≤ exponent_length (drop (decimal_length text) text))
    by_power whole fraction [] more power same = omega arith
    by_power whole fraction (e ∷ rest) more power same =
        let stops = exponent_stops e power.0 in
        let text : List ℕ = whole ++ (fraction ++ (e ∷ (rest ++ more))) in
        let d : decimal_length text ≡ length whole + length fraction =
        same (stopped is_no_digit e (rest ++ more) stops.0, ap (λ t. cond t (1 + position_or_len is_no_digit (rest ++ more)) 0) stops.1) in
        let left : drop (decimal_length text) text ≡ e ∷ (rest ++ more) =
        ap (λ k. drop k text) d ∙ (ap (λ l. drop (length whole + length fraction) l) (sym (append_assoc whole fraction (e ∷ (rest ++ more))))
        ∙ (ap (λ k. drop k ((whole ++ fraction) ++ e ∷ (rest ++ more))) (sym (length-append whole fraction)) ∙ drop-append_seam (whole ++ fraction) (e ∷ (rest ++ more)))) in
        subst (λ l. length (e ∷ rest) ≤ exponent_length l) (sym left) (exponent_least (e ∷ rest) more power)

-- a number begins with a digit or a `.`
number_first : (bytes : List ℕ) → IsNumber bytes → (b : ℕ) × (rest : List ℕ) × (bytes ≡ b ∷ rest) × (is_ascii_alphabetic b ≡ false) × ((is_ascii_digit b || eqb b 46) ≡ true)
number_first bytes n = by n.whole n.fraction n.exponent n.is n.digits n.part n.some where
  by : (whole fraction exponent : List ℕ) → bytes ≡ whole ++ (fraction ++ exponent) → AreDigits whole → IsFraction fraction → (1 ≤ length whole) ⊎ (2 ≤ length fraction)
      → (b : ℕ) × (rest : List ℕ) × (bytes ≡ b ∷ rest) × (is_ascii_alphabetic b ≡ false) × ((is_ascii_digit b || eqb b 46) ≡ true)
  by [] [] exponent is digits part some = absurd (elim some as (λ _. ⊥) [ inl h ↦ omega arith | inr h ↦ omega arith ])
  by [] (p ∷ rest) exponent is digits part some = (p, rest ++ exponent, is, ap is_ascii_alphabetic part.0, ap (λ b. is_ascii_digit b || eqb b 46) part.0)
  by (d ∷ whole) fraction exponent is digits part some =
      let digit : is_ascii_digit d ≡ true = (and_both _ _ digits).0 in
      (d, whole ++ (fraction ++ exponent), is, digit_no_letter d (no_other d digit), ap (λ t. t || eqb d 46) digit)

number_front_is : (b : ℕ) (rest : List ℕ) → is_ascii_alphabetic b ≡ false → (is_ascii_digit b || eqb b 46) ≡ true → number_front (b ∷ rest) ≡ front (b ∷ rest)
unfolding front
number_front_is b rest letter digit =
    sym ((λ i. cond (letter i) (fronted Word (1 + position_or_len is_outside_word rest)) (cond (digit i) (number_front (b ∷ rest)) (cond (eqb b 34) (quoted_front rest) (mark_front b rest)))))

number_counted : (bytes more : List ℕ) → IsNumber bytes → length bytes ≤ (front (bytes ++ more)).count
number_counted bytes more n =
    let f = number_first bytes n in
    let same : number_front (bytes ++ more) ≡ front (bytes ++ more) =
    subst (λ l. number_front (l ++ more) ≡ front (l ++ more)) (sym f.2) (number_front_is f.0 (f.1 ++ more) f.3 f.4) in
    subst (λ (g : Front). length bytes ≤ g.count) same (number_least bytes more n)

-- words and quoted texts
inside_word : (b : ℕ) → is_word_byte b ≡ true → is_outside_word b ≡ false
inside_word b h = ap not h

word_counted : (bytes more : List ℕ) → IsWord bytes → length bytes ≤ (front (bytes ++ more)).count
unfolding front
word_counted [] more h = absurd h
word_counted (b ∷ rest) more h =
    let p : position_or_len is_outside_word (rest ++ more) ≡ length rest + position_or_len is_outside_word more = passed is_outside_word is_word_byte inside_word rest more h.1 in
    subst (λ t. length (b ∷ rest)
    ≤ (cond t (fronted Word (1 + position_or_len is_outside_word (rest ++ more))) (cond (is_ascii_digit b || eqb b 46) (number_front (b ∷ (rest ++ more))) (cond (eqb b 34) (quoted_front (rest ++ more)) (mark_front b (rest ++ more))))).count)
    (sym h.0) (omega arith)

inside_quotes : (b : ℕ) → is_quotable b ≡ true → is_unquotable b ≡ false
inside_quotes b h = twice (is_unquotable b) h where
  twice : (t : Bool) → not t ≡ true → t ≡ false
  twice true h = absurd (false≢true h)
  twice false h = refl

quoted_counted : (bytes more : List ℕ) → IsQuoted bytes → length bytes ≤ (front (bytes ++ more)).count
unfolding front
quoted_counted bytes more q =
    let later : List ℕ = 34 ∷ more in
    let regrouped : bytes ++ more ≡ 34 ∷ (q.inside ++ later) = ap (λ l. l ++ more) q.is ∙ ap (λ l. 34 ∷ l) (append_assoc q.inside (34 ∷ []) more) in
    let p : position_or_len is_unquotable (q.inside ++ later) ≡ length q.inside + 0 = passed is_unquotable is_quotable inside_quotes q.inside later q.line in
    let n : position_or_len is_unquotable (q.inside ++ later) ≡ length q.inside = p ∙ omega arith in
    let left : drop (position_or_len is_unquotable (q.inside ++ later)) (q.inside ++ later) ≡ later = ap (λ k. drop k (q.inside ++ later)) n ∙ drop-append_seam q.inside later in
    let len : length bytes ≡ length (34 ∷ (q.inside ++ 34 ∷ [])) = ap length q.is in
    let a : length (q.inside ++ 34 ∷ []) ≡ length q.inside + 1 = length-append q.inside (34 ∷ []) in
    subst (λ l. length bytes ≤ (front l).count) (sym regrouped)
    (subst (λ t. length bytes ≤ (cond t (fronted Quoted (position_or_len is_unquotable (q.inside ++ later) + 2)) (fronted Malformed 0)).count) (sym (ap is_quote left)) (omega arith))

-- marks
mark_counted : (mark bytes more : List ℕ) → bytes ≡ mark → length mark ≤ (front (mark ++ more)).count → length bytes ≤ (front (bytes ++ more)).count
mark_counted mark bytes more is h = subst (λ l. length l ≤ (front (l ++ more)).count) (sym is) h

pub counted : (form : Form) (bytes more : List ℕ) → HasForm form bytes → length bytes ≤ (front (bytes ++ more)).count
unfolding front
counted Word bytes more h = word_counted bytes more h
counted Number bytes more h = number_counted bytes more h
counted Quoted bytes more h = quoted_counted bytes more h
counted Semicolon bytes more h = mark_counted (codes ";") bytes more h (omega arith)
counted Comma bytes more h = mark_counted (codes ",") bytes more h (omega arith)
counted LeftParenthesis bytes more h = mark_counted (codes "(") bytes more h (omega arith)
counted RightParenthesis bytes more h = mark_counted (codes ")") bytes more h (omega arith)
counted LeftBracket bytes more h = mark_counted (codes "[") bytes more h (omega arith)
counted RightBracket bytes more h = mark_counted (codes "]") bytes more h (omega arith)
counted LeftBrace bytes more h = mark_counted (codes "{") bytes more h (omega arith)
counted RightBrace bytes more h = mark_counted (codes "}") bytes more h (omega arith)
counted Plus bytes more h = mark_counted (codes "+") bytes more h (omega arith)
counted Minus bytes more h =
    mark_counted (codes "-") bytes more h (elim (begins_with 62 more) as (λ t. 1 ≤ (cond t (fronted Arrow 2) (fronted Minus 1)).count) [ true ↦ omega arith | false ↦ omega arith ])
counted Star bytes more h = mark_counted (codes "*") bytes more h (omega arith)
counted Slash bytes more h = mark_counted (codes "/") bytes more h (omega arith)
counted Caret bytes more h = mark_counted (codes "^") bytes more h (omega arith)
counted Arrow bytes more h = mark_counted (codes "->") bytes more h (omega arith)
counted DoubleEqual bytes more h = mark_counted (codes "==") bytes more h (omega arith)
counted Missing bytes more h = absurd h
counted Malformed bytes more h = absurd h

-- the first token
take_bytes : (text bytes later : List ℕ) (count : ℕ) → text ≡ bytes ++ later → count ≡ length bytes → take count text ≡ bytes
take_bytes text bytes later count is counted = (λ i. take (counted i) (is i)) ∙ (take-append-le (length bytes) bytes later (omega arith) ∙ take_all (length bytes) bytes (omega arith))

no_blank : (text : List ℕ) → (BeginsBlank text → ⊥) → blank_length text ≡ 0
no_blank [] h = refl
no_blank (b ∷ []) h =
    elim (is_separator b) as (λ s. is_separator b ≡ s → (let n : ℕ = cond s 1 0 in n) ≡ 0) [ true ↦ λ is. absurd (h is) | false ↦ λ _. refl ] refl
no_blank (b ∷ c ∷ rest) h =
    elim (is_separator b) as (λ s. is_separator b ≡ s → (let n : ℕ = cond s 1 (cond (eqb b 47 && eqb c 47) (2 + position_or_len is_newline rest) 0) in n) ≡ 0) [
      | true ↦ λ is. absurd (h (inl is))
      | false ↦ λ _. elim (eqb b 47 && eqb c 47) as (λ s. (eqb b 47 && eqb c 47) ≡ s → cond s (2 + position_or_len is_newline rest) 0 ≡ 0) [
        | true ↦ λ both. let t = and_both _ _ both in absurd (h (inr (eqb-true b 47 t.0, eqb-true c 47 t.1)))
        | false ↦ λ _. refl
      ] refl
    ] refl

pub blank_newline : (b : ℕ) (rest : List ℕ) → blank_length (b ∷ rest) ≡ 0 → b ≡ 10 → ⊥
blank_newline b rest none is =
    let one : blank_length (10 ∷ rest) ≡ 0 = ap (λ x. blank_length (x ∷ rest)) (sym is) ∙ none in absurd (omega arith)

front_none : (text : List ℕ) → blank_length text ≡ 0 → is_last (front text).form ≡ true → (front text).count ≡ 0
unfolding front
front_none [] none last = refl
front_none (b ∷ rest) none last = eqb-true _ 0 ((front_is_plain b rest (blank_newline b rest none)).some ∙ last)

first_same : {a b : TokenView} {us vs : List TokenView} → a ∷ us ≡ b ∷ vs → a ≡ b
first_same h = cc

pub begins_longest : (p : Position) → BeginsLongest p
begins_longest p begins t later is =
    let text : List ℕ = p.rest in
    let f : Front = front text in
    let none : blank_length text ≡ 0 = no_blank text begins in
    let s = front_sound text in
    let len : length text ≡ length s.bytes + length s.later = ap length s.is ∙ length-append s.bytes s.later in
    let count : f.count ≡ length s.bytes = s.counted in
    let all = lex-token p.line p.column text none (omega arith) in
    let same : placed f (record { line = p.line; column = p.column }) text ≡ t = first_same (sym all ∙ is) in
    let bytes : s.bytes ≡ t.bytes = sym (take_bytes text s.bytes s.later f.count s.is s.counted) ∙ ap (λ (u : TokenView). u.bytes) same in
    let form : f.form ≡ t.form = ap (λ (u : TokenView). u.form) same in
    record {
      place = (sym (ap (λ (u : TokenView). u.line) same), sym (ap (λ (u : TokenView). u.column) same));
      front = (s.later, s.is ∙ ap (λ l. l ++ s.later) bytes);
      formed = λ inner. subst (λ l. HasForm t.form l) bytes (subst (λ (g : Form). HasForm g s.bytes) form (s.formed (ap is_last form ∙ inner)));
      longest = λ form other more at has. (let n : length other ≤ (front (other ++ more)).count = counted form other more has in
          let m : (front (other ++ more)).count ≡ f.count = ap (λ l. (front l).count) (sym at) in
          let b : length s.bytes ≡ length t.bytes = ap length bytes in omega arith);
      none = λ last. sym bytes ∙ nil_from_length s.bytes (sym count ∙ front_none text none (ap is_last form ∙ last));
      ended = λ missing. nil_from_length text (eqb-true (length text) 0 (end_there p none ∙ (ap (λ l. eqb (number_of (first_form l)) 18) is ∙ ap (λ g. eqb (number_of g) 18) missing)));
    }
