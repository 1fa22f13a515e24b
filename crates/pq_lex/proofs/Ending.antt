-- What stands before the last `;` of a text is the same whatever follows the text.
use Rattle.std.proofs.Common.{◌≡◌, ◌⊎◌, ℕ, zero, suc, ◌+◌, ◌-◌, ◌<◌, ◌≤◌, Bool, true, false, not, ◌&&◌, ◌||◌, eqb, cond, List, [], ◌∷◌, ◌++◌, length, take, drop, get_or, refl, sym, ap, ◌∙◌, subst, inl, inr, arith, length-append, length-drop, append-nil}
use Rattle.std.specs.List.{position_or_len}
use Rattle.std.specs.Char.{is_ascii_digit, is_ascii_alphabetic}
use Rattle.std.proofs.lemmas.List.{drop-append-le, take-append-le, drop-drop, take_more}
use Rattle.std.proofs.lemmas.Bool.{false≢true, cases_lt, eqb-false}
use Rattle.std.proofs.Math.Numerals.{one-add}
use Rattle.std.proofs.Math.Seq.{drop-append-add}
use borrow.Author.Tests.{eqb-true}
use Rattle.pq_lex.specs.declared.token.Form.{Form}
use Rattle.pq_lex.specs.declared.token.Form.TheVariants.{Word, Number, Quoted, Semicolon, Comma, LeftParenthesis, RightParenthesis, LeftBracket, RightBracket, LeftBrace, RightBrace, Plus, Minus, Star, Slash, Caret, Arrow, DoubleEqual, Missing, Malformed}
use Rattle.pq_lex.specs.declared.ends.Mode.{Mode}
use Rattle.pq_lex.specs.declared.ends.Mode.TheVariants.{Code, AfterSlash, Comment, Quote}
use Rattle.pq_lex.specs.Token.{TokenView, number_of, is_last}
use Rattle.pq_lex.specs.Front.{is_outside_word, is_no_digit, is_newline, is_unquotable, is_separator, comment_length, blank_length, Front, fronted, some_digits, exponent_digits, exponent_length, fraction_length, decimal_length, number_front, is_quote, quoted_front, begins_with, mark_front, front}
use Rattle.pq_lex.specs.Lex.{Place, placed, lex, Position, moved, next_line, tokens, from_token}
use Rattle.pq_lex.specs.Added.{extended, after_blank}
use Rattle.pq_lex.specs.Ends.{after_code, after_byte, mode_after, IsEnded, EndsAt, spliced, missing_at, ByLast, AreClosed, EndsForGood}
use Rattle.pq_lex.proofs.Plain.{front_is_plain}
use Rattle.pq_lex.proofs.Lexing.{lex-token, skip-blank}
use Rattle.pq_lex.proofs.Added.{position_more, fraction_more, mark_more, blank_law, blank_none}

-- one byte more ends a text
pub ended_more : (m : Mode) (text : List ℕ) (b : ℕ) → after_byte (mode_after m text) b ≡ Code → b ≡ 59 → IsEnded m (text ++ b ∷ [])
ended_more m [] b code is = (code, is)
ended_more m (x ∷ []) b code is = (code, is)
ended_more m (x ∷ y ∷ rest) b code is = ended_more (after_byte m x) (y ∷ rest) b code is

-- a text that ends with an end
pub ended_after : (m : Mode) (text more : List ℕ) → IsEnded (mode_after m text) more → IsEnded m (text ++ more)
ended_after m [] more h = h
ended_after m (x ∷ []) [] h = absurd h
ended_after m (x ∷ []) (y ∷ more) h = h
ended_after m (x ∷ y ∷ rest) more h = ended_after (after_byte m x) (y ∷ rest) more h

-- the mode behind two texts
pub mode_after-append : (m : Mode) (text more : List ℕ) → mode_after m (text ++ more) ≡ mode_after (mode_after m text) more
mode_after-append m [] more = refl
mode_after-append m (x ∷ rest) more = mode_after-append (after_byte m x) rest more

-- the mode behind an end
pub mode_ended : (m : Mode) (text : List ℕ) → IsEnded m text → mode_after m text ≡ Code
mode_ended m [] h = absurd h
mode_ended m (x ∷ []) h = h.0
mode_ended m (x ∷ y ∷ rest) h = mode_ended (after_byte m x) (y ∷ rest) h

-- one step of the search for the last end
pub step_mode : (start m now : Mode) (text : List ℕ) (i : ℕ) → i < length text → m ≡ mode_after start (take i text) → now ≡ after_byte m (get_or text i 0)
    → now ≡ mode_after start (take (i + 1) text)
step_mode start m now text i lt so_far is =
    is ∙ ((λ j. after_byte (so_far j) (get_or text i 0))
    ∙ sym (ap (mode_after start) (take_more text i 0 lt) ∙ mode_after-append start (take i text) (get_or text i 0 ∷ [])))

pub step_ended : (start m : Mode) (text : List ℕ) (i old new : ℕ) → i < length text → m ≡ mode_after start (take i text)
    → EndsAt (i + 1) (get_or text i 0) (after_byte m (get_or text i 0)) old new → (1 ≤ old → IsEnded start (take old text)) → 1 ≤ new → IsEnded start (take new text)
step_ended start m text i old new lt so_far at before =
    elim at as (λ _. 1 ≤ new → IsEnded start (take new text)) [
      | inl here ↦ λ some.
          let whole : IsEnded start (take i text ++ get_or text i 0 ∷ []) = ended_more start (take i text) (get_or text i 0) (ap (λ k. after_byte k (get_or text i 0)) (sym so_far) ∙ here.2) here.1 in
          subst (λ k. IsEnded start (take k text)) (sym here.0) (subst (IsEnded start) (sym (take_more text i 0 lt)) whole)
      | inr (same, _) ↦ λ some. subst (λ k. IsEnded start (take k text)) (sym same) (before (subst (λ k. 1 ≤ k) same some))
    ]

ended_byte : (m : Mode) (text : List ℕ) (b : ℕ) → IsEnded m (text ++ b ∷ []) → (after_byte (mode_after m text) b ≡ Code) × (b ≡ 59)
ended_byte m [] b h = h
ended_byte m (x ∷ []) b h = h
ended_byte m (x ∷ y ∷ rest) b h = ended_byte (after_byte m x) (y ∷ rest) b h

pub step_last : (start m : Mode) (text : List ℕ) (i old new : ℕ) → i < length text → m ≡ mode_after start (take i text)
    → EndsAt (i + 1) (get_or text i 0) (after_byte m (get_or text i 0)) old new → ((k : ℕ) → old ≤ k → k < i → IsEnded start (take (k + 1) text) → ⊥)
    → (k : ℕ) → new ≤ k → k < i + 1 → IsEnded start (take (k + 1) text) → ⊥
step_last start m text i old new lt so_far at before k from upto =
    elim at as (λ _. IsEnded start (take (k + 1) text) → ⊥) [
      | inl here ↦ λ _. let e : new ≡ i + 1 = here.0 in absurd (omega arith)
      | inr (same, other) ↦ elim (cases_lt k i) as (λ _. IsEnded start (take (k + 1) text) → ⊥) [
        | inl less ↦ before k (omega arith) less
        | inr le ↦ λ h.
            let e : k ≡ i = omega arith in
            let here : IsEnded start (take i text ++ get_or text i 0 ∷ []) = subst (IsEnded start) (take_more text i 0 lt) (subst (λ j. IsEnded start (take (j + 1) text)) e h) in
            let b = ended_byte start (take i text) (get_or text i 0) here in
            other b.1 (ap (λ n. after_byte n (get_or text i 0)) so_far ∙ b.0)
      ]
    ]

-- bytes that are no quote, no slash and no `;`
differs : (p : ℕ → Bool) (b c : ℕ) → p b ≡ false → p c ≡ true → eqb b c ≡ false
differs p b c fails passes =
    elim (eqb b c) as (λ v. eqb b c ≡ v → eqb b c ≡ false) [
      | true ↦ λ e. absurd (false≢true (sym fails ∙ (ap p (eqb-true b c e) ∙ passes)))
      | false ↦ λ e. e
    ] refl

code_stays : (p : ℕ → Bool) (b : ℕ) → p b ≡ false → p 34 ≡ true → p 47 ≡ true → after_code b ≡ Code
code_stays p b fails quote slash = λ i. cond (differs p b 34 fails quote i) Quote (cond (differs p b 47 fails slash i) AfterSlash Code)

ended_some : (m : Mode) (text : List ℕ) → IsEnded m text → 1 ≤ length text
ended_some m [] h = absurd h
ended_some m (b ∷ rest) h = omega arith

next_ended : (m : Mode) (b : ℕ) (rest : List ℕ) → IsEnded m (b ∷ rest) → (b ≡ 59 → ⊥) → IsEnded (after_byte m b) rest
next_ended m b [] h other = absurd (other h.1)
next_ended m b (c ∷ rest) h other = h

to_code : (p : ℕ → Bool) (b : ℕ) (rest : List ℕ) → p b ≡ false → p 34 ≡ true → p 47 ≡ true → p 59 ≡ true → IsEnded Code (b ∷ rest) → IsEnded Code rest
to_code p b rest fails quote slash semicolon h =
    subst (λ m. IsEnded m rest) (code_stays p b fails quote slash) (next_ended Code b rest h (λ e. false≢true (sym fails ∙ (ap p e ∙ semicolon))))

-- Some bytes are gone over among the tokens, and not all.
pub record Past (n : ℕ) (text : List ℕ) : Type 0 where
  pub within : n < length text
  pub ended : IsEnded Code (drop n text)

past-none : (text : List ℕ) → IsEnded Code text → Past 0 text
past-none text h = let some : 1 ≤ length text = ended_some Code text h in record { within = omega arith; ended = h }

past-cons : (b n : ℕ) (rest : List ℕ) → Past n rest → Past (1 + n) (b ∷ rest)
past-cons b n rest p =
    let lt : n < length rest = p.within in
    record { within = omega arith; ended = subst (λ k. IsEnded Code (drop k (b ∷ rest))) (sym (one-add n)) p.ended }

past-join : (n m : ℕ) (text : List ℕ) → Past n text → Past m (drop n text) → Past (n + m) text
past-join n m text p q =
    let left : length (drop n text) ≡ length text - n = length-drop n text in
    let a : n < length text = p.within in
    let b : m < length (drop n text) = q.within in
    record { within = omega arith; ended = subst (IsEnded Code) (drop-drop m n text) q.ended }

not_true : (b : Bool) → not b ≡ true → b ≡ false
not_true true h = absurd (false≢true h)
not_true false h = refl

past-before : (p : ℕ → Bool) (text : List ℕ) → p 34 ≡ true → p 47 ≡ true → p 59 ≡ true → IsEnded Code text → Past (position_or_len p text) text
past-before p [] quote slash semicolon h = absurd h
past-before p (x ∷ xs) quote slash semicolon h =
    elim (not (p x)) as (λ b. not (p x) ≡ b → Past (cond b (1 + position_or_len p xs) 0) (x ∷ xs)) [
      | true ↦ λ is. past-cons x _ xs (past-before p xs quote slash semicolon (to_code p x xs (not_true _ is) quote slash semicolon h))
      | false ↦ λ _. past-none (x ∷ xs) h
    ] refl

by_test : {A : Type 0} (P : A → Type 0) (b : Bool) (x y : A) → (b ≡ true → P x) → (b ≡ false → P y) → P (cond b x y)
by_test P true x y pass fail = pass refl
by_test P false x y pass fail = fail refl

-- numbers
past-fraction : (text : List ℕ) → IsEnded Code text → Past (fraction_length text) text
past-fraction [] h = absurd h
past-fraction (b ∷ rest) h =
    by_test (λ n. Past n (b ∷ rest)) (eqb b 46) (1 + position_or_len is_no_digit rest) 0
    (λ is. past-cons b _ rest (past-before is_no_digit rest refl refl refl (to_code (λ c. not (eqb c 46)) b rest (ap not is) refl refl refl h)))
    (λ _. past-none (b ∷ rest) h)

past-decimal : (text : List ℕ) → IsEnded Code text → Past (decimal_length text) text
past-decimal text h =
    let whole = position_or_len is_no_digit text in
    let all = whole + fraction_length (drop whole text) in
    let p : Past whole text = past-before is_no_digit text refl refl refl h in
    by_test (λ n. Past n text) (eqb whole 0 && eqb all 1) 0 all
    (λ _. past-none text h)
    (λ _. past-join whole (fraction_length (drop whole text)) text p (past-fraction (drop whole text) p.ended))

past-exponent_digits : (e : ℕ) (rest : List ℕ) → IsEnded Code (e ∷ rest) → IsEnded Code rest → Past (exponent_digits rest) (e ∷ rest)
past-exponent_digits e [] all h = absurd h
past-exponent_digits e (b ∷ rest) all h =
    by_test (λ n. Past n (e ∷ b ∷ rest)) (eqb b 43 || eqb b 45) (some_digits 2 rest) (some_digits 1 (b ∷ rest))
    (λ is. by_test (λ n. Past n (e ∷ b ∷ rest)) (eqb (position_or_len is_no_digit rest) 0) 0 (2 + position_or_len is_no_digit rest)
    (λ _. past-none (e ∷ b ∷ rest) all)
    (λ _. let regrouped : 1 + (1 + position_or_len is_no_digit rest) ≡ 2 + position_or_len is_no_digit rest = omega arith in
    let inner : IsEnded Code rest = to_code (λ c. not (eqb c 43 || eqb c 45)) b rest (ap not is) refl refl refl h in
    subst (λ i. Past i (e ∷ b ∷ rest)) regrouped (past-cons e _ (b ∷ rest) (past-cons b _ rest (past-before is_no_digit rest refl refl refl inner)))))
    (λ _. by_test (λ n. Past n (e ∷ b ∷ rest)) (eqb (position_or_len is_no_digit (b ∷ rest)) 0) 0 (1 + position_or_len is_no_digit (b ∷ rest))
    (λ _. past-none (e ∷ b ∷ rest) all)
    (λ _. past-cons e _ (b ∷ rest) (past-before is_no_digit (b ∷ rest) refl refl refl h)))

past-exponent : (text : List ℕ) → IsEnded Code text → Past (exponent_length text) text
past-exponent [] h = absurd h
past-exponent (b ∷ rest) h =
    by_test (λ n. Past n (b ∷ rest)) (eqb b 101 || eqb b 69) (exponent_digits rest) 0
    (λ is. past-exponent_digits b rest h (to_code (λ c. not (eqb c 101 || eqb c 69)) b rest (ap not is) refl refl refl h))
    (λ _. past-none (b ∷ rest) h)

decimal_same : (text more : List ℕ) → IsEnded Code text → decimal_length (text ++ more) ≡ decimal_length text
decimal_same text more h =
    let whole : ℕ = position_or_len is_no_digit text in
    let part : ℕ = fraction_length (drop whole text) in
    let p : Past whole text = past-before is_no_digit text refl refl refl h in
    let lt : whole < length text = p.within in
    let q : Past part (drop whole text) = past-fraction (drop whole text) p.ended in
    let qlt : part < length (drop whole text) = q.within in
    let w : position_or_len is_no_digit (text ++ more) ≡ whole = position_more is_no_digit text more lt in
    let f : fraction_length (drop whole (text ++ more)) ≡ part =
    ap fraction_length (drop-append-le whole text more (omega arith)) ∙ fraction_more (drop whole text) more (omega arith) in
    let e : position_or_len is_no_digit (text ++ more) + fraction_length (drop (position_or_len is_no_digit (text ++ more)) (text ++ more)) ≡ whole + part =
    ap (λ n. n + fraction_length (drop n (text ++ more))) w ∙ ap (λ m. whole + m) f in
    λ i. cond (eqb (w i) 0 && eqb (e i) 1) 0 (e i)

some_same : (k : ℕ) (rest more : List ℕ) → IsEnded Code rest → some_digits k (rest ++ more) ≡ some_digits k rest
some_same k rest more h =
    let p : Past (position_or_len is_no_digit rest) rest = past-before is_no_digit rest refl refl refl h in
    let e : position_or_len is_no_digit (rest ++ more) ≡ position_or_len is_no_digit rest = position_more is_no_digit rest more p.within in
    λ i. cond (eqb (e i) 0) 0 (k + e i)

exponent_digits_same : (rest more : List ℕ) → IsEnded Code rest → exponent_digits (rest ++ more) ≡ exponent_digits rest
exponent_digits_same [] more h = absurd h
exponent_digits_same (b ∷ rest) more h =
    elim (eqb b 43 || eqb b 45) as (λ t. (eqb b 43 || eqb b 45) ≡ t → cond t (some_digits 2 (rest ++ more)) (some_digits 1 ((b ∷ rest) ++ more)) ≡ cond t (some_digits 2 rest) (some_digits 1 (b ∷ rest))) [
      | true ↦ λ is. some_same 2 rest more (to_code (λ c. not (eqb c 43 || eqb c 45)) b rest (ap not is) refl refl refl h)
      | false ↦ λ _. some_same 1 (b ∷ rest) more h
    ] refl

exponent_same : (text more : List ℕ) → IsEnded Code text → exponent_length (text ++ more) ≡ exponent_length text
exponent_same [] more h = absurd h
exponent_same (b ∷ rest) more h =
    elim (eqb b 101 || eqb b 69) as (λ t. (eqb b 101 || eqb b 69) ≡ t → cond t (exponent_digits (rest ++ more)) 0 ≡ cond t (exponent_digits rest) 0) [
      | true ↦ λ is. exponent_digits_same rest more (to_code (λ c. not (eqb c 101 || eqb c 69)) b rest (ap not is) refl refl refl h)
      | false ↦ λ _. refl
    ] refl

number_with : ℕ → List ℕ → Front
number_with n text = cond (eqb n 0) (fronted Malformed 0) (fronted Number (n + exponent_length (drop n text)))

number_same : (text more : List ℕ) → IsEnded Code text → number_front (text ++ more) ≡ number_front text
unfolding number_with
number_same text more h =
    let d : ℕ = decimal_length text in
    let p : Past d text = past-decimal text h in
    let lt : d < length text = p.within in
    let cut : drop d (text ++ more) ≡ drop d text ++ more = drop-append-le d text more (omega arith) in
    ap (λ n. number_with n (text ++ more)) (decimal_same text more h)
    ∙ ap (λ n. cond (eqb d 0) (fronted Malformed 0) (fronted Number (d + n))) (ap exponent_length cut ∙ exponent_same (drop d text) more p.ended)

-- quoted texts and comments
quote_code : Quote ≡ Code → ⊥
quote_code h = cc

comment_code : Comment ≡ Code → ⊥
comment_code h = cc

abbrev Closes : List ℕ → Type 0
Closes text = (position_or_len is_unquotable text < length text) × IsEnded Code (drop (1 + position_or_len is_unquotable text) text)

quote_goes : (x : ℕ) (xs : List ℕ) → is_unquotable x ≡ false → IsEnded Quote (x ∷ xs) → IsEnded Quote xs
quote_goes x [] is h = absurd (quote_code (sym (ap (λ t. cond t Code Quote) is) ∙ h.0))
quote_goes x (y ∷ ys) is h = subst (λ m. IsEnded m (y ∷ ys)) (ap (λ t. cond t Code Quote) is) h

quote_past : (text : List ℕ) → IsEnded Quote text → Closes text
quote_past [] h = absurd h
quote_past (x ∷ xs) h =
    elim (is_unquotable x) as (λ b. is_unquotable x ≡ b → (let n : ℕ = cond (not b) (1 + position_or_len is_unquotable xs) 0 in (n < length (x ∷ xs)) × IsEnded Code (drop (1 + n) (x ∷ xs)))) [
      | true ↦ λ is. (
        omega arith,
        subst (λ m. IsEnded m xs) (ap (λ t. cond t Code Quote) is) (next_ended Quote x xs h (λ e. false≢true (sym (ap is_unquotable e) ∙ is))),
      )
      | false ↦ λ is.
          let c : Closes xs = quote_past xs (quote_goes x xs is h) in
          let lt : position_or_len is_unquotable xs < length xs = c.0 in (
            omega arith,
            subst (λ k. IsEnded Code (drop k (x ∷ xs))) (sym (one-add (1 + position_or_len is_unquotable xs))) c.1,
          )
    ] refl

abbrev Continues : List ℕ → Type 0
Continues text = (position_or_len is_newline text < length text) × IsEnded Code (drop (position_or_len is_newline text) text)

comment_goes : (x : ℕ) (xs : List ℕ) → is_newline x ≡ false → IsEnded Comment (x ∷ xs) → IsEnded Comment xs
comment_goes x [] is h = absurd (comment_code (sym (ap (λ t. cond t Code Comment) is) ∙ h.0))
comment_goes x (y ∷ ys) is h = subst (λ m. IsEnded m (y ∷ ys)) (ap (λ t. cond t Code Comment) is) h

ten_is_other : (x : ℕ) → x ≡ 10 → x ≡ 59 → ⊥
ten_is_other x a b = omega arith

newline_goes : (x : ℕ) (xs : List ℕ) → is_newline x ≡ true → IsEnded Comment (x ∷ xs) → IsEnded Code (x ∷ xs)
newline_goes x [] is h = absurd (ten_is_other x (eqb-true x 10 is) h.1)
newline_goes x (y ∷ ys) is h = subst (λ m. IsEnded m (y ∷ ys)) (ap (λ t. cond t Code Comment) is ∙ sym (ap after_code (eqb-true x 10 is))) h

comment_past : (text : List ℕ) → IsEnded Comment text → Continues text
comment_past [] h = absurd h
comment_past (x ∷ xs) h =
    elim (is_newline x) as (λ b. is_newline x ≡ b → (let n : ℕ = cond (not b) (1 + position_or_len is_newline xs) 0 in (n < length (x ∷ xs)) × IsEnded Code (drop n (x ∷ xs)))) [
      | true ↦ λ is. (omega arith, newline_goes x xs is h)
      | false ↦ λ is.
          let c : Continues xs = comment_past xs (comment_goes x xs is h) in
          let lt : position_or_len is_newline xs < length xs = c.0 in (
            omega arith,
            subst (λ k. IsEnded Code (drop k (x ∷ xs))) (sym (one-add (position_or_len is_newline xs))) c.1,
          )
    ] refl

-- what is skipped as one
double_slash : (r : List ℕ) → IsEnded AfterSlash (47 ∷ r) → IsEnded Comment r
double_slash [] h = absurd (comment_code h.0)
double_slash (x ∷ xs) h = h

past-comment : (r : List ℕ) → IsEnded AfterSlash (47 ∷ r) → Past (2 + position_or_len is_newline r) (47 ∷ 47 ∷ r)
past-comment r h =
    let c : Continues r = comment_past r (double_slash r h) in
    let lt : position_or_len is_newline r < length r = c.0 in
    let n : ℕ = position_or_len is_newline r in
    let two : suc (suc n) ≡ 2 + n = omega arith in
    record { within = omega arith; ended = subst (λ k. IsEnded Code (drop k (47 ∷ 47 ∷ r))) two c.1 }

and_both : (a b : Bool) → (a && b) ≡ true → (a ≡ true) × (b ≡ true)
and_both true b h = (refl, h)
and_both false b h = absurd (false≢true h)

past-blank : (text : List ℕ) → 1 ≤ blank_length text → IsEnded Code text → Past (blank_length text) text
past-blank [] some h = absurd h
past-blank (b ∷ rest) some h =
    elim (is_separator b) as (λ t. is_separator b ≡ t → 1 ≤ cond t 1 (comment_length (b ∷ rest)) → Past (cond t 1 (comment_length (b ∷ rest))) (b ∷ rest)) [
      | true ↦ λ is _. let inner : IsEnded Code rest = to_code (λ c. not (is_separator c)) b rest (ap not is) refl refl refl h in past-cons b 0 rest (past-none rest inner)
      | false ↦ λ is. commented b rest h
    ] refl some
  where
    slashes : (b c : ℕ) (r : List ℕ) → b ≡ 47 → c ≡ 47 → IsEnded Code (b ∷ c ∷ r) → Past (2 + position_or_len is_newline r) (b ∷ c ∷ r)
    slashes b c r e f h =
        subst (λ (l : List ℕ). Past (2 + position_or_len is_newline r) l) (λ i. sym e i ∷ sym f i ∷ r) (past-comment r (subst (λ (l : List ℕ). IsEnded Code l) (λ i. e i ∷ f i ∷ r) h))

    commented : (b : ℕ) (rest : List ℕ) → IsEnded Code (b ∷ rest) → 1 ≤ comment_length (b ∷ rest) → Past (comment_length (b ∷ rest)) (b ∷ rest)
    commented b [] h some = absurd (omega arith)
    commented b (c ∷ r) h some =
        elim (eqb b 47 && eqb c 47) as (λ t. (eqb b 47 && eqb c 47) ≡ t → 1 ≤ cond t (2 + position_or_len is_newline r) 0 → Past (cond t (2 + position_or_len is_newline r) 0) (b ∷ c ∷ r)) [
          | true ↦ λ is _. let both = and_both _ _ is in slashes b c r (eqb-true b 47 both.0) (eqb-true c 47 both.1) h
          | false ↦ λ is some. absurd (omega arith)
        ] refl some

-- The token at the start is malformed, or the whole text, or some bytes of it.
Next : Front → List ℕ → Type 0
Next f text = (f ≡ fronted Malformed 0) ⊎ ((text ≡ 59 ∷ []) ⊎ ((is_last f.form ≡ false) × Past f.count text))

-- It stays whatever follows.
record Stays (f : Front) (text : List ℕ) (with_more : List ℕ → Front) : Type 0 where
  same : (more : List ℕ) → with_more more ≡ f
  next : Next f text

stays_by : (b : Bool) (text : List ℕ) (x y : Front) (g h : List ℕ → Front) → (b ≡ true → Stays x text g) → (b ≡ false → Stays y text h)
    → Stays (cond b x y) text (λ more. cond b (g more) (h more))
stays_by true text x y g h pass fail = pass refl
stays_by false text x y g h pass fail = fail refl

stays-word : (b : ℕ) (rest : List ℕ) → is_ascii_alphabetic b ≡ true → IsEnded Code (b ∷ rest)
    → Stays (fronted Word (1 + position_or_len is_outside_word rest)) (b ∷ rest) (λ more. fronted Word (1 + position_or_len is_outside_word (rest ++ more)))
unfolding Next
stays-word b rest is h =
    let inner : IsEnded Code rest = to_code (λ c. not (is_ascii_alphabetic c)) b rest (ap not is) refl refl refl h in
    let p : Past (position_or_len is_outside_word rest) rest = past-before is_outside_word rest refl refl refl inner in
    record {
      same = λ more. ap (λ n. fronted Word (1 + n)) (position_more is_outside_word rest more p.within);
      next = inr (inr (refl, past-cons b _ rest p));
    }

stays-number : (text : List ℕ) → IsEnded Code text → Stays (number_front text) text (λ more. number_front (text ++ more))
unfolding Next
stays-number text h =
    let d : ℕ = decimal_length text in
    let p : Past d text = past-decimal text h in
    record {
      same = λ more. number_same text more h;
      next = by_test (λ f. Next f text) (eqb d 0) (fronted Malformed 0) (fronted Number (d + exponent_length (drop d text)))
          (λ _. inl refl)
          (λ _. inr (inr (refl, past-join d (exponent_length (drop d text)) text p (past-exponent (drop d text) p.ended))));
    }

quote_stays : (l more : List ℕ) → 1 ≤ length l → is_quote (l ++ more) ≡ is_quote l
quote_stays [] more some = absurd (omega arith)
quote_stays (b ∷ l) more some = refl

stays-quoted : (b : ℕ) (rest : List ℕ) → IsEnded Quote rest → Stays (quoted_front rest) (b ∷ rest) (λ more. quoted_front (rest ++ more))
unfolding Next
stays-quoted b rest h =
    let inside : ℕ = position_or_len is_unquotable rest in
    let c : Closes rest = quote_past rest h in
    let lt : inside < length rest = c.0 in
    let left : length (drop inside rest) ≡ length rest - inside = length-drop inside rest in
    let after_left : length (drop (1 + inside) rest) ≡ length rest - (1 + inside) = length-drop (1 + inside) rest in
    let some : 1 ≤ length (drop (1 + inside) rest) = ended_some Code (drop (1 + inside) rest) c.1 in
    let regrouped : suc (1 + inside) ≡ inside + 2 = omega arith in
    record {
      same = λ more.
          let e : position_or_len is_unquotable (rest ++ more) ≡ inside = position_more is_unquotable rest more lt in
          let q : is_quote (drop (position_or_len is_unquotable (rest ++ more)) (rest ++ more)) ≡ is_quote (drop inside rest) =
          ap (λ n. is_quote (drop n (rest ++ more))) e ∙ (ap is_quote (drop-append-le inside rest more (omega arith)) ∙ quote_stays (drop inside rest) more (omega arith)) in
          λ i. cond (q i) (fronted Quoted (e i + 2)) (fronted Malformed 0);
      next = by_test (λ f. Next f (b ∷ rest)) (is_quote (drop inside rest)) (fronted Quoted (inside + 2)) (fronted Malformed 0)
          (λ _. inr (inr (refl, record { within = omega arith; ended = subst (λ k. IsEnded Code (drop k (b ∷ rest))) regrouped c.1 })))
          (λ _. inl refl);
    }

-- marks
past-one : (c b : ℕ) (rest : List ℕ) → eqb b c ≡ true → eqb c 34 ≡ false → eqb c 47 ≡ false → eqb c 59 ≡ false → IsEnded Code (b ∷ rest) → Past 1 (b ∷ rest)
past-one c b rest is quote slash semicolon h =
    let inner : IsEnded Code rest = to_code (λ x. not (eqb x c)) b rest (ap not is) (ap not (other 34 quote)) (ap not (other 47 slash)) (ap not (other 59 semicolon)) h in
    past-cons b 0 rest (past-none rest inner)
  where
    other : (d : ℕ) → eqb c d ≡ false → eqb d c ≡ false
    other d e = elim (eqb d c) as (λ v. eqb d c ≡ v → eqb d c ≡ false) [
      | true ↦ λ is. absurd (eqb-false c d e (sym (eqb-true d c is)))
      | false ↦ λ z. z
    ] refl

next-one : (c b : ℕ) (rest : List ℕ) (form : Form) → is_last form ≡ false → eqb c 34 ≡ false → eqb c 47 ≡ false → eqb c 59 ≡ false → IsEnded Code (b ∷ rest) → eqb b c ≡ true → Next (fronted form 1) (b ∷ rest)
unfolding Next
next-one c b rest form inside quote slash semicolon h is = inr (inr (inside, past-one c b rest is quote slash semicolon h))

next-semicolon : (b : ℕ) (rest : List ℕ) → IsEnded Code (b ∷ rest) → eqb b 59 ≡ true → Next (fronted Semicolon 1) (b ∷ rest)
unfolding Next
next-semicolon b [] h is = inr (inl (ap (λ x. let l : List ℕ = x ∷ [] in l) (eqb-true b 59 is)))
next-semicolon b (c ∷ r) h is = inr (inr (refl, past-cons b 0 (c ∷ r) (past-none (c ∷ r) (subst (λ m. IsEnded m (c ∷ r)) (ap after_code (eqb-true b 59 is)) h))))

slash_is_code : (c : ℕ) (r : List ℕ) → eqb c 47 ≡ false → IsEnded AfterSlash (c ∷ r) → IsEnded Code (c ∷ r)
slash_is_code c [] is h = (ap (λ t. cond t Comment (after_code c)) (sym is) ∙ h.0, h.1)
slash_is_code c (d ∷ r) is h = subst (λ m. IsEnded m (d ∷ r)) (ap (λ t. cond t Comment (after_code c)) is) h

next-slash : (b : ℕ) (rest : List ℕ) → blank_length (b ∷ rest) ≡ 0 → IsEnded Code (b ∷ rest) → eqb b 47 ≡ true → Next (fronted Slash 1) (b ∷ rest)
unfolding Next
next-slash b [] none h is = absurd (let e : b ≡ 47 = eqb-true b 47 is in let f : b ≡ 59 = h.1 in omega arith)
next-slash b (c ∷ r) none h is =
    let e : b ≡ 47 = eqb-true b 47 is in
    let alone : blank_length (47 ∷ c ∷ r) ≡ 0 = ap (λ x. blank_length (x ∷ c ∷ r)) (sym e) ∙ none in
    let other : eqb c 47 ≡ false = elim (eqb c 47) as (λ t. eqb c 47 ≡ t → cond t (2 + position_or_len is_newline r) 0 ≡ 0 → eqb c 47 ≡ false) [ true ↦ λ _ z. absurd (omega arith) | false ↦ λ f _. f ] refl alone in
    inr (inr (refl, past-cons b 0 (c ∷ r) (past-none (c ∷ r) (slash_is_code c r other (subst (λ m. IsEnded m (c ∷ r)) (ap after_code e) h)))))

next-two : (c d b : ℕ) (rest : List ℕ) (form : Form) → is_last form ≡ false → eqb c 34 ≡ false → eqb c 47 ≡ false → eqb c 59 ≡ false → eqb d 34 ≡ false → eqb d 47 ≡ false → eqb d 59 ≡ false
    → IsEnded Code (b ∷ rest) → eqb b c ≡ true → begins_with d rest ≡ true → Next (fronted form 2) (b ∷ rest)
unfolding Next
next-two c d b [] form inside q s e q' s' e' h is next = absurd (false≢true next)
next-two c d b (x ∷ r) form inside q s e q' s' e' h is next =
    let one : Past 1 (b ∷ x ∷ r) = past-one c b (x ∷ r) is q s e h in
    let two : Past 1 (x ∷ r) = past-one d x r next q' s' e' one.ended in
    inr (inr (inside, past-join 1 1 (b ∷ x ∷ r) one two))

next-mark : (b : ℕ) (rest : List ℕ) → blank_length (b ∷ rest) ≡ 0 → IsEnded Code (b ∷ rest) → Next (mark_front b rest) (b ∷ rest)
unfolding Next
next-mark b rest none h =
    let P : Front → Type 0 = λ f. Next f (b ∷ rest) in
    by_test P (eqb b 59) (fronted Semicolon 1) _ (next-semicolon b rest h) (λ _.
    by_test P (eqb b 44) (fronted Comma 1) _ (next-one 44 b rest Comma refl refl refl refl h) (λ _.
    by_test P (eqb b 40) (fronted LeftParenthesis 1) _ (next-one 40 b rest LeftParenthesis refl refl refl refl h) (λ _.
    by_test P (eqb b 41) (fronted RightParenthesis 1) _ (next-one 41 b rest RightParenthesis refl refl refl refl h) (λ _.
    by_test P (eqb b 91) (fronted LeftBracket 1) _ (next-one 91 b rest LeftBracket refl refl refl refl h) (λ _.
    by_test P (eqb b 93) (fronted RightBracket 1) _ (next-one 93 b rest RightBracket refl refl refl refl h) (λ _.
    by_test P (eqb b 123) (fronted LeftBrace 1) _ (next-one 123 b rest LeftBrace refl refl refl refl h) (λ _.
    by_test P (eqb b 125) (fronted RightBrace 1) _ (next-one 125 b rest RightBrace refl refl refl refl h) (λ _.
    by_test P (eqb b 43) (fronted Plus 1) _ (next-one 43 b rest Plus refl refl refl refl h) (λ _.
    by_test P (eqb b 42) (fronted Star 1) _ (next-one 42 b rest Star refl refl refl refl h) (λ _.
    by_test P (eqb b 47) (fronted Slash 1) _ (next-slash b rest none h) (λ _.
    by_test P (eqb b 94) (fronted Caret 1) _ (next-one 94 b rest Caret refl refl refl refl h) (λ _.
    by_test P (eqb b 45) _ _
    (λ is. by_test P (begins_with 62 rest) (fronted Arrow 2) (fronted Minus 1)
    (next-two 45 62 b rest Arrow refl refl refl refl refl refl refl h is)
    (λ _. next-one 45 b rest Minus refl refl refl refl h is)) (λ _.
    by_test P (eqb b 61) _ (fronted Malformed 0)
    (λ is. by_test P (begins_with 61 rest) (fronted DoubleEqual 2) (fronted Malformed 0)
    (next-two 61 61 b rest DoubleEqual refl refl refl refl refl refl refl h is)
    (λ _. inl refl))
    (λ _. inl refl))))))))))))))

mark_same : (b : ℕ) (rest more : List ℕ) → IsEnded Code (b ∷ rest) → mark_front b (rest ++ more) ≡ mark_front b rest
mark_same b [] more h = ap (λ x. mark_front x more) h.1 ∙ ap (λ x. mark_front x []) (sym h.1)
mark_same b (c ∷ r) more h = mark_more b (c ∷ r) more (omega arith)

quote_inner : (b : ℕ) (rest : List ℕ) → eqb b 34 ≡ true → IsEnded Code (b ∷ rest) → IsEnded Quote rest
quote_inner b rest is h =
    let e : b ≡ 34 = eqb-true b 34 is in
    subst (λ m. IsEnded m rest) (ap after_code e) (next_ended Code b rest h (λ f. let f : b ≡ 59 = f in omega arith))

stays-front : (b : ℕ) (rest : List ℕ) → blank_length (b ∷ rest) ≡ 0 → IsEnded Code (b ∷ rest) → Stays (front (b ∷ rest)) (b ∷ rest) (λ more. front (b ∷ (rest ++ more)))
unfolding front
stays-front b rest none h =
    stays_by (is_ascii_alphabetic b) (b ∷ rest) _ _ _ _ (λ is. stays-word b rest is h) (λ _.
    stays_by (is_ascii_digit b || eqb b 46) (b ∷ rest) _ _ _ _ (λ _. stays-number (b ∷ rest) h) (λ _.
    stays_by (eqb b 34) (b ∷ rest) _ _ _ _ (λ is. stays-quoted b rest (quote_inner b rest is h)) (λ _.
    record { same = λ more. mark_same b rest more h; next = next-mark b rest none h })))

-- what follows a token that isn't the last
closed_more : (form : Form) (malformed ended more : Type 0) → is_last form ≡ false → more → ByLast (eqb (number_of form) (number_of Malformed)) (eqb (number_of form) (number_of Missing)) malformed ended more
closed_more Missing malformed ended more inside x = absurd (false≢true (sym inside))
closed_more Malformed malformed ended more inside x = absurd (false≢true (sym inside))
closed_more _ malformed ended more inside x = x

pub never_missing : (form : Form) → is_last form ≡ false → eqb (number_of form) (number_of Missing) ≡ false
never_missing Missing inside = absurd (false≢true (sym inside))
never_missing _ inside = refl

-- a step of the cursor
step : (p q : Position) (g : EndsForGood q) → q.line + (q.column + length q.rest) ≤ p.line + (p.column + length p.rest) → tokens p ≡ tokens q
    → ((more : List ℕ) → tokens (extended p more) ≡ tokens (extended q more)) → EndsForGood p
step p q g le here on = record {
  end = g.end;
  some = g.some;
  within = let w : g.end.line + g.end.column ≤ q.line + (q.column + length q.rest) = g.within in omega arith;
  closed = λ behind. subst (λ (ts : List TokenView). AreClosed g.end behind ts) (sym here) (g.closed behind);
  joined = λ more. on more ∙ (g.joined more ∙ ap (λ (ts : List TokenView). spliced ts (lex 0 g.end more)) (sym here));
}

goes-malformed : (line column : ℕ) (text : List ℕ) → 1 ≤ column → (let at : Place = record { line = line; column = column } in let p : Position = record { rest = text; line = line; column = column } in
    tokens p ≡ placed (fronted Malformed 0) at text ∷ [] → ((more : List ℕ) → tokens (extended p more) ≡ placed (fronted Malformed 0) at text ∷ []) → EndsForGood p)
goes-malformed line column text some here on = record {
  end = record { line = line; column = column };
  some = some;
  within = omega arith;
  closed = λ behind. subst (λ (ts : List TokenView). AreClosed (record { line = line; column = column }) behind ts) (sym here) refl;
  joined = λ more. on more ∙ ap (λ (ts : List TokenView). spliced ts (lex 0 (record { line = line; column = column }) more)) (sym here);
}

no_blank : (more : List ℕ) → blank_length (59 ∷ more) ≡ 0
no_blank [] = refl
no_blank (c ∷ more) = refl

semicolon_tokens : (line column : ℕ) (more : List ℕ)
    → lex 0 (record { line = line; column = column }) (59 ∷ more) ≡ (record { form = Semicolon; bytes = 59 ∷ []; line = line; column = column }) ∷ lex 0 (record { line = line; column = column + 1 }) more
unfolding front
semicolon_tokens line column more = lex-token line column (59 ∷ more) (no_blank more) (omega arith)

goes-semicolon : (line column : ℕ) → 1 ≤ column → (let p : Position = record { rest = 59 ∷ []; line = line; column = column } in EndsForGood p)
unfolding lex
goes-semicolon line column some =
    let end : Place = record { line = line; column = column + 1 } in
    let t : TokenView = record { form = Semicolon; bytes = 59 ∷ []; line = line; column = column } in
    let here : lex 0 (record { line = line; column = column }) (59 ∷ []) ≡ t ∷ missing_at end ∷ [] = semicolon_tokens line column [] in
    record {
      end = end;
      some = omega arith;
      within = omega arith;
      closed = λ behind. subst (λ (ts : List TokenView). AreClosed end behind ts) (sym here) (refl, refl, refl);
      joined = λ more. semicolon_tokens line column more ∙ ap (λ (ts : List TokenView). spliced ts (lex 0 end more)) (sym here);
    }

goes-token : (line column : ℕ) (text : List ℕ) (t : TokenView) (q : Position) → is_last t.form ≡ false → (let p : Position = record { rest = text; line = line; column = column } in
    tokens p ≡ from_token t (tokens q) → ((more : List ℕ) → tokens (extended p more) ≡ from_token t (tokens (extended q more)))
    → q.line + (q.column + length q.rest) ≤ line + (column + length text) → EndsForGood q → EndsForGood p)
goes-token line column text t q inside here on le g =
    let p : Position = record { rest = text; line = line; column = column } in
    let plain : (later : List TokenView) → from_token t later ≡ t ∷ later = λ later. ap (λ b. t ∷ cond b [] later) inside in
    let all : tokens p ≡ t ∷ tokens q = here ∙ plain (tokens q) in
    record {
      end = g.end;
      some = g.some;
      within = let w : g.end.line + g.end.column ≤ q.line + (q.column + length q.rest) = g.within in omega arith;
      closed = λ behind. subst (λ (ts : List TokenView). AreClosed g.end behind ts) (sym all)
          (closed_more t.form _ _ _ inside (g.closed (eqb (number_of t.form) (number_of Semicolon))));
      joined = λ more. on more ∙ (plain (tokens (extended q more)) ∙ (ap (λ (ts : List TokenView). t ∷ ts) (g.joined more)
          ∙ (sym (ap (λ b. cond b (lex 0 g.end more) (t ∷ spliced (tokens q) (lex 0 g.end more))) (never_missing t.form inside))
          ∙ ap (λ (ts : List TokenView). spliced ts (lex 0 g.end more)) (sym all))));
    }

some_bytes : (text : List ℕ) (n : ℕ) → IsEnded Code text → n + 1 ≤ length text → 1 ≤ n → length (drop n text) < length text
some_bytes text n h le some = let left : length (drop n text) ≡ length text - n = length-drop n text in omega arith

count_some : (n : ℕ) → eqb n 0 ≡ false → 1 ≤ n
count_some zero h = absurd (false≢true (sym h))
count_some (suc n) h = omega arith

-- the token at the start, whatever follows the text
front_on : (line column : ℕ) (b : ℕ) (rest more : List ℕ) (f : Front) → blank_length (b ∷ (rest ++ more)) ≡ 0 → front (b ∷ (rest ++ more)) ≡ f → f.count ≤ length (b ∷ rest)
    → lex 0 (record { line = line; column = column }) (b ∷ (rest ++ more))
    ≡ from_token (placed f (record { line = line; column = column }) (b ∷ rest)) (lex 0 (record { line = line; column = column + f.count }) (drop f.count (b ∷ rest) ++ more))
front_on line column b rest more f none is within =
    let at : Place = record { line = line; column = column } in
    let text : List ℕ = b ∷ rest in
    let len : length (text ++ more) ≡ length text + length more = length-append text more in
    let inside : (front (text ++ more)).count ≤ length (text ++ more) = subst (λ (g : Front). g.count ≤ length (text ++ more)) (sym is) (omega arith) in
    let P : Front → Type 0 = λ g. lex 0 at (text ++ more) ≡ from_token (placed g at (text ++ more)) (lex 0 (record { line = line; column = column + g.count }) (drop g.count (text ++ more))) in
    subst P is (lex-token line column (text ++ more) none inside)
    ∙ (λ i. from_token (record { form = f.form; bytes = take-append-le f.count text more within i; line = line; column = column }) (lex 0 (record { line = line; column = column + f.count }) (drop-append-le f.count text more within i)))

ended_blank : (b : ℕ) (rest more : List ℕ) → blank_length (b ∷ rest) ≡ 0 → IsEnded Code (b ∷ rest) → blank_length (b ∷ (rest ++ more)) ≡ 0
ended_blank b [] more none h = ap (λ x. blank_length (x ∷ more)) h.1 ∙ no_blank more
ended_blank b (c ∷ r) more none h = blank_none (b ∷ c ∷ r) more none (omega arith)

newline_blank : (b : ℕ) (rest : List ℕ) → eqb b 10 ≡ true → blank_length (b ∷ rest) ≡ 1
newline_blank b rest is = ap (λ x. blank_length (x ∷ rest)) (eqb-true b 10 is)

no_newline : (b : ℕ) (rest : List ℕ) → blank_length (b ∷ rest) ≡ 0 → b ≡ 10 → ⊥
no_newline b rest none is = let one : blank_length (b ∷ rest) ≡ 1 = ap (λ x. blank_length (x ∷ rest)) is in omega arith

-- What follows a text that ends with an end adds tokens, and changes none.
goes_by : (n line column : ℕ) (text : List ℕ) → length text ≤ n → 1 ≤ column → IsEnded Code text → (let p : Position = record { rest = text; line = line; column = column } in EndsForGood p)
unfolding Next
goes_by n line column [] le some h = absurd h
goes_by zero line column (b ∷ rest) le some h = absurd (omega arith)
goes_by (suc n) line column (b ∷ rest) le some h =
    let text : List ℕ = b ∷ rest in
    let p : Position = record { rest = text; line = line; column = column } in
    let at : Place = record { line = line; column = column } in
    elim (blank_length text) as (λ k. blank_length text ≡ k → EndsForGood p) [
      | zero ↦ λ none.
          let f : Front = front text in
          let s = stays-front b rest none h in
          elim s.next as (λ _. EndsForGood p) [
            | inl malformed ↦
                let other : (more : List ℕ) → tokens (extended p more) ≡ placed (fronted Malformed 0) at text ∷ [] =
                λ more. front_on line column b rest more (fronted Malformed 0) (ended_blank b rest more none h) (s.same more ∙ malformed) (omega arith) in
                goes-malformed line column text some (ap (λ (l : List ℕ). tokens (record { rest = b ∷ l; line = line; column = column })) (sym (append-nil rest)) ∙ other []) other
            | inr (inl whole) ↦ subst (λ (l : List ℕ). (let q : Position = record { rest = l; line = line; column = column } in EndsForGood q)) (sym whole) (goes-semicolon line column some)
            | inr (inr goes_on) ↦
                let past : Past f.count text = goes_on.1 in
                let lt : f.count < length text = past.within in
                let count : 1 ≤ f.count = count_some f.count ((front_is_plain b rest (no_newline b rest none)).some ∙ goes_on.0) in
                let left : length (drop f.count text) ≡ length text - f.count = length-drop f.count text in
                let q : Position = moved f.count p in
                let on : (more : List ℕ) → tokens (extended p more) ≡ from_token (placed f at text) (tokens (extended q more)) =
                λ more. front_on line column b rest more f (ended_blank b rest more none h) (s.same more) (omega arith) in
                goes-token line column text (placed f at text) q goes_on.0 (lex-token line column text none (omega arith)) on (omega arith)
                (goes_by n line (column + f.count) (drop f.count text) (omega arith) (omega arith) past.ended)
          ]
      | suc m ↦ λ is.
          let one : 1 ≤ blank_length text = omega arith in
          let past : Past (blank_length text) text = past-blank text one h in
          let law : (more : List ℕ) → (tokens p ≡ tokens (after_blank p)) × (tokens (extended p more) ≡ tokens (extended (after_blank p) more)) = λ more. blank_law line column text more one past.within in
          elim (eqb b 10) as (λ t. eqb b 10 ≡ t → ((more : List ℕ) → (tokens p ≡ tokens (cond t (next_line p) (moved (blank_length text) p)))
          × (tokens (extended p more) ≡ tokens (extended (cond t (next_line p) (moved (blank_length text) p)) more))) → EndsForGood p) [
            | true ↦ λ newline laws.
                let inner : IsEnded Code rest = subst (λ k. IsEnded Code (drop k text)) (newline_blank b rest newline) past.ended in
                step p (next_line p) (goes_by n (line + 1) 1 rest (omega arith) (omega arith) inner) (omega arith) (laws []).0 (λ more. (laws more).1)
            | false ↦ λ other laws.
                let k : ℕ = blank_length text in
                let lt : k < length text = past.within in
                let left : length (drop k text) ≡ length text - k = length-drop k text in
                step p (moved k p) (goes_by n line (column + k) (drop k text) (omega arith) (omega arith) past.ended) (omega arith) (laws []).0 (λ more. (laws more).1)
          ] refl law
    ] refl

pub ends_for_good : (p : Position) → 1 ≤ p.column → IsEnded Code p.rest → EndsForGood p
ends_for_good p some h = goes_by (length p.rest) p.line p.column p.rest (omega arith) some h

-- comments
position_le : (r : List ℕ) → position_or_len is_newline r ≤ length r
position_le [] = omega arith
position_le (x ∷ xs) =
    let h : position_or_len is_newline xs ≤ length xs = position_le xs in
    elim (not (is_newline x)) as (λ b. cond b (1 + position_or_len is_newline xs) 0 ≤ length (x ∷ xs)) [ true ↦ omega arith | false ↦ omega arith ]

position_over : (r more : List ℕ) → position_or_len is_newline r ≡ length r → position_or_len is_newline (r ++ more) ≡ length r + position_or_len is_newline more
position_over [] more h = omega arith
position_over (x ∷ xs) more h =
    elim (not (is_newline x)) as (λ b. cond b (1 + position_or_len is_newline xs) 0 ≡ length (x ∷ xs)
    → cond b (1 + position_or_len is_newline (xs ++ more)) 0 ≡ length (x ∷ xs) + position_or_len is_newline more) [
      | true ↦ λ e.
          let inner : position_or_len is_newline xs ≡ length xs = omega arith in
          let on : position_or_len is_newline (xs ++ more) ≡ length xs + position_or_len is_newline more = position_over xs more inner in
          omega arith
      | false ↦ λ e. absurd (omega arith)
    ] h

is_comment : (b c : ℕ) (r : List ℕ) → 2 ≤ blank_length (b ∷ c ∷ r) → (b ≡ 47) × (c ≡ 47) × (blank_length (b ∷ c ∷ r) ≡ 2 + position_or_len is_newline r)
is_comment b c r long =
    elim (is_separator b) as (λ t. 2 ≤ cond t 1 (cond (eqb b 47 && eqb c 47) (2 + position_or_len is_newline r) 0)
    → (b ≡ 47) × (c ≡ 47) × (cond t 1 (cond (eqb b 47 && eqb c 47) (2 + position_or_len is_newline r) 0) ≡ 2 + position_or_len is_newline r)) [
      | true ↦ λ l. absurd (omega arith)
      | false ↦ λ l. elim (eqb b 47 && eqb c 47) as (λ t. (eqb b 47 && eqb c 47) ≡ t → 2 ≤ cond t (2 + position_or_len is_newline r) 0
          → (b ≡ 47) × (c ≡ 47) × (cond t (2 + position_or_len is_newline r) 0 ≡ 2 + position_or_len is_newline r)) [
            | true ↦ λ is _. let both = and_both _ _ is in (eqb-true b 47 both.0, eqb-true c 47 both.1, refl)
            | false ↦ λ _ l. absurd (omega arith)
          ] refl l
    ] long

comment_end : (line column : ℕ) (l : List ℕ)
    → lex 0 (record { line = line; column = column }) (47 ∷ 47 ∷ l)
    ≡ lex 0 (record { line = line; column = column + (2 + position_or_len is_newline l) }) (drop (position_or_len is_newline l) l)
comment_end line column l =
    let n : ℕ = position_or_len is_newline l in
    let le : n ≤ length l = position_le l in
    let two : 2 + n ≡ suc (suc n) = omega arith in
    skip-blank (2 + n) line column (47 ∷ 47 ∷ l) (λ e. absurd (omega arith)) (omega arith) refl (omega arith)
    ∙ ap (λ k. lex 0 (record { line = line; column = column + (2 + n) }) (drop k (47 ∷ 47 ∷ l))) two

cut_slashes : (line column : ℕ) (r more : List ℕ) → position_or_len is_newline r ≡ length r
    → lex 0 (record { line = line; column = column + length r }) (47 ∷ 47 ∷ more) ≡ lex 0 (record { line = line; column = column }) (47 ∷ 47 ∷ (r ++ more))
cut_slashes line column r more all =
    let n : ℕ = position_or_len is_newline more in
    let over : position_or_len is_newline (r ++ more) ≡ length r + n = position_over r more all in
    let same : (column + length r) + (2 + n) ≡ column + (2 + (length r + n)) = omega arith in
    comment_end line (column + length r) more
    ∙ ((λ i. lex 0 (record { line = line; column = same i }) (sym (drop-append-add r more n) i))
    ∙ ((λ i. lex 0 (record { line = line; column = column + (2 + sym over i) }) (drop (sym over i) (r ++ more))) ∙ sym (comment_end line column (r ++ more))))

-- A comment at the end of a text, and its first two bytes.
pub comment_cut : (line column : ℕ) (text more : List ℕ) → blank_length text ≡ length text → 3 ≤ length text
    → lex 0 (record { line = line; column = column + (length text - 2) }) (take 2 text ++ more) ≡ lex 0 (record { line = line; column = column }) (text ++ more)
comment_cut line column [] more all long = absurd (omega arith)
comment_cut line column (b ∷ []) more all long = absurd (omega arith)
comment_cut line column (b ∷ c ∷ r) more all long =
    let is = is_comment b c r (omega arith) in
    let first : b ≡ 47 = is.0 in
    let second : c ≡ 47 = is.1 in
    let count : blank_length (b ∷ c ∷ r) ≡ 2 + position_or_len is_newline r = is.2 in
    let left : length (b ∷ c ∷ r) - 2 ≡ length r = omega arith in
    (λ i. lex 0 (record { line = line; column = column + left i }) (first i ∷ second i ∷ more))
    ∙ (cut_slashes line column r more (omega arith) ∙ (λ i. lex 0 (record { line = line; column = column }) (sym first i ∷ sym second i ∷ (r ++ more))))

mode_comment : (r : List ℕ) → position_or_len is_newline r ≡ length r → mode_after Comment r ≡ Comment
mode_comment [] h = refl
mode_comment (x ∷ xs) h =
    elim (is_newline x) as (λ b. cond (not b) (1 + position_or_len is_newline xs) 0 ≡ length (x ∷ xs) → mode_after (cond b Code Comment) xs ≡ Comment) [
      | true ↦ λ e. absurd (omega arith)
      | false ↦ λ e. mode_comment xs (omega arith)
    ] h

pub mode_cut : (text : List ℕ) → blank_length text ≡ length text → 3 ≤ length text → mode_after Code (take 2 text) ≡ mode_after Code text
mode_cut [] all long = absurd (omega arith)
mode_cut (b ∷ []) all long = absurd (omega arith)
mode_cut (b ∷ c ∷ r) all long =
    let is = is_comment b c r (omega arith) in
    let first : b ≡ 47 = is.0 in
    let second : c ≡ 47 = is.1 in
    let count : blank_length (b ∷ c ∷ r) ≡ 2 + position_or_len is_newline r = is.2 in
    (λ i. mode_after Code (first i ∷ second i ∷ []))
    ∙ (sym (mode_comment r (omega arith)) ∙ (λ i. mode_after Code (sym first i ∷ sym second i ∷ r)))

mode_newline : (r : List ℕ) → position_or_len is_newline r < length r → mode_after Code (drop (position_or_len is_newline r) r) ≡ mode_after Comment r
mode_newline [] h = absurd (omega arith)
mode_newline (x ∷ xs) h =
    elim (is_newline x) as (λ b. is_newline x ≡ b → cond (not b) (1 + position_or_len is_newline xs) 0 < length (x ∷ xs)
    → mode_after Code (drop (cond (not b) (1 + position_or_len is_newline xs) 0) (x ∷ xs)) ≡ mode_after (cond b Code Comment) xs) [
      | true ↦ λ is _. ap (λ y. mode_after (after_code y) xs) (eqb-true x 10 is)
      | false ↦ λ _ lt. ap (λ k. mode_after Code (drop k (x ∷ xs))) (one-add (position_or_len is_newline xs)) ∙ mode_newline xs (omega arith)
    ] refl h

pub mode_blank : (text : List ℕ) → 1 ≤ blank_length text → blank_length text < length text → mode_after Code (drop (blank_length text) text) ≡ mode_after Code text
mode_blank [] some lt = absurd (omega arith)
mode_blank (b ∷ rest) some lt =
    elim (is_separator b) as (λ t. is_separator b ≡ t → 1 ≤ cond t 1 (comment_length (b ∷ rest)) → cond t 1 (comment_length (b ∷ rest)) < length (b ∷ rest)
    → mode_after Code (drop (cond t 1 (comment_length (b ∷ rest))) (b ∷ rest)) ≡ mode_after Code (b ∷ rest)) [
      | true ↦ λ is _ _. ap (λ m. mode_after m rest) (sym (code_stays (λ c. not (is_separator c)) b (ap not is) refl refl))
      | false ↦ λ is. commented b rest
    ] refl some lt
  where
    commented : (b : ℕ) (rest : List ℕ) → 1 ≤ comment_length (b ∷ rest) → comment_length (b ∷ rest) < length (b ∷ rest) → mode_after Code (drop (comment_length (b ∷ rest)) (b ∷ rest)) ≡ mode_after Code (b ∷ rest)
    commented b [] some lt = absurd (omega arith)
    commented b (c ∷ r) some lt =
        elim (eqb b 47 && eqb c 47) as (λ t. (eqb b 47 && eqb c 47) ≡ t → 1 ≤ cond t (2 + position_or_len is_newline r) 0 → cond t (2 + position_or_len is_newline r) 0 < length (b ∷ c ∷ r)
        → mode_after Code (drop (cond t (2 + position_or_len is_newline r) 0) (b ∷ c ∷ r)) ≡ mode_after Code (b ∷ c ∷ r)) [
          | true ↦ λ is _ lt.
              let both = and_both _ _ is in
              let n : ℕ = position_or_len is_newline r in
              let two : 2 + n ≡ suc (suc n) = omega arith in
              ap (λ k. mode_after Code (drop k (b ∷ c ∷ r))) two ∙ (mode_newline r (omega arith) ∙ (λ i. mode_after Code (sym (eqb-true b 47 both.0) i ∷ sym (eqb-true c 47 both.1) i ∷ r)))
          | false ↦ λ _ some. absurd (omega arith)
        ] refl some lt

-- A cursor that reads the same whatever follows, in the same mode, and is not further than so many bytes allow.
pub record Settles (p q : Position) : Type 0 where
  pub same : (more : List ℕ) → tokens (extended q more) ≡ tokens (extended p more)
  pub mode : mode_after Code q.rest ≡ mode_after Code p.rest
  pub place : q.line + (q.column + length q.rest) ≤ p.line + (p.column + length p.rest)

-- over what is skipped as one and followed by a byte
pub settles_blank : (p q : Position) → 1 ≤ p.column → 1 ≤ blank_length p.rest → blank_length p.rest < length p.rest → q ≡ after_blank p → Settles p q
settles_blank p q column some lt is =
    subst (Settles p) (sym is) (record {
      same = λ more. sym (blank_law p.line p.column p.rest more some lt).1;
      mode = settled_mode p.line p.column p.rest some lt;
      place = settled_place p.line p.column p.rest column some lt;
    })
  where
    settled_mode : (line column : ℕ) (text : List ℕ) → 1 ≤ blank_length text → blank_length text < length text → (let p : Position = record { rest = text; line = line; column = column } in mode_after Code (after_blank p).rest ≡ mode_after Code text)
    settled_mode line column [] some lt = absurd (omega arith)
    settled_mode line column (b ∷ rest) some lt =
        let p : Position = record { rest = b ∷ rest; line = line; column = column } in
        elim (eqb b 10) as (λ t. eqb b 10 ≡ t → mode_after Code (cond t (next_line p) (moved (blank_length (b ∷ rest)) p)).rest ≡ mode_after Code (b ∷ rest)) [
          | true ↦ λ is. ap (λ k. mode_after Code (drop k (b ∷ rest))) (sym (newline_blank b rest is)) ∙ mode_blank (b ∷ rest) some lt
          | false ↦ λ _. mode_blank (b ∷ rest) some lt
        ] refl

    settled_place : (line column : ℕ) (text : List ℕ) → 1 ≤ column → 1 ≤ blank_length text → blank_length text < length text
        → (let p : Position = record { rest = text; line = line; column = column } in let q : Position = after_blank p in q.line + (q.column + length q.rest) ≤ line + (column + length text))
    settled_place line column [] some one lt = absurd (omega arith)
    settled_place line column (b ∷ rest) some one lt =
        let p : Position = record { rest = b ∷ rest; line = line; column = column } in
        let left : length (drop (blank_length (b ∷ rest)) (b ∷ rest)) ≡ length (b ∷ rest) - blank_length (b ∷ rest) = length-drop (blank_length (b ∷ rest)) (b ∷ rest) in
        elim (eqb b 10) as (λ t. (let q : Position = cond t (next_line p) (moved (blank_length (b ∷ rest)) p) in q.line + (q.column + length q.rest) ≤ line + (column + length (b ∷ rest)))) [
          | true ↦ omega arith
          | false ↦ omega arith
        ]

pub settles_on : (p q r : Position) → Settles p q → Settles q r → Settles p r
settles_on p q r a b = record {
  same = λ more. b.same more ∙ a.same more;
  mode = b.mode ∙ a.mode;
  place = let x : q.line + (q.column + length q.rest) ≤ p.line + (p.column + length p.rest) = a.place in let y : r.line + (r.column + length r.rest) ≤ q.line + (q.column + length q.rest) = b.place in omega arith;
}
