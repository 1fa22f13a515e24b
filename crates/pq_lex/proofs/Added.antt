-- What stands at the start is the same whatever is added at the end, where enough bytes follow it.
use Rattle.std.proofs.Common.{◌≡◌, ℕ, ◌+◌, ◌-◌, ◌<◌, ◌≤◌, Bool, true, false, not, ◌&&◌, ◌||◌, eqb, cond, List, [], ◌∷◌, ◌++◌, length, take, drop, get_or, refl, sym, ap, ◌∙◌, subst, arith, length-append, length-drop}
use Rattle.std.specs.List.{position_or_len}
use Rattle.std.specs.Char.{is_ascii_digit, is_ascii_alphabetic}
use Rattle.std.proofs.lemmas.List.{drop-append-le, take-append-le}
use Rattle.std.proofs.lemmas.Bool.{false≢true, eqb-false}
use borrow.Author.Tests.{eqb-true}
use Rattle.pq_lex.specs.declared.token.Form.TheVariants.{Word, Number, Quoted, Malformed}
use Rattle.pq_lex.specs.Token.{number_of}
use Rattle.pq_lex.specs.Front.{is_outside_word, is_no_digit, is_newline, is_unquotable, is_separator, blank_length, Front, fronted, some_digits, exponent_digits, exponent_length, fraction_length, decimal_length, number_front, is_quote, quoted_front, mark_front, front}
use Rattle.pq_lex.specs.Lex.{Place, placed, lex, Position, moved, next_line, tokens, from_token}
use Rattle.pq_lex.specs.Added.{extended, after_blank, first_token, after_token, ChangesLater}
use Rattle.pq_lex.proofs.Lexing.{skip-newline, skip-blank, lex-token}

pub position_more : (p : ℕ → Bool) (text more : List ℕ) → position_or_len p text < length text → position_or_len p (text ++ more) ≡ position_or_len p text
position_more p [] more h = absurd (omega arith)
position_more p (x ∷ xs) more h =
    elim (not (p x)) as (λ b. cond b (1 + position_or_len p xs) 0 < length (x ∷ xs) → cond b (1 + position_or_len p (xs ++ more)) 0 ≡ cond b (1 + position_or_len p xs) 0) [
      | true ↦ λ lt. ap (λ n. 1 + n) (position_more p xs more (omega arith))
      | false ↦ λ lt. refl
    ] h

pub fraction_more : (text more : List ℕ) → fraction_length text + 1 ≤ length text → fraction_length (text ++ more) ≡ fraction_length text
fraction_more [] more h = absurd (omega arith)
fraction_more (b ∷ rest) more h =
    elim (eqb b 46) as (λ t. cond t (1 + position_or_len is_no_digit rest) 0 + 1 ≤ length (b ∷ rest) → cond t (1 + position_or_len is_no_digit (rest ++ more)) 0 ≡ cond t (1 + position_or_len is_no_digit rest) 0) [
      | true ↦ λ lt. ap (λ n. 1 + n) (position_more is_no_digit rest more (omega arith))
      | false ↦ λ lt. refl
    ] h

and_second : (a b : Bool) → (a && b) ≡ true → b ≡ true
and_second true b h = h
and_second false b h = absurd (false≢true h)

all_bound : (b : Bool) (all len : ℕ) → (b ≡ true → all ≡ 1) → cond b 0 all + 3 ≤ len → all + 1 ≤ len
all_bound true all len one h = let e : all ≡ 1 = one refl in omega arith
all_bound false all len one h = omega arith

decimal_more : (text more : List ℕ) → decimal_length text + 3 ≤ length text → decimal_length (text ++ more) ≡ decimal_length text
decimal_more text more h =
    let whole : ℕ = position_or_len is_no_digit text in
    let part : ℕ = fraction_length (drop whole text) in
    let bound : (whole + part) + 1 ≤ length text = all_bound (eqb whole 0 && eqb (whole + part) 1) (whole + part) (length text) (λ e. eqb-true (whole + part) 1 (and_second _ _ e)) h in
    let w : position_or_len is_no_digit (text ++ more) ≡ whole = position_more is_no_digit text more (omega arith) in
    let left : length (drop whole text) ≡ length text - whole = length-drop whole text in
    let f : fraction_length (drop whole (text ++ more)) ≡ part =
    ap fraction_length (drop-append-le whole text more (omega arith)) ∙ fraction_more (drop whole text) more (omega arith) in
    let e : position_or_len is_no_digit (text ++ more) + fraction_length (drop (position_or_len is_no_digit (text ++ more)) (text ++ more)) ≡ whole + part =
    ap (λ n. n + fraction_length (drop n (text ++ more))) w ∙ ap (λ m. whole + m) f in
    λ i. cond (eqb (w i) 0 && eqb (e i) 1) 0 (e i)

digits_bound : (n k len : ℕ) → 1 ≤ len → cond (eqb n 0) 0 (k + n) + 1 ≤ k + len → n < len
digits_bound n k len some h =
    elim (eqb n 0) as (λ b. eqb n 0 ≡ b → cond b 0 (k + n) + 1 ≤ k + len → n < len) [
      | true ↦ λ e l. let z : n ≡ 0 = eqb-true n 0 e in omega arith
      | false ↦ λ e l. omega arith
    ] refl h

some_more : (k : ℕ) (rest more : List ℕ) → 1 ≤ length rest → some_digits k rest + 1 ≤ k + length rest → some_digits k (rest ++ more) ≡ some_digits k rest
some_more k rest more some h =
    let e : position_or_len is_no_digit (rest ++ more) ≡ position_or_len is_no_digit rest = position_more is_no_digit rest more (digits_bound (position_or_len is_no_digit rest) k (length rest) some h) in
    λ i. cond (eqb (e i) 0) 0 (k + e i)

exponent_digits_more : (rest more : List ℕ) → 2 ≤ length rest → exponent_digits rest ≤ length rest → exponent_digits (rest ++ more) ≡ exponent_digits rest
exponent_digits_more [] more some h = absurd (omega arith)
exponent_digits_more (b ∷ rest) more some h =
    elim (eqb b 43 || eqb b 45) as (λ t. cond t (some_digits 2 rest) (some_digits 1 (b ∷ rest)) ≤ length (b ∷ rest)
    → cond t (some_digits 2 (rest ++ more)) (some_digits 1 ((b ∷ rest) ++ more)) ≡ cond t (some_digits 2 rest) (some_digits 1 (b ∷ rest))) [
      | true ↦ λ l. some_more 2 rest more (omega arith) (omega arith)
      | false ↦ λ l. some_more 1 (b ∷ rest) more (omega arith) (omega arith)
    ] h

exponent_more : (text more : List ℕ) → exponent_length text + 3 ≤ length text → exponent_length (text ++ more) ≡ exponent_length text
exponent_more [] more h = absurd (omega arith)
exponent_more (b ∷ rest) more h =
    elim (eqb b 101 || eqb b 69) as (λ t. cond t (exponent_digits rest) 0 + 3 ≤ length (b ∷ rest) → cond t (exponent_digits (rest ++ more)) 0 ≡ cond t (exponent_digits rest) 0) [
      | true ↦ λ l. exponent_digits_more rest more (omega arith) (omega arith)
      | false ↦ λ l. refl
    ] h

-- enough bytes follow a form that isn't malformed
abbrev pub IsFollowed : ℕ → Front → Type 0
IsFollowed len f = (eqb (number_of f.form) (number_of Malformed) ≡ false) × (f.count + 3 ≤ len)

number_with : ℕ → List ℕ → Front
number_with n text = cond (eqb n 0) (fronted Malformed 0) (fronted Number (n + exponent_length (drop n text)))

number_bound : (n e len : ℕ) → (cond (eqb n 0) (fronted Malformed 0) (fronted Number (n + e))).count + 3 ≤ len → n + 3 ≤ len
number_bound n e len h =
    elim (eqb n 0) as (λ b. eqb n 0 ≡ b → (cond b (fronted Malformed 0) (fronted Number (n + e))).count + 3 ≤ len → n + 3 ≤ len) [
      | true ↦ λ z l. let none : n ≡ 0 = eqb-true n 0 z in omega arith
      | false ↦ λ z l. omega arith
    ] refl h

number_more : (text more : List ℕ) → IsFollowed (length text) (number_front text) → number_front (text ++ more) ≡ number_front text
unfolding number_with
number_more text more followed =
    let d : ℕ = decimal_length text in
    let bound : d + 3 ≤ length text = number_bound d (exponent_length (drop d text)) (length text) followed.1 in
    let left : length (drop d text) ≡ length text - d = length-drop d text in
    let cut : drop d (text ++ more) ≡ drop d text ++ more = drop-append-le d text more (omega arith) in
    ap (λ n. number_with n (text ++ more)) (decimal_more text more bound)
    ∙ elim (eqb d 0) as (λ b. (cond b (fronted Malformed 0) (fronted Number (d + exponent_length (drop d text)))).count + 3 ≤ length text
    → cond b (fronted Malformed 0) (fronted Number (d + exponent_length (drop d (text ++ more)))) ≡ cond b (fronted Malformed 0) (fronted Number (d + exponent_length (drop d text)))) [
      | true ↦ λ l. refl
      | false ↦ λ l. ap (λ n. fronted Number (d + n)) (ap exponent_length cut ∙ exponent_more (drop d text) more (omega arith))
    ] followed.1

pub quote_more : (l more : List ℕ) → is_quote l ≡ true → is_quote (l ++ more) ≡ is_quote l
quote_more [] more h = absurd (false≢true h)
quote_more (b ∷ l) more h = refl

quote_some : (l : List ℕ) → is_quote l ≡ true → 1 ≤ length l
quote_some [] h = absurd (false≢true h)
quote_some (b ∷ l) h = omega arith

quoted_more : (rest more : List ℕ) (len : ℕ) → IsFollowed len (quoted_front rest) → quoted_front (rest ++ more) ≡ quoted_front rest
quoted_more rest more len followed =
    let inside : ℕ = position_or_len is_unquotable rest in
    elim (is_quote (drop inside rest)) as (λ b. is_quote (drop inside rest) ≡ b → IsFollowed len (cond b (fronted Quoted (inside + 2)) (fronted Malformed 0)) → quoted_front (rest ++ more) ≡ cond b (fronted Quoted (inside + 2)) (fronted Malformed 0)) [
      | true ↦ λ closed l.
          let some : 1 ≤ length (drop inside rest) = quote_some (drop inside rest) closed in
          let left : length (drop inside rest) ≡ length rest - inside = length-drop inside rest in
          let same : position_or_len is_unquotable (rest ++ more) ≡ inside = position_more is_unquotable rest more (omega arith) in
          let q : is_quote (drop (position_or_len is_unquotable (rest ++ more)) (rest ++ more)) ≡ true =
          ap (λ n. is_quote (drop n (rest ++ more))) same ∙ (ap is_quote (drop-append-le inside rest more (omega arith)) ∙ (quote_more (drop inside rest) more closed ∙ closed)) in
          λ i. cond (q i) (fronted Quoted (same i + 2)) (fronted Malformed 0)
      | false ↦ λ open_end l. absurd (false≢true (sym l.0))
    ] refl followed

pub mark_more : (b : ℕ) (rest more : List ℕ) → 1 ≤ length rest → mark_front b (rest ++ more) ≡ mark_front b rest
mark_more b [] more h = absurd (omega arith)
mark_more b (c ∷ rest) more h = refl

both_same : (len : ℕ) (b : Bool) (x x' y y' : Front) → (IsFollowed len x → x' ≡ x) → (IsFollowed len y → y' ≡ y) → IsFollowed len (cond b x y) → cond b x' y' ≡ cond b x y
both_same len true x x' y y' f g h = f h
both_same len false x x' y y' f g h = g h

front_more : (b : ℕ) (rest more : List ℕ) → IsFollowed (length (b ∷ rest)) (front (b ∷ rest)) → front (b ∷ (rest ++ more)) ≡ front (b ∷ rest)
unfolding front
front_more b rest more followed =
    both_same (length (b ∷ rest)) (is_ascii_alphabetic b) (fronted Word (1 + position_or_len is_outside_word rest)) (fronted Word (1 + position_or_len is_outside_word (rest ++ more))) _ _
    (λ f. ap (λ n. fronted Word (1 + n)) (position_more is_outside_word rest more (let l : (1 + position_or_len is_outside_word rest) + 3 ≤ length (b ∷ rest) = f.1 in omega arith)))
    (both_same (length (b ∷ rest)) (is_ascii_digit b || eqb b 46) (number_front (b ∷ rest)) (number_front (b ∷ (rest ++ more))) _ _
    (λ f. number_more (b ∷ rest) more f)
    (both_same (length (b ∷ rest)) (eqb b 34) (quoted_front rest) (quoted_front (rest ++ more)) (mark_front b rest) (mark_front b (rest ++ more))
    (λ f. quoted_more rest more (length (b ∷ rest)) f)
    (λ f. mark_more b rest more (let l : (mark_front b rest).count + 3 ≤ length (b ∷ rest) = f.1 in omega arith))))
    followed

pub blank_more : (text more : List ℕ) → 1 ≤ blank_length text → blank_length text < length text → blank_length (text ++ more) ≡ blank_length text
blank_more [] more some lt = absurd (omega arith)
blank_more (b ∷ []) more some lt =
    elim (is_separator b) as (λ t. 1 ≤ cond t 1 0 → cond t 1 0 < length (b ∷ []) → blank_length (b ∷ more) ≡ cond t 1 0) [
      | true ↦ λ s l. absurd (omega arith)
      | false ↦ λ s l. absurd (omega arith)
    ] some lt
blank_more (b ∷ c ∷ rest) more some lt =
    elim (is_separator b) as (λ t. cond t 1 (cond (eqb b 47 && eqb c 47) (2 + position_or_len is_newline rest) 0) < length (b ∷ c ∷ rest)
    → cond t 1 (cond (eqb b 47 && eqb c 47) (2 + position_or_len is_newline (rest ++ more)) 0) ≡ cond t 1 (cond (eqb b 47 && eqb c 47) (2 + position_or_len is_newline rest) 0)) [
      | true ↦ λ l. refl
      | false ↦ λ l. elim (eqb b 47 && eqb c 47) as (λ t. cond t (2 + position_or_len is_newline rest) 0 < length (b ∷ c ∷ rest) → cond t (2 + position_or_len is_newline (rest ++ more)) 0 ≡ cond t (2 + position_or_len is_newline rest) 0) [
        | true ↦ λ l. ap (λ n. 2 + n) (position_more is_newline rest more (omega arith))
        | false ↦ λ l. refl
      ] l
    ] lt

pub blank_none : (text more : List ℕ) → blank_length text ≡ 0 → 2 ≤ length text → blank_length (text ++ more) ≡ 0
blank_none [] more none two = absurd (omega arith)
blank_none (b ∷ []) more none two = absurd (omega arith)
blank_none (b ∷ c ∷ rest) more none two =
    elim (is_separator b) as (λ t. cond t 1 (cond (eqb b 47 && eqb c 47) (2 + position_or_len is_newline rest) 0) ≡ 0
    → cond t 1 (cond (eqb b 47 && eqb c 47) (2 + position_or_len is_newline (rest ++ more)) 0) ≡ 0) [
      | true ↦ λ e. e
      | false ↦ λ e. elim (eqb b 47 && eqb c 47) as (λ t. cond t (2 + position_or_len is_newline rest) 0 ≡ 0 → cond t (2 + position_or_len is_newline (rest ++ more)) 0 ≡ 0) [
        | true ↦ λ z. absurd (omega arith)
        | false ↦ λ z. refl
      ] e
    ] none

-- what is skipped at the start of a text with a first byte
skipped : (line column : ℕ) (text : List ℕ) (b : Bool) → eqb (get_or text 0 0) 10 ≡ b → 1 ≤ blank_length text → blank_length text ≤ length text
    → (let p : Position = record { rest = text; line = line; column = column } in tokens p ≡ tokens (cond b (next_line p) (moved (blank_length text) p)))
skipped line column text true is some within = skip-newline line column text (eqb-true _ _ is)
skipped line column text false is some within = skip-blank (blank_length text) line column text (eqb-false _ _ is) some refl within

pub blank_law : (line column : ℕ) (text more : List ℕ) → 1 ≤ blank_length text → blank_length text < length text
    → (let p : Position = record { rest = text; line = line; column = column } in (tokens p ≡ tokens (after_blank p)) × (tokens (extended p more) ≡ tokens (extended (after_blank p) more)))
blank_law line column [] more some lt = absurd (omega arith)
blank_law line column (b ∷ rest) more some lt =
    let text : List ℕ = b ∷ rest in
    let p : Position = record { rest = text; line = line; column = column } in
    let same : blank_length (text ++ more) ≡ blank_length text = blank_more text more some lt in
    let len : length (text ++ more) ≡ length text + length more = length-append text more in
    let cut : drop (blank_length text) (text ++ more) ≡ drop (blank_length text) text ++ more = drop-append-le (blank_length text) text more (omega arith) in (
      skipped line column text (eqb b 10) refl some (omega arith),
      skipped line column (text ++ more) (eqb b 10) refl (subst (λ n. 1 ≤ n) (sym same) some) (subst (λ n. n ≤ length (text ++ more)) (sym same) (omega arith))
          ∙ elim (eqb b 10) as (λ t. tokens (cond t (next_line (extended p more)) (moved (blank_length (text ++ more)) (extended p more))) ≡ tokens (extended (cond t (next_line p) (moved (blank_length text) p)) more)) [
            | true ↦ refl
            | false ↦ ap (λ n. tokens (moved n (extended p more))) same ∙ ap (λ l. tokens (record { rest = l; line = line; column = column + blank_length text })) cut
          ],
    )

three_short : (n : ℕ) → n + 3 ≤ 0 → ⊥
three_short n h = omega arith

token_law : (line column : ℕ) (text more : List ℕ) → blank_length text ≡ 0 → IsFollowed (length text) (front text)
    → (let p : Position = record { rest = text; line = line; column = column } in
    (tokens p ≡ from_token (first_token p) (tokens (after_token p))) × (tokens (extended p more) ≡ from_token (first_token p) (tokens (extended (after_token p) more))))
token_law line column [] more none followed = absurd (three_short (front []).count followed.1)
token_law line column (b ∷ rest) more none followed =
    let text : List ℕ = b ∷ rest in
    let at : Place = record { line = line; column = column } in
    let f : Front = front text in
    let bound : f.count + 3 ≤ length text = followed.1 in
    let len : length (text ++ more) ≡ length text + length more = length-append text more in
    let same : front (text ++ more) ≡ f = front_more b rest more followed in
    let within : (front (text ++ more)).count ≤ length (text ++ more) = subst (λ (g : Front). g.count ≤ length (text ++ more)) (sym same) (omega arith) in
    let all = lex-token line column (text ++ more) (blank_none text more none (omega arith)) within in
    let P : Front → Type 0 = λ g. lex 0 at (text ++ more) ≡ from_token (placed g at (text ++ more)) (lex 0 (record { line = line; column = column + g.count }) (drop g.count (text ++ more))) in
    let bytes : take f.count (text ++ more) ≡ take f.count text = take-append-le f.count text more (omega arith) in
    let cut : drop f.count (text ++ more) ≡ drop f.count text ++ more = drop-append-le f.count text more (omega arith) in (
      lex-token line column text none (omega arith),
      subst P same all
          ∙ (λ i. from_token (record { form = f.form; bytes = bytes i; line = line; column = column }) (lex 0 (record { line = line; column = column + f.count }) (cut i))),
    )

pub changes_later : (p : Position) (more : List ℕ) → ChangesLater p more
changes_later p more = record {
  blank = blank_law p.line p.column p.rest more;
  token = λ none formed followed. token_law p.line p.column p.rest more none (formed, followed);
}
