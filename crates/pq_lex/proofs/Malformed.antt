-- A malformed token that stays malformed whatever is added.
use Rattle.std.proofs.Common.{◌≡◌, ℕ, ◌+◌, ◌-◌, ◌<◌, ◌≤◌, Bool, true, false, not, ◌&&◌, ◌||◌, eqb, cond, List, [], ◌∷◌, ◌++◌, length, drop, get_or, refl, sym, ap, ◌∙◌, subst, arith, length-drop}
use Rattle.std.specs.List.{position_or_len}
use Rattle.std.specs.Char.{is_ascii_digit, is_ascii_alphabetic}
use Rattle.std.proofs.lemmas.List.{drop-append-le}
use Rattle.std.proofs.lemmas.Bool.{false≢true}
use Rattle.std.proofs.lemmas.Bool.Decides.{nat_tests}
use borrow.Author.Tests.{eqb-true}
use Rattle.pq_lex.specs.declared.token.Form.{Form}
use Rattle.pq_lex.specs.declared.token.Form.TheVariants.{Word, Number, Quoted, Malformed}
use Rattle.pq_lex.specs.Token.{TokenView, number_of, is_last}
use Rattle.pq_lex.specs.Front.{is_outside_word, is_no_digit, is_newline, is_unquotable, blank_length, Front, fronted, exponent_length, fraction_length, decimal_length, number_front, is_quote, quoted_front, mark_front, front}
use Rattle.pq_lex.specs.Lex.{placed, lex, Position, moved, tokens, from_token}
use Rattle.pq_lex.specs.Added.{extended, StaysMalformed}
use Rattle.pq_lex.proofs.Forms.{same_form}
use Rattle.pq_lex.proofs.Plain.{front_is_plain}
use Rattle.pq_lex.proofs.Lexing.{lex-token}
use Rattle.pq_lex.proofs.Longest.{blank_newline}
use Rattle.pq_lex.proofs.Added.{position_more, mark_more, blank_none, changes_later}

-- one choice and the same with more bytes
bad_same : (c : Bool) (x x' y y' : Front) → (c ≡ true → x.form ≡ Malformed → x' ≡ x) → (c ≡ false → y.form ≡ Malformed → y' ≡ y) → (cond c x y).form ≡ Malformed → cond c x' y' ≡ cond c x y
bad_same true x x' y y' f g bad = f refl bad
bad_same false x x' y y' f g bad = g refl bad

no_word : {P : Type 0} (n : ℕ) → (fronted Word n).form ≡ Malformed → P
no_word n bad = absurd (false≢true (ap is_last bad))

number_bad : (n e : ℕ) → (cond (eqb n 0) (fronted Malformed 0) (fronted Number (n + e))).form ≡ Malformed → n ≡ 0
number_bad n e bad = by (eqb n 0) refl bad where
  by : (t : Bool) → eqb n 0 ≡ t → (cond t (fronted Malformed 0) (fronted Number (n + e))).form ≡ Malformed → n ≡ 0
  by true is bad = eqb-true n 0 is
  by false is bad = absurd (false≢true (ap is_last bad))

all_none : (whole all : ℕ) → cond (eqb whole 0 && eqb all 1) 0 all ≡ 0 → whole ≤ all → (whole ≡ 0) × (all ≤ 1)
all_none whole all none le = by (eqb whole 0 && eqb all 1) refl none where
  by : (t : Bool) → (eqb whole 0 && eqb all 1) ≡ t → cond t 0 all ≡ 0 → (whole ≡ 0) × (all ≤ 1)
  by true is none = (grind (arith, nat_tests), grind (arith, nat_tests))
  by false is none = (omega arith, omega arith)

-- no digit stands first, nor behind a `.`
decimal_none : (b c : ℕ) (rest : List ℕ) → decimal_length (b ∷ c ∷ rest) ≡ 0 → (is_no_digit b ≡ true) × (eqb b 46 ≡ true → is_no_digit c ≡ true)
decimal_none b c rest none = (first (is_no_digit b) refl none, λ point. second (is_no_digit b) (is_no_digit c) refl refl point none) where
  first : (t : Bool) → is_no_digit b ≡ t → decimal_length (b ∷ c ∷ rest) ≡ 0 → is_no_digit b ≡ true
  first true is none = is
  first false is none =
      let whole : ℕ = position_or_len is_no_digit (b ∷ c ∷ rest) in
      let w : whole ≡ 1 + position_or_len is_no_digit (c ∷ rest) = ap (λ t. cond (not t) (1 + position_or_len is_no_digit (c ∷ rest)) 0) is in
      let z = all_none whole (whole + fraction_length (drop whole (b ∷ c ∷ rest))) none (omega arith) in
      let zero : whole ≡ 0 = z.0 in
      absurd (omega arith)

  second : (t s : Bool) → is_no_digit b ≡ t → is_no_digit c ≡ s → eqb b 46 ≡ true → decimal_length (b ∷ c ∷ rest) ≡ 0 → is_no_digit c ≡ true
  second t true is next point none = next
  second true false is next point none =
      let whole : ℕ = position_or_len is_no_digit (b ∷ c ∷ rest) in
      let w : whole ≡ 0 = ap (λ t. cond (not t) (1 + position_or_len is_no_digit (c ∷ rest)) 0) is in
      let f : fraction_length (drop whole (b ∷ c ∷ rest)) ≡ 1 + position_or_len is_no_digit (c ∷ rest) =
      ap (λ n. fraction_length (drop n (b ∷ c ∷ rest))) w ∙ ap (λ t. cond t (1 + position_or_len is_no_digit (c ∷ rest)) 0) point in
      let d : position_or_len is_no_digit (c ∷ rest) ≡ 1 + position_or_len is_no_digit rest = ap (λ t. cond (not t) (1 + position_or_len is_no_digit rest) 0) next in
      let z = all_none whole (whole + fraction_length (drop whole (b ∷ c ∷ rest))) none (omega arith) in
      let few : whole + fraction_length (drop whole (b ∷ c ∷ rest)) ≤ 1 = z.1 in
      absurd (omega arith)
  second false false is next point none = absurd (false≢true (sym is ∙ first false is none))

none_of : (b c : ℕ) (rest : List ℕ) → is_no_digit b ≡ true → (eqb b 46 ≡ true → is_no_digit c ≡ true) → decimal_length (b ∷ c ∷ rest) ≡ 0
none_of b c rest is next =
    let whole : ℕ = position_or_len is_no_digit (b ∷ c ∷ rest) in
    let w : whole ≡ 0 = ap (λ t. cond (not t) (1 + position_or_len is_no_digit (c ∷ rest)) 0) is in
    let f : fraction_length (drop whole (b ∷ c ∷ rest)) ≡ cond (eqb b 46) (1 + position_or_len is_no_digit (c ∷ rest)) 0 = ap (λ n. fraction_length (drop n (b ∷ c ∷ rest))) w in
    by (eqb b 46) refl f
  where
    by : (t : Bool) → eqb b 46 ≡ t → fraction_length (drop (position_or_len is_no_digit (b ∷ c ∷ rest)) (b ∷ c ∷ rest)) ≡ cond t (1 + position_or_len is_no_digit (c ∷ rest)) 0 → decimal_length (b ∷ c ∷ rest) ≡ 0
    by true point f =
        let w : position_or_len is_no_digit (b ∷ c ∷ rest) ≡ 0 = ap (λ t. cond (not t) (1 + position_or_len is_no_digit (c ∷ rest)) 0) is in
        let d : position_or_len is_no_digit (c ∷ rest) ≡ 0 = ap (λ t. cond (not t) (1 + position_or_len is_no_digit rest) 0) (next point) in
        let g : fraction_length (drop (position_or_len is_no_digit (b ∷ c ∷ rest)) (b ∷ c ∷ rest)) ≡ 1 = f ∙ ap (λ n. 1 + n) d in
        λ i. cond (eqb (w i) 0 && eqb (w i + g i) 1) 0 (w i + g i)
    by false point f =
        let w : position_or_len is_no_digit (b ∷ c ∷ rest) ≡ 0 = ap (λ t. cond (not t) (1 + position_or_len is_no_digit (c ∷ rest)) 0) is in
        λ i. cond (eqb (w i) 0 && eqb (w i + f i) 1) 0 (w i + f i)

number_more : (b : ℕ) (rest more : List ℕ) → 1 ≤ length rest → (number_front (b ∷ rest)).form ≡ Malformed → number_front (b ∷ (rest ++ more)) ≡ number_front (b ∷ rest)
number_more b [] more some bad = absurd (omega arith)
number_more b (c ∷ rest) more some bad =
    let here : decimal_length (b ∷ c ∷ rest) ≡ 0 = number_bad (decimal_length (b ∷ c ∷ rest)) _ bad in
    let none = decimal_none b c rest here in
    let there : decimal_length (b ∷ c ∷ (rest ++ more)) ≡ 0 = none_of b c (rest ++ more) none.0 none.1 in
    at_none (b ∷ c ∷ (rest ++ more)) there ∙ sym (at_none (b ∷ c ∷ rest) here)
  where
    at_none : (text : List ℕ) → decimal_length text ≡ 0 → number_front text ≡ fronted Malformed 0
    at_none text is = ap (λ n. cond (eqb n 0) (fronted Malformed 0) (fronted Number (n + exponent_length (drop n text)))) is

-- a `"` whose line ends
fewer : (p q : ℕ → Bool) → ((b : ℕ) → p b ≡ true → q b ≡ true) → (text : List ℕ) → position_or_len q text ≤ position_or_len p text
fewer p q to [] = omega arith
fewer p q to (b ∷ rest) =
    let later : position_or_len q rest ≤ position_or_len p rest = fewer p q to rest in
    by (p b) (q b) (to b) later
  where
    by : (s t : Bool) → (s ≡ true → t ≡ true) → position_or_len q rest ≤ position_or_len p rest → cond (not t) (1 + position_or_len q rest) 0 ≤ cond (not s) (1 + position_or_len p rest) 0
    by s true f le = omega arith
    by true false f le = absurd (false≢true (f refl))
    by false false f le = omega arith

newline_ends : (b : ℕ) → is_newline b ≡ true → is_unquotable b ≡ true
newline_ends b h = ap (λ t. t || eqb b 34) h

quote_same : (l more : List ℕ) → 1 ≤ length l → is_quote (l ++ more) ≡ is_quote l
quote_same [] more some = absurd (omega arith)
quote_same (b ∷ l) more some = refl

quoted_more : (rest more : List ℕ) → position_or_len is_newline rest < length rest → quoted_front (rest ++ more) ≡ quoted_front rest
quoted_more rest more lt =
    let inside : ℕ = position_or_len is_unquotable rest in
    let few : inside ≤ position_or_len is_newline rest = fewer is_newline is_unquotable newline_ends rest in
    let same : position_or_len is_unquotable (rest ++ more) ≡ inside = position_more is_unquotable rest more (omega arith) in
    let left : length (drop inside rest) ≡ length rest - inside = length-drop inside rest in
    let q : is_quote (drop (position_or_len is_unquotable (rest ++ more)) (rest ++ more)) ≡ is_quote (drop inside rest) =
    ap (λ n. is_quote (drop n (rest ++ more))) same ∙ (ap is_quote (drop-append-le inside rest more (omega arith)) ∙ quote_same (drop inside rest) more (omega arith)) in
    λ i. cond (q i) (fronted Quoted (same i + 2)) (fronted Malformed 0)

bad_more : (b : ℕ) (rest more : List ℕ) → 1 ≤ length rest → (b ≡ 34 → position_or_len is_newline rest < length rest) → (front (b ∷ rest)).form ≡ Malformed → front (b ∷ (rest ++ more)) ≡ front (b ∷ rest)
unfolding front
bad_more b rest more some line bad =
    bad_same (is_ascii_alphabetic b) (fronted Word (1 + position_or_len is_outside_word rest)) (fronted Word (1 + position_or_len is_outside_word (rest ++ more))) _ _ (λ _ word. no_word (1 + position_or_len is_outside_word rest) word) (λ _ bad.
    bad_same (is_ascii_digit b || eqb b 46) (number_front (b ∷ rest)) (number_front (b ∷ (rest ++ more))) _ _ (λ _ number. number_more b rest more some number) (λ _ bad.
    bad_same (eqb b 34) (quoted_front rest) (quoted_front (rest ++ more)) (mark_front b rest) (mark_front b (rest ++ more)) (λ quote _. quoted_more rest more (line (eqb-true b 34 quote))) (λ _ _. mark_more b rest more some) bad) bad) bad

pub stays_malformed : (p : Position) → blank_length p.rest ≡ 0 → eqb (number_of (front p.rest).form) 19 ≡ true → 2 ≤ length p.rest
    → (get_or p.rest 0 0 ≡ 34 → position_or_len is_newline (drop 1 p.rest) < length (drop 1 p.rest)) → StaysMalformed p
stays_malformed p none bad some line = record {
  token = record { form = Malformed; bytes = []; line = p.line; column = p.column };
  malformed = refl;
  always = λ more. by p.rest none (same_form (front p.rest).form Malformed (eqb-true _ 19 bad)) some line more;
}
  where
    by : (text : List ℕ) → blank_length text ≡ 0 → (front text).form ≡ Malformed → 2 ≤ length text → (get_or text 0 0 ≡ 34 → position_or_len is_newline (drop 1 text) < length (drop 1 text))
        → (more : List ℕ) → lex 0 (record { line = p.line; column = p.column }) (text ++ more) ≡ record { form = Malformed; bytes = []; line = p.line; column = p.column } ∷ []
    by [] none bad some line more = absurd (omega arith)
    by (b ∷ rest) none bad some line more =
        let other : b ≡ 10 → ⊥ = blank_newline b rest none in
        let f : Front = front (b ∷ rest) in
        let zero : f.count ≡ 0 = eqb-true f.count 0 ((front_is_plain b rest other).some ∙ ap is_last bad) in
        let same : front (b ∷ (rest ++ more)) ≡ fronted Malformed 0 = bad_more b rest more (omega arith) line bad ∙ (λ i. fronted (bad i) (zero i)) in
        let count : (front (b ∷ (rest ++ more))).count ≡ 0 = ap (λ (g : Front). g.count) same in
        lex-token p.line p.column (b ∷ (rest ++ more)) (blank_none (b ∷ rest) more none some) (omega arith)
        ∙ (λ i. from_token (placed (same i) (record { line = p.line; column = p.column }) (b ∷ (rest ++ more))) (lex 0 (record { line = p.line; column = p.column + (same i).count }) (drop (same i).count (b ∷ (rest ++ more)))))

-- a token that enough bytes follow
inner_form : (f : Form) → is_last f ≡ false → eqb (number_of f) 19 ≡ false
inner_form Malformed h = absurd (false≢true (sym h))
inner_form _ h = refl

pub sure_token : (p : Position) (f : Front) (t : TokenView) (new : Position) (more : List ℕ) → blank_length p.rest ≡ 0 → f ≡ front p.rest → is_last f.form ≡ false → f.count + 3 ≤ length p.rest
    → t ≡ placed f (record { line = p.line; column = p.column }) p.rest → new ≡ moved f.count p → tokens (extended p more) ≡ from_token t (tokens (extended new more))
sure_token p f t new more none is inner followed shown_is moved_is =
    let Q : Front → Type 0 = λ g. tokens (extended p more) ≡ from_token (placed g (record { line = p.line; column = p.column }) p.rest) (tokens (extended (moved g.count p) more)) in
    let law = (changes_later p more).token none (subst (λ (g : Front). eqb (number_of g.form) 19 ≡ false) is (inner_form f.form inner)) (subst (λ (g : Front). g.count + 3 ≤ length p.rest) is followed) in
    subst Q (sym is) law.1 ∙ (λ i. from_token (sym shown_is i) (tokens (extended (sym moved_is i) more)))
