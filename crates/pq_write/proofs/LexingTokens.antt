-- What the lexer makes of the parts of a canonical text, whatever follows them.
use Rattle.std.proofs.Common.{◌≡◌, ℕ, ◌+◌, ◌<◌, ◌≤◌, Bool, true, false, not, ◌&&◌, ◌||◌, eqb, cond, List, [], ◌∷◌, ◌++◌, length, take, drop, codes, decimal, refl, sym, ap, ◌∙◌, subst, arith, append_assoc, length-append}
use Rattle.std.specs.List.{position_or_len, list_all, AllByRecursion}
use Rattle.std.specs.Char.{is_ascii_digit, is_ascii_alphabetic, digit_value}
use Rattle.std.specs.Str.Parse.{AllDigits}
use Rattle.std.proofs.lemmas.Bool.{and_parts, false≢true}
use Rattle.std.proofs.lemmas.Bool.Decides.{nat_tests}
use Rattle.std.proofs.lemmas.List.{take_at, drop_at, map-append}
use Rattle.std.proofs.lemmas.Str.Parse.{digit_from_value}
use Rattle.std.proofs.lemmas.Fmt.{decimal_is_IsNumeral}
use Rattle.pq_lex.specs.declared.token.Form.{Form}
use Rattle.pq_lex.specs.declared.token.Form.TheVariants.{Word, Number, Semicolon, Comma, LeftBracket, RightBracket, Arrow, Malformed}
use Rattle.pq_lex.specs.Token.{TokenView, is_last}
use Rattle.pq_lex.specs.Front.{is_word_byte, is_outside_word, is_no_digit, is_separator, blank_length, Front, fronted, fraction_length, decimal_length, exponent_length, number_front, front}
use Rattle.pq_lex.specs.Lex.{Place, placed, lex, tokens, from_token}
use Rattle.pq_lex.proofs.Lexing.{lex-token}
use Rattle.pq_write.proofs.Shapes.{Shape, shape, shape_of, comma, semicolon, arrow, position, LexedAt, Lexes}

-- a letter, and then bytes of words
abbrev pub IsWord : List ℕ → Type 0
IsWord [] = ⊥
IsWord (b ∷ rest) = (is_ascii_alphabetic b ≡ true) × (list_all is_word_byte rest ≡ true)

-- a text of no tokens, and texts one after the other
pub nothing : Lexes [] []
nothing rest line column = record { front = []; next_line = line; next_column = column; shaped = refl; lexed = refl }

pub then_more : (t u : List ℕ) (s v : List Shape) (rest : List ℕ) (line column : ℕ) → LexedAt t s (u ++ rest) line column → Lexes u v → LexedAt (t ++ u) (s ++ v) rest line column
then_more t u s v rest line column a later =
    let b : LexedAt u v rest a.next_line a.next_column = later rest a.next_line a.next_column in
    record {
      front = a.front ++ b.front;
      next_line = b.next_line;
      next_column = b.next_column;
      shaped = map-append shape_of a.front b.front ∙ (λ i. a.shaped i ++ b.shaped i);
      lexed =
          ap (λ text. tokens (position text line column)) (append_assoc t u rest)
          ∙ (a.lexed ∙ (ap (λ (ts : List TokenView). a.front ++ ts) b.lexed ∙ sym (append_assoc a.front b.front (tokens (position rest b.next_line b.next_column)))));
    }

pub both : (t u : List ℕ) (s v : List Shape) → Lexes t s → Lexes u v → Lexes (t ++ u) (s ++ v)
both t u s v first second rest line column = then_more t u s v rest line column (first (u ++ rest) line column) second

pub either : (test : Bool) (t u : List ℕ) (s v : List Shape) → (test ≡ true → Lexes t s) → Lexes u v → Lexes (cond test t u) (cond test s v)
either true t u s v first second = first refl
either false t u s v first second = second

-- the token at the start of a text, by what stands there
pub one_token : (form : Form) (text rest : List ℕ) (line column : ℕ) → blank_length (text ++ rest) ≡ 0 → front (text ++ rest) ≡ fronted form (length text) → is_last form ≡ false → LexedAt text (shape form text ∷ []) rest line column
one_token form text rest line column none is goes =
    let all : List ℕ = text ++ rest in
    let at : Place = record { line = line; column = column } in
    let P : Front → Type 0 = λ g. lex 0 at all ≡ from_token (placed g at all) (lex 0 (record { line = line; column = column + g.count }) (drop g.count all)) in
    let inside : length text ≤ length all = omega (arith, length-append text rest) in
    let within : (front all).count ≤ length all = subst (λ (g : Front). g.count ≤ length all) (sym is) inside in
    let e : P (fronted form (length text)) = subst P is (lex-token line column all none within) in
    let bytes : take (length text) all ≡ text = take_at text rest (length text) refl in
    let later : drop (length text) all ≡ rest = drop_at text rest (length text) refl in
    record {
      front = record { form = form; bytes = text; line = line; column = column } ∷ [];
      next_line = line;
      next_column = column + length text;
      shaped = refl;
      lexed = e ∙ (λ i. record { form = form; bytes = bytes i; line = line; column = column } ∷ cond (goes i) [] (lex 0 (record { line = line; column = column + length text }) (later i)));
    }

pub no_blank : (b : ℕ) (rest : List ℕ) → is_separator b ≡ false → eqb b 47 ≡ false → blank_length (b ∷ rest) ≡ 0
no_blank b [] separates slash = ap (λ t. cond t 1 0) separates
no_blank b (c ∷ rest) separates slash = λ i. cond (separates i) 1 (cond (slash i && eqb c 47) (2 + position_or_len (λ x. eqb x 10) rest) 0)

mark : (b : ℕ) (form : Form) → is_separator b ≡ false → eqb b 47 ≡ false → is_last form ≡ false → ((rest : List ℕ) → front (b ∷ rest) ≡ fronted form 1) → Lexes (b ∷ []) (shape form (b ∷ []) ∷ [])
mark b form separates slash goes is rest line column = one_token form (b ∷ []) rest line column (no_blank b rest separates slash) (is rest) goes

pub space : Lexes (32 ∷ []) []
unfolding lex
space rest line column = record { front = []; next_line = line; next_column = column + 1; shaped = refl; lexed = refl }

newline : Lexes (10 ∷ []) []
unfolding lex
newline rest line column = record { front = []; next_line = line + 1; next_column = 1; shaped = refl; lexed = refl }

pub comma_alone : Lexes (44 ∷ []) (comma ∷ [])
unfolding front
comma_alone = mark 44 Comma refl refl refl (λ rest. refl)

semicolon_alone : Lexes (59 ∷ []) (semicolon ∷ [])
unfolding front
semicolon_alone = mark 59 Semicolon refl refl refl (λ rest. refl)

pub left_bracket : Lexes (91 ∷ []) (shape LeftBracket (codes "[") ∷ [])
unfolding front
left_bracket = mark 91 LeftBracket refl refl refl (λ rest. refl)

pub right_bracket : Lexes (93 ∷ []) (shape RightBracket (codes "]") ∷ [])
unfolding front
right_bracket = mark 93 RightBracket refl refl refl (λ rest. refl)

pub arrow_alone : Lexes (codes "->") (arrow ∷ [])
unfolding front
arrow_alone rest line column = one_token Arrow (codes "->") rest line column (no_blank 45 (62 ∷ rest) refl refl) refl refl

pub end_of_line : Lexes (codes ";\n") (semicolon ∷ [])
end_of_line = both (codes ";") (codes "\n") (semicolon ∷ []) [] semicolon_alone newline

-- words and numbers end at the byte that follows them
ends_there : (p : ℕ → Bool) (xs : List ℕ) (b : ℕ) (rest : List ℕ) → AllByRecursion (λ x. p x ≡ false) xs → p b ≡ true → position_or_len p (xs ++ b ∷ rest) ≡ length xs
ends_there p [] b rest all ends = ap (λ t. cond (not t) (1 + position_or_len p rest) 0) ends
ends_there p (x ∷ xs) b rest all ends =
    let e : 1 + length xs ≡ length (x ∷ xs) = omega arith in
    ap (λ t. cond (not t) (1 + position_or_len p (xs ++ b ∷ rest)) 0) all.0 ∙ (ap (λ n. 1 + n) (ends_there p xs b rest all.1 ends) ∙ e)

passes : {A : Type 0} (t : Bool) (x y : A) → t ≡ true → cond t x y ≡ x
passes true x y h = refl
passes false x y h = absurd (false≢true h)

fails : {A : Type 0} (t : Bool) (x y : A) → t ≡ false → cond t x y ≡ y
fails true x y h = absurd (false≢true (sym h))
fails false x y h = refl

inside_word : (word : List ℕ) → list_all is_word_byte word ≡ true → AllByRecursion (λ x. is_outside_word x ≡ false) word
inside_word [] h = tt
inside_word (b ∷ word) h =
    let parts = and_parts (is_word_byte b) (list_all is_word_byte word) h in (ap not parts.0, inside_word word parts.1)

letter_separates : (b : ℕ) → is_ascii_alphabetic b ≡ true → is_separator b ≡ false
letter_separates b h = grind (arith, nat_tests)

letter_slash : (b : ℕ) → is_ascii_alphabetic b ≡ true → eqb b 47 ≡ false
letter_slash b h = grind (arith, nat_tests)

word_blank : (word rest : List ℕ) → IsWord word → blank_length (word ++ rest) ≡ 0
word_blank [] rest is = absurd is
word_blank (b ∷ word) rest is = no_blank b (word ++ rest) (letter_separates b is.0) (letter_slash b is.0)

word_front : (word : List ℕ) (b : ℕ) (rest : List ℕ) → IsWord word → is_word_byte b ≡ false → front (word ++ b ∷ rest) ≡ fronted Word (length word)
unfolding front
word_front [] b rest is ends = absurd is
word_front (a ∷ word) b rest is ends =
    let e : 1 + length word ≡ length (a ∷ word) = omega arith in
    passes (is_ascii_alphabetic a) (fronted Word (1 + position_or_len is_outside_word (word ++ b ∷ rest))) _ is.0
    ∙ (ap (λ n. fronted Word (1 + n)) (ends_there is_outside_word word b rest (inside_word word is.1) (ap not ends)) ∙ ap (fronted Word) e)

pub word_then : (word : List ℕ) (b : ℕ) (t : List ℕ) (s : List Shape) → IsWord word → is_word_byte b ≡ false → Lexes (b ∷ t) s → Lexes (word ++ b ∷ t) (shape Word word ∷ s)
word_then word b t s is ends later rest line column =
    then_more word (b ∷ t) (shape Word word ∷ []) s rest line column (one_token Word word (b ∷ (t ++ rest)) line column (word_blank word (b ∷ (t ++ rest)) is) (word_front word b (t ++ rest) is ends) refl) later

pub word_space : (word t : List ℕ) (s : List Shape) → IsWord word → Lexes t s → Lexes (word ++ 32 ∷ t) (shape Word word ∷ s)
word_space word t s is later = word_then word 32 t s is refl (both (32 ∷ []) t [] s space later)

-- how long a number is by its digits and what follows them, and its form by its length
abbrev after_whole : ℕ → List ℕ → ℕ
after_whole n later = cond (eqb n 0 && eqb (n + fraction_length later) 1) 0 (n + fraction_length later)

abbrev after_count : ℕ → List ℕ → Front
after_count n later = cond (eqb n 0) (fronted Malformed 0) (fronted Number (n + exponent_length later))

not_zero : (n : ℕ) → 0 < n → eqb n 0 ≡ false
not_zero n some = grind (arith, nat_tests)

number_length : (ds rest : List ℕ) → 0 < length ds → AllByRecursion (λ x. is_no_digit x ≡ false) ds → decimal_length (ds ++ 93 ∷ rest) ≡ length ds
number_length ds rest some all =
    let text : List ℕ = ds ++ 93 ∷ rest in
    let n : ℕ = length ds in
    let later : drop n text ≡ 93 ∷ rest = drop_at ds (93 ∷ rest) n refl in
    let zero : eqb n 0 ≡ false = not_zero n some in
    let e : n + 0 ≡ n = omega arith in
    ap (λ k. after_whole k (drop k text)) (ends_there is_no_digit ds 93 rest all refl)
    ∙ (ap (after_whole n) later ∙ (ap (λ t. cond (t && eqb (n + 0) 1) 0 (n + 0)) zero ∙ e))

number_text : (ds rest : List ℕ) → 0 < length ds → AllByRecursion (λ x. is_no_digit x ≡ false) ds → number_front (ds ++ 93 ∷ rest) ≡ fronted Number (length ds)
number_text ds rest some all =
    let text : List ℕ = ds ++ 93 ∷ rest in
    let n : ℕ = length ds in
    let later : drop n text ≡ 93 ∷ rest = drop_at ds (93 ∷ rest) n refl in
    let e : n + 0 ≡ n = omega arith in
    ap (λ k. after_count k (drop k text)) (number_length ds rest some all)
    ∙ (ap (after_count n) later ∙ (ap (λ t. cond t (fronted Malformed 0) (fronted Number (n + 0))) (not_zero n some) ∙ ap (fronted Number) e))

digit_letter : (b : ℕ) → is_no_digit b ≡ false → is_ascii_alphabetic b ≡ false
digit_letter b h = grind (arith, nat_tests)

digit_begins : (b : ℕ) → is_no_digit b ≡ false → (is_ascii_digit b || eqb b 46) ≡ true
digit_begins b h = grind (arith, nat_tests)

digit_separates : (b : ℕ) → is_no_digit b ≡ false → is_separator b ≡ false
digit_separates b h = grind (arith, nat_tests)

digit_slash : (b : ℕ) → is_no_digit b ≡ false → eqb b 47 ≡ false
digit_slash b h = grind (arith, nat_tests)

number_blank : (ds rest : List ℕ) → 0 < length ds → AllByRecursion (λ x. is_no_digit x ≡ false) ds → blank_length (ds ++ rest) ≡ 0
number_blank [] rest some all = absurd (omega arith)
number_blank (d ∷ ds) rest some all = no_blank d (ds ++ rest) (digit_separates d all.0) (digit_slash d all.0)

number_at : (ds rest : List ℕ) → 0 < length ds → AllByRecursion (λ x. is_no_digit x ≡ false) ds → front (ds ++ 93 ∷ rest) ≡ fronted Number (length ds)
unfolding front
number_at [] rest some all = absurd (omega arith)
number_at (d ∷ ds) rest some all =
    fails (is_ascii_alphabetic d) (fronted Word (1 + position_or_len is_outside_word (ds ++ 93 ∷ rest))) _ (digit_letter d all.0)
    ∙ (passes (is_ascii_digit d || eqb d 46) (number_front (d ∷ (ds ++ 93 ∷ rest))) _ (digit_begins d all.0) ∙ number_text (d ∷ ds) rest some all)

is_digit : (b : ℕ) → digit_value b < 10 → is_no_digit b ≡ false
is_digit b h = let range = digit_from_value b h in grind (arith, nat_tests)

inside_number : (ds : List ℕ) → AllDigits 10 ds → AllByRecursion (λ x. is_no_digit x ≡ false) ds
inside_number [] all = tt
inside_number (d ∷ ds) all = (is_digit d all.0, inside_number ds all.1)

pub number_then : (n : ℕ) (t : List ℕ) (s : List Shape) → n ≤ 4096 → Lexes (93 ∷ t) s → Lexes (decimal n ++ 93 ∷ t) (shape Number (decimal n) ∷ s)
number_then n t s small later rest line column =
    let numeral = decimal_is_IsNumeral n (omega arith) in
    let all : AllByRecursion (λ x. is_no_digit x ≡ false) (decimal n) = inside_number (decimal n) numeral.0.1 in
    then_more (decimal n) (93 ∷ t) (shape Number (decimal n) ∷ []) s rest line column
    (one_token Number (decimal n) (93 ∷ (t ++ rest)) line column (number_blank (decimal n) (93 ∷ (t ++ rest)) numeral.0.0 all) (number_at (decimal n) (t ++ rest) numeral.0.0 all) refl) later
