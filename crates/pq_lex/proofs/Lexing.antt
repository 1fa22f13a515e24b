-- How the list of tokens goes on where a cursor goes over bytes.
use Rattle.std.proofs.Common.{◌≡◌, ℕ, zero, suc, ◌+◌, ◌≤◌, true, false, eqb, cond, List, [], ◌∷◌, length, drop, get_or, refl, sym, ap, ◌∙◌, subst, arith}
use borrow.Author.Tests.{eqb-true}
use Rattle.std.proofs.Math.Dec.{eqb-suc-zero}
use Rattle.pq_lex.specs.Token.{TokenView, is_last}
use Rattle.pq_lex.specs.Front.{Front, blank_length, front}
use Rattle.pq_lex.specs.Lex.{Place, after, placed, then_rest, shown, lex, Position, moved, tokens, from_token, first_form}
use Rattle.pq_lex.proofs.Plain.{Plain, IsPlain, front_is_plain, blank_is_plain}

place_of : ℕ → ℕ → Place
place_of line column = record { line = line; column = column }

not_newline : (b : ℕ) → (b ≡ 10 → ⊥) → eqb b 10 ≡ false
not_newline b other = elim (eqb b 10) as (λ v. eqb b 10 ≡ v → eqb b 10 ≡ false) [ true ↦ λ e. absurd (other (eqb-true b 10 e)) | false ↦ λ e. e ] refl

-- bytes without newline that belong to what stands before are gone over
pub lex-plain : (k line column : ℕ) (text : List ℕ) → Plain k text → k ≤ length text
    → lex k (record { line = line; column = column }) text ≡ lex 0 (record { line = line; column = column + k }) (drop k text)
unfolding lex
lex-plain zero line column text plain le = λ i. lex 0 (record { line = line; column = (let e : column ≡ column + 0 = omega arith in e) i }) text
lex-plain (suc k) line column [] plain le = absurd (omega arith)
lex-plain (suc k) line column (b ∷ rest) plain le =
    let here : after b (record { line = line; column = column }) ≡ record { line = line; column = column + 1 } =
    ap (λ t. cond t (record { line = line + 1; column = 1 }) (record { line = line; column = column + 1 })) (not_newline b (plain zero (omega arith))) in
    let next : lex k (record { line = line; column = column + 1 }) rest ≡ lex 0 (record { line = line; column = (column + 1) + k }) (drop k rest) =
    lex-plain k line (column + 1) rest (λ i h. plain (suc i) (omega arith)) (omega arith) in
    let e : (column + 1) + k ≡ column + suc k = omega arith in
    ap (λ at. lex k at rest) here ∙ (next ∙ (λ i. lex 0 (record { line = line; column = e i }) (drop k rest)))

pub skip-newline : (line column : ℕ) (text : List ℕ) → get_or text 0 0 ≡ 10
    → lex 0 (record { line = line; column = column }) text ≡ lex 0 (record { line = line + 1; column = 1 }) (drop 1 text)
unfolding lex
skip-newline line column [] is = cc
skip-newline line column (b ∷ rest) is =
    let P : ℕ → Type 0 = λ x. lex 0 (record { line = line; column = column }) (x ∷ rest) ≡ lex 0 (record { line = line + 1; column = 1 }) rest in
    subst P (sym is) refl

pub skip-blank : (count line column : ℕ) (text : List ℕ) → (get_or text 0 0 ≡ 10 → ⊥) → 1 ≤ count → count ≡ blank_length text → count ≤ length text
    → lex 0 (record { line = line; column = column }) text ≡ lex 0 (record { line = line; column = column + count }) (drop count text)
unfolding lex
skip-blank zero line column text other some is within = absurd (omega arith)
skip-blank (suc m) line column [] other some is within = absurd (omega arith)
skip-blank (suc m) line column (b ∷ rest) other some is within =
    let at : Place = record { line = line; column = column } in
    ap (λ n. shown n (front (b ∷ rest)) at (b ∷ rest) (λ more. lex more (after b at) rest)) (sym is)
    ∙ lex-plain (suc m) line column (b ∷ rest) (subst (λ n. Plain n (b ∷ rest)) (sym is) (blank_is_plain b rest other)) within

then_goes_on : (n : ℕ) (t : TokenView) (rest : ℕ → List TokenView) (later : List TokenView) → eqb n 0 ≡ is_last t.form
    → ((m : ℕ) → n ≡ suc m → rest m ≡ later) → then_rest n t rest ≡ from_token t later
then_goes_on zero t rest later last goes = ap (λ l. t ∷ cond l [] later) last
then_goes_on (suc m) t rest later last goes =
    ap (λ (ts : List TokenView). t ∷ ts) (goes m refl) ∙ ap (λ l. t ∷ cond l [] later) (sym (eqb-suc-zero m) ∙ last)

one_is_some : (n : ℕ) → n ≡ 1 → n ≡ 0 → ⊥
one_is_some n a b = omega arith

blank_newline : (b : ℕ) (rest : List ℕ) → blank_length (b ∷ rest) ≡ 0 → b ≡ 10 → ⊥
blank_newline b rest none is =
    one_is_some (blank_length (10 ∷ rest)) refl (ap (λ x. blank_length (x ∷ rest)) (sym is) ∙ none)

pub lex-token : (line column : ℕ) (text : List ℕ) → blank_length text ≡ 0 → (front text).count ≤ length text
    → lex 0 (record { line = line; column = column }) text
    ≡ from_token (placed (front text) (record { line = line; column = column }) text) (lex 0 (record { line = line; column = column + (front text).count }) (drop (front text).count text))
unfolding lex front
lex-token line column [] none within = refl
lex-token line column (b ∷ rest) none within =
    let at : Place = record { line = line; column = column } in
    let other : b ≡ 10 → ⊥ = blank_newline b rest none in
    let f : Front = front (b ∷ rest) in
    let p : IsPlain (b ∷ rest) f = front_is_plain b rest other in
    ap (λ n. shown n f at (b ∷ rest) (λ more. lex more (after b at) rest)) none
    ∙ then_goes_on f.count (placed f at (b ∷ rest)) (λ more. lex more (after b at) rest) (lex 0 (record { line = line; column = column + f.count }) (drop f.count (b ∷ rest))) p.some
    (λ m e. ap (λ k. lex k at (b ∷ rest)) (sym e) ∙ lex-plain f.count line column (b ∷ rest) p.plain within)

-- one step of the cursor, from the token at the start after all that is skipped
pub next-token : (old mid : Position) (f : Front) (t : TokenView) (new : Position) → tokens mid ≡ tokens old → blank_length mid.rest ≡ 0
    → f ≡ front mid.rest → f.count ≤ length mid.rest → t ≡ placed f (record { line = mid.line; column = mid.column }) mid.rest
    → new ≡ moved f.count mid → tokens old ≡ from_token t (tokens new)
next-token old mid f t new same none is within shown_is moved_is =
    let at : Place = record { line = mid.line; column = mid.column } in
    let P : Front → Type 0 = λ g. tokens mid ≡ from_token (placed g at mid.rest) (tokens (moved g.count mid)) in
    let e : tokens mid ≡ from_token (placed f at mid.rest) (tokens (moved f.count mid)) =
    subst P (sym is) (lex-token mid.line mid.column mid.rest none (subst (λ (g : Front). g.count ≤ length mid.rest) is within)) in
    sym same ∙ (e ∙ (λ i. from_token (sym shown_is i) (tokens (sym moved_is i))))

pub peeked : (p : Position) (f : Front) → blank_length p.rest ≡ 0 → f ≡ front p.rest → f.count ≤ length p.rest → f.form ≡ first_form (tokens p)
peeked p f none is within =
    ap (λ (g : Front). g.form) is ∙ sym (ap first_form (lex-token p.line p.column p.rest none (subst (λ (g : Front). g.count ≤ length p.rest) is within)))

pub peeked_last : (p : Position) (f : Front) → blank_length p.rest ≡ 0 → f ≡ front p.rest → f.count ≤ length p.rest → is_last f.form ≡ true → length (tokens p) ≡ 1
peeked_last p f none is within last =
    let at : Place = record { line = p.line; column = p.column } in
    let all : tokens p ≡ from_token (placed (front p.rest) at p.rest) (tokens (moved (front p.rest).count p)) = lex-token p.line p.column p.rest none (subst (λ (g : Front). g.count ≤ length p.rest) is within) in
    let last_front : is_last (front p.rest).form ≡ true = ap (λ (g : Front). is_last g.form) (sym is) ∙ last in
    ap length all ∙ ap (λ b. length (placed (front p.rest) at p.rest ∷ cond b [] (tokens (moved (front p.rest).count p)))) last_front

then_some : (n : ℕ) (t : TokenView) (rest : ℕ → List TokenView) → 1 ≤ length (then_rest n t rest)
then_some zero t rest = omega arith
then_some (suc m) t rest = omega arith

shown_some : (n : ℕ) (f : Front) (at : Place) (text : List ℕ) (rest : ℕ → List TokenView) → ((m : ℕ) → 1 ≤ length (rest m)) → 1 ≤ length (shown n f at text rest)
shown_some zero f at text rest h = then_some f.count (placed f at text) rest
shown_some (suc m) f at text rest h = h m

lex_some : (k : ℕ) (at : Place) (text : List ℕ) → 1 ≤ length (lex k at text)
unfolding lex
lex_some k at [] = omega arith
lex_some (suc k) at (b ∷ rest) = lex_some k (after b at) rest
lex_some zero at (b ∷ rest) = shown_some (blank_length (b ∷ rest)) (front (b ∷ rest)) at (b ∷ rest) (λ more. lex more (after b at) rest) (λ m. lex_some m (after b at) rest)

-- there is always a token, if only the missing one
pub tokens_some : (p : Position) → 1 ≤ length (tokens p)
tokens_some p = lex_some 0 (record { line = p.line; column = p.column }) p.rest
