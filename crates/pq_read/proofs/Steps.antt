-- One token of a piece.
use Rattle.std.proofs.Common.{◌≡◌, Bool, true, false, eqb, cond, List, [], ◌∷◌, Result, Ok, Err, if◌then◌else◌, refl, sym, ap, ◌∙◌, subst}
use borrow.Author.Tests.{eqb-true, eq-eqb}
use Rattle.std.specs.List.{list_all}
use Rattle.std.specs.Char.{is_ascii_digit}
use Rattle.pq_lex.specs.declared.token.Form.{Form}
use Rattle.pq_lex.specs.declared.token.Form.TheVariants.{Word, Number, Semicolon, Malformed}
use Rattle.pq_lex.specs.Token.{TokenView, number_of, is_last}
use Rattle.pq_lex.specs.Lex.{from_token, first_form}
use Rattle.pq_lex.proofs.Forms.{same_form}
use Rattle.pq_read.specs.declared.refusal.Refusal.{Refusal}
use Rattle.pq_read.specs.declared.refusal.Kind.TheVariants.{BadToken, NoHeader, Syntax}
use Rattle.pq_read.specs.Faults.{refused, unexpected, is_form, head, demanded, integer_at, ◌>>=◌}
use Rattle.pq_read.specs.After.{begins_header, header_word}
use Rattle.pq_read.proofs.Names.{and_both}
use Rattle.pq_read.specs.Gives.{through, beyond, IsInside}

-- the first token of a piece, and the rest of the piece
pub through-inside : (t : TokenView) (more : List TokenView) → IsInside t.form → through (from_token t more) ≡ t ∷ through more
unfolding through
through-inside t more inside =
    ap (λ b. t ∷ cond b [] (through (cond (is_last t.form) [] more))) inside.no_end ∙ ap (λ b. t ∷ through (cond b [] more)) inside.no_last

pub beyond-inside : (t : TokenView) (more : List TokenView) → IsInside t.form → beyond (from_token t more) ≡ beyond more
unfolding beyond
beyond-inside t more inside =
    ap (λ b. cond b (cond (is_last t.form) [] more) (beyond (cond (is_last t.form) [] more))) inside.no_end ∙ ap (λ b. beyond (cond b [] more)) inside.no_last

is_inside : (form : Form) (t : TokenView) → is_form form t ≡ true → IsInside form → IsInside t.form
is_inside form t is inside = subst IsInside (sym (same_form t.form form (eqb-true _ _ is))) inside

pub demanded-found : (form : Form) (t : TokenView) (ts more : List TokenView) → ts ≡ from_token t more → is_form form t ≡ true → IsInside form
    → demanded form (through ts) ≡ Ok (t, through more)
demanded-found form t ts more e is inside =
    ap (λ l. demanded form (through l)) e
    ∙ (ap (demanded form) (through-inside t more (is_inside form t is inside))
    ∙ ap (λ b. let r : Result (TokenView × List TokenView) Refusal = cond b (Ok (t, through more)) (Err (unexpected t)) in r) is)

pub beyond-found : (form : Form) (t : TokenView) (ts more : List TokenView) → ts ≡ from_token t more → is_form form t ≡ true → IsInside form
    → beyond more ≡ beyond ts
beyond-found form t ts more e is inside = sym (ap beyond e ∙ beyond-inside t more (is_inside form t is inside))

pub demanded-other : (form : Form) (t : TokenView) (ts more : List TokenView) → ts ≡ from_token t more → is_form form t ≡ false
    → demanded form (through ts) ≡ Err (unexpected t)
unfolding through
demanded-other form t ts more e is =
    ap (λ l. demanded form (through l)) e
    ∙ ap (λ b. let r : Result (TokenView × List TokenView) Refusal = cond b (Ok (t, cond (is_form Semicolon t) [] (through (cond (is_last t.form) [] more)))) (Err (unexpected t)) in r) is

pub demanded-end : (t : TokenView) (ts more : List TokenView) → ts ≡ from_token t more → is_form Semicolon t ≡ true
    → demanded Semicolon (through ts) ≡ Ok (t, [])
unfolding through
demanded-end t ts more e is =
    ap (λ l. demanded Semicolon (through l)) e
    ∙ ap (λ b. let r : Result (TokenView × List TokenView) Refusal = cond b (Ok (t, cond b [] (through (cond (is_last t.form) [] more)))) (Err (unexpected t)) in r) is

pub beyond-end : (t : TokenView) (ts more : List TokenView) → ts ≡ from_token t more → is_form Semicolon t ≡ true → more ≡ beyond ts
unfolding beyond
beyond-end t ts more e is =
    let same : t.form ≡ Semicolon = same_form t.form Semicolon (eqb-true _ _ is) in
    sym (ap beyond e
    ∙ (ap (λ b. cond b (cond (is_last t.form) [] more) (beyond (cond (is_last t.form) [] more))) is
    ∙ ap (λ f. cond (is_last f) [] more) same))

pub head-through : (ts : List TokenView) → (head (through ts)).form ≡ first_form ts
unfolding through
head-through [] = refl
head-through (t ∷ ts) = refl

pub header-found : (t : TokenView) (ts more : List TokenView) → ts ≡ from_token t more → begins_header t ≡ true
    → header_word (through ts) ≡ Ok (t, through more)
header-found t ts more e is =
    let inside : IsInside t.form = is_inside Word t (and_both _ _ is).0 (record { no_end = refl; no_last = refl }) in
    ap (λ l. header_word (through l)) e
    ∙ (ap header_word (through-inside t more inside)
    ∙ ap (λ b. let r : Result (TokenView × List TokenView) Refusal = cond b (Ok (t, through more)) (cond (is_form Malformed t) (Err (refused BadToken t)) (Err (refused NoHeader t))) in r) is)

pub header-later : (t : TokenView) (ts more : List TokenView) → ts ≡ from_token t more → begins_header t ≡ true → beyond more ≡ beyond ts
header-later t ts more e is = beyond-found Word t ts more e (and_both _ _ is).0 (record { no_end = refl; no_last = refl })

pub header-other : (t : TokenView) (ts more : List TokenView) (malformed : Bool) → ts ≡ from_token t more → begins_header t ≡ false → is_form Malformed t ≡ malformed
    → header_word (through ts) ≡ Err (refused (if malformed then BadToken else NoHeader) t)
unfolding through
header-other t ts more true e is bad =
    ap (λ l. header_word (through l)) e
    ∙ (λ i. let r : Result (TokenView × List TokenView) Refusal = cond (is i) (Ok (t, cond (is_form Semicolon t) [] (through (cond (is_last t.form) [] more)))) (cond (bad i) (Err (refused BadToken t)) (Err (refused NoHeader t))) in r)
header-other t ts more false e is bad =
    ap (λ l. header_word (through l)) e
    ∙ (λ i. let r : Result (TokenView × List TokenView) Refusal = cond (is i) (Ok (t, cond (is_form Semicolon t) [] (through (cond (is_last t.form) [] more)))) (cond (bad i) (Err (refused BadToken t)) (Err (refused NoHeader t))) in r)

is_of : (form : Form) (t : TokenView) → t.form ≡ form → is_form form t ≡ true
is_of form t is = eq-eqb (number_of t.form) (number_of form) (ap number_of is)

-- the next token, whose form is known
pub demanded-known : (form : Form) (t : TokenView) (ts more : List TokenView) → ts ≡ from_token t more → t.form ≡ form → IsInside form
    → demanded form (through ts) ≡ Ok (t, through more)
demanded-known form t ts more e is inside = demanded-found form t ts more e (is_of form t is) inside

pub beyond-known : (form : Form) (t : TokenView) (ts more : List TokenView) → ts ≡ from_token t more → t.form ≡ form → IsInside form → beyond more ≡ beyond ts
beyond-known form t ts more e is inside = beyond-found form t ts more e (is_of form t is) inside

pub demanded-end-known : (t : TokenView) (ts more : List TokenView) → ts ≡ from_token t more → t.form ≡ Semicolon → demanded Semicolon (through ts) ≡ Ok (t, [])
demanded-end-known t ts more e is = demanded-end t ts more e (is_of Semicolon t is)

pub beyond-end-known : (t : TokenView) (ts more : List TokenView) → ts ≡ from_token t more → t.form ≡ Semicolon → more ≡ beyond ts
beyond-end-known t ts more e is = beyond-end t ts more e (is_of Semicolon t is)

pub head-known : (t : TokenView) (ts more : List TokenView) → ts ≡ from_token t more → head (through ts) ≡ t
unfolding through
head-known t ts more e = ap (λ l. head (through l)) e

pub test-known : (form : Form) (t : TokenView) (ts more : List TokenView) → ts ≡ from_token t more → t.form ≡ form → is_form form (head (through ts)) ≡ true
test-known form t ts more e is = ap (is_form form) (head-known t ts more e) ∙ is_of form t is

pub test-other : (form : Form) (ts : List TokenView) → eqb (number_of (first_form ts)) (number_of form) ≡ false → is_form form (head (through ts)) ≡ false
test-other form ts other = ap (λ f. eqb (number_of f) (number_of form)) (head-through ts) ∙ other

-- the next token must be an integer and is one
pub integer-known : (t : TokenView) (ts more : List TokenView) → ts ≡ from_token t more → t.form ≡ Number → list_all is_ascii_digit t.bytes ≡ true
    → integer_at (through ts) ≡ Ok (t, through more)
unfolding integer_at
integer-known t ts more e is digits =
    ap (λ r. r >>= λ x. let s : Result (TokenView × List TokenView) Refusal = if list_all is_ascii_digit x.0.bytes then Ok x else Err (refused Syntax x.0) in s)
    (demanded-known Number t ts more e is (record { no_end = refl; no_last = refl }))
    ∙ ap (λ b. let s : Result (TokenView × List TokenView) Refusal = cond b (Ok (t, through more)) (Err (refused Syntax t)) in s) digits

pub head-form : (ts : List TokenView) → (head ts).form ≡ first_form ts
head-form [] = refl
head-form (t ∷ ts) = refl
