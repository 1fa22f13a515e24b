-- How a text is read piece by piece.
use Rattle.std.proofs.Common.{◌≡◌, ℕ, ◌<◌, ◌≤◌, Bool, true, false, ◌&&◌, ◌||◌, eqb, cond, List, [], ◌∷◌, length, Result, Ok, Err, codes, bytes_eq, refl, sym, ap, ◌∙◌, subst, arith}
use Rattle.std.proofs.lemmas.Bool.{false≢true}
use Rattle.pq_lex.specs.declared.token.Form.{Form}
use Rattle.pq_lex.specs.declared.token.Form.TheVariants.{Word, Semicolon, RightBrace, Missing}
use Rattle.pq_lex.specs.Token.{TokenView, number_of}
use Rattle.pq_lex.proofs.Forms.{same_form}
use borrow.Author.Tests.{eqb-true}
use Rattle.std.proofs.lemmas.Slice.Eq.{bytes_eq-Decides}
use Rattle.pq_text.specs.Program.{ProgramView}
use Rattle.pq_read.specs.declared.refusal.Refusal.{Refusal}
use Rattle.pq_read.specs.declared.refusal.Kind.TheVariants.{NoHeader, Unsupported}
use Rattle.pq_read.specs.declared.refusal.ReadError.{ReadError}
use Rattle.pq_read.specs.declared.refusal.ReadError.TheVariants as errors
use Rattle.pq_read.specs.declared.word.FirstWord.TheVariants.{Unsupported as UnsupportedWord}
use Rattle.pq_read.specs.Words.{first_word, unsupported_words}
use Rattle.pq_read.proofs.Names.{and_both}
use Rattle.pq_read.specs.declared.program.Options.{Options}
use Rattle.pq_read.specs.Faults.{◌>>=◌, refused, is_form}
use Rattle.pq_read.specs.Environment.{Env, start}
use Rattle.pq_read.specs.After.{header_at, put, statement_by, statement_at, piece_at, after}
use Rattle.pq_read.specs.Pieces.{Cut, Front, Until, ends_with, ended_by, joined_to, cut}
use Rattle.pq_read.specs.Reads.{is_done, read_pieces, read_tokens, read_of, Reads}
use Rattle.pq_lex.specs.Lex.{tokens_of, first_form}
use Rattle.pq_read.specs.Gives.{Fails, through, beyond}

-- whether a `;` comes
abbrev pub is_closed : List TokenView → Bool
is_closed [] = false
is_closed (t ∷ ts) = is_form Semicolon t || is_closed ts

-- the first piece in front of the cut of what follows it, or the rest alone
abbrev pub cut_by : Bool → List TokenView → Cut
cut_by true ts = record { pieces = through ts ∷ (cut Front (beyond ts)).pieces; rest = (cut Front (beyond ts)).rest }
cut_by false ts = record { pieces = []; rest = ts }

joined : TokenView → Cut → Cut
joined t c = joined_to t c.pieces c.rest

cut-inside : (ts : List TokenView) → cut (Until Semicolon) ts ≡ cut_by (is_closed ts) ts
unfolding cut through beyond
cut-inside [] = refl
cut-inside (t ∷ ts) =
    elim (is_form Semicolon t) as (λ b. is_form Semicolon t ≡ b → cut (Until Semicolon) (t ∷ ts) ≡ cut_by (b || is_closed ts) (t ∷ ts)) [
      | true ↦ λ is. (λ i. cond (is i) (ended_by t (cut Front ts)) (joined_to t (cut (Until Semicolon) ts).pieces (cut (Until Semicolon) ts).rest)) ∙ sym (by_end t ts is)
      | false ↦ λ is. (λ i. cond (is i) (ended_by t (cut Front ts)) (joined_to t (cut (Until Semicolon) ts).pieces (cut (Until Semicolon) ts).rest))
          ∙ ((λ i. joined_to t (cut-inside ts i).pieces (cut-inside ts i).rest) ∙ sym (by_more (is_closed ts) t ts is))
    ] refl
  where
    by_end : (t : TokenView) (ts : List TokenView) → is_form Semicolon t ≡ true → cut_by true (t ∷ ts) ≡ ended_by t (cut Front ts)
    by_end t ts is = λ i. record {
      pieces = (t ∷ cond (is i) [] (through ts)) ∷ (cut Front (cond (is i) ts (beyond ts))).pieces;
      rest = (cut Front (cond (is i) ts (beyond ts))).rest;
    }

    by_more : (b : Bool) (t : TokenView) (ts : List TokenView) → is_form Semicolon t ≡ false → cut_by b (t ∷ ts) ≡ joined_to t (cut_by b ts).pieces (cut_by b ts).rest
    by_more true t ts is = λ i. record {
      pieces = (t ∷ cond (is i) [] (through ts)) ∷ (cut Front (cond (is i) ts (beyond ts))).pieces;
      rest = (cut Front (cond (is i) ts (beyond ts))).rest;
    }
    by_more false t ts is = refl

unclosed-through : (ts : List TokenView) → is_closed ts ≡ false → through ts ≡ ts
unfolding through
unclosed-through [] h = refl
unclosed-through (t ∷ ts) h =
    let both = neither _ _ h in
    (λ i. t ∷ cond (both.0 i) [] (through ts)) ∙ ap (λ (l : List TokenView). t ∷ l) (unclosed-through ts both.1)
  where
    neither : (a b : Bool) → (a || b) ≡ false → (a ≡ false) × (b ≡ false)
    neither true b h = absurd (false≢true (sym h))
    neither false b h = (refl, h)

unclosed-beyond : (ts : List TokenView) → is_closed ts ≡ false → beyond ts ≡ []
unfolding beyond
unclosed-beyond [] h = refl
unclosed-beyond (t ∷ ts) h =
    let both = neither _ _ h in
    (λ i. cond (both.0 i) ts (beyond ts)) ∙ unclosed-beyond ts both.1
  where
    neither : (a b : Bool) → (a || b) ≡ false → (a ≡ false) × (b ≡ false)
    neither true b h = absurd (false≢true (sym h))
    neither false b h = (refl, h)

-- what follows a piece is less than all
beyond_le : (ts : List TokenView) → length (beyond ts) ≤ length ts
unfolding beyond
beyond_le [] = omega arith
beyond_le (t ∷ ts) =
    let h : length (beyond ts) ≤ length ts = beyond_le ts in
    elim (is_form Semicolon t) as (λ b. length (cond b ts (beyond ts)) ≤ length (t ∷ ts)) [ true ↦ omega arith | false ↦ omega arith ]

pub beyond_less : (ts : List TokenView) → 1 ≤ length ts → length (beyond ts) < length ts
unfolding beyond
beyond_less [] h = absurd (omega arith)
beyond_less (t ∷ ts) h =
    let h : length (beyond ts) ≤ length ts = beyond_le ts in
    elim (is_form Semicolon t) as (λ b. length (cond b ts (beyond ts)) < length (t ∷ ts)) [ true ↦ omega arith | false ↦ omega arith ]

unfoldable pub is_gate : TokenView → Bool
is_gate t = is_form Word t && bytes_eq (codes "gate") t.bytes

step : Form → TokenView → List TokenView → Cut
step form t ts = cond (is_form form t) (ended_by t (cut Front ts)) (joined_to t (cut (Until form) ts).pieces (cut (Until form) ts).rest)

cut-front : (t : TokenView) (ts : List TokenView) → is_gate t ≡ false → cut Front (t ∷ ts) ≡ cut_by (is_closed (t ∷ ts)) (t ∷ ts)
unfolding cut is_gate step
cut-front t ts other =
    ap (λ b. step (cond b RightBrace Semicolon) t ts) other ∙ cut-inside (t ∷ ts)

gate_word : (included : Bool) → first_word included (codes "gate") ≡ UnsupportedWord
unfolding unsupported_words
gate_word true = refl
gate_word false = refl

-- a piece that begins with the word `gate` is refused at it
pub gate_fault : Env → TokenView → Refusal
gate_fault E t = cond E.header (refused Unsupported t) (refused NoHeader t)

gate_piece_of : (options : Options) (E : Env) (line column : ℕ) (ts : List TokenView)
    → (let g : TokenView = record { form = Word; bytes = codes "gate"; line = line; column = column } in piece_at options E (g ∷ ts) ≡ Err (gate_fault E g))
unfolding piece_at statement_at header_at gate_fault
gate_piece_of options E line column ts =
    let g : TokenView = record { form = Word; bytes = codes "gate"; line = line; column = column } in
    elim E.header as (λ b. (let r : Result (Env × List TokenView) Refusal = cond b (statement_at options E (g ∷ ts)) (put (header_at (g ∷ ts)) (λ _. record { header = true; included = E.included; program = E.program })) in r)
    ≡ Err (cond b (refused Unsupported g) (refused NoHeader g))) [
      | true ↦ ap (λ w. statement_by w options E g ts) (gate_word E.included)
      | false ↦ refl
    ]

pub gate_piece : (options : Options) (E : Env) (t : TokenView) (ts : List TokenView) → is_gate t ≡ true → piece_at options E (t ∷ ts) ≡ Err (gate_fault E t)
unfolding is_gate
gate_piece options E t ts is =
    let both = and_both _ _ is in
    let form : t.form ≡ Word = same_form t.form Word (eqb-true _ _ both.0) in
    let bytes : codes "gate" ≡ t.bytes = (bytes_eq-Decides (codes "gate") t.bytes).0 both.1 in
    let same : record { form = Word; bytes = codes "gate"; line = t.line; column = t.column } ≡ t =
    λ i. record { form = sym form i; bytes = bytes i; line = t.line; column = t.column } in
    subst (λ (g : TokenView). piece_at options E (g ∷ ts) ≡ Err (gate_fault E g)) same (gate_piece_of options E t.line t.column ts)

after_fault : (options : Options) (E : Env) (ts : List TokenView) (f : Refusal) → piece_at options E ts ≡ Err f → after options E ts ≡ Err f
after_fault options E ts f h = ap (λ r. r >>= λ x. let s : Result Env Refusal = Ok x.0 in s) h

first_fault : (options : Options) (E : Env) (piece : List TokenView) (pieces : List (List TokenView)) (rest : List TokenView) (f : Refusal)
    → piece_at options E piece ≡ Err f → read_pieces options E (piece ∷ pieces) rest ≡ Err f
unfolding read_pieces
first_fault options E piece pieces rest f h = ap (λ r. r >>= λ F. read_pieces options F pieces rest) (after_fault options E piece f h)

rest_fault : (options : Options) (E : Env) (rest : List TokenView) (f : Refusal)
    → piece_at options E rest ≡ Err f → is_done E rest ≡ false → read_pieces options E [] rest ≡ Err f
unfolding read_pieces
rest_fault options E rest f h open_end =
    ap (λ b. let r : Result ProgramView Refusal = cond b (Ok E.program) (after options E rest >>= λ F. Ok F.program) in r) open_end
    ∙ ap (λ r. r >>= λ F. let s : Result ProgramView Refusal = Ok F.program in s) (after_fault options E rest f h)

joined_fault : (options : Options) (E : Env) (t : TokenView) (ps : List (List TokenView)) (rest : List TokenView) → is_gate t ≡ true → ((l : List TokenView) → is_done E (t ∷ l) ≡ false)
    → read_pieces options E (joined_to t ps rest).pieces (joined_to t ps rest).rest ≡ Err (gate_fault E t)
joined_fault options E t [] rest is open_end = rest_fault options E (t ∷ rest) (gate_fault E t) (gate_piece options E t rest is) (open_end rest)
joined_fault options E t (p ∷ ps) rest is open_end = first_fault options E (t ∷ p) ps rest (gate_fault E t) (gate_piece options E t p is)

gate_read : (options : Options) (E : Env) (t : TokenView) (ts : List TokenView) → is_gate t ≡ true → ((l : List TokenView) → is_done E (t ∷ l) ≡ false)
    → read_tokens options E (t ∷ ts) ≡ Err (gate_fault E t)
unfolding read_tokens cut
gate_read options E t ts is open_end =
    let form : Form = ends_with Front t in
    elim (is_form form t) as (λ b. (let c : Cut = cond b (ended_by t (cut Front ts)) (joined_to t (cut (Until form) ts).pieces (cut (Until form) ts).rest) in read_pieces options E c.pieces c.rest) ≡ Err (gate_fault E t)) [
      | true ↦ first_fault options E (t ∷ []) (cut Front ts).pieces (cut Front ts).rest (gate_fault E t) (gate_piece options E t [] is)
      | false ↦ joined_fault options E t (cut (Until form) ts).pieces (cut (Until form) ts).rest is open_end
    ]

err_same : {A : Type 0} (d e : Refusal) → (let r : Result A Refusal = Err d in r) ≡ Err e → d ≡ e
err_same d e h = cc

ok_err : {A : Type 0} {P : Type 0} (x : A) (e : Refusal) (r : Result A Refusal) → r ≡ Ok x → r ≡ Err e → P
ok_err x e r p q = absurd (other x e (sym p ∙ q)) where
  other : {A : Type 0} (x : A) (e : Refusal) → (let r : Result A Refusal = Ok x in r) ≡ Err e → ⊥
  other x e h = cc

none_left : (ts : List TokenView) → ts ≡ [] → 1 ≤ length ts → ⊥
none_left ts e h = let n : length ts ≡ 0 = ap length e in omega arith

-- a piece is read, and then what follows it
pub read_on : (options : Options) (E F : Env) (ts more : List TokenView) → piece_at options E (through ts) ≡ Ok (F, []) → more ≡ beyond ts → 1 ≤ length more
    → read_tokens options E ts ≡ read_tokens options F more
unfolding read_tokens read_pieces through
read_on options E F [] more h is some = absurd (none_left more (is ∙ unclosed-beyond [] refl) some)
read_on options E F (t ∷ us) more h is some =
    elim (is_gate t) as (λ b. is_gate t ≡ b → read_tokens options E (t ∷ us) ≡ read_tokens options F more) [
      | true ↦ λ gate. ok_err (F, []) (gate_fault E t) (piece_at options E (through (t ∷ us))) h (gate_piece options E t (cond (is_form Semicolon t) [] (through us)) gate)
      | false ↦ λ other. elim (is_closed (t ∷ us)) as (λ b. is_closed (t ∷ us) ≡ b → read_tokens options E (t ∷ us) ≡ read_tokens options F more) [
        | true ↦ λ closed.
            let c : cut Front (t ∷ us) ≡ cut_by true (t ∷ us) = cut-front t us other ∙ ap (λ b. cut_by b (t ∷ us)) closed in
            let rest : Cut = cut Front (beyond (t ∷ us)) in
            (λ i. read_pieces options E (c i).pieces (c i).rest)
            ∙ (ap (λ r. (r >>= λ x. let s : Result Env Refusal = Ok x.0 in s) >>= λ G. read_pieces options G rest.pieces rest.rest) h
            ∙ ap (read_tokens options F) (sym is))
        | false ↦ λ open_end. absurd (none_left more (is ∙ unclosed-beyond (t ∷ us) open_end) some)
      ] refl
    ] refl

-- a piece or a rest with a fault
pub read_fault : (options : Options) (E : Env) (ts : List TokenView) (f : Refusal) → piece_at options E (through ts) ≡ Err f → is_done E ts ≡ false → 1 ≤ length ts
    → read_tokens options E ts ≡ Err f
unfolding read_tokens through
read_fault options E [] f h open_end some = absurd (omega arith)
read_fault options E (t ∷ us) f h open_end some =
    elim (is_gate t) as (λ b. is_gate t ≡ b → read_tokens options E (t ∷ us) ≡ Err f) [
      | true ↦ λ gate.
          let same : gate_fault E t ≡ f = err_same {A = Env × List TokenView} (gate_fault E t) f (sym (gate_piece options E t (cond (is_form Semicolon t) [] (through us)) gate) ∙ h) in
          gate_read options E t us gate (λ l. open_end) ∙ ap (λ g. let r : Result ProgramView Refusal = Err g in r) same
      | false ↦ λ other. elim (is_closed (t ∷ us)) as (λ b. is_closed (t ∷ us) ≡ b → read_tokens options E (t ∷ us) ≡ Err f) [
        | true ↦ λ closed.
            let c : cut Front (t ∷ us) ≡ cut_by true (t ∷ us) = cut-front t us other ∙ ap (λ b. cut_by b (t ∷ us)) closed in
            let rest : Cut = cut Front (beyond (t ∷ us)) in
            (λ i. read_pieces options E (c i).pieces (c i).rest) ∙ first_fault options E (through (t ∷ us)) rest.pieces rest.rest f h
        | false ↦ λ unclosed.
            let c : cut Front (t ∷ us) ≡ cut_by false (t ∷ us) = cut-front t us other ∙ ap (λ b. cut_by b (t ∷ us)) unclosed in
            (λ i. read_pieces options E (c i).pieces (c i).rest)
            ∙ rest_fault options E (t ∷ us) f (ap (piece_at options E) (sym (unclosed-through (t ∷ us) unclosed)) ∙ h) open_end
      ] refl
    ] refl

-- the end of the text, where nothing is left
pub read_done : (options : Options) (E : Env) (ts : List TokenView) → is_done E ts ≡ true → length ts ≡ 1 → read_tokens options E ts ≡ Ok E.program
unfolding read_tokens read_pieces is_gate
read_done options E [] done one = absurd (omega arith)
read_done options E (t ∷ u ∷ us) done one = absurd (omega arith)
read_done options E (t ∷ []) done one =
    let form : t.form ≡ Missing = same_form t.form Missing (eqb-true _ _ (and_both _ _ done).1) in
    let other : is_gate t ≡ false = ap (λ f. eqb (number_of f) (number_of Word) && bytes_eq (codes "gate") t.bytes) form in
    let open_end : is_closed (t ∷ []) ≡ false = ap (λ f. eqb (number_of f) (number_of Semicolon) || false) form in
    let c : cut Front (t ∷ []) ≡ cut_by false (t ∷ []) = cut-front t [] other ∙ ap (λ b. cut_by b (t ∷ [])) open_end in
    (λ i. read_pieces options E (c i).pieces (c i).rest)
    ∙ ap (λ b. let r : Result ProgramView Refusal = cond b (Ok E.program) (after options E (t ∷ []) >>= λ F. Ok F.program) in r) done

-- whether nothing is left, by the form of the next token
pub done_told : (E : Env) (ts : List TokenView) (ended : Bool) → ended ≡ eqb (number_of (first_form ts)) 18 → (E.header && ended) ≡ is_done E ts
done_told E [] ended is = ap (λ b. E.header && b) is
done_told E (t ∷ ts) ended is = ap (λ b. E.header && b) is

pub read_fails : (error : ReadError) (options : Options) (E : Env) (ts : List TokenView) (total : Result ProgramView Refusal)
    → Fails error (piece_at options E (through ts)) → is_done E ts ≡ false → 1 ≤ length ts → read_tokens options E ts ≡ total → Fails error total
read_fails errors.OutOfMemory options E ts total h open_end some so_far = tt
read_fails (errors.Refused f) options E ts total h open_end some so_far = sym so_far ∙ read_fault options E ts f h open_end some

pub reads_for : (text : List ℕ) (options : Options) (ts : List TokenView) (p q : ProgramView) → ts ≡ tokens_of text
    → read_tokens options start ts ≡ Ok p → q ≡ p → Reads text options q
unfolding read_of
reads_for text options ts p q e h same = ap (read_tokens options start) (sym e) ∙ (h ∙ ap (λ x. let r : Result ProgramView Refusal = Ok x in r) (sym same))
