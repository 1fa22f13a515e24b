-- Closed tokens, where others follow in place of their end.
use Rattle.std.proofs.Common.{◌≡◌, ◌⊎◌, ◌≤◌, Bool, true, false, ◌&&◌, eqb, cond, List, [], ◌∷◌, length, Ok, Err, refl, sym, ap, ◌∙◌, subst, inl, inr, arith}
use Rattle.std.proofs.lemmas.Bool.{false≢true}
use Rattle.pq_lex.specs.declared.token.Form.{Form}
use Rattle.pq_lex.specs.declared.token.Form.TheVariants.{Semicolon, Missing, Malformed}
use Rattle.pq_lex.specs.Token.{TokenView, number_of}
use Rattle.pq_lex.specs.Lex.{Place, first_form}
use Rattle.pq_lex.specs.Ends.{spliced, missing_at, ByLast, AreClosed}
use Rattle.pq_read.specs.declared.refusal.Refusal.{Refusal}
use Rattle.pq_read.specs.declared.program.Options.{Options}
use Rattle.pq_read.specs.Faults.{is_form, head}
use Rattle.pq_read.specs.Environment.{Env}
use Rattle.pq_read.specs.After.{piece_at}
use Rattle.pq_read.specs.Reads.{is_done, read_tokens}
use Rattle.pq_read.specs.Gives.{Fails, through, beyond}
use Rattle.pq_read.specs.declared.refusal.ReadError.{ReadError}
use Rattle.pq_read.specs.declared.refusal.ReadError.TheVariants as errors
use Rattle.pq_read.specs.Leads.{FailsAmong}
use Rattle.pq_read.proofs.Pieces.{read_on, read_fault}

-- a token by what it closes
closing : (f : Form) (A B C : Type 0) → eqb (number_of f) 18 ≡ true → ByLast (eqb (number_of f) 19) (eqb (number_of f) 18) A B C → B
closing Missing A B C is h = h
closing _ A B C is h = absurd (false≢true is)

inside : (f : Form) (A B C : Type 0) → eqb (number_of f) 18 ≡ false → ByLast (eqb (number_of f) 19) (eqb (number_of f) 18) A B C → A ⊎ C
inside Missing A B C is h = absurd (false≢true (sym is))
inside Malformed A B C is h = inl h
inside _ A B C is h = inr h

not_closing : (f : Form) (A B C : Type 0) → ByLast (eqb (number_of f) 19) (eqb (number_of f) 18) A B C → (B → ⊥) → eqb (number_of f) 18 ≡ false
not_closing Missing A B C h never = absurd (never h)
not_closing _ A B C h never = refl

-- behind a token that is no `;` the missing one doesn't stand alone
not_missing : (end : Place) (ts : List TokenView) → AreClosed end false ts → is_form Missing (head ts) ≡ false
not_missing end [] h = absurd h
not_missing end (t ∷ ts) h = not_closing t.form _ _ _ h (λ b. false≢true b.0)

spliced_front : (t : TokenView) (ts more : List TokenView) → is_form Missing t ≡ false → spliced (t ∷ ts) more ≡ t ∷ spliced ts more
spliced_front t ts more is = ap (λ b. cond b more (t ∷ spliced ts more)) is

through_spliced : (end : Place) (behind : Bool) (ts more : List TokenView) → AreClosed end behind ts → is_form Missing (head ts) ≡ false → through (spliced ts more) ≡ through ts
unfolding through
through_spliced end behind [] more closed is = absurd closed
through_spliced end behind (t ∷ us) more closed is =
    ap through (spliced_front t us more is)
    ∙ elim (is_form Semicolon t) as (λ s. is_form Semicolon t ≡ s → (let l : List TokenView = t ∷ cond s [] (through (spliced us more)) in l) ≡ t ∷ cond s [] (through us)) [
      | true ↦ λ _. refl
      | false ↦ λ other. ap (λ (l : List TokenView). t ∷ l) (elim (inside t.form _ _ _ is closed) as (λ _. through (spliced us more) ≡ through us) [
        | inl none ↦ subst (λ (l : List TokenView). through (spliced l more) ≡ through l) (sym none) refl
        | inr on ↦ let on : AreClosed end false us = subst (λ b. AreClosed end b us) other on in through_spliced end false us more on (not_missing end us on)
      ])
    ] refl

beyond_spliced : (end : Place) (behind : Bool) (ts more : List TokenView) → AreClosed end behind ts → is_form Missing (head ts) ≡ false → beyond (spliced ts more) ≡ spliced (beyond ts) more
unfolding beyond
beyond_spliced end behind [] more closed is = absurd closed
beyond_spliced end behind (t ∷ us) more closed is =
    ap beyond (spliced_front t us more is)
    ∙ elim (is_form Semicolon t) as (λ s. is_form Semicolon t ≡ s → cond s (spliced us more) (beyond (spliced us more)) ≡ spliced (cond s us (beyond us)) more) [
      | true ↦ λ _. refl
      | false ↦ λ other. elim (inside t.form _ _ _ is closed) as (λ _. beyond (spliced us more) ≡ spliced (beyond us) more) [
        | inl none ↦ subst (λ (l : List TokenView). beyond (spliced l more) ≡ spliced (beyond l) more) (sym none) refl
        | inr on ↦ let on : AreClosed end false us = subst (λ b. AreClosed end b us) other on in beyond_spliced end false us more on (not_missing end us on)
      ]
    ] refl

closed_beyond : (end : Place) (behind : Bool) (ts : List TokenView) → AreClosed end behind ts → is_form Missing (head ts) ≡ false → 1 ≤ length (beyond ts) → AreClosed end true (beyond ts)
unfolding beyond
closed_beyond end behind [] closed is some = absurd closed
closed_beyond end behind (t ∷ us) closed is some =
    elim (is_form Semicolon t) as (λ s. is_form Semicolon t ≡ s → 1 ≤ length (cond s us (beyond us)) → AreClosed end true (cond s us (beyond us))) [
      | true ↦ λ semicolon some. elim (inside t.form _ _ _ is closed) as (λ _. AreClosed end true us) [
        | inl none ↦ let n : length us ≡ 0 = ap length none in absurd (omega arith)
        | inr on ↦ subst (λ b. AreClosed end b us) semicolon on
      ]
      | false ↦ λ other some. elim (inside t.form _ _ _ is closed) as (λ _. AreClosed end true (beyond us)) [
        | inl none ↦ let n : length (beyond us) ≡ 0 = ap (λ (l : List TokenView). length (beyond l)) none in absurd (omega arith)
        | inr on ↦ let on : AreClosed end false us = subst (λ b. AreClosed end b us) other on in closed_beyond end false us on (not_missing end us on) some
      ]
    ] refl some

closed_last : (end : Place) (ts : List TokenView) → AreClosed end true ts → is_form Missing (head ts) ≡ true → ts ≡ missing_at end ∷ []
closed_last end [] closed is = absurd closed
closed_last end (t ∷ us) closed is =
    let last = closing t.form _ _ _ is closed in
    λ i. last.1 i ∷ last.2 i

spliced_some : (ts more : List TokenView) → 1 ≤ length ts → 1 ≤ length more → 1 ≤ length (spliced ts more)
spliced_some [] more some more_some = absurd (omega arith)
spliced_some (t ∷ us) more some more_some =
    elim (is_form Missing t) as (λ b. 1 ≤ length (cond b more (t ∷ spliced us more))) [ true ↦ more_some | false ↦ omega arith ]

open_spliced : (E : Env) (ts more : List TokenView) → is_form Missing (head ts) ≡ false → 1 ≤ length ts → is_done E (spliced ts more) ≡ false
open_spliced E [] more is some = absurd (omega arith)
open_spliced E (t ∷ us) more is some =
    ap (is_done E) (spliced_front t us more is) ∙ (ap (λ b. E.header && b) is ∙ never E.header)
  where
    never : (b : Bool) → (b && false) ≡ false
    never true = refl
    never false = refl

-- a statement is read, and then what follows it
pub statement_on : (options : Options) (E F : Env) (end : Place) (ts new more : List TokenView) → AreClosed end true ts → is_form Missing (head ts) ≡ false
    → piece_at options E (through ts) ≡ Ok (F, []) → new ≡ beyond ts → 1 ≤ length new → 1 ≤ length more
    → read_tokens options E (spliced ts more) ≡ read_tokens options F (spliced new more)
statement_on options E F end ts new more closed is h next some more_some =
    read_on options E F (spliced ts more) (spliced new more)
    (ap (piece_at options E) (through_spliced end true ts more closed is) ∙ h)
    (ap (λ (l : List TokenView). spliced l more) next ∙ sym (beyond_spliced end true ts more closed is))
    (spliced_some new more some more_some)

pub statement_closed : (end : Place) (ts new : List TokenView) → AreClosed end true ts → is_form Missing (head ts) ≡ false → new ≡ beyond ts → 1 ≤ length new → AreClosed end true new
statement_closed end ts new closed is next some =
    subst (λ (l : List TokenView). AreClosed end true l) (sym next) (closed_beyond end true ts closed is (subst (λ (l : List TokenView). 1 ≤ length l) next some))

-- a statement with a fault
pub statement_fault : (options : Options) (E : Env) (end : Place) (ts more : List TokenView) (f : Refusal) → AreClosed end true ts → is_form Missing (head ts) ≡ false
    → piece_at options E (through ts) ≡ Err f → 1 ≤ length ts → 1 ≤ length more → read_tokens options E (spliced ts more) ≡ Err f
statement_fault options E end ts more f closed is h some more_some =
    read_fault options E (spliced ts more) f
    (ap (piece_at options E) (through_spliced end true ts more closed is) ∙ h)
    (open_spliced E ts more is some)
    (spliced_some ts more some more_some)

-- no statement is left
pub statements_end : (options : Options) (E : Env) (end : Place) (ts more : List TokenView) → AreClosed end true ts → is_form Missing (head ts) ≡ true
    → (ts ≡ missing_at end ∷ []) × (read_tokens options E (spliced ts more) ≡ read_tokens options E more)
statements_end options E end ts more closed is =
    let last = closed_last end ts closed is in
    (last, ap (λ (l : List TokenView). read_tokens options E (spliced l more)) last)

pub head_form : (ts : List TokenView) → is_form Missing (head ts) ≡ eqb (number_of (first_form ts)) 18
head_form [] = refl
head_form (t ∷ ts) = refl

pub fails_among : (error : ReadError) (options : Options) (E F : Env) (start ts : List TokenView) → is_form Missing (head ts) ≡ false → 1 ≤ length ts
    → ((end : Place) → AreClosed end true start → AreClosed end true ts)
    → ((end : Place) → AreClosed end true start → (more : List TokenView) → 1 ≤ length more → read_tokens options F (spliced ts more) ≡ read_tokens options E (spliced start more))
    → Fails error (piece_at options F (through ts)) → FailsAmong options E start error
fails_among errors.OutOfMemory options E F start ts is some closed on h = tt
fails_among (errors.Refused f) options E F start ts is some closed on h =
    λ end c more more_some. sym (on end c more more_some) ∙ statement_fault options F end ts more f (closed end c) is h some more_some
