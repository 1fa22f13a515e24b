-- Faults that are known whatever follows.
use Rattle.std.proofs.Common.{◌≡◌, ◌≢◌, ◌⊎◌, ℕ, ◌+◌, ◌<◌, ◌≤◌, Bool, true, false, ◌&&◌, ◌||◌, eqb, cond, List, [], ◌∷◌, ◌++◌, length, Result, Ok, Err, codes, bytes_eq, refl, sym, ap, ◌∙◌, arith, length-append}
use Rattle.std.proofs.lemmas.Bool.{false≢true}
use Rattle.std.proofs.lemmas.List.{append_assoc, append-nil}
use Rattle.pq_lex.specs.declared.token.Form.{Form}
use Rattle.pq_lex.specs.declared.token.Form.TheVariants.{Semicolon, Missing, Malformed}
use Rattle.pq_lex.specs.Token.{TokenView, number_of, is_last}
use Rattle.pq_lex.specs.Lex.{Position, tokens, from_token}
use Rattle.pq_lex.specs.Added.{extended, StaysMalformed}
use Rattle.pq_text.specs.Program.{RegisterView, ProgramView}
use Rattle.pq_read.specs.declared.refusal.Refusal.{Refusal}
use Rattle.pq_read.specs.declared.refusal.ReadError.{ReadError}
use Rattle.pq_read.specs.declared.refusal.ReadError.TheVariants as errors
use Rattle.pq_read.specs.declared.program.Options.{Options}
use Rattle.pq_read.specs.Faults.{is_form, head}
use Rattle.pq_read.specs.Environment.{Env}
use Rattle.pq_read.specs.After.{piece_at}
use Rattle.pq_read.specs.Reads.{is_done, read_tokens}
use Rattle.pq_read.specs.Gives.{Fails, through}
use Rattle.pq_read.specs.Leads.{FailsAt, HasFault}
use Rattle.pq_read.specs.Unknown.{EndsNext, IsUncertain, HasNoKnownFault}
use Rattle.pq_read.proofs.Circuits.{neither}
use Rattle.pq_read.proofs.Pieces.{is_closed, read_fault}
use Rattle.pq_read.proofs.CutWell.{unclosed_refused}
use Rattle.pq_read.proofs.Short.{followed, head_same}
use Rattle.pq_read.specs.declared.known.Expected.{Expected}
use Rattle.pq_read.specs.declared.known.Expected.TheVariants.{Name, Nothing}
use Rattle.pq_read.specs.Expected.{after_token, expected_after, behind_first}
use Rattle.pq_read.proofs.FirstTokens.{piece_same}
use Rattle.pq_read.proofs.Straying.{barrier_strays}

-- From the one position to the other stand tokens that are the same whatever follows, and no `;`, as many as are counted, or
-- more where they begin a barrier. It is known whether they begin a barrier, and what a barrier has next behind them.
pub record Walked (E : Env) (p q : Position) (long : Bool) (count : ℕ) (expected : Expected) : Type 0 where
  pub sure : List TokenView
  pub some : 1 ≤ length sure
  pub counted : count ≤ length sure
  pub exact : long ≡ false → length sure ≤ count
  pub named : long ≡ (E.header && bytes_eq (codes "barrier") (head sure).bytes)
  pub stepped : expected ≡ expected_after E.program.qregs Name (behind_first sure)
  pub unclosed : is_closed sure ≡ false
  pub inner : is_form Missing (head sure) ≡ false
  pub same : (more : List ℕ) → tokens (extended p more) ≡ sure ++ tokens (extended q more)

goes_on : (t : TokenView) (later : List TokenView) → is_last t.form ≡ false → from_token t later ≡ t ∷ later
goes_on t later inner = ap (λ b. t ∷ cond b [] later) inner

not_missing : (f : Form) → is_last f ≡ false → eqb (number_of f) 18 ≡ false
not_missing Missing h = absurd (false≢true (sym h))
not_missing _ h = refl

-- the first token
pub walked_first : (E : Env) (p q : Position) (t : TokenView) (long : Bool) → is_last t.form ≡ false → is_form Semicolon t ≡ false → long ≡ (E.header && bytes_eq (codes "barrier") t.bytes)
    → ((more : List ℕ) → tokens (extended p more) ≡ from_token t (tokens (extended q more))) → Walked E p q long 1 Name
walked_first E p q t long inner no_end is same = record {
  sure = t ∷ [];
  some = omega arith;
  counted = omega arith;
  exact = λ _. omega arith;
  named = is;
  stepped = refl;
  unclosed = ap (λ b. b || false) no_end;
  inner = not_missing t.form inner;
  same = λ more. same more ∙ goes_on t (tokens (extended q more)) inner;
}

closed_append : (ts us : List TokenView) → is_closed ts ≡ false → is_closed us ≡ false → is_closed (ts ++ us) ≡ false
closed_append [] us h k = k
closed_append (t ∷ ts) us h k = let both = neither _ _ h in (λ i. both.0 i || closed_append ts us both.1 k i)

expected_more : (regs : List RegisterView) (e : Expected) (us : List TokenView) (t : TokenView) → expected_after regs e (us ++ t ∷ []) ≡ after_token regs (expected_after regs e us) t
expected_more regs e [] t = refl
expected_more regs e (u ∷ us) t = expected_more regs (after_token regs e u) us t

expected_append : (regs : List RegisterView) (e : Expected) (ts : List TokenView) (t : TokenView) → 1 ≤ length ts → expected_after regs e (behind_first (ts ++ t ∷ [])) ≡ after_token regs (expected_after regs e (behind_first ts)) t
expected_append regs e [] t some = absurd (omega arith)
expected_append regs e (u ∷ us) t some = expected_more regs e us t

-- one more token
pub walked_on : (E : Env) (p q r : Position) (t : TokenView) (long : Bool) (count next : ℕ) (expected later : Expected) → Walked E p q long count expected → is_last t.form ≡ false → is_form Semicolon t ≡ false → next ≤ count + 1 → (long ≡ false → count + 1 ≤ next) → later ≡ after_token E.program.qregs expected t
    → ((more : List ℕ) → tokens (extended q more) ≡ from_token t (tokens (extended r more))) → Walked E p r long next later
walked_on E p q r t long count next expected later w inner no_end counts few steps same =
    let len : length (w.sure ++ t ∷ []) ≡ length w.sure + 1 = length-append w.sure (t ∷ []) in
    let first : head (w.sure ++ t ∷ []) ≡ head w.sure = head_same w.sure (t ∷ []) w.some in
    record {
      sure = w.sure ++ t ∷ [];
      some = omega arith;
      counted = (let b : count ≤ length w.sure = w.counted in omega arith);
      exact = λ short. (let b : length w.sure ≤ count = w.exact short in let n : count + 1 ≤ next = few short in omega arith);
      named = w.named ∙ sym (ap (λ (u : TokenView). E.header && bytes_eq (codes "barrier") u.bytes) first);
      stepped = steps ∙ (ap (λ e. after_token E.program.qregs e t) w.stepped ∙ sym (expected_append E.program.qregs Name w.sure t w.some));
      unclosed = closed_append w.sure (t ∷ []) w.unclosed (ap (λ b. b || false) no_end);
      inner = ap (is_form Missing) first ∙ w.inner;
      same = λ more. w.same more
          ∙ (ap (λ l. w.sure ++ l) (same more ∙ goes_on t (tokens (extended r more)) inner) ∙ sym (append_assoc w.sure (t ∷ []) (tokens (extended r more))));
    }

through_append : (ts us : List TokenView) → is_closed ts ≡ false → through (ts ++ us) ≡ ts ++ through us
unfolding through
through_append [] us h = refl
through_append (t ∷ ts) us h =
    let both = neither _ _ h in
    (λ i. t ∷ cond (both.0 i) [] (through (ts ++ us))) ∙ ap (λ (l : List TokenView). t ∷ l) (through_append ts us both.1)

not_done : (E : Env) (ts : List TokenView) → is_form Missing (head ts) ≡ false → is_done E ts ≡ false
not_done E ts h = ap (λ b. E.header && b) h ∙ never E.header where
  never : (b : Bool) → (b && false) ≡ false
  never true = refl
  never false = refl

-- as many tokens as are enough
enough_by : (options : Options) (E : Env) (sure later : List TokenView) (fault : Refusal) → 16 ≤ length sure → (E.header && bytes_eq (codes "barrier") (head sure).bytes) ≡ false → is_closed sure ≡ false
    → is_form Missing (head sure) ≡ false → piece_at options E sure ≡ Err fault → read_tokens options E (sure ++ later) ≡ Err fault
enough_by options E [] later fault many named unclosed inner is = absurd (omega arith)
enough_by options E (t ∷ ts) later fault many named unclosed inner is =
    read_fault options E ((t ∷ ts) ++ later) fault
    (ap (piece_at options E) (through_append (t ∷ ts) later unclosed) ∙ (piece_same options E t ts (through later) many named ∙ ap (followed (through later)) is))
    (not_done E ((t ∷ ts) ++ later) inner) (omega arith)

pub walked_enough : (E : Env) (p q : Position) (long : Bool) (count : ℕ) (expected : Expected) → Walked E p q long count expected → long ≡ false → 16 ≤ count → (options : Options) → HasFault options E p
walked_enough E p q long count expected w is many options =
    let f = unclosed_refused w.sure w.unclosed options E in
    let n : count ≤ length w.sure = w.counted in
    (f.0, λ more. ap (read_tokens options E) (w.same more) ∙ enough_by options E w.sure (tokens (extended q more)) f.0 (omega arith) (sym w.named ∙ is) w.unclosed w.inner f.1)

-- a barrier that goes on as none does
strays_by : (options : Options) (E : Env) (sure : List TokenView) → 1 ≤ length sure → (E.header && bytes_eq (codes "barrier") (head sure).bytes) ≡ true → is_closed sure ≡ false → is_form Missing (head sure) ≡ false
    → expected_after E.program.qregs Name (behind_first sure) ≡ Nothing → (fault : Refusal) × ((later : List TokenView) → read_tokens options E (sure ++ later) ≡ Err fault)
strays_by options E [] some begins unclosed inner strays = absurd (omega arith)
strays_by options E (t ∷ us) some begins unclosed inner strays =
    let k = barrier_strays options E t us begins (neither _ _ unclosed).1 strays in
    (k.0, λ later. read_fault options E ((t ∷ us) ++ later) k.0 (ap (piece_at options E) (through_append (t ∷ us) later unclosed) ∙ k.1 (through later)) (not_done E ((t ∷ us) ++ later) inner) (omega arith))

pub walked_strays : (E : Env) (p q : Position) (long : Bool) (count : ℕ) (expected : Expected) → Walked E p q long count expected → long ≡ true → expected ≡ Nothing → (options : Options) → HasFault options E p
walked_strays E p q long count expected w is strays options =
    let k = strays_by options E w.sure w.some (sym w.named ∙ is) w.unclosed w.inner (sym w.stepped ∙ strays) in
    (k.0, λ more. ap (read_tokens options E) (w.same more) ∙ k.1 (tokens (extended q more)))

-- tokens that end with a malformed one
all_known : (options : Options) (E : Env) (p : Position) (all : List TokenView) → is_closed all ≡ false → is_form Missing (head all) ≡ false → 1 ≤ length all → ((more : List ℕ) → tokens (extended p more) ≡ all) → HasFault options E p
unfolding through
all_known options E p all unclosed inner some same =
    let f = unclosed_refused all unclosed options E in
    let whole : through all ≡ all = ap through (sym (append-nil all)) ∙ (through_append all [] unclosed ∙ append-nil all) in
    (f.0, λ more. ap (read_tokens options E) (same more) ∙ read_fault options E all f.0 (ap (piece_at options E) whole ∙ f.1) (not_done E all inner) some)

malformed_unclosed : (t : TokenView) → t.form ≡ Malformed → is_closed (t ∷ []) ≡ false
malformed_unclosed t is = ap (λ f. eqb (number_of f) 3 || false) is

pub malformed_first : (E : Env) (p q : Position) → ((more : List ℕ) → tokens (extended q more) ≡ tokens (extended p more)) → StaysMalformed q → (options : Options) → HasFault options E p
malformed_first E p q same m options =
    all_known options E p (m.token ∷ []) (malformed_unclosed m.token m.malformed) (ap (λ f. eqb (number_of f) 18) m.malformed) (omega arith) (λ more. sym (same more) ∙ m.always more)

pub walked_malformed : (E : Env) (p q r : Position) (long : Bool) (count : ℕ) (expected : Expected) → Walked E p q long count expected → ((more : List ℕ) → tokens (extended r more) ≡ tokens (extended q more)) → StaysMalformed r
    → (options : Options) → HasFault options E p
walked_malformed E p q r long count expected w same m options =
    let len : length (w.sure ++ m.token ∷ []) ≡ length w.sure + 1 = length-append w.sure (m.token ∷ []) in
    all_known options E p (w.sure ++ m.token ∷ []) (closed_append w.sure (m.token ∷ []) w.unclosed (malformed_unclosed m.token m.malformed))
    (ap (is_form Missing) (head_same w.sure (m.token ∷ []) w.some) ∙ w.inner) (omega arith)
    (λ more. w.same more ∙ ap (λ l. w.sure ++ l) (sym (same more) ∙ m.always more))

-- No fault is known where nothing is,
pub unknown_first : (E : Env) (p q : Position) → ((more : List ℕ) → tokens (extended q more) ≡ tokens (extended p more)) → EndsNext q ⊎ IsUncertain q → HasNoKnownFault E p
unknown_first E p q same stops = record {
  sure = [];
  left = q;
  same = λ more. sym (same more);
  stops = stops;
  few = λ _. omega arith;
  straight = λ is. absurd (false≢true (sym (never E.header) ∙ is));
} where
  never : (b : Bool) → (b && false) ≡ false
  never true = refl
  never false = refl

-- nor behind tokens that tell none.
pub walked_unknown : (E : Env) (p q r : Position) (long : Bool) (count : ℕ) (expected : Expected) → Walked E p q long count expected → ((more : List ℕ) → tokens (extended r more) ≡ tokens (extended q more))
    → EndsNext r ⊎ IsUncertain r → (long ≡ false → count < 16) → (long ≡ true → expected ≢ Nothing) → HasNoKnownFault E p
walked_unknown E p q r long count expected w same stops few straight = record {
  sure = w.sure;
  left = r;
  same = λ more. w.same more ∙ ap (λ l. w.sure ++ l) (sym (same more));
  stops = stops;
  few = λ short. (let b : length w.sure ≤ count = w.exact (w.named ∙ short) in let n : count < 16 = few (w.named ∙ short) in omega arith);
  straight = λ barrier nothing. straight (w.named ∙ barrier) (w.stepped ∙ nothing);
}

-- what reading answers where a fault is known
pub known_fails : (error : ReadError) (options : Options) (E : Env) (p : Position) → HasFault options E p → Fails error (read_tokens options E (tokens p)) → FailsAt options E p error
known_fails errors.OutOfMemory options E p known fails = tt
known_fails (errors.Refused f) options E p known fails =
    let here : read_tokens options E (tokens p) ≡ Err known.0 = ap (λ l. read_tokens options E (tokens (record { rest = l; line = p.line; column = p.column }))) (sym (append-nil p.rest)) ∙ known.1 [] in
    λ more. known.1 more ∙ (sym here ∙ fails)

pub known_never : (options : Options) (E : Env) (p : Position) (program : ProgramView) → HasFault options E p → read_tokens options E (tokens p) ≡ Ok program → ⊥
known_never options E p program known is =
    never known.0 program (sym (ap (λ l. read_tokens options E (tokens (record { rest = l; line = p.line; column = p.column }))) (sym (append-nil p.rest)) ∙ known.1 []) ∙ is)
  where
    never : (f : Refusal) (program : ProgramView) → (let r : Result ProgramView Refusal = Err f in r) ≡ Ok program → ⊥
    never f program h = cc
