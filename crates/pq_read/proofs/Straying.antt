-- A barrier that goes on as no barrier does is refused whatever follows.
use Rattle.std.proofs.Common.{◌≡◌, ℕ, zero, suc, ◌≤◌, Bool, true, false, ◌&&◌, cond, List, [], ◌∷◌, ◌++◌, length, Result, Ok, Err, codes, bytes_eq, nat_lt, min, Option, Some, None, refl, sym, ap, ◌∙◌, arith}
use Rattle.std.specs.List.{list_all}
use Rattle.std.specs.Char.{is_ascii_digit}
use Rattle.std.proofs.lemmas.Bool.{false≢true}
use Rattle.std.proofs.lemmas.Bool.Decides.{nat_tests}
use Rattle.std.proofs.lemmas.Slice.Eq.{bytes_eq-Decides}
use Rattle.pq_lex.specs.declared.token.Form.TheVariants.{Word, Number, Semicolon, Comma, LeftBracket, RightBracket}
use Rattle.pq_lex.specs.Token.{TokenView}
use Rattle.pq_text.specs.Program.{RegisterView, TailView}
use Rattle.pq_text.specs.Program as view
use Rattle.pq_read.specs.declared.refusal.Kind.TheVariants.{Syntax, UnknownRegister, IndexOutOfRange}
use Rattle.pq_read.specs.declared.refusal.Refusal.{Refusal}
use Rattle.pq_read.specs.declared.program.Options.{Options}
use Rattle.pq_read.specs.declared.argument.Span.{Span}
use Rattle.pq_read.specs.declared.argument.Argument.{Argument}
use Rattle.pq_read.specs.declared.word.FirstWord.TheVariants as words
use Rattle.pq_read.specs.declared.known.Expected.{Expected}
use Rattle.pq_read.specs.declared.known.Expected.TheVariants.{Name, AfterName, Index, AfterIndex, AfterBracket, Nothing}
use Rattle.pq_read.specs.Faults.{◌>>=◌, Reading, refused, unexpected, is_form, head, demanded, integer_at, value_of}
use Rattle.pq_read.specs.Words.{is_name, first_word}
use Rattle.pq_read.specs.Environment.{span_from, Env}
use Rattle.pq_read.specs.Arguments.{known, register_of, whole, single, indexed_at, argument_at}
use Rattle.pq_read.specs.After.{adjoined_below, argument_tokens, barrier_wires, within_tail, barrier_at, with_tail, put, statement_by, header_at, statement_at, piece_at}
use Rattle.pq_read.specs.Expected.{named, is_index, after_token, expected_after}
use Rattle.pq_read.proofs.Circuits.{neither}
use Rattle.pq_read.proofs.Names.{and_both}
use Rattle.pq_read.proofs.Pieces.{is_closed}

-- a fault that is the same whatever follows
abbrev pub IsKnown : {B : Type 0} → (List TokenView → Result B Refusal) → Type 0
IsKnown read = (fault : Refusal) × ((later : List TokenView) → read later ≡ Err fault)

abbrev is_nothing : Expected → Bool
is_nothing Nothing = true
is_nothing _ = false

other : {P : Type 0} (e : Expected) → is_nothing e ≡ false → e ≡ Nothing → P
other e some is = absurd (false≢true (sym some ∙ ap is_nothing is))

-- what is done with the wires of a barrier: a token that is no `;` is a fault
abbrev Closes : {B : Type 0} → (List ℕ × List TokenView → Result B Refusal) → Type 0
Closes end = (wires : List ℕ) (d : TokenView) (l : List TokenView) → is_form Semicolon d ≡ false → end (wires, d ∷ l) ≡ Err (unexpected d)

-- what a barrier does with an argument
body : List RegisterView → List ℕ → List TokenView → (Argument × List TokenView) → Reading (List ℕ)
body regs wires ts a = cond (is_form Comma (head a.1)) (barrier_wires regs (adjoined_below wires a.0.first a.0.count) (argument_tokens a.0) ts) (Ok (adjoined_below wires a.0.first a.0.count, a.1))

-- shorter tokens that stray are refused
abbrev Shorter : {B : Type 0} → List RegisterView → (List ℕ × List TokenView → Result B Refusal) → ℕ → Type 0
Shorter regs end n = (us : List TokenView) (wires : List ℕ) → length us ≤ n → expected_after regs Name us ≡ Nothing → is_closed us ≡ false → IsKnown (λ later. barrier_wires regs wires 0 (us ++ later) >>= end)

-- behind an argument: a comma, or a fault
by_comma : {B : Type 0} (regs : List RegisterView) (end : List ℕ × List TokenView → Result B Refusal) → Closes end → (n : ℕ) → Shorter regs end n → (a : Argument) (skipped : List TokenView) (wires : List ℕ) (d : TokenView) (us : List TokenView)
    → ((later : List TokenView) (next : List ℕ) → barrier_wires regs next (argument_tokens a) (skipped ++ d ∷ (us ++ later)) ≡ barrier_wires regs next 0 (us ++ later))
    → length us ≤ n → is_form Semicolon d ≡ false → is_closed us ≡ false → (is_form Comma d ≡ true → expected_after regs Name us ≡ Nothing)
    → IsKnown (λ later. body regs wires (skipped ++ d ∷ (us ++ later)) (a, d ∷ (us ++ later)) >>= end)
unfolding body
by_comma regs end closes n shorter a skipped wires d us skips le no_end unclosed strays = by (is_form Comma d) refl where
  next : List ℕ
  next = adjoined_below wires a.first a.count

  by : (b : Bool) → is_form Comma d ≡ b → IsKnown (λ later. cond b (barrier_wires regs (adjoined_below wires a.first a.count) (argument_tokens a) (skipped ++ d ∷ (us ++ later))) (Ok (adjoined_below wires a.first a.count, d ∷ (us ++ later))) >>= end)
  by true is =
      let k = shorter us (adjoined_below wires a.first a.count) le (strays is) unclosed in
      (k.0, λ later. ap (λ r. r >>= end) (skips later (adjoined_below wires a.first a.count)) ∙ k.1 later)
  by false is = (unexpected d, λ later. closes (adjoined_below wires a.first a.count) d (us ++ later) no_end)

skip_one : (regs : List RegisterView) (next : List ℕ) (d : TokenView) (ts : List TokenView) → barrier_wires regs next 1 (d ∷ ts) ≡ barrier_wires regs next 0 ts
unfolding barrier_wires
skip_one regs next d ts = refl

skip_four : (regs : List RegisterView) (next : List ℕ) (b i c d : TokenView) (ts : List TokenView) → barrier_wires regs next 4 (b ∷ i ∷ c ∷ d ∷ ts) ≡ barrier_wires regs next 0 ts
unfolding barrier_wires
skip_four regs next b i c d ts = refl

-- behind an index
closing_strays : {B : Type 0} (regs : List RegisterView) (end : List ℕ × List TokenView → Result B Refusal) → Closes end → (n : ℕ) → Shorter regs end n → (span : Span) (t : TokenView) (index : ℕ) (b i : TokenView) (wires : List ℕ) (us : List TokenView)
    → length us ≤ n → is_closed us ≡ false → expected_after regs AfterIndex us ≡ Nothing
    → IsKnown (λ later. ((demanded RightBracket (us ++ later) >>= λ c. (let r : Reading Argument = Ok (single span t index, c.1) in r)) >>= body regs wires (b ∷ i ∷ (us ++ later))) >>= end)
closing_strays regs end closes n shorter span t index b i wires [] le unclosed strays = other AfterIndex refl strays
closing_strays regs end closes n shorter span t index b i wires (c ∷ us) le unclosed strays = by (is_form RightBracket c) refl strays where
  by_next : (vs : List TokenView) → length vs ≤ n → is_closed vs ≡ false → expected_after regs AfterBracket vs ≡ Nothing → IsKnown (λ later. body regs wires (b ∷ i ∷ c ∷ (vs ++ later)) (single span t index, vs ++ later) >>= end)
  by_next [] le unclosed strays = other AfterBracket refl strays
  by_next (d ∷ vs) le unclosed strays =
      let both = neither _ _ unclosed in
      by_comma regs end closes n shorter (single span t index) (b ∷ i ∷ c ∷ []) wires d vs (λ later next. skip_four regs next b i c d (vs ++ later)) (omega arith) both.0 both.1
      (λ comma. ap (λ s. expected_after regs (cond s Name Nothing) vs) (sym comma) ∙ strays)

  by : (s : Bool) → is_form RightBracket c ≡ s → expected_after regs (cond s AfterBracket Nothing) us ≡ Nothing
      → IsKnown (λ later. (((let d : Reading TokenView = cond s (Ok (c, us ++ later)) (Err (unexpected c)) in d) >>= λ c. (let r : Reading Argument = Ok (single span t index, c.1) in r)) >>= body regs wires (b ∷ i ∷ c ∷ (us ++ later))) >>= end)
  by true is strays = by_next us (omega arith) (neither _ _ unclosed).1 strays
  by false is strays = (unexpected c, λ later. refl)

-- a value that stops growing at a million is still below the size
still_below : (value size : ℕ) → nat_lt value size ≡ true → nat_lt (min value 1000000) size ≡ true
still_below value size h = grind (arith, nat_tests)

-- behind a `[`
index_strays : {B : Type 0} (regs : List RegisterView) (end : List ℕ × List TokenView → Result B Refusal) → Closes end → (n : ℕ) → Shorter regs end n → (span : Span) (t b : TokenView) (wires : List ℕ) (us : List TokenView)
    → length us ≤ n → is_closed us ≡ false → expected_after regs (Index span) us ≡ Nothing
    → IsKnown (λ later. (indexed_at span t (us ++ later) >>= body regs wires (b ∷ (us ++ later))) >>= end)
unfolding indexed_at integer_at
index_strays regs end closes n shorter span t b wires [] le unclosed strays = other (Index span) refl strays
index_strays regs end closes n shorter span t b wires (i ∷ us) le unclosed strays = by (is_form Number i) strays where
  by_size : (s : Bool) → nat_lt (value_of i) span.size ≡ s → expected_after regs (cond (nat_lt (min (value_of i) 1000000) span.size) AfterIndex Nothing) us ≡ Nothing
      → IsKnown (λ later. (((let r : Result ℕ Refusal = cond s (Ok (value_of i)) (Err (refused IndexOutOfRange i)) in r) >>= λ index. demanded RightBracket (us ++ later) >>= λ c. (let r : Reading Argument = Ok (single span t index, c.1) in r)) >>= body regs wires (b ∷ i ∷ (us ++ later))) >>= end)
  by_size true is strays =
      closing_strays regs end closes n shorter span t (value_of i) b i wires us (omega arith) (neither _ _ unclosed).1
      (ap (λ s. expected_after regs (cond s AfterIndex Nothing) us) (sym (still_below (value_of i) span.size is)) ∙ strays)
  by_size false is strays = (refused IndexOutOfRange i, λ later. refl)

  by_digits : (s : Bool) → expected_after regs (cond (s && nat_lt (min (value_of i) 1000000) span.size) AfterIndex Nothing) us ≡ Nothing
      → IsKnown (λ later. (((let r : Reading TokenView = cond s (Ok (i, us ++ later)) (Err (refused Syntax i)) in r) >>= λ i. (let r : Result ℕ Refusal = cond (nat_lt (value_of i.0) span.size) (Ok (value_of i.0)) (Err (refused IndexOutOfRange i.0)) in r)
      >>= λ index. demanded RightBracket i.1 >>= λ c. (let r : Reading Argument = Ok (single span t index, c.1) in r)) >>= body regs wires (b ∷ i ∷ (us ++ later))) >>= end)
  by_digits true strays = by_size (nat_lt (value_of i) span.size) refl strays
  by_digits false strays = (refused Syntax i, λ later. refl)

  by : (s : Bool) → expected_after regs (cond (s && is_index span i) AfterIndex Nothing) us ≡ Nothing
      → IsKnown (λ later. (((let r : Reading TokenView = cond s (Ok (i, us ++ later)) (Err (unexpected i)) in r) >>= λ t. (let r : Reading TokenView = cond (list_all is_ascii_digit t.0.bytes) (Ok t) (Err (refused Syntax t.0)) in r))
      >>= λ i. (let r : Result ℕ Refusal = cond (nat_lt (value_of i.0) span.size) (Ok (value_of i.0)) (Err (refused IndexOutOfRange i.0)) in r)
      >>= λ index. demanded RightBracket i.1 >>= λ c. (let r : Reading Argument = Ok (single span t index, c.1) in r)) >>= body regs wires (b ∷ i ∷ (us ++ later)) >>= end)
  by true strays = by_digits (list_all is_ascii_digit i.bytes) strays
  by false strays = (unexpected i, λ later. refl)

-- behind a name
name_strays : {B : Type 0} (regs : List RegisterView) (end : List ℕ × List TokenView → Result B Refusal) → Closes end → (n : ℕ) → Shorter regs end n → (span : Span) (t : TokenView) (wires : List ℕ) (us : List TokenView)
    → length us ≤ n → is_closed us ≡ false → expected_after regs (AfterName span) us ≡ Nothing
    → IsKnown (λ later. ((let r : Reading Argument = cond (is_form LeftBracket (head (us ++ later))) (demanded LeftBracket (us ++ later) >>= λ b. indexed_at span t b.1) (Ok (whole span t, us ++ later)) in r) >>= body regs wires (us ++ later)) >>= end)
name_strays regs end closes n shorter span t wires [] le unclosed strays = other (AfterName span) refl strays
name_strays regs end closes n shorter span t wires (b ∷ us) le unclosed strays = by (is_form LeftBracket b) strays where
  by : (s : Bool) → expected_after regs (cond s (Index span) (cond (is_form Comma b) Name Nothing)) us ≡ Nothing
      → IsKnown (λ later. ((let r : Reading Argument = cond s ((let d : Reading TokenView = cond s (Ok (b, us ++ later)) (Err (unexpected b)) in d) >>= λ b. indexed_at span t b.1) (Ok (whole span t, b ∷ (us ++ later))) in r) >>= body regs wires (b ∷ (us ++ later))) >>= end)
  by true strays = index_strays regs end closes n shorter span t b wires us (omega arith) (neither _ _ unclosed).1 strays
  by false strays =
      let both = neither _ _ unclosed in
      by_comma regs end closes n shorter (whole span t) [] wires b us (λ later next. skip_one regs next b (us ++ later)) (omega arith) both.0 both.1
      (λ comma. ap (λ s. expected_after regs (cond s Name Nothing) us) (sym comma) ∙ strays)

-- an argument
argument_strays : {B : Type 0} (regs : List RegisterView) (end : List ℕ × List TokenView → Result B Refusal) → Closes end → (n : ℕ) → Shorter regs end n → (t : TokenView) (wires : List ℕ) (us : List TokenView)
    → length us ≤ n → is_closed us ≡ false → expected_after regs (after_token regs Name t) us ≡ Nothing
    → IsKnown (λ later. barrier_wires regs wires 0 (t ∷ (us ++ later)) >>= end)
unfolding barrier_wires argument_at body
argument_strays regs end closes n shorter t wires us le unclosed strays = by (is_form Word t) strays where
  by_register : (s : Bool) (o : Option Span) → expected_after regs (named o) us ≡ Nothing
      → IsKnown (λ later. (((let r : Result Span Refusal = cond s (known t o) (Err (refused Syntax t)) in r) >>= λ span. (let r : Reading Argument = cond (is_form LeftBracket (head (us ++ later))) (demanded LeftBracket (us ++ later) >>= λ b. indexed_at span t b.1) (Ok (whole span t, us ++ later)) in r)) >>= body regs wires (us ++ later)) >>= end)
  by_register true (Some span) strays = name_strays regs end closes n shorter span t wires us le unclosed strays
  by_register true None strays = (refused UnknownRegister t, λ later. refl)
  by_register false o strays = (refused Syntax t, λ later. refl)

  by : (s : Bool) → expected_after regs (cond s (named (span_from 0 regs t.bytes)) Nothing) us ≡ Nothing
      → IsKnown (λ later. (((let d : Reading TokenView = cond s (Ok (t, us ++ later)) (Err (unexpected t)) in d)
      >>= λ t. register_of regs t.0 >>= λ span. (let r : Reading Argument = cond (is_form LeftBracket (head t.1)) (demanded LeftBracket t.1 >>= λ b. indexed_at span t.0 b.1) (Ok (whole span t.0, t.1)) in r)) >>= body regs wires (us ++ later)) >>= end)
  by true strays = by_register (is_name t.bytes) (span_from 0 regs t.bytes) strays
  by false strays = (unexpected t, λ later. refl)

wires_stray : {B : Type 0} (regs : List RegisterView) (end : List ℕ × List TokenView → Result B Refusal) → Closes end → (n : ℕ) → Shorter regs end n
wires_stray regs end closes n [] wires le strays unclosed = other Name refl strays
wires_stray regs end closes zero (t ∷ us) wires le strays unclosed = absurd (omega arith)
wires_stray regs end closes (suc n) (t ∷ us) wires le strays unclosed = argument_strays regs end closes n (wires_stray regs end closes n) t wires us (omega arith) (neither _ _ unclosed).1 strays

-- the word of a barrier
barrier_word : (included : Bool) → first_word included (codes "barrier") ≡ words.Barrier
barrier_word true = refl
barrier_word false = refl

end_closes : (qregs : List RegisterView) (tail : List TailView) → Closes {B = List TailView × List TokenView} (λ w. demanded Semicolon w.1 >>= λ e. within_tail tail (length w.0) e.0 >>= λ _. Ok (tail ++ view.Barrier w.0 ∷ [], e.1))
end_closes qregs tail wires d l no_end = ap (λ b. (let r : Reading TokenView = cond b (Ok (d, l)) (Err (unexpected d)) in r) >>= λ e. within_tail tail (length wires) e.0 >>= λ _. (let r : Reading (List TailView) = Ok (tail ++ view.Barrier wires ∷ [], e.1) in r)) no_end

pub barrier_strays : (options : Options) (E : Env) (t : TokenView) (us : List TokenView) → (E.header && bytes_eq (codes "barrier") t.bytes) ≡ true → is_closed us ≡ false → expected_after E.program.qregs Name us ≡ Nothing
    → IsKnown (λ later. piece_at options E (t ∷ (us ++ later)))
unfolding piece_at statement_at barrier_at
barrier_strays options E t us begins unclosed strays =
    let both = and_both _ _ begins in
    let bytes : codes "barrier" ≡ t.bytes = (bytes_eq-Decides (codes "barrier") t.bytes).0 both.1 in
    let first : first_word E.included t.bytes ≡ words.Barrier = ap (first_word E.included) (sym bytes) ∙ barrier_word E.included in
    let wires = wires_stray E.program.qregs (λ w. demanded Semicolon w.1 >>= λ e. within_tail E.program.tail (length w.0) e.0 >>= λ _. (let r : Reading (List TailView) = Ok (E.program.tail ++ view.Barrier w.0 ∷ [], e.1) in r))
    (end_closes E.program.qregs E.program.tail) (length us) us [] (omega arith) strays unclosed in
    let known = by first wires.0 wires.1 (is_form Word t) in
    (known.0, λ later. ap (λ h. (let r : Reading Env = cond h (statement_at options E (t ∷ (us ++ later))) (put (header_at (t ∷ (us ++ later))) (λ _. record { header = true; included = E.included; program = E.program })) in r)) both.0 ∙ known.1 later)
  where
    by : first_word E.included t.bytes ≡ words.Barrier → (f : Refusal)
        → ((later : List TokenView) → (let r : Reading (List TailView) = barrier_wires E.program.qregs [] 0 (us ++ later) >>= λ w. demanded Semicolon w.1 >>= λ e. within_tail E.program.tail (length w.0) e.0 >>= λ _. Ok (E.program.tail ++ view.Barrier w.0 ∷ [], e.1) in r) ≡ Err f)
        → (s : Bool) → IsKnown (λ later. (let d : Reading TokenView = cond s (Ok (t, us ++ later)) (Err (unexpected t)) in d) >>= λ x. statement_by (first_word E.included x.0.bytes) options E x.0 x.1)
    by first f always true = (f, λ later. ap (λ w. statement_by w options E t (us ++ later)) first ∙ ap (λ r. put r (with_tail E)) (always later))
    by first f always false = (unexpected t, λ later. refl)
