-- Where readers of tokens end: what they leave is an end of the tokens, and stands behind a `;` where a statement is read.
use Rattle.std.proofs.Common.{◌≡◌, ℕ, zero, suc, Bool, true, false, cond, List, [], ◌∷◌, ◌++◌, length, Result, Ok, Err, refl, sym, ap, ◌∙◌}
use Rattle.std.specs.List.{list_all}
use Rattle.std.specs.Char.{is_ascii_digit}
use Rattle.std.proofs.lemmas.List.{append_assoc}
use Rattle.pq_lex.specs.declared.token.Form.{Form}
use Rattle.pq_lex.specs.declared.token.Form.TheVariants.{Word, Number, Quoted, Semicolon, Comma, LeftBracket, RightBracket, Arrow, Malformed}
use Rattle.pq_lex.specs.Token.{TokenView}
use Rattle.pq_gate.specs.declared.gate.Gate.{Gate}
use Rattle.pq_text.specs.Program.{RegisterView, TailView}
use Rattle.pq_text.specs.Program as view
use Rattle.pq_read.specs.declared.refusal.Kind.{Kind}
use Rattle.pq_read.specs.declared.refusal.Kind.TheVariants.{Syntax, TooManyQubits, TooManyBits}
use Rattle.pq_read.specs.declared.refusal.Refusal.{Refusal}
use Rattle.pq_read.specs.declared.program.Options.{Options}
use Rattle.pq_read.specs.declared.argument.Span.{Span}
use Rattle.pq_read.specs.declared.argument.Argument.{Argument}
use Rattle.pq_read.specs.declared.word.GateWord.{GateWord}
use Rattle.pq_read.specs.declared.word.FirstWord.{FirstWord}
use Rattle.pq_read.specs.declared.word.FirstWord.TheVariants as words
use Rattle.pq_read.specs.Faults.{◌>>=◌, Reading, refused, unexpected, is_form, head, demanded, integer_at}
use Rattle.pq_read.specs.Words.{more_arguments, first_word}
use Rattle.pq_read.specs.Environment.{Env}
use Rattle.pq_read.specs.Expansion.{gates_of}
use Rattle.pq_read.specs.Arguments.{register_of, indexed_at, argument_at, fits, arguments_after, arguments_at}
use Rattle.pq_read.specs.After.{begins_header, allowed, within_gates, within_tail, measurements, with_qreg, with_creg, with_gates, with_tail, header_word, header_at, include_at, declared_at, gate_at, barrier_wires, barrier_at, measure_at, adjoined_below, argument_tokens, put, statement_by, statement_at, piece_at}

-- what is left is an end of the tokens
pub record IsEndOf (left ts : List TokenView) : Type 0 where
  pub front : List TokenView
  pub is : ts ≡ front ++ left

-- what is left stands behind a `;`
pub record IsBehind (left ts : List TokenView) : Type 0 where
  pub front : List TokenView
  pub end : TokenView
  pub closes : is_form Semicolon end ≡ true
  pub is : ts ≡ front ++ end ∷ left

-- of a reader that succeeds
abbrev pub Goes : {A : Type 0} → List TokenView → Reading A → Type 0
Goes ts (Ok x) = IsEndOf x.1 ts
Goes ts (Err e) = Unit {0}

abbrev pub Ends : {A : Type 0} → List TokenView → Reading A → Type 0
Ends ts (Ok x) = IsBehind x.1 ts
Ends ts (Err e) = Unit {0}

-- nothing more is read
abbrev pub Stays : {A : Type 0} → List TokenView → Reading A → Type 0
Stays ts (Ok x) = x.1 ≡ ts
Stays ts (Err e) = Unit {0}

further : (left mid ts : List TokenView) → IsEndOf mid ts → IsEndOf left mid → IsEndOf left ts
further left mid ts a b = record { front = a.front ++ b.front; is = a.is ∙ (ap (λ l. a.front ++ l) b.is ∙ sym (append_assoc a.front b.front left)) }

behind : (left mid ts : List TokenView) → IsEndOf mid ts → IsBehind left mid → IsBehind left ts
behind left mid ts a b = record {
  front = a.front ++ b.front;
  end = b.end;
  closes = b.closes;
  is = a.is ∙ (ap (λ l. a.front ++ l) b.is ∙ sym (append_assoc a.front b.front (b.end ∷ left)));
}

-- one reader after another
goes_moved : {A : Type 0} (mid ts : List TokenView) → IsEndOf mid ts → (r : Reading A) → Goes mid r → Goes ts r
goes_moved mid ts a (Ok x) h = further x.1 mid ts a h
goes_moved mid ts a (Err e) h = tt

ends_moved : {A : Type 0} (mid ts : List TokenView) → IsEndOf mid ts → (r : Reading A) → Ends mid r → Ends ts r
ends_moved mid ts a (Ok x) h = behind x.1 mid ts a h
ends_moved mid ts a (Err e) h = tt

goes_on : {A B : Type 0} (ts : List TokenView) (r : Reading A) (f : A × List TokenView → Reading B) → Goes ts r → ((x : A × List TokenView) → Goes x.1 (f x)) → Goes ts (r >>= f)
goes_on ts (Ok x) f h k = goes_moved x.1 ts h (f x) (k x)
goes_on ts (Err e) f h k = tt

ends_on : {A B : Type 0} (ts : List TokenView) (r : Reading A) (f : A × List TokenView → Reading B) → Goes ts r → ((x : A × List TokenView) → Ends x.1 (f x)) → Ends ts (r >>= f)
ends_on ts (Ok x) f h k = ends_moved x.1 ts h (f x) (k x)
ends_on ts (Err e) f h k = tt

-- after a test
goes_by : {A B : Type 0} (ts : List TokenView) (r : Result A Refusal) (f : A → Reading B) → ((x : A) → Goes ts (f x)) → Goes ts (r >>= f)
goes_by ts (Ok x) f k = k x
goes_by ts (Err e) f k = tt

ends_by : {A B : Type 0} (ts : List TokenView) (r : Result A Refusal) (f : A → Reading B) → ((x : A) → Ends ts (f x)) → Ends ts (r >>= f)
ends_by ts (Ok x) f k = k x
ends_by ts (Err e) f k = tt

stays_by : {B : Type 0} (ts : List TokenView) (r : Result (Unit {0}) Refusal) (y : B) → Stays ts (r >>= λ _. Ok (y, ts))
stays_by ts (Ok x) y = refl
stays_by ts (Err e) y = tt

goes_either : {A : Type 0} (ts : List TokenView) (b : Bool) (r s : Reading A) → Goes ts r → Goes ts s → Goes ts (cond b r s)
goes_either ts true r s h k = h
goes_either ts false r s h k = k

ends_either : {A : Type 0} (ts : List TokenView) (b : Bool) (r s : Reading A) → Ends ts r → Ends ts s → Ends ts (cond b r s)
ends_either ts true r s h k = h
ends_either ts false r s h k = k

none : (ts : List TokenView) → IsEndOf ts ts
none ts = record { front = []; is = refl }

pub demanded_goes : (form : Form) (ts : List TokenView) → Goes ts (demanded form ts)
demanded_goes form [] = tt
demanded_goes form (t ∷ ts) =
    elim (is_form form t) as (λ b. (let r : Reading TokenView = cond b (Ok (t, ts)) (Err (unexpected t)) in Goes (t ∷ ts) r)) [
      | true ↦ record { front = t ∷ []; is = refl }
      | false ↦ tt
    ]

-- the `;` at the end of a statement
end_stays : {B : Type 0} (l : List TokenView) (r : Reading B) → Stays l r → (ts : List TokenView) (e : TokenView) → is_form Semicolon e ≡ true → ts ≡ e ∷ l → Ends ts r
end_stays l (Ok x) h ts e closes is = record { front = []; end = e; closes = closes; is = is ∙ ap (λ (m : List TokenView). e ∷ m) (sym h) }
end_stays l (Err f) h ts e closes is = tt

at_end : {B : Type 0} (ts : List TokenView) (f : TokenView × List TokenView → Reading B) → ((x : TokenView × List TokenView) → Stays x.1 (f x)) → Ends ts (demanded Semicolon ts >>= f)
at_end [] f k = tt
at_end (t ∷ ts) f k =
    elim (is_form Semicolon t) as (λ b. is_form Semicolon t ≡ b → (let r : Reading TokenView = cond b (Ok (t, ts)) (Err (unexpected t)) in Ends (t ∷ ts) (r >>= f))) [
      | true ↦ λ is. end_stays ts (f (t, ts)) (k (t, ts)) (t ∷ ts) t is refl
      | false ↦ λ is. tt
    ] refl

integer_goes : (ts : List TokenView) → Goes ts (integer_at ts)
unfolding integer_at
integer_goes ts =
    goes_on ts (demanded Number ts) _ (demanded_goes Number ts) (λ t. goes_either t.1 (list_all is_ascii_digit t.0.bytes) (Ok t) (Err (refused Syntax t.0)) (none t.1) tt)

indexed_goes : (span : Span) (t : TokenView) (ts : List TokenView) → Goes ts (indexed_at span t ts)
unfolding indexed_at
indexed_goes span t ts =
    goes_on ts (integer_at ts) _ (integer_goes ts) (λ i. goes_by i.1 _ _ (λ index. goes_on i.1 (demanded RightBracket i.1) _ (demanded_goes RightBracket i.1) (λ c. none c.1)))

pub argument_goes : (regs : List RegisterView) (ts : List TokenView) → Goes ts (argument_at regs ts)
unfolding argument_at
argument_goes regs ts =
    goes_on ts (demanded Word ts) _ (demanded_goes Word ts) (λ t. goes_by t.1 (register_of regs t.0) _ (λ span. goes_either t.1 (is_form LeftBracket (head t.1)) _ _
    (goes_on t.1 (demanded LeftBracket t.1) _ (demanded_goes LeftBracket t.1) (λ b. indexed_goes span t.0 b.1)) (none t.1)))

after_goes : (regs : List RegisterView) (more : ℕ) (earlier : List Argument) (ts : List TokenView) → Goes ts (arguments_after regs more earlier ts)
unfolding arguments_after
after_goes regs zero earlier ts = none ts
after_goes regs (suc more) earlier ts =
    goes_on ts (demanded Comma ts) _ (demanded_goes Comma ts) (λ c. goes_on c.1 (argument_at regs c.1) _ (argument_goes regs c.1) (λ a. goes_by a.1 (fits earlier a.0) _ (λ one. after_goes regs more (earlier ++ a.0 ∷ []) a.1)))

arguments_goes : (regs : List RegisterView) (more : ℕ) (ts : List TokenView) → Goes ts (arguments_at regs more ts)
unfolding arguments_at
arguments_goes regs more ts = goes_on ts (argument_at regs ts) _ (argument_goes regs ts) (λ a. after_goes regs more (a.0 ∷ []) a.1)

wires_by : (regs : List RegisterView) (wires : List ℕ) (t : TokenView) (ts : List TokenView) → ((next : List ℕ) (within : ℕ) → Goes ts (barrier_wires regs next within ts)) → (r : Reading Argument) → Goes (t ∷ ts) r
    → Goes (t ∷ ts) (r >>= λ a. cond (is_form Comma (head a.1)) (barrier_wires regs (adjoined_below wires a.0.first a.0.count) (argument_tokens a.0) ts) (Ok (adjoined_below wires a.0.first a.0.count, a.1)))
wires_by regs wires t ts later (Ok a) h =
    let next : List ℕ = adjoined_below wires a.0.first a.0.count in
    goes_either (t ∷ ts) (is_form Comma (head a.1)) _ _ (goes_moved ts (t ∷ ts) (record { front = t ∷ []; is = refl }) _ (later next (argument_tokens a.0))) h
wires_by regs wires t ts later (Err e) h = tt

wires_goes : (regs : List RegisterView) (wires : List ℕ) (within : ℕ) (ts : List TokenView) → Goes ts (barrier_wires regs wires within ts)
unfolding barrier_wires
wires_goes regs wires within [] = tt
wires_goes regs wires (suc within) (t ∷ ts) = goes_moved ts (t ∷ ts) (record { front = t ∷ []; is = refl }) (barrier_wires regs wires within ts) (wires_goes regs wires within ts)
wires_goes regs wires zero (t ∷ ts) = wires_by regs wires t ts (λ next within. wires_goes regs next within ts) (argument_at regs (t ∷ ts)) (argument_goes regs (t ∷ ts))

-- statements
header_goes : (ts : List TokenView) → Goes ts (header_word ts)
header_goes [] = tt
header_goes (t ∷ ts) = goes_either (t ∷ ts) (begins_header t) _ _ (record { front = t ∷ []; is = refl }) (goes_either (t ∷ ts) (is_form Malformed t) _ _ tt tt)

header_ends : (ts : List TokenView) → Ends ts (header_at ts)
unfolding header_at
header_ends ts =
    ends_on ts (header_word ts) _ (header_goes ts) (λ t. ends_on t.1 (demanded Number t.1) _ (demanded_goes Number t.1) (λ n. ends_by n.1 _ _ (λ two. at_end n.1 _ (λ e. refl))))

include_ends : (ts : List TokenView) → Ends ts (include_at ts)
unfolding include_at
include_ends ts = ends_on ts (demanded Quoted ts) _ (demanded_goes Quoted ts) (λ s. ends_by s.1 _ _ (λ file. at_end s.1 _ (λ e. refl)))

declared_ends : (too_many : Kind) (qregs cregs regs : List RegisterView) (ts : List TokenView) → Ends ts (declared_at too_many qregs cregs regs ts)
unfolding declared_at
declared_ends too_many qregs cregs regs ts =
    ends_on ts (demanded Word ts) _ (demanded_goes Word ts) (λ n. ends_by n.1 _ _ (λ name. ends_on n.1 (demanded LeftBracket n.1) _ (demanded_goes LeftBracket n.1)
    (λ b. ends_on b.1 (integer_at b.1) _ (integer_goes b.1) (λ i. ends_by i.1 _ _ (λ size. ends_on i.1 (demanded RightBracket i.1) _ (demanded_goes RightBracket i.1) (λ c. at_end c.1 _ (λ e. refl)))))))

gate_ends : (word : GateWord) (qregs : List RegisterView) (gates : List Gate) (ts : List TokenView) → Ends ts (gate_at word qregs gates ts)
unfolding gate_at
gate_ends word qregs gates ts =
    ends_on ts (arguments_at qregs (more_arguments word) ts) _ (arguments_goes qregs (more_arguments word) ts) (λ a. at_end a.1 _ (λ e. stays_by e.1 (within_gates gates (gates_of word a.0) e.0) (gates ++ gates_of word a.0)))

barrier_ends : (qregs : List RegisterView) (tail : List TailView) (ts : List TokenView) → Ends ts (barrier_at qregs tail ts)
unfolding barrier_at
barrier_ends qregs tail ts = ends_on ts (barrier_wires qregs [] 0 ts) _ (wires_goes qregs [] 0 ts) (λ w. at_end w.1 _ (λ e. stays_by e.1 (within_tail tail (length w.0) e.0) (tail ++ view.Barrier w.0 ∷ [])))

measure_ends : (qregs cregs : List RegisterView) (tail : List TailView) (ts : List TokenView) → Ends ts (measure_at qregs cregs tail ts)
unfolding measure_at
measure_ends qregs cregs tail ts =
    ends_on ts (argument_at qregs ts) _ (argument_goes qregs ts) (λ a. ends_on a.1 (demanded Arrow a.1) _ (demanded_goes Arrow a.1)
    (λ m. ends_on m.1 (argument_at cregs m.1) _ (argument_goes cregs m.1) (λ b. ends_by b.1 _ _ (λ one. at_end b.1 _ (λ e. stays_by e.1 (within_tail tail a.0.count e.0) (tail ++ measurements a.0 b.0))))))

put_ends : {A : Type 0} (ts : List TokenView) (r : Reading A) (f : A → Env) → Ends ts r → Ends ts (put r f)
put_ends ts (Ok x) f h = h
put_ends ts (Err e) f h = tt

by_ends : (first : FirstWord) (options : Options) (E : Env) (t : TokenView) (ts : List TokenView) → Ends ts (statement_by first options E t ts)
by_ends words.Include options E t ts = put_ends ts (include_at ts) _ (include_ends ts)
by_ends words.Qreg options E t ts = put_ends ts _ (with_qreg E) (declared_ends TooManyQubits E.program.qregs E.program.cregs E.program.qregs ts)
by_ends words.Creg options E t ts = put_ends ts _ (with_creg E) (declared_ends TooManyBits E.program.qregs E.program.cregs E.program.cregs ts)
by_ends words.Barrier options E t ts = put_ends ts _ (with_tail E) (barrier_ends E.program.qregs E.program.tail ts)
by_ends words.Measure options E t ts = put_ends ts _ (with_tail E) (measure_ends E.program.qregs E.program.cregs E.program.tail ts)
by_ends (words.Gate word) options E t ts = ends_by ts (allowed options E.program.tail t) _ (λ free. put_ends ts _ (with_gates E) (gate_ends word E.program.qregs E.program.gates ts))
by_ends words.Unsupported options E t ts = tt
by_ends words.Unknown options E t ts = tt

-- A piece that is read is left behind a `;`.
pub piece_ends : (options : Options) (E : Env) (ts : List TokenView) → Ends ts (piece_at options E ts)
unfolding piece_at statement_at
piece_ends options E ts =
    ends_either ts E.header _ _ (ends_on ts (demanded Word ts) _ (demanded_goes Word ts) (λ t. by_ends (first_word E.included t.0.bytes) options E t.0 t.1)) (put_ends ts (header_at ts) _ (header_ends ts))
