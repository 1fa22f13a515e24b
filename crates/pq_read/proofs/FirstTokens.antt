-- A statement that is no barrier is known by its first tokens.
use Rattle.std.proofs.Common.{◌≡◌, ℕ, zero, suc, ◌+◌, ◌*◌, ◌≤◌, Bool, true, false, ◌&&◌, cond, List, [], ◌∷◌, ◌++◌, length, Option, Some, None, Result, Ok, Err, codes, bytes_eq, nat_lt, refl, sym, ap, ◌∙◌, arith}
use Rattle.std.specs.List.{list_any}
use Rattle.std.proofs.lemmas.Bool.{false≢true}
use Rattle.pq_lex.specs.declared.token.Form.TheVariants.{Word, Number, Quoted, Semicolon, Comma, LeftBracket, RightBracket, Arrow, Malformed}
use Rattle.pq_lex.specs.Token.{TokenView}
use Rattle.pq_gate.specs.declared.gate.Gate.{Gate}
use Rattle.pq_text.specs.Program.{RegisterView, TailView}
use Rattle.pq_read.specs.declared.refusal.Kind.{Kind}
use Rattle.pq_read.specs.declared.refusal.Kind.TheVariants.{NoHeader, BadToken, IndexOutOfRange, UnknownGate, Unsupported, TooManyQubits, TooManyBits}
use Rattle.pq_read.specs.declared.refusal.Refusal.{Refusal}
use Rattle.pq_read.specs.declared.program.Options.{Options}
use Rattle.pq_read.specs.declared.argument.Span.{Span}
use Rattle.pq_read.specs.declared.argument.Argument.{Argument}
use Rattle.pq_read.specs.declared.word.GateWord.{GateWord}
use Rattle.pq_read.specs.declared.word.GateWord.TheVariants.{Cx, Cz, Cy, Swap, Ccx}
use Rattle.pq_read.specs.declared.word.FirstWord.{FirstWord}
use Rattle.pq_read.specs.declared.word.FirstWord.TheVariants as words
use Rattle.pq_read.specs.Faults.{◌>>=◌, Reading, required, refused, unexpected, is_form, head, demanded, integer_at, value_of}
use Rattle.pq_read.specs.Words.{more_arguments, unsupported_words, gate_named, other_word, gate_or, first_word}
use Rattle.pq_read.specs.Environment.{Env}
use Rattle.pq_read.specs.Arguments.{register_of, whole, single, indexed_at, argument_at, fits, arguments_after, arguments_at}
use Rattle.pq_read.specs.Expansion.{gates_of}
use Rattle.pq_read.specs.After.{begins_header, header_word, header_at, include_at, new_name, new_size, declared_at, allowed, within_gates, gate_at, within_tail, measurements, paired, measure_at, with_qreg, with_creg, with_gates, with_tail, put, statement_by, statement_at, piece_at}
use Rattle.pq_read.proofs.Short.{followed, Leaves, IsShort, then_short, tested_short, done_short, fault_short, longer, by_next, demanded_short, integer_short, either_same, either_leaves}

indexed_short : (span : Span) (t : TokenView) → IsShort 2 (indexed_at span t)
unfolding indexed_at
indexed_short span t =
    then_short 1 1 integer_at (λ i ts. cond (nat_lt (value_of i) span.size) (Ok (value_of i)) (Err (refused IndexOutOfRange i)) >>= λ index. demanded RightBracket ts >>= λ c. Ok (single span t index, c.1)) integer_short
    (λ i. tested_short 1 (cond (nat_lt (value_of i) span.size) (Ok (value_of i)) (Err (refused IndexOutOfRange i))) (λ index ts. demanded RightBracket ts >>= λ c. Ok (single span t index, c.1))
    (λ index. then_short 1 0 (demanded RightBracket) (λ c ts. Ok (single span t index, ts)) (demanded_short RightBracket) (λ c. done_short (single span t index))))

argument_short : (regs : List RegisterView) → IsShort 4 (argument_at regs)
unfolding argument_at
argument_short regs =
    then_short 1 3 (demanded Word) (λ t ts. register_of regs t >>= λ span. cond (is_form LeftBracket (head ts)) (demanded LeftBracket ts >>= λ b. indexed_at span t b.1) (Ok (whole span t, ts))) (demanded_short Word)
    (λ t. tested_short 3 (register_of regs t) (λ span ts. cond (is_form LeftBracket (head ts)) (demanded LeftBracket ts >>= λ b. indexed_at span t b.1) (Ok (whole span t, ts)))
    (λ span. by_next 3 (is_form LeftBracket) (λ ts. demanded LeftBracket ts >>= λ b. indexed_at span t b.1) (λ ts. Ok (whole span t, ts)) (omega arith)
    (then_short 1 2 (demanded LeftBracket) (λ b ts. indexed_at span t ts) (demanded_short LeftBracket) (λ b. indexed_short span t))
    (longer 0 3 (λ ts. Ok (whole span t, ts)) (omega arith) (done_short (whole span t)))))

after_short : (regs : List RegisterView) (more : ℕ) (earlier : List Argument) → IsShort (5 * more) (arguments_after regs more earlier)
unfolding arguments_after
after_short regs zero earlier = done_short earlier
after_short regs (suc more) earlier =
    longer (1 + (4 + 5 * more)) (5 * suc more) (λ ts. demanded Comma ts >>= λ c. argument_at regs c.1 >>= λ a. fits earlier a.0 >>= λ one. arguments_after regs more (earlier ++ a.0 ∷ []) a.1) (omega arith)
    (then_short 1 (4 + 5 * more) (demanded Comma) (λ c ts. argument_at regs ts >>= λ a. fits earlier a.0 >>= λ one. arguments_after regs more (earlier ++ a.0 ∷ []) a.1) (demanded_short Comma)
    (λ c. then_short 4 (5 * more) (argument_at regs) (λ a ts. fits earlier a >>= λ one. arguments_after regs more (earlier ++ a ∷ []) ts) (argument_short regs)
    (λ a. tested_short (5 * more) (fits earlier a) (λ one ts. arguments_after regs more (earlier ++ a ∷ []) ts) (λ one. after_short regs more (earlier ++ a ∷ [])))))

arguments_short : (regs : List RegisterView) (more : ℕ) → IsShort (4 + 5 * more) (arguments_at regs more)
unfolding arguments_at
arguments_short regs more = then_short 4 (5 * more) (argument_at regs) (λ a ts. arguments_after regs more (a ∷ []) ts) (argument_short regs) (λ a. after_short regs more (a ∷ []))

-- the `;` behind a value
end_short : {A : Type 0} (room : TokenView → Result (Unit {0}) Refusal) (x : A) → IsShort 1 (λ ts. demanded Semicolon ts >>= λ e. room e.0 >>= λ _. Ok (x, e.1))
end_short room x =
    then_short 1 0 (demanded Semicolon) (λ e ts. room e >>= λ _. Ok (x, ts)) (demanded_short Semicolon) (λ e. tested_short 0 (room e) (λ _ ts. Ok (x, ts)) (λ _. done_short x))

plain_end : {A : Type 0} (x : A) → IsShort 1 (λ ts. demanded Semicolon ts >>= λ e. Ok (x, e.1))
plain_end x = then_short 1 0 (demanded Semicolon) (λ e ts. Ok (x, ts)) (demanded_short Semicolon) (λ e. done_short x)

few : (word : GateWord) → more_arguments word ≤ 2
few Cx = omega arith
few Cz = omega arith
few Cy = omega arith
few Swap = omega arith
few Ccx = omega arith
few _ = omega arith

gate_short : (word : GateWord) (qregs : List RegisterView) (gates : List Gate) → IsShort 15 (gate_at word qregs gates)
unfolding gate_at
gate_short word qregs gates =
    let n : ℕ = more_arguments word in
    let two : n ≤ 2 = few word in
    longer ((4 + 5 * n) + 1) 15 (λ ts. arguments_at qregs n ts >>= λ a. demanded Semicolon a.1 >>= λ e. within_gates gates (gates_of word a.0) e.0 >>= λ _. Ok (gates ++ gates_of word a.0, e.1)) (omega arith)
    (then_short (4 + 5 * n) 1 (arguments_at qregs n) (λ a ts. demanded Semicolon ts >>= λ e. within_gates gates (gates_of word a) e.0 >>= λ _. Ok (gates ++ gates_of word a, e.1)) (arguments_short qregs n)
    (λ a. end_short (within_gates gates (gates_of word a)) (gates ++ gates_of word a)))

header_word_short : IsShort 1 header_word
header_word_short = record {
  same = word_same;
  leaves = word_leaves;
}
  where
    word_same : (ts more : List TokenView) → 1 ≤ length ts → header_word (ts ++ more) ≡ followed more (header_word ts)
    word_same [] more some = absurd (omega arith)
    word_same (t ∷ ts) more some =
        either_same (begins_header t) more (Ok (t, ts)) (cond (is_form Malformed t) (Err (refused BadToken t)) (Err (refused NoHeader t))) _ _ refl
        (either_same (is_form Malformed t) more (Err (refused BadToken t)) (Err (refused NoHeader t)) _ _ refl refl)

    word_leaves : (ts : List TokenView) → Leaves 1 ts (header_word ts)
    word_leaves [] = tt
    word_leaves (t ∷ ts) =
        either_leaves 1 (begins_header t) (t ∷ ts) (Ok (t, ts)) (cond (is_form Malformed t) (Err (refused BadToken t)) (Err (refused NoHeader t))) (omega arith)
        (either_leaves 1 (is_form Malformed t) (t ∷ ts) (Err (refused BadToken t)) (Err (refused NoHeader t)) tt tt)

header_short : IsShort 3 header_at
unfolding header_at
header_short =
    then_short 1 2 header_word (λ t ts. demanded Number ts >>= λ n. required (bytes_eq (codes "2.0") n.0.bytes) (refused Unsupported n.0) >>= λ two. demanded Semicolon n.1 >>= λ e. Ok (tt, e.1)) header_word_short
    (λ t. then_short 1 1 (demanded Number) (λ n ts. required (bytes_eq (codes "2.0") n.bytes) (refused Unsupported n) >>= λ two. demanded Semicolon ts >>= λ e. Ok (tt, e.1)) (demanded_short Number)
    (λ n. tested_short 1 (required (bytes_eq (codes "2.0") n.bytes) (refused Unsupported n)) (λ two ts. demanded Semicolon ts >>= λ e. Ok (tt, e.1)) (λ two. plain_end tt)))

include_short : IsShort 2 include_at
unfolding include_at
include_short =
    then_short 1 1 (demanded Quoted) (λ s ts. required (bytes_eq (codes "\"qelib1.inc\"") s.bytes) (refused Unsupported s) >>= λ file. demanded Semicolon ts >>= λ e. Ok (tt, e.1)) (demanded_short Quoted)
    (λ s. tested_short 1 (required (bytes_eq (codes "\"qelib1.inc\"") s.bytes) (refused Unsupported s)) (λ file ts. demanded Semicolon ts >>= λ e. Ok (tt, e.1)) (λ file. plain_end tt))

declared_short : (too_many : Kind) (qregs cregs regs : List RegisterView) → IsShort 5 (declared_at too_many qregs cregs regs)
unfolding declared_at
declared_short too_many qregs cregs regs =
    let made : List ℕ → ℕ → RegisterView = λ name size. record { name = name; size = size } in
    then_short 1 4 (demanded Word) (λ n ts. new_name qregs cregs n >>= λ name. demanded LeftBracket ts >>= λ b. integer_at b.1 >>= λ i. new_size too_many regs i.0 >>= λ size. demanded RightBracket i.1 >>= λ c. demanded Semicolon c.1 >>= λ e. Ok (made name size, e.1)) (demanded_short Word)
    (λ n. tested_short 4 (new_name qregs cregs n) (λ name ts. demanded LeftBracket ts >>= λ b. integer_at b.1 >>= λ i. new_size too_many regs i.0 >>= λ size. demanded RightBracket i.1 >>= λ c. demanded Semicolon c.1 >>= λ e. Ok (made name size, e.1))
    (λ name. then_short 1 3 (demanded LeftBracket) (λ b ts. integer_at ts >>= λ i. new_size too_many regs i.0 >>= λ size. demanded RightBracket i.1 >>= λ c. demanded Semicolon c.1 >>= λ e. Ok (made name size, e.1)) (demanded_short LeftBracket)
    (λ b. then_short 1 2 integer_at (λ i ts. new_size too_many regs i >>= λ size. demanded RightBracket ts >>= λ c. demanded Semicolon c.1 >>= λ e. Ok (made name size, e.1)) integer_short
    (λ i. tested_short 2 (new_size too_many regs i) (λ size ts. demanded RightBracket ts >>= λ c. demanded Semicolon c.1 >>= λ e. Ok (made name size, e.1))
    (λ size. then_short 1 1 (demanded RightBracket) (λ c ts. demanded Semicolon ts >>= λ e. Ok (made name size, e.1)) (demanded_short RightBracket) (λ c. plain_end (made name size)))))))

measure_short : (qregs cregs : List RegisterView) (tail : List TailView) → IsShort 10 (measure_at qregs cregs tail)
unfolding measure_at
measure_short qregs cregs tail =
    then_short 4 6 (argument_at qregs) (λ a ts. demanded Arrow ts >>= λ m. argument_at cregs m.1 >>= λ b. paired a b.0 >>= λ one. demanded Semicolon b.1 >>= λ e. within_tail tail a.count e.0 >>= λ _. Ok (tail ++ measurements a b.0, e.1)) (argument_short qregs)
    (λ a. then_short 1 5 (demanded Arrow) (λ m ts. argument_at cregs ts >>= λ b. paired a b.0 >>= λ one. demanded Semicolon b.1 >>= λ e. within_tail tail a.count e.0 >>= λ _. Ok (tail ++ measurements a b.0, e.1)) (demanded_short Arrow)
    (λ m. then_short 4 1 (argument_at cregs) (λ b ts. paired a b >>= λ one. demanded Semicolon ts >>= λ e. within_tail tail a.count e.0 >>= λ _. Ok (tail ++ measurements a b, e.1)) (argument_short cregs)
    (λ b. tested_short 1 (paired a b) (λ one ts. demanded Semicolon ts >>= λ e. within_tail tail a.count e.0 >>= λ _. Ok (tail ++ measurements a b, e.1)) (λ one. end_short (within_tail tail a.count) (tail ++ measurements a b)))))

put_short : {A : Type 0} (n m : ℕ) (read : List TokenView → Reading A) (f : A → Env) → n ≤ m → IsShort n read → IsShort m (λ ts. put (read ts) f)
put_short n m read f le h = longer (n + 0) m (λ ts. put (read ts) f) (omega arith) (then_short n 0 read (λ x ts. Ok (f x, ts)) h (λ x. done_short (f x)))

-- what begins a barrier
is_barrier : FirstWord → Bool
is_barrier words.Barrier = true
is_barrier _ = false

by_short : (first : FirstWord) (options : Options) (E : Env) (t : TokenView) → is_barrier first ≡ false → IsShort 15 (statement_by first options E t)
unfolding is_barrier
by_short words.Include options E t h = put_short 2 15 include_at (λ _. record { header = E.header; included = true; program = E.program }) (omega arith) include_short
by_short words.Qreg options E t h = put_short 5 15 (declared_at TooManyQubits E.program.qregs E.program.cregs E.program.qregs) (with_qreg E) (omega arith) (declared_short TooManyQubits E.program.qregs E.program.cregs E.program.qregs)
by_short words.Creg options E t h = put_short 5 15 (declared_at TooManyBits E.program.qregs E.program.cregs E.program.cregs) (with_creg E) (omega arith) (declared_short TooManyBits E.program.qregs E.program.cregs E.program.cregs)
by_short words.Barrier options E t h = absurd (false≢true (sym h))
by_short words.Measure options E t h = put_short 10 15 (measure_at E.program.qregs E.program.cregs E.program.tail) (with_tail E) (omega arith) (measure_short E.program.qregs E.program.cregs E.program.tail)
by_short (words.Gate word) options E t h =
    tested_short 15 (allowed options E.program.tail t) (λ _ ts. put (gate_at word E.program.qregs E.program.gates ts) (with_gates E))
    (λ _. put_short 15 15 (gate_at word E.program.qregs E.program.gates) (with_gates E) (omega arith) (gate_short word E.program.qregs E.program.gates))
by_short words.Unsupported options E t h = longer 0 15 (λ ts. Err (refused Unsupported t)) (omega arith) (fault_short (refused Unsupported t))
by_short words.Unknown options E t h = longer 0 15 (λ ts. Err (refused UnknownGate t)) (omega arith) (fault_short (refused UnknownGate t))

neither_barrier : (b : Bool) (x y : FirstWord) → is_barrier x ≡ false → is_barrier y ≡ false → is_barrier (cond b x y) ≡ false
neither_barrier true x y p q = p
neither_barrier false x y p q = q

other_no_barrier : (word : List ℕ) → bytes_eq (codes "barrier") word ≡ false → is_barrier (other_word word) ≡ false
unfolding is_barrier
other_no_barrier word h =
    neither_barrier (bytes_eq (codes "include") word) words.Include _ refl
    (neither_barrier (bytes_eq (codes "qreg") word) words.Qreg _ refl
    (neither_barrier (bytes_eq (codes "creg") word) words.Creg _ refl
    (ap (λ b. is_barrier (cond b words.Barrier (cond (bytes_eq (codes "measure") word) words.Measure (cond (list_any (λ known. bytes_eq known word) unsupported_words) words.Unsupported words.Unknown)))) h
    ∙ neither_barrier (bytes_eq (codes "measure") word) words.Measure _ refl
    (neither_barrier (list_any (λ known. bytes_eq known word) unsupported_words) words.Unsupported words.Unknown refl refl))))

first_no_barrier : (included : Bool) (word : List ℕ) → bytes_eq (codes "barrier") word ≡ false → is_barrier (first_word included word) ≡ false
unfolding is_barrier
first_no_barrier included word h = by (gate_named included word) where
  by : (g : Option GateWord) → is_barrier (gate_or g (other_word word)) ≡ false
  by (Some g) = refl
  by None = other_no_barrier word h

-- A statement whose first token isn't the word `barrier`, or the header, is read or refused by its first 16 tokens.
pub piece_same : (options : Options) (E : Env) (t : TokenView) (ts more : List TokenView) → 16 ≤ length (t ∷ ts) → (E.header && bytes_eq (codes "barrier") t.bytes) ≡ false
    → piece_at options E ((t ∷ ts) ++ more) ≡ followed more (piece_at options E (t ∷ ts))
unfolding piece_at statement_at
piece_same options E t ts more many other =
    elim E.header as (λ h. (h && bytes_eq (codes "barrier") t.bytes) ≡ false
    → (let r : List TokenView → Reading Env = λ l. cond h (statement_at options E l) (put (header_at l) (λ _. record { header = true; included = E.included; program = E.program })) in
    r (t ∷ (ts ++ more)) ≡ followed more (r (t ∷ ts)))) [
      | true ↦ λ other. by (is_form Word t) ((by_short (first_word E.included t.bytes) options E t (first_no_barrier E.included t.bytes other)).same ts more (omega arith))
      | false ↦ λ _. (put_short 3 15 header_at (λ _. record { header = true; included = E.included; program = E.program }) (omega arith) header_short).same (t ∷ ts) more (omega arith)
    ] other
  where
    by : (b : Bool) → (let first : FirstWord = first_word E.included t.bytes in statement_by first options E t (ts ++ more) ≡ followed more (statement_by first options E t ts))
        → (let r : List TokenView → Reading TokenView = λ l. cond b (Ok (t, l)) (Err (unexpected t)) in
        (r (ts ++ more) >>= λ x. statement_by (first_word E.included x.0.bytes) options E x.0 x.1) ≡ followed more (r ts >>= λ x. statement_by (first_word E.included x.0.bytes) options E x.0 x.1))
    by true h = h
    by false h = refl
