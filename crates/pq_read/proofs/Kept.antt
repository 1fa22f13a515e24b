-- Each statement keeps what is read well formed.
use Rattle.std.proofs.Common.{◌≡◌, ◌⊎◌, ℕ, zero, suc, ◌+◌, ◌<◌, ◌≤◌, Bool, true, false, eqb, cond, List, [], ◌∷◌, ◌++◌, length, Result, Ok, Err, refl, sym, subst, arith, length-append, inl, inr}
use Rattle.std.specs.List.{AllByRecursion, list_any}
use Rattle.std.proofs.lemmas.Bool.{false≢true}
use borrow.Author.Tests.{eqb-true, eqb-false, ltb-false}
use Rattle.pq_lex.specs.declared.token.Form.TheVariants.{Word, Semicolon, Comma, Arrow}
use Rattle.pq_lex.specs.Token.{TokenView}
use Rattle.pq_lex.specs.Lex.{tokens_of}
use Rattle.pq_gate.specs.declared.gate.Gate.{Gate}
use Rattle.pq_gate.specs.Circuit.{IsOnWires, IsCircuit}
use Rattle.pq_text.specs.Program.{RegisterView, TailView, Barrier, Measure, ProgramView, places_of, entries_of}
use Rattle.pq_text.specs.WellFormed.{IsRegister, WellFormed}
use Rattle.pq_read.specs.declared.refusal.Kind.TheVariants.{TooManyQubits, TooManyBits}
use Rattle.pq_read.specs.declared.refusal.Refusal.{Refusal}
use Rattle.pq_read.specs.declared.program.Options.{Options}
use Rattle.pq_read.specs.declared.word.GateWord.{GateWord}
use Rattle.pq_read.specs.declared.word.FirstWord.{FirstWord}
use Rattle.pq_read.specs.declared.word.FirstWord.TheVariants as words
use Rattle.pq_read.specs.Lists.{each_below}
use Rattle.pq_read.specs.Faults.{◌>>=◌, is_form, head, demanded}
use Rattle.pq_read.specs.Words.{more_arguments, first_word}
use Rattle.pq_read.specs.Environment.{Env, start}
use Rattle.pq_read.specs.Registers.{IsKept}
use Rattle.pq_read.specs.Arguments.{argument_at, arguments_at}
use Rattle.pq_read.specs.Expansion.{gates_of}
use Rattle.pq_read.specs.After.{header_at, include_at, declared_at, allowed, within_gates, gate_at, adjoined, adjoined_below, argument_tokens, barrier_wires, within_tail, barrier_at, measurements, paired, measure_at, with_qreg, with_creg, with_gates, with_tail, put, statement_by, statement_at, piece_at, after}
use Rattle.pq_read.specs.Pieces.{Front, cut}
use Rattle.pq_read.specs.Reads.{is_done, read_pieces, read_tokens, read_of, Reads}
use Rattle.pq_read.proofs.Barriers.{bind_ok, ok_same}
use Rattle.pq_read.proofs.Counts.{entries_of-append, places_of-append}
use Rattle.pq_read.proofs.Circuits.{all_append, all_below, neither, IsWhere, argument_where, gates_on}
use Rattle.pq_read.proofs.Formed.{all_map, apart_push, IsWireList, IsEntry, IsGood, good_formed, good_start, kept_of, on_more, entry_more, IsJoining, one_told, declared_told}

all_both : {A : Type 0} (P Q R : A → Type 0) (xs : List A) → ((x : A) → P x → Q x → R x) → AllByRecursion P xs → AllByRecursion Q xs → AllByRecursion R xs
all_both P Q R [] f p q = tt
all_both P Q R (x ∷ xs) f p q = (f x p.0 q.0, all_both P Q R xs f p.1 q.1)

qreg_good : (E : Env) (r : RegisterView) → IsGood E.program → IsJoining E.program.qregs E.program.cregs E.program.qregs r → IsGood (with_qreg E r).program
qreg_good E r g j =
    let p : ProgramView = E.program in
    let n : ℕ = places_of p.qregs in
    let m : ℕ = places_of p.cregs in
    let n' : ℕ = places_of (p.qregs ++ r ∷ []) in
    let e : n' ≡ n + (r.size + 0) = places_of-append p.qregs (r ∷ []) in
    let room : n + r.size ≤ 4096 = j.room in
    let le : n ≤ n' = omega arith in
    record {
      qregs = all_append IsRegister p.qregs (r ∷ []) g.qregs (j.register, tt);
      cregs = g.cregs;
      q_apart = apart_push (λ q s. q.name ≡ s.name → ⊥) p.qregs r g.q_apart j.q_new;
      c_apart = g.c_apart;
      cross = all_append (λ q. AllByRecursion (λ s. q.name ≡ s.name → ⊥) p.cregs) p.qregs (r ∷ []) g.cross
          (all_map (λ s. s.name ≡ r.name → ⊥) (λ s. r.name ≡ s.name → ⊥) p.cregs (λ s f same. f (sym same)) j.c_new, tt);
      qubits = omega arith;
      bits = g.bits;
      circuit = all_map (IsOnWires n) (IsOnWires n') p.gates (on_more n n' le) g.circuit;
      gates = g.gates;
      tail = all_map (IsEntry n m) (IsEntry n' m) p.tail (entry_more n m n' m le (omega arith)) g.tail;
      entries = g.entries;
    }

creg_good : (E : Env) (r : RegisterView) → IsGood E.program → IsJoining E.program.qregs E.program.cregs E.program.cregs r → IsGood (with_creg E r).program
creg_good E r g j =
    let p : ProgramView = E.program in
    let n : ℕ = places_of p.qregs in
    let m : ℕ = places_of p.cregs in
    let m' : ℕ = places_of (p.cregs ++ r ∷ []) in
    let e : m' ≡ m + (r.size + 0) = places_of-append p.cregs (r ∷ []) in
    let room : m + r.size ≤ 4096 = j.room in
    let le : m ≤ m' = omega arith in
    record {
      qregs = g.qregs;
      cregs = all_append IsRegister p.cregs (r ∷ []) g.cregs (j.register, tt);
      q_apart = g.q_apart;
      c_apart = apart_push (λ q s. q.name ≡ s.name → ⊥) p.cregs r g.c_apart j.c_new;
      cross = all_both (λ q. AllByRecursion (λ s. q.name ≡ s.name → ⊥) p.cregs) (λ q. q.name ≡ r.name → ⊥) (λ q. AllByRecursion (λ s. q.name ≡ s.name → ⊥) (p.cregs ++ r ∷ [])) p.qregs
          (λ q all other. all_append (λ s. q.name ≡ s.name → ⊥) p.cregs (r ∷ []) all (other, tt)) g.cross j.q_new;
      qubits = g.qubits;
      bits = omega arith;
      circuit = g.circuit;
      gates = g.gates;
      tail = all_map (IsEntry n m) (IsEntry n m') p.tail (entry_more n m n m' (omega arith) le) g.tail;
      entries = g.entries;
    }

gate_told : (word : GateWord) (qregs : List RegisterView) (old : List Gate) (ts : List TokenView) (x : List Gate × List TokenView) → AllByRecursion IsKept qregs → IsCircuit (places_of qregs) old
    → gate_at word qregs old ts ≡ Ok x → IsCircuit (places_of qregs) x.0 × (length x.0 ≤ 1048576)
unfolding gate_at
gate_told word qregs old ts x kept circuit h =
    let a = bind_ok (arguments_at qregs (more_arguments word) ts) _ x h in
    let e = bind_ok (demanded Semicolon a.0.1) _ x a.2 in
    let room = bind_ok (within_gates old (gates_of word a.0.0) e.0.0) _ x e.2 in
    let t = one_told _ tt room.0 _ room.1 in
    let few : length old + length (gates_of word a.0.0) ≤ 1048576 = ltb-false 1048576 (length old + length (gates_of word a.0.0)) t.0 in
    let all : length (old ++ gates_of word a.0.0) ≡ length old + length (gates_of word a.0.0) = length-append old (gates_of word a.0.0) in
    let fits : length (old ++ gates_of word a.0.0) ≤ 1048576 = omega arith in
    subst (λ (y : List Gate × List TokenView). IsCircuit (places_of qregs) y.0 × (length y.0 ≤ 1048576)) (ok_same _ _ room.2)
    (all_append (IsOnWires (places_of qregs)) old (gates_of word a.0.0) circuit (gates_on qregs word ts a.0 kept a.1), fits)

-- the wires of a barrier
any_some : (test : ℕ → Bool) (ws : List ℕ) → list_any test ws ≡ true → 1 ≤ length ws
any_some test [] h = absurd (false≢true h)
any_some test (w ∷ ws) h = omega arith

none_equal : (ws : List ℕ) (w : ℕ) → list_any (λ v. eqb v w) ws ≡ false → AllByRecursion (λ v. v ≡ w → ⊥) ws
none_equal [] w h = tt
none_equal (v ∷ ws) w h = let both = neither _ _ h in (eqb-false v w both.0, none_equal ws w both.1)

adjoined_good : (n : ℕ) (ws : List ℕ) (w : ℕ) → IsWireList n ws → w < n → IsWireList n (adjoined ws w) × (1 ≤ length (adjoined ws w))
adjoined_good n ws w h lt =
    elim (list_any (λ v. eqb v w) ws) as (λ b. list_any (λ v. eqb v w) ws ≡ b → IsWireList n (cond b ws (ws ++ w ∷ [])) × (1 ≤ length (cond b ws (ws ++ w ∷ [])))) [
      | true ↦ λ e. (h, any_some (λ v. eqb v w) ws e)
      | false ↦ λ e. (
        record { in_range = all_append (λ v. v < n) ws (w ∷ []) h.in_range (lt, tt); apart = apart_push (λ v u. v ≡ u → ⊥) ws w h.apart (none_equal ws w e) },
        let len : length (ws ++ w ∷ []) ≡ length ws + length (w ∷ []) = length-append ws (w ∷ []) in omega arith,
      )
    ] refl

adjoined_below_good : (n : ℕ) (ws : List ℕ) (first count : ℕ) → IsWireList n ws → first + count ≤ n → IsWireList n (adjoined_below ws first count) × (1 ≤ count → 1 ≤ length (adjoined_below ws first count))
adjoined_below_good n ws first zero h le = (h, λ s. absurd (omega arith))
adjoined_below_good n ws first (suc count) h le =
    let before = adjoined_below_good n ws first count h (omega arith) in
    let now = adjoined_good n (adjoined_below ws first count) (first + count) before.0 (omega arith) in
    (now.0, λ s. now.1)

either_ok : {A : Type 0} (b : Bool) (r s : Result A Refusal) (y : A) → cond b r s ≡ Ok y → (r ≡ Ok y) ⊎ (s ≡ Ok y)
either_ok true r s y h = inl h
either_ok false r s y h = inr h

wires_told : (regs : List RegisterView) (ws : List ℕ) (within : ℕ) (ts : List TokenView) (x : List ℕ × List TokenView) → AllByRecursion IsKept regs → IsWireList (places_of regs) ws
    → barrier_wires regs ws within ts ≡ Ok x → IsWireList (places_of regs) x.0 × (1 ≤ length x.0)
unfolding barrier_wires
wires_told regs ws within [] x kept h e = cc
wires_told regs ws (suc within) (t ∷ ts) x kept h e = wires_told regs ws within ts x kept h e
wires_told regs ws zero (t ∷ ts) x kept h e =
    let a = bind_ok (argument_at regs (t ∷ ts)) _ x e in
    let w : IsWhere (places_of regs) a.0.0 = argument_where regs (t ∷ ts) a.0 kept a.1 in
    let more : List ℕ = adjoined_below ws a.0.0.first a.0.0.count in
    let good = adjoined_below_good (places_of regs) ws a.0.0.first a.0.0.count h w.within in
    elim (either_ok (is_form Comma (head a.0.1)) (barrier_wires regs more (argument_tokens a.0.0) ts) (Ok (more, a.0.1)) x a.2) [
      | inl goes ↦ wires_told regs more (argument_tokens a.0.0) ts x kept good.0 goes
      | inr ends ↦ subst (λ (y : List ℕ × List TokenView). IsWireList (places_of regs) y.0 × (1 ≤ length y.0)) (ok_same (more, a.0.1) x ends) (good.0, good.1 w.some)
    ]

barrier_told : (qregs : List RegisterView) (m : ℕ) (tail : List TailView) (ts : List TokenView) (x : List TailView × List TokenView) → AllByRecursion IsKept qregs
    → AllByRecursion (IsEntry (places_of qregs) m) tail → barrier_at qregs tail ts ≡ Ok x → AllByRecursion (IsEntry (places_of qregs) m) x.0 × (entries_of x.0 ≤ 1048576)
unfolding barrier_at
barrier_told qregs m tail ts x kept old h =
    let w = bind_ok (barrier_wires qregs [] 0 ts) _ x h in
    let e = bind_ok (demanded Semicolon w.0.1) _ x w.2 in
    let room = bind_ok (within_tail tail (length w.0.0) e.0.0) _ x e.2 in
    let t = one_told _ tt room.0 _ room.1 in
    let item : TailView = Barrier w.0.0 in
    let few : entries_of tail + length w.0.0 ≤ 1048576 = ltb-false 1048576 (entries_of tail + length w.0.0) t.0 in
    let all : entries_of (tail ++ item ∷ []) ≡ entries_of tail + entries_of (item ∷ []) = entries_of-append tail (item ∷ []) in
    let fits : entries_of (tail ++ item ∷ []) ≤ 1048576 = omega arith in
    let good = wires_told qregs [] 0 ts w.0 kept (record { in_range = tt; apart = tt }) w.1 in
    subst (λ (y : List TailView × List TokenView). AllByRecursion (IsEntry (places_of qregs) m) y.0 × (entries_of y.0 ≤ 1048576)) (ok_same _ _ room.2)
    (all_append (IsEntry (places_of qregs) m) tail (item ∷ []) old ((good.0, good.1), tt), fits)

entries_each : (n : ℕ) (f : ℕ → List TailView) → ((k : ℕ) → entries_of (f k) ≡ 1) → entries_of (each_below n f) ≡ n
entries_each zero f h = refl
entries_each (suc n) f h =
    let so_far : entries_of (each_below n f) ≡ n = entries_each n f h in
    let one : entries_of (f n) ≡ 1 = h n in
    let all : entries_of (each_below n f ++ f n) ≡ entries_of (each_below n f) + entries_of (f n) = entries_of-append (each_below n f) (f n) in
    omega arith

measure_told : (qregs cregs : List RegisterView) (tail : List TailView) (ts : List TokenView) (x : List TailView × List TokenView) → AllByRecursion IsKept qregs → AllByRecursion IsKept cregs
    → AllByRecursion (IsEntry (places_of qregs) (places_of cregs)) tail → measure_at qregs cregs tail ts ≡ Ok x
    → AllByRecursion (IsEntry (places_of qregs) (places_of cregs)) x.0 × (entries_of x.0 ≤ 1048576)
unfolding measure_at
measure_told qregs cregs tail ts x qkept ckept old h =
    let a = bind_ok (argument_at qregs ts) _ x h in
    let arrow = bind_ok (demanded Arrow a.0.1) _ x a.2 in
    let b = bind_ok (argument_at cregs arrow.0.1) _ x arrow.2 in
    let pair = bind_ok (paired a.0.0 b.0.0) _ x b.2 in
    let e = bind_ok (demanded Semicolon b.0.1) _ x pair.2 in
    let room = bind_ok (within_tail tail a.0.0.count e.0.0) _ x e.2 in
    let t = one_told _ tt room.0 _ room.1 in
    let wa : IsWhere (places_of qregs) a.0.0 = argument_where qregs ts a.0 qkept a.1 in
    let wb : IsWhere (places_of cregs) b.0.0 = argument_where cregs arrow.0.1 b.0 ckept b.1 in
    let same : a.0.0.count ≡ b.0.0.count = eqb-true a.0.0.count b.0.0.count (equal_told (eqb a.0.0.count b.0.0.count) _ pair.0 pair.1) in
    let new : List TailView = measurements a.0.0 b.0.0 in
    let n : entries_of new ≡ a.0.0.count = entries_each a.0.0.count (λ k. Measure (a.0.0.first + k) (b.0.0.first + k) ∷ []) (λ k. refl) in
    let few : entries_of tail + a.0.0.count ≤ 1048576 = ltb-false 1048576 (entries_of tail + a.0.0.count) t.0 in
    let all : entries_of (tail ++ new) ≡ entries_of tail + entries_of new = entries_of-append tail new in
    let fits : entries_of (tail ++ new) ≤ 1048576 = omega arith in
    let qin : a.0.0.first + a.0.0.count ≤ places_of qregs = wa.within in
    let cin : b.0.0.first + b.0.0.count ≤ places_of cregs = wb.within in
    subst (λ (y : List TailView × List TokenView). AllByRecursion (IsEntry (places_of qregs) (places_of cregs)) y.0 × (entries_of y.0 ≤ 1048576)) (ok_same _ _ room.2) (
      all_append (IsEntry (places_of qregs) (places_of cregs)) tail new old
          (all_below (IsEntry (places_of qregs) (places_of cregs)) a.0.0.count (λ k. Measure (a.0.0.first + k) (b.0.0.first + k) ∷ [])
          (λ k lt. (record { wire_in_range = omega arith; bit_in_range = omega arith }, tt))),
      fits,
    )
  where
    equal_told : (b : Bool) (d : Refusal) (u : Unit {0}) → (let r : Result (Unit {0}) Refusal = cond b (Ok tt) (Err d) in r) ≡ Ok u → b ≡ true
    equal_told true d u h = refl
    equal_told false d u h = cc

tail_good : (E : Env) (tail : List TailView) → IsGood E.program → AllByRecursion (IsEntry (places_of E.program.qregs) (places_of E.program.cregs)) tail → entries_of tail ≤ 1048576 → IsGood (with_tail E tail).program
tail_good E tail g all few = record {
  qregs = g.qregs;
  cregs = g.cregs;
  q_apart = g.q_apart;
  c_apart = g.c_apart;
  cross = g.cross;
  qubits = g.qubits;
  bits = g.bits;
  circuit = g.circuit;
  gates = g.gates;
  tail = all;
  entries = few;
}

gates_good : (E : Env) (new : List Gate) → IsGood E.program → IsCircuit (places_of E.program.qregs) new → length new ≤ 1048576 → IsGood (with_gates E new).program
gates_good E new g circuit few = record {
  qregs = g.qregs;
  cregs = g.cregs;
  q_apart = g.q_apart;
  c_apart = g.c_apart;
  cross = g.cross;
  qubits = g.qubits;
  bits = g.bits;
  circuit = circuit;
  gates = few;
  tail = tt;
  entries = omega arith;
}

statement_good : (first : FirstWord) (options : Options) (E : Env) (t : TokenView) (ts : List TokenView) (y : Env × List TokenView) → IsGood E.program → statement_by first options E t ts ≡ Ok y → IsGood y.0.program
statement_good words.Include options E t ts y g h =
    let b = bind_ok (include_at ts) _ y h in subst (λ (z : Env × List TokenView). IsGood z.0.program) (ok_same _ _ b.2) g
statement_good words.Qreg options E t ts y g h =
    let b = bind_ok (declared_at TooManyQubits E.program.qregs E.program.cregs E.program.qregs ts) _ y h in
    subst (λ (z : Env × List TokenView). IsGood z.0.program) (ok_same _ _ b.2) (qreg_good E b.0.0 g (declared_told TooManyQubits E.program.qregs E.program.cregs E.program.qregs ts b.0 b.1))
statement_good words.Creg options E t ts y g h =
    let b = bind_ok (declared_at TooManyBits E.program.qregs E.program.cregs E.program.cregs ts) _ y h in
    subst (λ (z : Env × List TokenView). IsGood z.0.program) (ok_same _ _ b.2) (creg_good E b.0.0 g (declared_told TooManyBits E.program.qregs E.program.cregs E.program.cregs ts b.0 b.1))
statement_good words.Barrier options E t ts y g h =
    let b = bind_ok (barrier_at E.program.qregs E.program.tail ts) _ y h in
    let told = barrier_told E.program.qregs (places_of E.program.cregs) E.program.tail ts b.0 (all_map IsRegister IsKept E.program.qregs kept_of g.qregs) g.tail b.1 in
    subst (λ (z : Env × List TokenView). IsGood z.0.program) (ok_same _ _ b.2) (tail_good E b.0.0 g told.0 told.1)
statement_good words.Measure options E t ts y g h =
    let b = bind_ok (measure_at E.program.qregs E.program.cregs E.program.tail ts) _ y h in
    let told = measure_told E.program.qregs E.program.cregs E.program.tail ts b.0 (all_map IsRegister IsKept E.program.qregs kept_of g.qregs) (all_map IsRegister IsKept E.program.cregs kept_of g.cregs) g.tail b.1 in
    subst (λ (z : Env × List TokenView). IsGood z.0.program) (ok_same _ _ b.2) (tail_good E b.0.0 g told.0 told.1)
statement_good (words.Gate word) options E t ts y g h =
    let free = bind_ok (allowed options E.program.tail t) _ y h in
    let b = bind_ok (gate_at word E.program.qregs E.program.gates ts) _ y free.2 in
    let told = gate_told word E.program.qregs E.program.gates ts b.0 (all_map IsRegister IsKept E.program.qregs kept_of g.qregs) g.circuit b.1 in
    subst (λ (z : Env × List TokenView). IsGood z.0.program) (ok_same _ _ b.2) (gates_good E b.0.0 g told.0 told.1)
statement_good words.Unsupported options E t ts y g h = cc
statement_good words.Unknown options E t ts y g h = cc

piece_good : (options : Options) (E : Env) (ts : List TokenView) (y : Env × List TokenView) → IsGood E.program → piece_at options E ts ≡ Ok y → IsGood y.0.program
unfolding piece_at statement_at
piece_good options E ts y g h =
    elim (either_ok E.header (statement_at options E ts) (put (header_at ts) (λ _. record { header = true; included = E.included; program = E.program })) y h) [
      | inl s ↦ let w = bind_ok (demanded Word ts) _ y s in statement_good (first_word E.included w.0.0.bytes) options E w.0.0 w.0.1 y g w.2
      | inr s ↦ let b = bind_ok (header_at ts) _ y s in subst (λ (z : Env × List TokenView). IsGood z.0.program) (ok_same _ _ b.2) g
    ]

after_good : (options : Options) (E F : Env) (ts : List TokenView) → IsGood E.program → after options E ts ≡ Ok F → IsGood F.program
after_good options E F ts g h =
    let b = bind_ok (piece_at options E ts) _ F h in subst (λ (z : Env). IsGood z.program) (ok_same _ _ b.2) (piece_good options E ts b.0 g b.1)

pieces_good : (options : Options) (E : Env) (pieces : List (List TokenView)) (rest : List TokenView) (p : ProgramView) → IsGood E.program → read_pieces options E pieces rest ≡ Ok p → IsGood p
unfolding read_pieces
pieces_good options E [] rest p g h =
    elim (either_ok (is_done E rest) (Ok E.program) (after options E rest >>= λ F. Ok F.program) p h) [
      | inl s ↦ subst IsGood (ok_same E.program p s) g
      | inr s ↦ let b = bind_ok (after options E rest) _ p s in subst IsGood (ok_same _ _ b.2) (after_good options E b.0 rest g b.1)
    ]
pieces_good options E (piece ∷ pieces) rest p g h =
    let b = bind_ok (after options E piece) _ p h in pieces_good options b.0 pieces rest p (after_good options E b.0 piece g b.1) b.2

-- the program that a text stands for is well formed
pub reads_well_formed : (text : List ℕ) (options : Options) (p : ProgramView) → Reads text options p → WellFormed p
unfolding read_of read_tokens
reads_well_formed text options p h = good_formed p (pieces_good options start (cut Front (tokens_of text)).pieces (cut Front (tokens_of text)).rest p good_start h)
