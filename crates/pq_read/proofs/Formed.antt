-- What is read is well formed.
use Rattle.std.proofs.Common.{◌≡◌, ℕ, zero, suc, ◌+◌, ◌<◌, ◌≤◌, Bool, true, false, not, cond, List, [], ◌∷◌, ◌++◌, length, All, AllPairs, Some, Result, Ok, Err, bytes_eq, refl, sym, ◌∙◌, subst, arith}
use Rattle.std.specs.List.{AllByRecursion}
use Rattle.std.specs.Option.{is_some}
use Rattle.std.proofs.lemmas.Bool.{false≢true}
use Rattle.std.proofs.lemmas.Slice.Eq.{bytes_eq-Decides}
use borrow.Author.Tests.{eqb-false, ltb-false}
use Rattle.pq_lex.specs.declared.token.Form.TheVariants.{Word, Semicolon, LeftBracket, RightBracket}
use Rattle.pq_lex.specs.Token.{TokenView}
use Rattle.pq_gate.specs.declared.gate.Gate.{Gate}
use Rattle.pq_gate.specs.Circuit.{AreOn, IsOnWires, IsCircuit}
use Rattle.pq_gate.specs.Ports.{wires_of}
use Rattle.pq_text.specs.Program.{RegisterView, TailView, Barrier, Measure, ProgramView, places_of, entries_of}
use Rattle.pq_text.specs.WellFormed.{IsRegister, IsMeasurement, IsTailEntry, WellFormed}
use Rattle.pq_read.specs.declared.refusal.Kind.{Kind}
use Rattle.pq_read.specs.declared.refusal.Refusal.{Refusal}
use Rattle.pq_read.specs.declared.argument.Span.{Span}
use Rattle.pq_read.specs.Faults.{demanded, integer_at, value_of}
use Rattle.pq_read.specs.Words.{is_name}
use Rattle.pq_read.specs.Environment.{start, span_from}
use Rattle.pq_read.specs.Registers.{IsKept}
use Rattle.pq_read.specs.After.{new_name, new_size, declared_at}
use Rattle.pq_read.proofs.Barriers.{bind_ok, ok_same}
use Rattle.pq_read.proofs.Names.{name_is_lawful, lawful_is_name}
use Rattle.pq_read.proofs.Circuits.{all_append, neither}

-- each item and each later one
abbrev pub Apart : {A : Type 0} → (A → A → Type 0) → List A → Type 0
Apart R [] = Unit {0}
Apart R (x ∷ xs) = AllByRecursion (R x) xs × Apart R xs

all_at : {A : Type 0} (P : A → Type 0) (xs : List A) → AllByRecursion P xs → All P xs
all_at P [] h k d lt = absurd (omega arith)
all_at P (x ∷ xs) h zero d lt = h.0
all_at P (x ∷ xs) h (suc k) d lt = all_at P xs h.1 k d (omega arith)

pairs_at : {A : Type 0} (R : A → A → Type 0) (xs : List A) → Apart R xs → AllPairs R xs
pairs_at R [] h i j d lt len = absurd (omega arith)
pairs_at R (x ∷ xs) h zero zero d lt len = absurd (omega arith)
pairs_at R (x ∷ xs) h zero (suc j) d lt len = all_at (R x) xs h.0 j d (omega arith)
pairs_at R (x ∷ xs) h (suc i) zero d lt len = absurd (omega arith)
pairs_at R (x ∷ xs) h (suc i) (suc j) d lt len = pairs_at R xs h.1 i j d (omega arith) (omega arith)

pub all_map : {A : Type 0} (P Q : A → Type 0) (xs : List A) → ((x : A) → P x → Q x) → AllByRecursion P xs → AllByRecursion Q xs
all_map P Q [] f h = tt
all_map P Q (x ∷ xs) f h = (f x h.0, all_map P Q xs f h.1)

pub apart_push : {A : Type 0} (R : A → A → Type 0) (xs : List A) (y : A) → Apart R xs → AllByRecursion (λ x. R x y) xs → Apart R (xs ++ y ∷ [])
apart_push R [] y h a = (tt, tt)
apart_push R (x ∷ xs) y h a = (all_append (R x) xs (y ∷ []) h.0 (a.0, tt), apart_push R xs y h.1 a.1)

apart_join : {A : Type 0} (R : A → A → Type 0) (xs ys : List A) → Apart R xs → Apart R ys → AllByRecursion (λ x. AllByRecursion (R x) ys) xs → Apart R (xs ++ ys)
apart_join R [] ys a b c = b
apart_join R (x ∷ xs) ys a b c = (all_append (R x) xs ys a.0 c.0, apart_join R xs ys a.1 b c.1)

OtherName : RegisterView → RegisterView → Type 0
OtherName q r = q.name ≡ r.name → ⊥

OtherWire : ℕ → ℕ → Type 0
OtherWire v w = v ≡ w → ⊥

-- wires of a barrier
pub record IsWireList (n : ℕ) (wires : List ℕ) : Type 0 where
  pub in_range : AllByRecursion (λ w. w < n) wires
  pub apart : Apart (λ v w. v ≡ w → ⊥) wires

abbrev pub IsEntry : ℕ → ℕ → TailView → Type 0
IsEntry n m (Barrier wires) = IsWireList n wires × (1 ≤ length wires)
IsEntry n m (Measure wire bit) = IsMeasurement n m wire bit

pub record IsGood (p : ProgramView) : Type 0 where
  pub qregs : AllByRecursion IsRegister p.qregs
  pub cregs : AllByRecursion IsRegister p.cregs
  pub q_apart : Apart (λ q r. q.name ≡ r.name → ⊥) p.qregs
  pub c_apart : Apart (λ q r. q.name ≡ r.name → ⊥) p.cregs
  pub cross : AllByRecursion (λ q. AllByRecursion (λ r. q.name ≡ r.name → ⊥) p.cregs) p.qregs
  pub qubits : places_of p.qregs ≤ 4096
  pub bits : places_of p.cregs ≤ 4096
  pub circuit : IsCircuit (places_of p.qregs) p.gates
  pub gates : length p.gates ≤ 1048576
  pub tail : AllByRecursion (IsEntry (places_of p.qregs) (places_of p.cregs)) p.tail
  pub entries : entries_of p.tail ≤ 1048576

entry_formed : (n m : ℕ) (t : TailView) → IsEntry n m t → IsTailEntry n m t
entry_formed n m (Barrier wires) h = record { some = h.1; in_range = all_at (λ w. w < n) wires h.0.in_range; distinct = pairs_at (λ v w. v ≡ w → ⊥) wires h.0.apart }
entry_formed n m (Measure wire bit) h = h

pub good_formed : (p : ProgramView) → IsGood p → WellFormed p
good_formed p g = record {
  registers = all_at IsRegister (p.qregs ++ p.cregs) (all_append IsRegister p.qregs p.cregs g.qregs g.cregs);
  names = pairs_at (λ q r. q.name ≡ r.name → ⊥) (p.qregs ++ p.cregs) (apart_join (λ q r. q.name ≡ r.name → ⊥) p.qregs p.cregs g.q_apart g.c_apart g.cross);
  qubits = g.qubits;
  bits = g.bits;
  circuit = g.circuit;
  gates = g.gates;
  tail = all_at (IsTailEntry (places_of p.qregs) (places_of p.cregs)) p.tail (all_map (IsEntry (places_of p.qregs) (places_of p.cregs)) (IsTailEntry (places_of p.qregs) (places_of p.cregs)) p.tail (entry_formed (places_of p.qregs) (places_of p.cregs)) g.tail);
  entries = g.entries;
}

pub good_start : IsGood start.program
good_start = record { qregs = tt; cregs = tt; q_apart = tt; c_apart = tt; cross = tt; qubits = omega arith; bits = omega arith; circuit = tt; gates = omega arith; tail = tt; entries = omega arith }

pub kept_of : (r : RegisterView) → IsRegister r → IsKept r
kept_of r h = record { named = lawful_is_name r.name h.named.lawful; some = h.some }

wires_more : (n m : ℕ) → n ≤ m → (wires : List ℕ) → AreOn n wires → AreOn m wires
wires_more n m le [] h = tt
wires_more n m le (wire ∷ []) h = omega arith
wires_more n m le (first ∷ second ∷ rest) h = (let a : first < n = h.0 in omega arith, let b : second < n = h.1 in omega arith, h.2)

-- more registers: what was on the wires and the bits still is
pub on_more : (n m : ℕ) → n ≤ m → (g : Gate) → IsOnWires n g → IsOnWires m g
on_more n m le g h = wires_more n m le (wires_of g) h

pub entry_more : (n m n' m' : ℕ) → n ≤ n' → m ≤ m' → (t : TailView) → IsEntry n m t → IsEntry n' m' t
entry_more n m n' m' ln lm (Barrier wires) h = (record { in_range = all_map (λ w. w < n) (λ w. w < n') wires (λ w l. omega arith) h.0.in_range; apart = h.0.apart }, h.1)
entry_more n m n' m' ln lm (Measure wire bit) h =
    record { wire_in_range = (let a : wire < n = h.wire_in_range in omega arith); bit_in_range = (let a : bit < m = h.bit_in_range in omega arith) }

-- a new register
pub record IsJoining (qregs cregs regs : List RegisterView) (r : RegisterView) : Type 0 where
  pub register : IsRegister r
  pub q_new : AllByRecursion (λ q. q.name ≡ r.name → ⊥) qregs
  pub c_new : AllByRecursion (λ q. q.name ≡ r.name → ⊥) cregs
  pub room : places_of regs + r.size ≤ 4096

not_found : (regs : List RegisterView) (first : ℕ) (name : List ℕ) → is_some (span_from first regs name) ≡ false → AllByRecursion (λ q. q.name ≡ name → ⊥) regs
not_found [] first name h = tt
not_found (r ∷ rs) first name h =
    elim (bytes_eq r.name name) as (λ b. bytes_eq r.name name ≡ b → is_some (cond b (Some (let s : Span = record { first = first; size = r.size } in s)) (span_from (first + r.size) rs name)) ≡ false → AllByRecursion (λ q. q.name ≡ name → ⊥) (r ∷ rs)) [
      | true ↦ λ is e. absurd (false≢true (sym e))
      | false ↦ λ is e. (λ same. false≢true (sym is ∙ (bytes_eq-Decides r.name name).1 same), not_found rs (first + r.size) name e)
    ] refl h

three_told : {A : Type 0} (a b c : Bool) (x y : A) (d e f : Refusal) → (let r : Result A Refusal = cond a (Err d) (cond b (Err e) (cond c (Err f) (Ok x))) in r) ≡ Ok y → (a ≡ false) × (b ≡ false) × (c ≡ false) × (x ≡ y)
three_told true b c x y d e f h = cc
three_told false true c x y d e f h = cc
three_told false false true x y d e f h = cc
three_told false false false x y d e f h = (refl, refl, refl, ok_same x y h)

two_told : {A : Type 0} (a b : Bool) (x y : A) (d e : Refusal) → (let r : Result A Refusal = cond a (Err d) (cond b (Err e) (Ok x)) in r) ≡ Ok y → (a ≡ false) × (b ≡ false) × (x ≡ y)
two_told true b x y d e h = cc
two_told false true x y d e h = cc
two_told false false x y d e h = (refl, refl, ok_same x y h)

pub one_told : {A : Type 0} (a : Bool) (x y : A) (d : Refusal) → (let r : Result A Refusal = cond a (Err d) (Ok x) in r) ≡ Ok y → (a ≡ false) × (x ≡ y)
one_told true x y d h = cc
one_told false x y d h = (refl, ok_same x y h)

not_false : (x : Bool) → not x ≡ false → x ≡ true
not_false true h = refl
not_false false h = absurd (false≢true (sym h))

pub declared_told : (too_many : Kind) (qregs cregs regs : List RegisterView) (ts : List TokenView) (x : RegisterView × List TokenView) → declared_at too_many qregs cregs regs ts ≡ Ok x → IsJoining qregs cregs regs x.0
unfolding declared_at
declared_told too_many qregs cregs regs ts x h =
    let n = bind_ok (demanded Word ts) _ x h in
    let name = bind_ok (new_name qregs cregs n.0.0) _ x n.2 in
    let b = bind_ok (demanded LeftBracket n.0.1) _ x name.2 in
    let i = bind_ok (integer_at b.0.1) _ x b.2 in
    let size = bind_ok (new_size too_many regs i.0.0) _ x i.2 in
    let c = bind_ok (demanded RightBracket i.0.1) _ x size.2 in
    let e = bind_ok (demanded Semicolon c.0.1) _ x c.2 in
    let r : RegisterView = record { name = name.0; size = size.0 } in
    let same : (r, e.0.1) ≡ x = ok_same _ _ e.2 in
    let t = three_told _ _ _ n.0.0.bytes name.0 _ _ _ name.1 in
    let s = two_told _ _ (value_of i.0.0) size.0 _ _ size.1 in
    let new = neither _ _ t.2 in
    let named : is_name n.0.0.bytes ≡ true = not_false _ t.0 in
    let short : length n.0.0.bytes ≤ 64 = ltb-false 64 (length n.0.0.bytes) t.1 in
    let room : places_of regs + value_of i.0.0 ≤ 4096 = ltb-false 4096 (places_of regs + value_of i.0.0) s.1 in
    let ne : value_of i.0.0 ≡ 0 → ⊥ = eqb-false (value_of i.0.0) 0 s.0 in
    let some : 1 ≤ value_of i.0.0 = omega arith in
    let made : RegisterView = record { name = n.0.0.bytes; size = value_of i.0.0 } in
    let joins : IsJoining qregs cregs regs made = record {
      register = record { named = record { lawful = name_is_lawful n.0.0.bytes named; short = short }; some = some };
      q_new = not_found qregs 0 n.0.0.bytes new.0;
      c_new = not_found cregs 0 n.0.0.bytes new.1;
      room = room;
    } in
    let path : made ≡ x.0 = (λ k. let q : RegisterView = record { name = t.3 k; size = s.2 k } in q) ∙ (λ k. (same k).0) in
    subst (IsJoining qregs cregs regs) path joins
