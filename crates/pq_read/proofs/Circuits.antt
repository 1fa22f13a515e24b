-- The gates of a statement are a circuit on the wires of the registers.
use Rattle.std.proofs.Common.{◌≡◌, ℕ, zero, suc, ◌+◌, ◌<◌, ◌≤◌, Bool, true, false, not, ◌&&◌, ◌||◌, eqb, cond, nat_lt, List, [], ◌∷◌, ◌++◌, Option, Some, None, Result, Ok, Err, if◌then◌else◌, refl, sym, ap, ◌∙◌, subst, arith, inl, inr}
use Rattle.std.specs.List.{AllByRecursion, list_any}
use Rattle.std.proofs.lemmas.Bool.{false≢true, cases_lt}
use borrow.Author.Tests.{eqb-true, eqb-false, ltb-true}
use Rattle.pq_lex.specs.declared.token.Form.TheVariants.{Word, Comma, LeftBracket, RightBracket}
use Rattle.pq_lex.specs.Token.{TokenView}
use Rattle.pq_gate.specs.Circuit.{IsOnWires, IsCircuit}
use Rattle.pq_text.specs.Program.{RegisterView, places_of}
use Rattle.pq_read.specs.declared.refusal.Kind.TheVariants.{Syntax, IndexOutOfRange}
use Rattle.pq_read.specs.declared.refusal.Refusal.{Refusal}
use Rattle.pq_read.specs.declared.argument.Span.{Span}
use Rattle.pq_read.specs.declared.argument.Argument.{Argument}
use Rattle.pq_read.specs.declared.word.GateWord.{GateWord}
use Rattle.pq_read.specs.declared.word.GateWord.TheVariants.{H, X, Y, Id, Phase, Cx, Cz, Cy, Swap, Ccx}
use Rattle.pq_read.specs.Lists.{each_below, any_below}
use Rattle.pq_read.specs.Faults.{◌>>=◌, refused, is_form, head, demanded, integer_at, value_of}
use Rattle.pq_read.specs.Words.{is_name, more_arguments}
use Rattle.pq_read.specs.Environment.{span_from}
use Rattle.pq_read.specs.Registers.{IsKept}
use Rattle.pq_read.specs.Arguments.{known, register_of, whole, single, indexed_at, argument_at, place_at, differ, instances_of, meet, fits, arguments_after, arguments_at}
use Rattle.pq_read.specs.Expansion.{expansion, instances, nth_place, instance, gates_of}
use Rattle.pq_read.proofs.Barriers.{bind_ok, ok_same}
use Rattle.pq_read.proofs.Finds.{IsFound, is_found}

pub all_append : {A : Type 0} (P : A → Type 0) (xs ys : List A) → AllByRecursion P xs → AllByRecursion P ys → AllByRecursion P (xs ++ ys)
all_append P [] ys h k = k
all_append P (x ∷ xs) ys h k = (h.0, all_append P xs ys h.1 k)

pub all_below : {A : Type 0} (P : A → Type 0) (n : ℕ) (f : ℕ → List A) → ((k : ℕ) → k < n → AllByRecursion P (f k)) → AllByRecursion P (each_below n f)
all_below P zero f h = tt
all_below P (suc n) f h = all_append P (each_below n f) (f n) (all_below P n f (λ k lt. h k (omega arith))) (h n (omega arith))

-- the wires of an instance are in range and apart, as many as the gate has
pub record Wires (n a b c more : ℕ) : Type 0 where
  pub a_in : a < n
  pub b_in : 1 ≤ more → b < n
  pub c_in : 2 ≤ more → c < n
  pub ab : 1 ≤ more → a ≡ b → ⊥
  pub ac : 2 ≤ more → a ≡ c → ⊥
  pub bc : 2 ≤ more → b ≡ c → ⊥

expansion_on : (word : GateWord) (n a b c : ℕ) → Wires n a b c (more_arguments word) → IsCircuit n (expansion word a b c)
expansion_on H n a b c w = (w.a_in, tt)
expansion_on X n a b c w = (w.a_in, tt)
expansion_on Y n a b c w = (w.a_in, (w.a_in, (w.a_in, tt)))
expansion_on Id n a b c w = tt
expansion_on (Phase e) n a b c w = (w.a_in, tt)
expansion_on Cx n a b c w = ((w.a_in, w.b_in (omega arith), w.ab (omega arith)), tt)
expansion_on Cz n a b c w = (w.b_in (omega arith), ((w.a_in, w.b_in (omega arith), w.ab (omega arith)), (w.b_in (omega arith), tt)))
expansion_on Cy n a b c w = (w.b_in (omega arith), ((w.a_in, w.b_in (omega arith), w.ab (omega arith)), (w.b_in (omega arith), tt)))
expansion_on Swap n a b c w =
    ((w.a_in, w.b_in (omega arith), w.ab (omega arith)), ((w.b_in (omega arith), w.a_in, λ e. w.ab (omega arith) (sym e)), ((w.a_in, w.b_in (omega arith), w.ab (omega arith)), tt)))
expansion_on Ccx n a b c w =
    let one : 1 ≤ 2 = omega arith in
    let two : 2 ≤ 2 = omega arith in
    let hb = w.b_in one in
    let hc = w.c_in two in
    let cxab : (a < n) × (b < n) × (a ≡ b → ⊥) = (w.a_in, hb, w.ab one) in
    let cxac : (a < n) × (c < n) × (a ≡ c → ⊥) = (w.a_in, hc, w.ac two) in
    let cxbc : (b < n) × (c < n) × (b ≡ c → ⊥) = (hb, hc, w.bc two) in
    (hc, (cxbc, (hc, (cxac, (hc, (cxbc, (hc, (cxac, (hb, (hc, (hc, (cxab, (w.a_in, (hb, (cxab, tt)))))))))))))))

-- an argument lies within the places of its registers
pub record IsWhere (n : ℕ) (a : Argument) : Type 0 where
  pub within : a.first + a.count ≤ n
  pub some : 1 ≤ a.count
  pub one : a.whole ≡ false → a.count ≡ 1

pub chosen : {A : Type 0} (b : Bool) (x y : A) (e : Refusal) → (let r : Result A Refusal = cond b (Ok x) (Err e) in r) ≡ Ok y → (b ≡ true) × (x ≡ y)
chosen true x y e h = (refl, ok_same x y h)
chosen false x y e h = cc

named_span : (regs : List RegisterView) (t : TokenView) (span : Span) → register_of regs t ≡ Ok span → span_from 0 regs t.bytes ≡ Some span
named_span regs t span h = named (is_name t.bytes) (span_from 0 regs t.bytes) h where
  named : (b : Bool) (o : Option Span) → (let r : Result Span Refusal = cond b (known t o) (Err (refused Syntax t)) in r) ≡ Ok span → o ≡ Some span
  named true (Some s) h = ap Some (ok_same s span h)
  named true None h = cc
  named false o h = cc

place_in : (n : ℕ) (a : Argument) (k : ℕ) → IsWhere n a → (a.whole ≡ true → k < a.count) → place_at a k < n
place_in n a k w lt =
    elim a.whole as (λ b. a.whole ≡ b → cond b (a.first + k) a.first < n) [
      | true ↦ λ e. let l : k < a.count = lt e in let h : a.first + a.count ≤ n = w.within in omega arith
      | false ↦ λ e. let h : a.first + a.count ≤ n = w.within in let s : 1 ≤ a.count = w.some in omega arith
    ] refl

indexed_where : (span : Span) (t : TokenView) (ts : List TokenView) (x : Argument × List TokenView) (n : ℕ) → indexed_at span t ts ≡ Ok x → span.first + span.size ≤ n → IsWhere n x.0
unfolding indexed_at
indexed_where span t ts x n h room =
    let s = bind_ok (integer_at ts) _ x h in
    let u = bind_ok (let r : Result ℕ Refusal = if nat_lt (value_of s.0.0) span.size then Ok (value_of s.0.0) else Err (refused IndexOutOfRange s.0.0) in r) _ x s.2 in
    let v = bind_ok (demanded RightBracket s.0.1) _ x u.2 in
    let same : (single span t u.0, v.0.1) ≡ x = ok_same _ _ v.2 in
    let c = chosen (nat_lt (value_of s.0.0) span.size) (value_of s.0.0) u.0 (refused IndexOutOfRange s.0.0) u.1 in
    let lt : value_of s.0.0 < span.size = ltb-true (value_of s.0.0) span.size c.0 in
    let index : value_of s.0.0 ≡ u.0 = c.1 in
    subst (λ (y : Argument × List TokenView). IsWhere n y.0) same (record { within = omega arith; some = omega arith; one = λ _. refl })

argument_ends_where : (b : Bool) (span : Span) (t : TokenView) (ts : List TokenView) (x : Argument × List TokenView) (n : ℕ)
    → (let r : Result (Argument × List TokenView) Refusal = cond b (demanded LeftBracket ts >>= λ b. indexed_at span t b.1) (Ok (whole span t, ts)) in r) ≡ Ok x
    → span.first + span.size ≤ n → 1 ≤ span.size → IsWhere n x.0
argument_ends_where true span t ts x n h room some =
    let s = bind_ok (demanded LeftBracket ts) (λ b. indexed_at span t b.1) x h in indexed_where span t s.0.1 x n s.2 room
argument_ends_where false span t ts x n h room some =
    subst (λ (y : Argument × List TokenView). IsWhere n y.0) (ok_same (whole span t, ts) x h) (record { within = room; some = some; one = λ e. absurd (false≢true (sym e)) })

pub argument_where : (regs : List RegisterView) (ts : List TokenView) (x : Argument × List TokenView) → AllByRecursion IsKept regs → argument_at regs ts ≡ Ok x → IsWhere (places_of regs) x.0
unfolding argument_at
argument_where regs ts x kept h =
    let s = bind_ok (demanded Word ts) _ x h in
    let u = bind_ok (register_of regs s.0.0) _ x s.2 in
    let f : IsFound u.0 0 regs s.0.0.bytes = is_found regs 0 s.0.0.bytes u.0 kept (named_span regs s.0.0 u.0 u.1) in
    let w : u.0.first + u.0.size ≤ 0 + places_of regs = f.within in
    argument_ends_where (is_form LeftBracket (head s.0.1)) u.0 s.0.0 s.0.1 x (places_of regs) u.2 (omega arith) f.some

-- two arguments that fit together are apart in each instance
any_none : (n : ℕ) (test : ℕ → Bool) → any_below n test ≡ false → (k : ℕ) → k < n → test k ≡ false
any_none zero test h k lt = absurd (omega arith)
any_none (suc n) test h k lt =
    let both = neither (any_below n test) (test n) h in
    elim (cases_lt k n) [
      | inl less ↦ any_none n test both.0 k less
      | inr le ↦ let same : n ≡ k = omega arith in subst (λ j. test j ≡ false) same both.1
    ]
  where
    neither : (a b : Bool) → (a || b) ≡ false → (a ≡ false) × (b ≡ false)
    neither true b h = absurd (false≢true (sym h))
    neither false b h = (refl, h)

pub record AreApart (a b : Argument) : Type 0 where
  pub sizes : differ a b ≡ false
  pub places : meet a b ≡ false

apart_at : (n m : ℕ) (a b : Argument) (k i : ℕ) → IsWhere m a → IsWhere m b → AreApart a b → (a.whole ≡ true → n ≡ a.count) → (b.whole ≡ true → n ≡ b.count) → k < n
    → place_at a k ≡ place_at b k → ⊥
apart_at n m a b k i wa wb apart na nb lt =
    elim a.whole as (λ p. a.whole ≡ p → place_at a k ≡ place_at b k → ⊥) [
      | true ↦ λ p. let same : n ≡ a.count = na p in at_some k (let e : instances_of a b ≡ a.count = ap (λ t. cond t a.count b.count) p in omega arith)
      | false ↦ λ p. elim b.whole as (λ q. b.whole ≡ q → place_at a k ≡ place_at b k → ⊥) [
        | true ↦ λ q. let same : n ≡ b.count = nb q in at_some k (let e : instances_of a b ≡ b.count = ap (λ t. cond t a.count b.count) p in omega arith)
        | false ↦ λ q meets.
            let e : instances_of a b ≡ b.count = ap (λ t. cond t a.count b.count) p in
            let one : b.count ≡ 1 = wb.one q in
            let fixed : (c : Argument) → c.whole ≡ false → place_at c 0 ≡ place_at c k = λ c z. ap (λ t. cond t (c.first + 0) c.first) z ∙ sym (ap (λ t. cond t (c.first + k) c.first) z) in
            at_some 0 (omega arith) (fixed a p ∙ (meets ∙ sym (fixed b q)))
      ] refl
    ] refl
  where
    at_some : (j : ℕ) → j < instances_of a b → place_at a j ≡ place_at b j → ⊥
    at_some j lt e = eqb-false (place_at a j) (place_at b j) (any_none (instances_of a b) (λ k. eqb (place_at a k) (place_at b k)) apart.places j lt) e

pub neither : (a b : Bool) → (a || b) ≡ false → (a ≡ false) × (b ≡ false)
neither true b h = absurd (false≢true (sym h))
neither false b h = (refl, h)

fits_told : (earlier : List Argument) (a : Argument) (u : Unit {0}) → fits earlier a ≡ Ok u → (list_any (differ a) earlier ≡ false) × (list_any (meet a) earlier ≡ false)
fits_told earlier a u h = told (list_any (differ a) earlier) (list_any (meet a) earlier) _ _ u h where
  told : (d m : Bool) (e f : Refusal) (u : Unit {0}) → (let r : Result (Unit {0}) Refusal = cond d (Err e) (cond m (Err f) (Ok tt)) in r) ≡ Ok u → (d ≡ false) × (m ≡ false)
  told true m e f u h = cc
  told false true e f u h = cc
  told false false e f u h = (refl, refl)

apart_one : (a b : Argument) (u : Unit {0}) → fits (a ∷ []) b ≡ Ok u → AreApart b a
apart_one a b u h = let t = fits_told (a ∷ []) b u h in record { sizes = (neither _ _ t.0).0; places = (neither _ _ t.1).0 }

apart_two : (a b c : Argument) (u : Unit {0}) → fits (a ∷ b ∷ []) c ≡ Ok u → AreApart c a × AreApart c b
apart_two a b c u h =
    let t = fits_told (a ∷ b ∷ []) c u h in
    let d = neither _ _ t.0 in
    let m = neither _ _ t.1 in
    (record { sizes = d.0; places = m.0 }, record { sizes = (neither _ _ d.1).0; places = (neither _ _ m.1).0 })

not_false : (x : Bool) → not x ≡ false → x ≡ true
not_false true h = refl
not_false false h = absurd (false≢true (sym h))

same_count : (b a : Argument) → AreApart b a → b.whole ≡ true → a.whole ≡ true → a.count ≡ b.count
same_count b a apart p q =
    let e : not (eqb b.count a.count) ≡ false = (λ i. (sym p i && sym q i) && not (eqb b.count a.count)) ∙ apart.sizes in
    sym (eqb-true b.count a.count (not_false _ e))

shared_first : (a : Argument) (rest : List Argument) → a.whole ≡ true → instances (a ∷ rest) ≡ a.count
shared_first a rest p = ap (λ t. cond t a.count (instances rest)) p

shared_later : (a : Argument) (rest : List Argument) (n : ℕ) → (a.whole ≡ true → a.count ≡ n) → instances rest ≡ n → instances (a ∷ rest) ≡ n
shared_later a rest n own later =
    elim a.whole as (λ t. a.whole ≡ t → cond t a.count (instances rest) ≡ n) [ true ↦ λ p. own p | false ↦ λ p. later ] refl

in_place : (n k m : ℕ) (a : Argument) → IsWhere n a → (a.whole ≡ true → m ≡ a.count) → k < m → place_at a k < n
in_place n k m a w own lt = place_in n a k w (λ p. let e : m ≡ a.count = own p in omega arith)

one_wires : (n k : ℕ) (a : Argument) → IsWhere n a → k < instances (a ∷ []) → Wires n (place_at a k) 0 0 0
one_wires n k a w lt = record {
  a_in = in_place n k (instances (a ∷ [])) a w (shared_first a []) lt;
  b_in = λ h. absurd (omega arith);
  c_in = λ h. absurd (omega arith);
  ab = λ h. absurd (omega arith);
  ac = λ h. absurd (omega arith);
  bc = λ h. absurd (omega arith);
}

two_wires : (n k : ℕ) (a b : Argument) → IsWhere n a → IsWhere n b → AreApart b a → k < instances (a ∷ b ∷ []) → Wires n (place_at a k) (place_at b k) 0 1
two_wires n k a b wa wb ba lt =
    let m : ℕ = instances (a ∷ b ∷ []) in
    let na : a.whole ≡ true → m ≡ a.count = shared_first a (b ∷ []) in
    let nb : b.whole ≡ true → m ≡ b.count = λ p. shared_later a (b ∷ []) b.count (λ q. same_count b a ba p q) (shared_first b [] p) in
    record {
      a_in = in_place n k m a wa na lt;
      b_in = λ h. in_place n k m b wb nb lt;
      c_in = λ h. absurd (omega arith);
      ab = λ h e. apart_at m n b a k 0 wb wa ba nb na lt (sym e);
      ac = λ h. absurd (omega arith);
      bc = λ h. absurd (omega arith);
    }

three_wires : (n k : ℕ) (a b c : Argument) → IsWhere n a → IsWhere n b → IsWhere n c → AreApart b a → AreApart c a → AreApart c b → k < instances (a ∷ b ∷ c ∷ [])
    → Wires n (place_at a k) (place_at b k) (place_at c k) 2
three_wires n k a b c wa wb wc ba ca cb lt =
    let m : ℕ = instances (a ∷ b ∷ c ∷ []) in
    let na : a.whole ≡ true → m ≡ a.count = shared_first a (b ∷ c ∷ []) in
    let nb : b.whole ≡ true → m ≡ b.count = λ p. shared_later a (b ∷ c ∷ []) b.count (λ q. same_count b a ba p q) (shared_first b (c ∷ []) p) in
    let nc : c.whole ≡ true → m ≡ c.count = λ p. shared_later a (b ∷ c ∷ []) c.count (λ q. same_count c a ca p q) (shared_later b (c ∷ []) c.count (λ q. same_count c b cb p q) (shared_first c [] p)) in
    record {
      a_in = in_place n k m a wa na lt;
      b_in = λ h. in_place n k m b wb nb lt;
      c_in = λ h. in_place n k m c wc nc lt;
      ab = λ h e. apart_at m n b a k 0 wb wa ba nb na lt (sym e);
      ac = λ h e. apart_at m n c a k 0 wc wa ca nc na lt (sym e);
      bc = λ h e. apart_at m n c b k 0 wc wb cb nc nb lt (sym e);
    }

wires_at : (regs : List RegisterView) (more : ℕ) (ts : List TokenView) (x : List Argument × List TokenView) → more ≤ 2 → AllByRecursion IsKept regs → arguments_at regs more ts ≡ Ok x
    → (k : ℕ) → k < instances x.0 → Wires (places_of regs) (nth_place x.0 0 k) (nth_place x.0 1 k) (nth_place x.0 2 k) more
unfolding arguments_at arguments_after
wires_at regs zero ts x few kept h =
    let a = bind_ok (argument_at regs ts) _ x h in
    subst (λ (y : List Argument × List TokenView). (k : ℕ) → k < instances y.0 → Wires (places_of regs) (nth_place y.0 0 k) (nth_place y.0 1 k) (nth_place y.0 2 k) 0)
    (ok_same _ _ a.2) (λ k lt. one_wires (places_of regs) k a.0.0 (argument_where regs ts a.0 kept a.1) lt)
wires_at regs (suc zero) ts x few kept h =
    let a = bind_ok (argument_at regs ts) _ x h in
    let c = bind_ok (demanded Comma a.0.1) _ x a.2 in
    let b = bind_ok (argument_at regs c.0.1) _ x c.2 in
    let f = bind_ok (fits (a.0.0 ∷ []) b.0.0) _ x b.2 in
    subst (λ (y : List Argument × List TokenView). (k : ℕ) → k < instances y.0 → Wires (places_of regs) (nth_place y.0 0 k) (nth_place y.0 1 k) (nth_place y.0 2 k) 1)
    (ok_same _ _ f.2) (λ k lt. two_wires (places_of regs) k a.0.0 b.0.0 (argument_where regs ts a.0 kept a.1) (argument_where regs c.0.1 b.0 kept b.1) (apart_one a.0.0 b.0.0 f.0 f.1) lt)
wires_at regs (suc (suc zero)) ts x few kept h =
    let a = bind_ok (argument_at regs ts) _ x h in
    let c = bind_ok (demanded Comma a.0.1) _ x a.2 in
    let b = bind_ok (argument_at regs c.0.1) _ x c.2 in
    let f = bind_ok (fits (a.0.0 ∷ []) b.0.0) _ x b.2 in
    let d = bind_ok (demanded Comma b.0.1) _ x f.2 in
    let e = bind_ok (argument_at regs d.0.1) _ x d.2 in
    let g = bind_ok (fits (a.0.0 ∷ b.0.0 ∷ []) e.0.0) _ x e.2 in
    let apart = apart_two a.0.0 b.0.0 e.0.0 g.0 g.1 in
    subst (λ (y : List Argument × List TokenView). (k : ℕ) → k < instances y.0 → Wires (places_of regs) (nth_place y.0 0 k) (nth_place y.0 1 k) (nth_place y.0 2 k) 2)
    (ok_same _ _ g.2)
    (λ k lt. three_wires (places_of regs) k a.0.0 b.0.0 e.0.0 (argument_where regs ts a.0 kept a.1) (argument_where regs c.0.1 b.0 kept b.1) (argument_where regs d.0.1 e.0 kept e.1)
    (apart_one a.0.0 b.0.0 f.0 f.1) apart.0 apart.1 lt)
wires_at regs (suc (suc (suc more))) ts x few kept h = absurd (omega arith)

few_arguments : (word : GateWord) → more_arguments word ≤ 2
few_arguments H = omega arith
few_arguments X = omega arith
few_arguments Y = omega arith
few_arguments Id = omega arith
few_arguments (Phase e) = omega arith
few_arguments Cx = omega arith
few_arguments Cz = omega arith
few_arguments Cy = omega arith
few_arguments Swap = omega arith
few_arguments Ccx = omega arith

pub gates_on : (regs : List RegisterView) (word : GateWord) (ts : List TokenView) (x : List Argument × List TokenView) → AllByRecursion IsKept regs
    → arguments_at regs (more_arguments word) ts ≡ Ok x → IsCircuit (places_of regs) (gates_of word x.0)
unfolding gates_of
gates_on regs word ts x kept h =
    all_below (IsOnWires (places_of regs)) (instances x.0) (instance word x.0)
    (λ k lt. expansion_on word (places_of regs) (nth_place x.0 0 k) (nth_place x.0 1 k) (nth_place x.0 2 k) (wires_at regs (more_arguments word) ts x (few_arguments word) kept h k lt))
