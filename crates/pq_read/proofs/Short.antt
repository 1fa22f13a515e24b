-- Readers that look at few tokens: what follows these changes nothing but what is left.
use Rattle.std.proofs.Common.{◌≡◌, ℕ, ◌+◌, ◌≤◌, Bool, true, false, cond, List, [], ◌∷◌, ◌++◌, length, Result, Ok, Err, refl, ap, ◌∙◌, arith}
use Rattle.std.specs.List.{list_all}
use Rattle.std.specs.Char.{is_ascii_digit}
use Rattle.pq_lex.specs.declared.token.Form.{Form}
use Rattle.pq_lex.specs.declared.token.Form.TheVariants.{Number}
use Rattle.pq_lex.specs.Token.{TokenView}
use Rattle.pq_read.specs.declared.refusal.Refusal.{Refusal}
use Rattle.pq_read.specs.declared.refusal.Kind.TheVariants.{Syntax}
use Rattle.pq_read.specs.Faults.{◌>>=◌, Reading, refused, unexpected, is_form, head, demanded, integer_at}

-- the same reading where more tokens follow
abbrev pub followed : {A : Type 0} → List TokenView → Reading A → Reading A
followed more (Ok x) = Ok (x.0, x.1 ++ more)
followed more (Err e) = Err e

-- so many tokens are left at least
abbrev pub Leaves : {A : Type 0} → ℕ → List TokenView → Reading A → Type 0
Leaves n ts (Ok x) = length ts ≤ n + length x.1
Leaves n ts (Err e) = Unit {0}

-- A reader looks at so many tokens at most.
pub record IsShort {A : Type 0} (n : ℕ) (read : List TokenView → Reading A) : Type 0 where
  pub same : (ts more : List TokenView) → n ≤ length ts → read (ts ++ more) ≡ followed more (read ts)
  pub leaves : (ts : List TokenView) → Leaves n ts (read ts)

-- one after another
on_same : {A B : Type 0} (n m : ℕ) (next : A → List TokenView → Reading B) → ((x : A) → IsShort m (next x)) → (ts more : List TokenView) (r : Reading A) → Leaves n ts r → n + m ≤ length ts
    → (followed more r >>= λ x. next x.0 x.1) ≡ followed more (r >>= λ x. next x.0 x.1)
on_same n m next h ts more (Ok x) left le = (h x.0).same x.1 more (omega arith)
on_same n m next h ts more (Err e) left le = refl

next_leaves : {A : Type 0} (n m : ℕ) (ts mid : List TokenView) (r : Reading A) → length ts ≤ n + length mid → Leaves m mid r → Leaves (n + m) ts r
next_leaves n m ts mid (Ok x) le h = omega arith
next_leaves n m ts mid (Err e) le h = tt

on_leaves : {A B : Type 0} (n m : ℕ) (next : A → List TokenView → Reading B) → ((x : A) → IsShort m (next x)) → (ts : List TokenView) (r : Reading A) → Leaves n ts r → Leaves (n + m) ts (r >>= λ x. next x.0 x.1)
on_leaves n m next h ts (Ok x) left = next_leaves n m ts x.1 (next x.0 x.1) left ((h x.0).leaves x.1)
on_leaves n m next h ts (Err e) left = tt

pub then_short : {A B : Type 0} (n m : ℕ) (read : List TokenView → Reading A) (next : A → List TokenView → Reading B) → IsShort n read → ((x : A) → IsShort m (next x)) → IsShort (n + m) (λ ts. read ts >>= λ x. next x.0 x.1)
then_short n m read next r h = record {
  same = λ ts more le. ap (λ y. y >>= λ x. next x.0 x.1) (r.same ts more (omega arith)) ∙ on_same n m next h ts more (read ts) (r.leaves ts) le;
  leaves = λ ts. on_leaves n m next h ts (read ts) (r.leaves ts);
}

-- after a test
pub tested_short : {A B : Type 0} (n : ℕ) (r : Result A Refusal) (next : A → List TokenView → Reading B) → ((x : A) → IsShort n (next x)) → IsShort n (λ ts. r >>= λ x. next x ts)
tested_short n (Ok x) next h = h x
tested_short n (Err e) next h = record { same = λ ts more le. refl; leaves = λ ts. tt }

-- nothing more is read
pub done_short : {A : Type 0} (x : A) → IsShort 0 (λ ts. Ok (x, ts))
done_short x = record { same = λ ts more le. refl; leaves = λ ts. omega arith }

pub fault_short : {A : Type 0} (e : Refusal) → IsShort {A = A} 0 (λ ts. Err e)
fault_short e = record { same = λ ts more le. refl; leaves = λ ts. tt }

more_leaves : {A : Type 0} (n m : ℕ) (ts : List TokenView) (r : Reading A) → n ≤ m → Leaves n ts r → Leaves m ts r
more_leaves n m ts (Ok x) le h = omega arith
more_leaves n m ts (Err e) le h = tt

pub longer : {A : Type 0} (n m : ℕ) (read : List TokenView → Reading A) → n ≤ m → IsShort n read → IsShort m read
longer n m read le h = record { same = λ ts more few. h.same ts more (omega arith); leaves = λ ts. more_leaves n m ts (read ts) le (h.leaves ts) }

-- by the next token, which stays
pub either_same : {A : Type 0} (b : Bool) (more : List TokenView) (x y x' y' : Reading A) → x' ≡ followed more x → y' ≡ followed more y → cond b x' y' ≡ followed more (cond b x y)
either_same true more x y x' y' p q = p
either_same false more x y x' y' p q = q

pub either_leaves : {A : Type 0} (n : ℕ) (b : Bool) (ts : List TokenView) (x y : Reading A) → Leaves n ts x → Leaves n ts y → Leaves n ts (cond b x y)
either_leaves n true ts x y p q = p
either_leaves n false ts x y p q = q

pub head_same : (ts more : List TokenView) → 1 ≤ length ts → head (ts ++ more) ≡ head ts
head_same [] more some = absurd (omega arith)
head_same (t ∷ ts) more some = refl

pub by_next : {A : Type 0} (n : ℕ) (test : TokenView → Bool) (read other : List TokenView → Reading A) → 1 ≤ n → IsShort n read → IsShort n other → IsShort n (λ ts. cond (test (head ts)) (read ts) (other ts))
by_next n test read other some r o = record {
  same = λ ts more le. ap (λ t. cond (test t) (read (ts ++ more)) (other (ts ++ more))) (head_same ts more (omega arith))
      ∙ either_same (test (head ts)) more (read ts) (other ts) (read (ts ++ more)) (other (ts ++ more)) (r.same ts more le) (o.same ts more le);
  leaves = λ ts. either_leaves n (test (head ts)) ts (read ts) (other ts) (r.leaves ts) (o.leaves ts);
}

pub by_test : {A : Type 0} (n : ℕ) (b : Bool) (read other : List TokenView → Reading A) → IsShort n read → IsShort n other → IsShort n (λ ts. cond b (read ts) (other ts))
by_test n true read other r o = r
by_test n false read other r o = o

-- one token
demanded_same : (form : Form) (ts more : List TokenView) → 1 ≤ length ts → demanded form (ts ++ more) ≡ followed more (demanded form ts)
demanded_same form [] more some = absurd (omega arith)
demanded_same form (t ∷ ts) more some = either_same (is_form form t) more (Ok (t, ts)) (Err (unexpected t)) (Ok (t, ts ++ more)) (Err (unexpected t)) refl refl

demanded_leaves : (form : Form) (ts : List TokenView) → Leaves 1 ts (demanded form ts)
demanded_leaves form [] = tt
demanded_leaves form (t ∷ ts) = either_leaves 1 (is_form form t) (t ∷ ts) (Ok (t, ts)) (Err (unexpected t)) (omega arith) tt

pub demanded_short : (form : Form) → IsShort 1 (demanded form)
demanded_short form = record { same = demanded_same form; leaves = demanded_leaves form }

pub integer_short : IsShort 1 integer_at
unfolding integer_at
integer_short =
    then_short 1 0 (demanded Number) (λ t ts. cond (list_all is_ascii_digit t.bytes) (Ok (t, ts)) (Err (refused Syntax t))) (demanded_short Number)
    (λ t. by_test 0 (list_all is_ascii_digit t.bytes) (λ ts. Ok (t, ts)) (λ ts. Err (refused Syntax t)) (done_short t) (fault_short (refused Syntax t)))
