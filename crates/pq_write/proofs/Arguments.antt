-- The argument of a wire or a bit, and that it is read as this one place.
use Rattle.std.proofs.Common.{◌≡◌, ◌≢◌, ℕ, zero, suc, ◌+◌, ◌-◌, ◌<◌, ◌≤◌, Bool, true, false, cond, nat_lt, List, [], ◌∷◌, ◌++◌, map, All, AllPairs, codes, decimal, bytes_eq, Option, Some, Result, Ok, refl, ap, ◌∙◌, arith, rules, lt-ltb, inl, inr}
use Rattle.std.specs.List.{list_all}
use Rattle.std.specs.Char.{is_ascii_digit}
use Rattle.std.specs.Str.Parse.{digits_value}
use Rattle.std.proofs.lemmas.Bool.{cases_lt}
use borrow.Author.Tests.{ltb-true}
use Rattle.std.proofs.lemmas.Slice.Eq.{bytes_eq-Decides}
use Rattle.std.proofs.lemmas.List.Elements.{All-head, All-tail}
use Rattle.std.proofs.lemmas.Str.Parse.{IsNumeralModel, numerals_by_value}
use Rattle.std.proofs.lemmas.Fmt.{digits_decimal, digits_value-decimal}
use Rattle.pq_lex.specs.declared.token.Form.TheVariants.{Word, Number, LeftBracket, RightBracket}
use Rattle.pq_lex.specs.Token.{TokenView}
use Rattle.pq_text.specs.Program.{RegisterView, places_of}
use Rattle.pq_text.specs.WellFormed.{IsRegister}
use Rattle.pq_read.specs.declared.refusal.Refusal.{Refusal}
use Rattle.pq_read.specs.declared.argument.Span.{Span}
use Rattle.pq_read.specs.declared.argument.Argument.{Argument}
use Rattle.pq_read.specs.Faults.{ended, integer_at}
use Rattle.pq_read.specs.Words.{is_name}
use Rattle.pq_read.specs.Environment.{span_from}
use Rattle.pq_read.specs.Arguments.{single, indexed_at, argument_at}
use Rattle.pq_read.proofs.Names.{lawful_is_name}
use Rattle.pq_write.proofs.Shapes.{Shape, shape, shape_of, indexed_shapes, place_shapes}

-- a token of this shape where another stands
abbrev pub token_at : Shape → TokenView → TokenView
token_at s t = record { form = s.form; bytes = s.bytes; line = t.line; column = t.column }

-- tokens of these shapes, each where another stands
abbrev pub placed : List Shape → (ℕ → TokenView) → List TokenView
placed [] spots = []
placed (s ∷ ss) spots = token_at s (spots 0) ∷ placed ss (λ k. spots (suc k))

abbrev pub nth : List TokenView → ℕ → TokenView
nth [] k = ended
nth (t ∷ ts) zero = t
nth (t ∷ ts) (suc k) = nth ts k

pub is_placed : (shapes : List Shape) (front : List TokenView) → map shape_of front ≡ shapes → front ≡ placed shapes (nth front)
is_placed [] [] h = refl
is_placed [] (t ∷ ts) h = cc
is_placed (s ∷ ss) [] h = cc
is_placed (s ∷ ss) (t ∷ ts) h =
    let first : shape_of t ≡ s = cc in
    let more : map shape_of ts ≡ ss = cc in
    λ i. token_at (first i) t ∷ is_placed ss ts more i

-- the tokens after an argument and one token more
abbrev pub from_fifth : (ℕ → TokenView) → ℕ → TokenView
from_fifth spots k = spots (suc (suc (suc (suc (suc k)))))

-- A place of the registers, of which the first begins at a place, is one of a register that is found.
pub record IsPlace (first : ℕ) (regs : List RegisterView) (place : ℕ) : Type 0 where
  pub name : List ℕ
  pub index : ℕ
  pub span : Span
  pub written : place_shapes regs place ≡ indexed_shapes name index
  pub named : is_name name ≡ true
  pub found : span_from first regs name ≡ Some span
  pub inside : index < span.size
  pub small : span.size ≤ 4096
  pub reached : span.first + index ≡ first + place
  pub one_of : (n : List ℕ) → All (λ q. n ≢ q.name) regs → n ≢ name

pub untrue : (b : Bool) → (b ≡ true → ⊥) → b ≡ false
untrue true h = absurd (h refl)
untrue false h = refl

place_here : (first : ℕ) (r : RegisterView) (rs : List RegisterView) (place : ℕ) → IsRegister r → r.size ≤ 4096 → place < r.size → IsPlace first (r ∷ rs) place
place_here first r rs place register small lt = record {
  name = r.name;
  index = place;
  span = record { first = first; size = r.size };
  written = ap (λ b. cond b (indexed_shapes r.name place) (place_shapes rs (place - r.size))) (lt-ltb place r.size lt);
  named = lawful_is_name r.name register.named.lawful;
  found = ap (λ b. let o : Option Span = cond b (Some (record { first = first; size = r.size })) (span_from (first + r.size) rs r.name) in o) ((bytes_eq-Decides r.name r.name).1 refl);
  inside = lt;
  small = small;
  reached = refl;
  one_of = λ n all. All-head (λ q. n ≢ q.name) r rs all;
}

place_later : (first : ℕ) (r : RegisterView) (rs : List RegisterView) (place : ℕ) → r.size ≤ place → All (λ q. r.name ≢ q.name) rs
    → IsPlace (first + r.size) rs (place - r.size) → IsPlace first (r ∷ rs) place
place_later first r rs place le other p =
    let unlike : bytes_eq r.name p.name ≡ false = untrue (bytes_eq r.name p.name) (λ yes. p.one_of r.name other ((bytes_eq-Decides r.name p.name).0 yes)) in
    let past : nat_lt place r.size ≡ false = untrue (nat_lt place r.size) (λ yes. omega (arith, ltb-true place r.size yes)) in
    let there : p.span.first + p.index ≡ (first + r.size) + (place - r.size) = p.reached in
    record {
      name = p.name;
      index = p.index;
      span = p.span;
      written = ap (λ b. cond b (indexed_shapes r.name place) (place_shapes rs (place - r.size))) past ∙ p.written;
      named = p.named;
      found = ap (λ b. let o : Option Span = cond b (Some (record { first = first; size = r.size })) (span_from (first + r.size) rs p.name) in o) unlike ∙ p.found;
      inside = p.inside;
      small = p.small;
      reached = omega arith;
      one_of = λ n all. p.one_of n (All-tail (λ q. n ≢ q.name) r rs all);
    }

pub place_from : (first : ℕ) (regs : List RegisterView) (place : ℕ) → All IsRegister regs → AllPairs (λ q r. q.name ≢ r.name) regs
    → places_of regs ≤ 4096 → place < places_of regs → IsPlace first regs place
place_from first [] place each apart few lt = absurd (omega arith)
place_from first (r ∷ rs) place each apart few lt = elim (cases_lt place r.size) [
  | inl here ↦ place_here first r rs place (All-head IsRegister r rs each) (omega arith) here
  | inr later ↦ place_later first r rs place later (λ k d in'. apart 0 (suc k) d (omega arith) (omega arith))
      (place_from (first + r.size) rs (place - r.size) (All-tail IsRegister r rs each) (λ i j d less in'. apart (suc i) (suc j) d (omega arith) (omega arith)) (omega arith) (omega arith))
]

-- the digits of an index
numerals : IsNumeralModel (λ ds. list_all is_ascii_digit ds ≡ true) (digits_value 10)
numerals = numerals_by_value (λ ds. list_all is_ascii_digit ds ≡ true) (search rules)

indexed_read : (regs : List RegisterView) (name digits : List ℕ) (span : Span) (a b c d : TokenView) (later : List TokenView) → is_name name ≡ true
    → span_from 0 regs name ≡ Some span → list_all is_ascii_digit digits ≡ true → nat_lt (digits_value 10 digits) span.size ≡ true
    → argument_at regs (token_at (shape Word name) a ∷ token_at (shape LeftBracket (codes "[")) b ∷ token_at (shape Number digits) c ∷ token_at (shape RightBracket (codes "]")) d ∷ later)
    ≡ Ok (single span (token_at (shape Word name) a) (digits_value 10 digits), later)
unfolding argument_at indexed_at integer_at
indexed_read regs name digits span a b c d later named found spelled inside = rw (named, found, spelled, inside) refl

-- the argument of a place, whose name stands at a token
abbrev pub argument_of : {first : ℕ} {regs : List RegisterView} {place : ℕ} → IsPlace first regs place → TokenView → Argument
argument_of p t = single p.span (token_at (shape Word p.name) t) p.index

pub place_read : (regs : List RegisterView) (place : ℕ) (p : IsPlace 0 regs place) (spots : ℕ → TokenView) (later : List TokenView)
    → argument_at regs (placed (indexed_shapes p.name p.index) spots ++ later) ≡ Ok (argument_of p (spots 0), later)
place_read regs place p spots later =
    let value : digits_value 10 (decimal p.index) ≡ p.index = digits_value-decimal numerals p.index (omega (arith, p.inside, p.small)) in
    let inside : nat_lt (digits_value 10 (decimal p.index)) p.span.size ≡ true = lt-ltb (digits_value 10 (decimal p.index)) p.span.size (omega (arith, p.inside)) in
    indexed_read regs p.name (decimal p.index) p.span (spots 0) (spots 1) (spots 2) (spots 3) later p.named p.found (digits_decimal numerals p.index (omega (arith, p.inside, p.small))) inside
    ∙ ap (λ n. let r : Result (Argument × List TokenView) Refusal = Ok (single p.span (token_at (shape Word p.name) (spots 0)) n, later) in r) value
