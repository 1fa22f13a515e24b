-- The size of a new register, by a value that stops growing at a million.
use Rattle.std.proofs.Common.{◌≡◌, ℕ, ◌+◌, ◌<◌, ◌≤◌, Bool, true, false, eqb, ltb, cond, min, List, Result, Ok, Err, refl, ap, ◌∙◌, arith}
use borrow.Author.Tests.{eq-eqb, le-ltb}
use Rattle.std.proofs.lemmas.Bool.Decides.{nat_tests}
use Rattle.pq_lex.specs.Token.{TokenView}
use Rattle.pq_text.specs.Program.{RegisterView, places_of}
use Rattle.pq_read.specs.declared.refusal.Kind.{Kind}
use Rattle.pq_read.specs.declared.refusal.Kind.TheVariants.{BadSize}
use Rattle.pq_read.specs.declared.refusal.Refusal.{Refusal}
use Rattle.pq_read.specs.Faults.{refused, value_of}
use Rattle.pq_read.specs.After.{new_size}

lt_true : (a b : ℕ) → a < b → ltb a b ≡ true
lt_true a b h = grind (arith, nat_tests)

ne_false : (a b : ℕ) → (a ≡ b → ⊥) → eqb a b ≡ false
ne_false a b h = grind (arith, nat_tests)

choose : (zero_test many_test : Bool) (z m : Bool) (too_many : Kind) (t : TokenView) → zero_test ≡ z → many_test ≡ m
    → (let r : Result ℕ Refusal = cond zero_test (Err (refused BadSize t)) (cond many_test (Err (refused too_many t)) (Ok (value_of t))) in r)
    ≡ cond z (Err (refused BadSize t)) (cond m (Err (refused too_many t)) (Ok (value_of t)))
choose zero_test many_test z m too_many t p q = λ i. cond (p i) (Err (refused BadSize t)) (cond (q i) (Err (refused too_many t)) (Ok (value_of t)))

pub size_zero : (too_many : Kind) (regs : List RegisterView) (t : TokenView) (size : ℕ) → size ≡ min (value_of t) 1000000 → size ≡ 0
    → new_size too_many regs t ≡ Err (refused BadSize t)
size_zero too_many regs t size is none =
    let z : eqb (value_of t) 0 ≡ true = eq-eqb (value_of t) 0 (omega arith) in
    choose (eqb (value_of t) 0) (ltb 4096 (places_of regs + value_of t)) true (ltb 4096 (places_of regs + value_of t)) too_many t z refl

pub size_many : (too_many : Kind) (regs : List RegisterView) (t : TokenView) (size : ℕ) → size ≡ min (value_of t) 1000000 → (size ≡ 0 → ⊥)
    → 4096 < places_of regs + size → new_size too_many regs t ≡ Err (refused too_many t)
size_many too_many regs t size is some many =
    let z : eqb (value_of t) 0 ≡ false = ne_false (value_of t) 0 (λ e. some (omega arith)) in
    let m : ltb 4096 (places_of regs + value_of t) ≡ true = lt_true 4096 (places_of regs + value_of t) (omega arith) in
    choose (eqb (value_of t) 0) (ltb 4096 (places_of regs + value_of t)) false true too_many t z m

pub size_fits : (too_many : Kind) (regs : List RegisterView) (t : TokenView) (size : ℕ) → size ≡ min (value_of t) 1000000 → (size ≡ 0 → ⊥)
    → places_of regs + size ≤ 4096 → new_size too_many regs t ≡ Ok size
size_fits too_many regs t size is some room =
    let z : eqb (value_of t) 0 ≡ false = ne_false (value_of t) 0 (λ e. some (omega arith)) in
    let same : value_of t ≡ size = omega arith in
    let m : ltb 4096 (places_of regs + value_of t) ≡ false = le-ltb 4096 (places_of regs + value_of t) (omega arith) in
    choose (eqb (value_of t) 0) (ltb 4096 (places_of regs + value_of t)) false false too_many t z m ∙ ap (λ n. let r : Result ℕ Refusal = Ok n in r) same
