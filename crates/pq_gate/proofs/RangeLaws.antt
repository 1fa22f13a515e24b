use Rattle.std.proofs.Common.{◌≡◌, FitsSigned, SomeIff, Option, Some, ℕ, ℤ, to_z, of_z, refl, sym, subst, arith}
use Rattle.std.specs.Prelude.{neg_ℤ}
use Rattle.std.specs.Int.{w64}
use Rattle.std.proofs.lemmas.Int.{ints}
use Rattle.pq_gate.specs.declared.ring.Ring.{Ring}
use Rattle.pq_gate.specs.Ring.{turned, FitsI64}
use Rattle.pq_gate.proofs.RingLaws.{same_numbers}

-- the numbers as they are kept in an i64
abbrev pub stored : Ring → Ring
stored r = record { a = to_z w64 (of_z w64 r.a); b = to_z w64 (of_z w64 r.b); c = to_z w64 (of_z w64 r.c); d = to_z w64 (of_z w64 r.d) }

pub stored_is : (r : Ring) → FitsI64 r → stored r ≡ r
stored_is r fits = same_numbers _ _ (omega (arith, ints)) (omega (arith, ints)) (omega (arith, ints)) (omega (arith, ints))

pub stored_fits : (r : Ring) → FitsI64 r → FitsI64 (stored r)
stored_fits r fits = subst FitsI64 (sym (stored_is r fits)) fits

-- a coefficient that stays
pub stays : (z : ℤ) → FitsSigned w64 z → SomeIff (Some z) (FitsSigned w64 z) z
stays z fits = (fits, refl)

-- a coefficient that is negated twice
pub negated_twice : (z : ℤ) → FitsSigned w64 z → SomeIff (Some z) (FitsSigned w64 (neg_ℤ (neg_ℤ z))) (neg_ℤ (neg_ℤ z))
negated_twice z fits =
    let back : z ≡ neg_ℤ (neg_ℤ z) = omega (arith, ints) in
    subst (λ (y : ℤ). SomeIff (Some z) (FitsSigned w64 y) y) back (stays z fits)

-- the answer for the element itself and a k that is known
pub turned_by : (answer : Option Ring) (r : Ring) (j k : ℕ) → FitsI64 r → k ≡ j →
    SomeIff answer (FitsI64 (turned j (stored r))) (turned j (stored r)) → SomeIff answer (FitsI64 (turned k r)) (turned k r)
turned_by answer r j k fits is holds =
    subst (λ (i : ℕ). SomeIff answer (FitsI64 (turned i r)) (turned i r)) (sym is)
    (subst (λ (s : Ring). SomeIff answer (FitsI64 (turned j s)) (turned j s)) (stored_is r fits) holds)
