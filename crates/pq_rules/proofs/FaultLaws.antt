use Rattle.std.proofs.Common.{◌≡◌, ℕ, zero, suc, ◌/◌, ◌<◌, ◌≤◌, ◌⊎◌, inl, inr, List, length, refl, ap, subst, arith}
use Rattle.std.proofs.lemmas.Bool.{cases_lt}
use Rattle.pq_rules.specs.declared.row.RawRow.{RawRow}
use Rattle.pq_rules.specs.declared.row.RowFault.{RowFault}
use Rattle.pq_rules.specs.declared.row.RowFault.TheVariants.{Wires, TooLong, NotShorter, Differs}
use Rattle.pq_gate.specs.declared.gate.Gate.{Gate}
use Rattle.pq_gate.specs.Matrix.{Same}
use Rattle.pq_rules.specs.Agreement.{IsBefore, FitsUpTo, IsFirstDiffering}
use Rattle.pq_rules.specs.Fault.{with_phase, IsOnItsWires, IsShortening, Comes, HasNoFault}
use Rattle.pq_rules.specs.Row.{RowView, HasItsWires, IsSound}
use Rattle.pq_rules.specs.States.{state}

pub length-state : (n x : ℕ) → length (state n x) ≡ n
length-state zero x = refl
length-state (suc n) x = ap suc (length-state n (x / 2))

-- the phase of one matrix fits everywhere
pub fits_everywhere : (row : RowView) (k : ℕ) → Same row.wires row.pattern row.replacement k → (from to : ℕ) → FitsUpTo row k from to
fits_everywhere row k same from to = record {
  before = λ f t f_in t_in before. same.entries (state row.wires f) (state row.wires t) (length-state row.wires f) (length-state row.wires t);
  here = same.entries (state row.wires from) (state row.wires to) (length-state row.wires from) (length-state row.wires to);
}

-- a sound row has no fault
pub no_fault : (raw : RawRow) (k : ℕ) → IsOnItsWires raw → IsShortening raw → k ≤ 7 →
    Same raw.wires raw.pattern.items raw.replacement.items k → (fault : RowFault) → Comes raw fault → ⊥
no_fault raw k wires shortens few same Wires comes = comes wires
no_fault raw k wires shortens few same TooLong comes = (let long : 8 < length raw.pattern.items = comes.1 in let short = shortens.short in omega arith)
no_fault raw k wires shortens few same NotShorter comes = (let long = comes.2 in let short = shortens.shorter in omega arith)
no_fault raw k wires shortens few same (Differs from to) comes =
    comes.2.none k (omega arith) (fits_everywhere (with_phase raw 0) k same from to)

-- pairs are one, or one comes before the other
pair_order : (f t g u : ℕ) → IsBefore f t g u ⊎ (IsBefore g u f t ⊎ ((f ≡ g) × (t ≡ u)))
pair_order f t g u =
    elim (cases_lt f g) [
      | inl less ↦ inl (inl less)
      | inr more ↦ elim (cases_lt g f) [
        | inl less ↦ inr (inl (inl less))
        | inr also ↦
            let same : f ≡ g = omega arith in
            let back : g ≡ f = omega arith in
            elim (cases_lt t u) [
              | inl less ↦ inl (inr (same, less))
              | inr more ↦ elim (cases_lt u t) [
                | inl less ↦ inr (inl (inr (back, less)))
                | inr other ↦ inr (inr (same, omega arith))
              ]
            ]
      ]
    ]

-- there is one first differing pair
pub one_first : (row : RowView) (f t g u : ℕ) → IsFirstDiffering row f t → IsFirstDiffering row g u → (f ≡ g) × (t ≡ u)
one_first row f t g u one other =
    elim (pair_order f t g u) [
      | inl before ↦ (let fits = other.first f t one.from_inside one.to_inside before in absurd (one.none fits.0 fits.1 fits.2))
      | inr rest ↦ elim rest [
        | inl before ↦ (let fits = one.first g u other.from_inside other.to_inside before in absurd (other.none fits.0 fits.1 fits.2))
        | inr same ↦ same
      ]
    ]

-- at most one fault comes
pub one_fault : (raw : RawRow) (f g : RowFault) → Comes raw f → Comes raw g → f ≡ g
one_fault raw Wires Wires one other = refl
one_fault raw Wires TooLong one other = absurd (one other.0)
one_fault raw Wires NotShorter one other = absurd (one other.0)
one_fault raw Wires (Differs from to) one other = absurd (one other.0)
one_fault raw TooLong Wires one other = absurd (other one.0)
one_fault raw TooLong TooLong one other = refl
one_fault raw TooLong NotShorter one other = absurd (omega (arith, one.1, other.1))
one_fault raw TooLong (Differs from to) one other = absurd (omega (arith, one.1, other.1.short))
one_fault raw NotShorter Wires one other = absurd (other one.0)
one_fault raw NotShorter TooLong one other = absurd (omega (arith, one.1, other.1))
one_fault raw NotShorter NotShorter one other = refl
one_fault raw NotShorter (Differs from to) one other = absurd (omega (arith, one.2, other.1.shorter))
one_fault raw (Differs from to) Wires one other = absurd (other one.0)
one_fault raw (Differs from to) TooLong one other = absurd (omega (arith, one.1.short, other.1))
one_fault raw (Differs from to) NotShorter one other = absurd (omega (arith, one.1.shorter, other.2))
one_fault raw (Differs from to) (Differs from' to') one other =
    let same = one_first (with_phase raw 0) from to from' to' one.2 other.2 in λ i. Differs (same.0 i) (same.1 i)

-- a row that passed the checks is sound
pub sound_from : (raw : RawRow) (k : ℕ) (p q : List Gate) → p ≡ raw.pattern.items → q ≡ raw.replacement.items →
    HasItsWires raw.wires p q → length p ≤ 8 → length q < length p → k ≤ 7 → Same raw.wires p q k → IsSound (with_phase raw k)
sound_from raw k p q p_is q_is wires short shorter few same =
    let one : HasItsWires raw.wires raw.pattern.items q = subst (λ (r : List Gate). HasItsWires raw.wires r q) p_is wires in
    let both : HasItsWires raw.wires raw.pattern.items raw.replacement.items = subst (λ (r : List Gate). HasItsWires raw.wires raw.pattern.items r) q_is one in
    let same_one : Same raw.wires raw.pattern.items q k = subst (λ (r : List Gate). Same raw.wires r q k) p_is same in
    record {
      wires = both;
      shortens = record { short = subst (λ (r : List Gate). length r ≤ 8) p_is short; shorter = omega (arith, ap length p_is, ap length q_is) };
      turn = few;
      same = subst (λ (r : List Gate). Same raw.wires raw.pattern.items r k) q_is same_one;
    }

-- and no fault of its raw row comes
pub no_fault_of : (raw : RawRow) (k : ℕ) → IsSound (with_phase raw k) → HasNoFault raw
no_fault_of raw k sound = record { none = no_fault raw k sound.wires sound.shortens sound.turn sound.same }
