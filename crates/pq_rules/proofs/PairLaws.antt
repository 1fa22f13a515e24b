use Rattle.std.proofs.Common.{◌≡◌, ℕ, suc, ◌+◌, ◌*◌, ◌/◌, ◌%◌, ◌^◌, ◌<◌, ◌≤◌, inl, inr, Bool, true, false, cond, eqb, List, [], ◌∷◌, length, refl, ap, sym, subst, ◌∙◌, arith}
use Rattle.std.proofs.lemmas.Bool.{cases_eq, cases_lt}
use Rattle.std.proofs.lemmas.Nat.{div-mul-add, mod-mul-add}
use Rattle.std.proofs.Math.Nat.{pow-suc, div-add-mod, mod-lt, mul-le-mul_left}
use lib.Pow.{pow_pos, pow_mono}
use Rattle.pq_gate.specs.declared.gate.Gate.{Gate}
use Rattle.pq_gate.specs.declared.ring.Ring.{Ring}
use Rattle.pq_gate.specs.Circuit.{IsCircuit}
use Rattle.pq_gate.specs.Matrix.{Entry, h_count, Same}
use Rattle.pq_gate.specs.Ring.{turned, rooted}
use Rattle.pq_rules.specs.Agreement.{AgreesAt, IsBefore, IsFirstDiffering}
use Rattle.pq_rules.specs.Bounds.{IsWithin}
use Rattle.pq_rules.specs.Columns.{IsMatrix}
use Rattle.pq_rules.specs.Pairs.{entry_in, IsMatrixWithin, MatchesBelow}
use Rattle.pq_rules.specs.Row.{RowView}
use Rattle.pq_rules.specs.States.{state}
use Rattle.pq_rules.proofs.BoundLaws.{IsWithin-entries}

-- the number of a state
abbrev pub number : List Bool → ℕ
number [] = 0
number (p ∷ x) = cond p 1 0 + 2 * number x

low_bit : (p : Bool) (m : ℕ) → eqb ((cond p 1 0 + 2 * m) % 2) 1 ≡ p
low_bit true m = let e : (1 + 2 * m) % 2 ≡ 1 = omega arith in ap (λ (r : ℕ). eqb r 1) e
low_bit false m = let e : (0 + 2 * m) % 2 ≡ 0 = omega arith in ap (λ (r : ℕ). eqb r 1) e

high_bits : (p : Bool) (m : ℕ) → (cond p 1 0 + 2 * m) / 2 ≡ m
high_bits true m = omega arith
high_bits false m = omega arith

pub state-number : (x : List Bool) → state (length x) (number x) ≡ x
state-number [] = refl
state-number (p ∷ x) =
    (λ i. low_bit p (number x) i ∷ state (length x) (high_bits p (number x) i)) ∙ ap (λ (y : List Bool). p ∷ y) (state-number x)

bit_below : (p : Bool) → cond p 1 0 ≤ 1
bit_below true = omega arith
bit_below false = omega arith

pub number-below : (x : List Bool) → number x < 2 ^ length x
number-below [] = omega arith
number-below (p ∷ x) = omega (arith, bit_below p, number-below x, pow-suc 2 (length x))

-- a pair that comes before has the smaller number
pub smaller : (s f t later_f later_t : ℕ) → t < s → IsBefore f t later_f later_t → f * s + t < later_f * s + later_t
smaller s f t later_f later_t inside (inl less) =
    let rows : s * suc f ≤ s * later_f = mul-le-mul_left s less in omega (arith, rows)
smaller s f t later_f later_t inside (inr same) = rw same.0 (omega (arith, same.1))

-- the smaller number is of a pair that comes before
pub is_before : (s p q : ℕ) → 0 < s → q < p → IsBefore (q / s) (q % s) (p / s) (p % s)
is_before s p q some below =
    elim (cases_lt (q / s) (p / s)) [
      | inl less ↦ inl less
      | inr more ↦ elim (cases_eq (q / s) (p / s)) [
        | inl same ↦
            inr (same, (let rows : s * (q / s) ≡ s * (p / s) = ap (λ (m : ℕ). s * m) same in omega (arith, div-add-mod q s, div-add-mod p s, rows)))
        | inr differ ↦ absurd (
            let less : p / s < q / s = omega arith in
            let rows : s * suc (p / s) ≤ s * (q / s) = mul-le-mul_left s less in
            omega (arith, div-add-mod q s, div-add-mod p s, mod-lt p some, rows))
      ]
    ]

-- the parts of a number of a pair
pub first_inside : (s p : ℕ) → 0 < s → p < s * s → p / s < s
first_inside s p some below =
    elim (cases_lt (p / s) s) [
      | inl less ↦ less
      | inr more ↦ absurd (let rows : s * s ≤ s * (p / s) = mul-le-mul_left s more in omega (arith, div-add-mod p s, rows))
    ]

module _ (row : RowView) (few : row.wires ≤ 3) (left right : List (List Ring))
    (left_is : IsMatrix row.wires (h_count row.replacement) row.pattern left)
    (right_is : IsMatrix row.wires (h_count row.pattern) row.replacement right) where
  small : (x : ℕ) → x < 2 ^ row.wires → x < 8
  small x below = let all : 2 ^ row.wires ≤ 2 ^ 3 = pow_mono {i = row.wires} {j = 3} few in omega (arith, all)

  -- entries that match agree
  agrees : (k f t : ℕ) → f < 2 ^ row.wires → t < 2 ^ row.wires →
      entry_in left f t ≡ turned k (entry_in right f t) → AgreesAt row k f t
  agrees k f t f_in t_in same =
      sym (left_is t t_in f (small f f_in)) ∙ same ∙ ap (turned k) (right_is t t_in f (small f f_in))

  matches : (k f t : ℕ) → f < 2 ^ row.wires → t < 2 ^ row.wires →
      AgreesAt row k f t → entry_in left f t ≡ turned k (entry_in right f t)
  matches k f t f_in t_in same =
      left_is t t_in f (small f f_in) ∙ same ∙ sym (ap (turned k) (right_is t t_in f (small f f_in)))

  -- the same by the number of the pair
  agrees_at : (k p f t : ℕ) → f < 2 ^ row.wires → t < 2 ^ row.wires → f * 2 ^ row.wires + t < p →
      MatchesBelow left right (2 ^ row.wires) k p → AgreesAt row k f t
  agrees_at k p f t f_in t_in below all =
      agrees k f t f_in t_in
      (subst (λ (m : ℕ). entry_in left m t ≡ turned k (entry_in right m t)) (div-mul-add f (2 ^ row.wires) t t_in)
      (subst (λ (m : ℕ). entry_in left ((f * 2 ^ row.wires + t) / 2 ^ row.wires) m ≡ turned k (entry_in right ((f * 2 ^ row.wires + t) / 2 ^ row.wires) m))
      (mod-mul-add f (2 ^ row.wires) t t_in) (all (f * 2 ^ row.wires + t) below)))

  -- where all pairs match, the circuits have one matrix up to the phase
  pub same_of_matches : (k : ℕ) → IsCircuit row.wires row.pattern → IsCircuit row.wires row.replacement →
      MatchesBelow left right (2 ^ row.wires) k (2 ^ row.wires * 2 ^ row.wires) → Same row.wires row.pattern row.replacement k
  same_of_matches k one other all = record {
    left = one;
    right = other;
    entries = λ x y x_is y_is.
        let x_in : number x < 2 ^ row.wires = subst (λ (n : ℕ). number x < 2 ^ n) x_is (number-below x) in
        let y_in : number y < 2 ^ row.wires = subst (λ (n : ℕ). number y < 2 ^ n) y_is (number-below y) in
        let x_at : state row.wires (number x) ≡ x = subst (λ (n : ℕ). state n (number x) ≡ x) x_is (state-number x) in
        let y_at : state row.wires (number y) ≡ y = subst (λ (n : ℕ). state n (number y) ≡ y) y_is (state-number y) in
        let rows : 2 ^ row.wires * suc (number x) ≤ 2 ^ row.wires * 2 ^ row.wires = mul-le-mul_left (2 ^ row.wires) x_in in
        subst (λ (z : List Bool). rooted (h_count row.replacement) (Entry row.pattern x z) ≡ turned k (rooted (h_count row.pattern) (Entry row.replacement x z))) y_at
        (subst (λ (z : List Bool). rooted (h_count row.replacement) (Entry row.pattern z (state row.wires (number y))) ≡ turned k (rooted (h_count row.pattern) (Entry row.replacement z (state row.wires (number y))))) x_at
        (agrees_at k (2 ^ row.wires * 2 ^ row.wires) (number x) (number y) x_in y_in (omega (arith, rows)) all));
  }

  -- the first pair by its number is the first differing one
  pub first_of_matches : (p : ℕ) → p < 2 ^ row.wires * 2 ^ row.wires →
      ((k : ℕ) → k < 8 → MatchesBelow left right (2 ^ row.wires) k (p + 1) → ⊥) →
      ((k : ℕ) × (k < 8) × MatchesBelow left right (2 ^ row.wires) k p) →
      IsFirstDiffering row (p / 2 ^ row.wires) (p % 2 ^ row.wires)
  first_of_matches p inside none some =
      let positive : 0 < 2 ^ row.wires = pow_pos row.wires in
      let parts : p / 2 ^ row.wires * 2 ^ row.wires + p % 2 ^ row.wires ≡ p = omega (arith, div-add-mod p (2 ^ row.wires)) in
      record {
        from_inside = first_inside (2 ^ row.wires) p positive inside;
        to_inside = mod-lt p positive;
        none = λ k k_below fits. none k k_below (λ q q_below.
            let q_inside : q < 2 ^ row.wires * 2 ^ row.wires = omega arith in
            matches k (q / 2 ^ row.wires) (q % 2 ^ row.wires) (first_inside (2 ^ row.wires) q positive q_inside) (mod-lt q positive)
            (elim (cases_eq q p) [
              | inl same ↦
                  subst (λ (m : ℕ). AgreesAt row k (m / 2 ^ row.wires) (m % 2 ^ row.wires)) (sym same) fits.here
              | inr differ ↦
                  fits.before (q / 2 ^ row.wires) (q % 2 ^ row.wires) (first_inside (2 ^ row.wires) q positive q_inside) (mod-lt q positive)
                  (is_before (2 ^ row.wires) p q positive (omega arith))
            ]));
        first = λ f t f_in t_in before.
            let at : f * 2 ^ row.wires + t < p = omega (arith, smaller (2 ^ row.wires) f t (p / 2 ^ row.wires) (p % 2 ^ row.wires) t_in before, parts) in (
              some.0,
              some.1,
              record {
                before = λ g u g_in u_in earlier.
                    agrees_at some.0 p g u g_in u_in (omega (arith, smaller (2 ^ row.wires) g u f t u_in earlier)) some.2;
                here = agrees_at some.0 p f t f_in t_in at some.2;
              },
            );
      }

-- the entries of a row's matrices are small
pub matrix_within : (n roots : ℕ) (gates : List Gate) (columns : List (List Ring)) → n ≤ 3 → roots + length gates ≤ 15 →
    IsMatrix n roots gates columns → (size : ℕ) → size ≡ 2 ^ n → IsMatrixWithin 32768 size columns
matrix_within n roots gates columns few short is size size_is = λ y y_in x x_in.
    subst (λ (r : Ring). IsWithin 32768 r) (sym (is y (subst (λ (m : ℕ). y < m) size_is y_in) x x_in))
    (IsWithin-entries 15 roots gates (state n x) (state n y) short)
