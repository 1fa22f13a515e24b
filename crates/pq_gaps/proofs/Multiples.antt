use Rattle.std.proofs.Common.{◌≡◌, ℕ, ◌+◌, ◌*◌, ◌/◌, ◌%◌, ◌<◌, ◌≤◌, get_or, sym, ap, ◌∙◌, arith, inl, inr, ◌⊎◌, map}
use Rattle.std.specs.Int.{div_ceil}
use Rattle.std.specs.List.{range_with_len, Contains}
use Rattle.std.specs.List.Sorted.{IsStrictlyIncreasing}
use Rattle.std.proofs.Math.Nat.{mul-le-mul_left, mul_comm}
use Rattle.std.proofs.lemmas.Bool.{cases_lt}
use Rattle.std.proofs.lemmas.List.FromFn.{length-map-range_with_len, get_or-map-range_with_len}
use Rattle.pq_gaps.specs.Gaps.{first_fingers}

-- the number `k` multiple stands at index k
pub multiple_at : (omega_ n k : ℕ) (d : ℕ) → k < n → get_or (map (λ j. j * omega_) (range_with_len 0 n)) k d ≡ k * omega_
multiple_at w n k d lt = get_or-map-range_with_len (λ j. j * w) 0 n k k d lt (omega arith)

-- later multiples are more
more_times : (w j k : ℕ) → 0 < w → j < k → j * w < k * w
more_times w j k some lt =
    let step : w * (j + 1) ≤ w * k = mul-le-mul_left w (omega arith) in
    omega (arith, step, mul_comm w k, mul_comm w j)

pub multiples_rise : (w n : ℕ) → 0 < w → IsStrictlyIncreasing (map (λ k. k * w) (range_with_len 0 n))
multiples_rise w n some k lt =
    let count = length-map-range_with_len (λ j. j * w) 0 n in
    rw (multiple_at w n k 0 (omega arith), multiple_at w n (k + 1) 0 (omega arith)) (more_times w k (k + 1) some (omega arith))

-- a number is less than the quotient that is rounded up exactly where the multiple is less
pub below_quotient : (live w k : ℕ) → 0 < w → k < div_ceil live w → k * w < live
below_quotient live w k some lt = by (cases_lt k (live / w))
  where
    whole : w * (live / w) + live % w ≡ live
    whole = omega arith

    by : (k < live / w) ⊎ (live / w ≤ k) → k * w < live
    by (inl less) = omega (arith, whole, more_times w k (live / w) some less, mul_comm w (live / w))
    by (inr last) =
        let same : k ≡ live / w = omega arith in
        let at : k * w ≡ live / w * w = ap (λ (n : ℕ). n * w) same in
        omega (arith, whole, at, mul_comm w (live / w))

pub quotient_above : (live w k : ℕ) → 0 < w → k * w < live → k < div_ceil live w
quotient_above live w k some lt = by (cases_lt k (live / w))
  where
    whole : w * (live / w) + live % w ≡ live
    whole = omega arith

    past : live / w < k → k * w < live → ⊥
    past above lt =
        let step : w * (live / w + 1) ≤ w * k = mul-le-mul_left w (omega arith) in
        omega (arith, whole, step, mul_comm w k, mul_comm w (live / w))

    at_last : live / w ≤ k → (live / w < k) ⊎ (k ≤ live / w) → k < div_ceil live w
    at_last last (inl above) = absurd (past above lt)
    at_last last (inr most) =
        let same : k ≡ live / w = omega arith in
        let at : k * w ≡ live / w * w = ap (λ (n : ℕ). n * w) same in
        omega (arith, whole, at, mul_comm w (live / w))

    by : (k < live / w) ⊎ (live / w ≤ k) → k < div_ceil live w
    by (inl less) = omega arith
    by (inr last) = at_last last (cases_lt (live / w) k)

-- the multiples are the first fingers
pub first_is : (live w n : ℕ) → n ≡ div_ceil live w → map (λ k. k * w) (range_with_len 0 n) ≡ first_fingers live w
unfolding first_fingers
first_is live w n is = ap (λ (m : ℕ). map (λ k. k * w) (range_with_len 0 m)) is

-- a gap is a first finger exactly where it is a multiple that is less than the number of live gates
pub first_rises : (live w : ℕ) → 0 < w → IsStrictlyIncreasing (first_fingers live w)
unfolding first_fingers
first_rises live w some = multiples_rise w (div_ceil live w) some

pub first_contained : (live w gap : ℕ) → 0 < w → Contains (first_fingers live w) gap → (gap < live) × ((k : ℕ) × (gap ≡ k * w))
unfolding first_fingers
first_contained live w gap some found =
    let count = length-map-range_with_len (λ j. j * w) 0 (div_ceil live w) in
    let in' : found.0 < div_ceil live w = omega (arith, found.1) in
    let is : gap ≡ found.0 * w = sym found.2 ∙ multiple_at w (div_ceil live w) found.0 gap in' in
    (omega (arith, is, below_quotient live w found.0 some in'), (found.0, is))

pub first_contains : (live w gap : ℕ) → 0 < w → (gap < live) × ((k : ℕ) × (gap ≡ k * w)) → Contains (first_fingers live w) gap
unfolding first_fingers
first_contains live w gap some multiple =
    let count = length-map-range_with_len (λ j. j * w) 0 (div_ceil live w) in
    let in' : multiple.1.0 < div_ceil live w = quotient_above live w multiple.1.0 some (omega (arith, multiple.0, multiple.1.1)) in
    (multiple.1.0, omega arith, multiple_at w (div_ceil live w) multiple.1.0 gap in' ∙ sym multiple.1.1)
