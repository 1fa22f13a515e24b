use Rattle.std.proofs.Common.{◌≡◌, ℕ, zero, suc, ◌+◌, ◌-◌, ◌*◌, ◌/◌, ◌%◌, ◌^◌, ◌<◌, ◌≤◌, ◌⊎◌, inl, inr, ⊎_elim, subst, ap, sym, ◌∙◌, arith}
use Rattle.std.proofs.Math.Nat.{mul-le-mul_left, mul-le-mul_right, lt_of_mul-lt-mul_right, pow-suc, pow-le-pow_right, le-mul_of_pos_right}
use Rattle.std.proofs.lemmas.Bool.{cases_lt}
use Rattle.std.proofs.lemmas.Nat.{pow_pos, pow-add, shr_split, shr_high, mod_below}
use Rattle.pq_array.specs.Counts.{HalvesTo}

-- twice a power of two
pub double : (k : ℕ) → 2 ^ suc k ≡ 2 * 2 ^ k
double k = omega (arith, pow-suc 2 k)

-- a node over the places from `low` on stands over their leaves: halving one of these gives it
pub halves_inside : (width node low k place : ℕ) → node * 2 ^ k ≡ width + low → low ≤ place → place < low + 2 ^ k → HalvesTo (width + place) node
halves_inside width node low k place is from to =
    let leaf : width + place ≡ node * 2 ^ k + (place - low) = omega arith in
    (k, ap (λ (n : ℕ). n / 2 ^ k) leaf ∙ shr_high node k (place - low) (omega arith))

-- halving n t times gives v where n lies in the t-th block of v
block : (n t v : ℕ) → n / 2 ^ t ≡ v → (v * 2 ^ t ≤ n) × (n < v * 2 ^ t + 2 ^ t)
block n t v is =
    let whole : v * 2 ^ t + n % 2 ^ t ≡ n = rw is at (shr_split n t) in
    let rest : n % 2 ^ t < 2 ^ t = mod_below n (2 ^ t) (pow_pos t) in
    (omega arith, omega arith)

-- what stands over places is a node: not 0, and below twice the number of leaves
pub over_some : (height node low k : ℕ) → node * 2 ^ k ≡ 2 ^ height + low → 1 ≤ node
over_some height zero low k is = absurd (omega (arith, pow_pos height))
over_some height (suc node) low k is = omega arith

pub over_below : (width node low k : ℕ) → node * 2 ^ k ≡ width + low → low < width → node < 2 * width
over_below width node low k is inside = omega (arith, le-mul_of_pos_right node (pow_pos k))

-- more halvings than the node is high lead above it
not_more : (v w k more n : ℕ) → w ≤ v * 2 ^ k → n < 2 * w → v * 2 ^ (k + suc more) ≤ n → ⊥
not_more v w k more n from to le =
    let split : 2 ^ (k + suc more) ≡ 2 ^ k * 2 ^ suc more = pow-add 2 k (suc more) in
    let whole : v * 2 ^ (k + suc more) ≡ (v * 2 ^ k) * 2 ^ suc more = omega (arith, ap (λ (x : ℕ). v * x) split) in
    let two : 2 ≤ 2 ^ suc more = omega (arith, double more, pow_pos more) in
    let twice : (v * 2 ^ k) * 2 ≤ (v * 2 ^ k) * 2 ^ suc more = mul-le-mul_left (v * 2 ^ k) two in
    omega arith

-- fewer halvings don't reach it
not_fewer : (v h t more n : ℕ) → v * 2 ^ (t + suc more) < 2 * 2 ^ h → 1 ≤ v → 2 ^ h ≤ n → n < v * 2 ^ t + 2 ^ t → ⊥
not_fewer v h t more n to some from lt = by (cases_lt h (t + suc more))
  where
    -- what stands over this many leaves is no higher than the tree
    too_high : h < t + suc more → ⊥
    too_high high =
        let wide : 2 ^ suc h ≤ 2 ^ (t + suc more) = pow-le-pow_right (omega arith) (omega arith) in
        let more_wide : 2 ^ (t + suc more) ≤ 2 ^ (t + suc more) * v = le-mul_of_pos_right (2 ^ (t + suc more)) (omega arith) in
        omega (arith, double h)

    -- and below that the node's number is too large
    too_far : (rest : ℕ) → rest + t ≡ h → ⊥
    too_far rest is =
        let width : 2 ^ h ≡ 2 ^ rest * 2 ^ t = ap (λ (x : ℕ). 2 ^ x) (sym is) ∙ pow-add 2 rest t in
        let next : (v + 1) * 2 ^ t ≡ v * 2 ^ t + 2 ^ t = omega arith in
        let below : 2 ^ rest < v + 1 = lt_of_mul-lt-mul_right (2 ^ t) (omega arith) in
        let bound : 2 ^ rest * 2 ^ t ≤ v * 2 ^ t = mul-le-mul_right (2 ^ t) (omega arith) in
        let split : 2 ^ (t + suc more) ≡ 2 ^ t * (2 * 2 ^ more) = pow-add 2 t (suc more) ∙ ap (λ (x : ℕ). 2 ^ t * x) (double more) in
        let whole : v * 2 ^ (t + suc more) ≡ 2 * (v * 2 ^ t * 2 ^ more) = omega (arith, ap (λ (x : ℕ). v * x) split) in
        let grows : v * 2 ^ t ≤ v * 2 ^ t * 2 ^ more = le-mul_of_pos_right (v * 2 ^ t) (pow_pos more) in
        omega arith

    by : (h < t + suc more) ⊎ (t + suc more ≤ h) → ⊥
    by (inl high) = too_high high
    by (inr low) = too_far (h - t) (omega arith)

-- and halving any leaf that gives the node is halving one of these
pub inside_halves : (height node low k place : ℕ) → node * 2 ^ k ≡ 2 ^ height + low → low < 2 ^ height → place < 2 ^ height →
    HalvesTo (2 ^ height + place) node → (low ≤ place) × (place < low + 2 ^ k)
inside_halves height node low k place is short inside (t, halves) =
    ⊎_elim more (λ no_more. ⊎_elim fewer (λ no_fewer. same (omega arith)) (cases_lt t k)) (cases_lt k t)
  where
    within : (node * 2 ^ t ≤ 2 ^ height + place) × (2 ^ height + place < node * 2 ^ t + 2 ^ t)
    within = block (2 ^ height + place) t node halves

    some : 1 ≤ node
    some = over_some height node low k is

    more : k < t → (low ≤ place) × (place < low + 2 ^ k)
    more lt =
        let height_is : t ≡ k + suc (t - suc k) = omega arith in
        let from : node * 2 ^ (k + suc (t - suc k)) ≤ 2 ^ height + place = rw (← height_is) within.0 in
        absurd (not_more node (2 ^ height) k (t - suc k) (2 ^ height + place) (omega arith) (omega arith) from)

    fewer : t < k → (low ≤ place) × (place < low + 2 ^ k)
    fewer lt =
        let height_is : k ≡ t + suc (k - suc t) = omega arith in
        let to : node * 2 ^ (t + suc (k - suc t)) < 2 * 2 ^ height = rw (← height_is) (omega arith) in
        absurd (not_fewer node height t (k - suc t) (2 ^ height + place) to some (omega arith) within.1)

    same : t ≡ k → (low ≤ place) × (place < low + 2 ^ k)
    same is_k =
        let here : (node * 2 ^ k ≤ 2 ^ height + place) × (2 ^ height + place < node * 2 ^ k + 2 ^ k) = subst (λ (x : ℕ). (node * 2 ^ x ≤ 2 ^ height + place) × (2 ^ height + place < node * 2 ^ x + 2 ^ x)) is_k within in
        (omega arith, omega arith)

-- each node stands over places: it is so many halvings above the leaf of the first
pub record OverPlaces (width node : ℕ) : Type 0 where
  pub low : ℕ
  pub halvings : ℕ
  pub is : node * 2 ^ halvings ≡ width + low
  pub inside : low < width

-- in a tree twice as wide a node stands over twice the places
over_twice : (height node : ℕ) → OverPlaces (2 ^ height) node → OverPlaces (2 ^ suc height) node
over_twice height node over = record {
  low = 2 * over.low;
  halvings = suc over.halvings;
  is = omega (arith, over.is, double height, ap (λ (x : ℕ). node * x) (double over.halvings));
  inside = omega (arith, over.inside, double height);
}

-- a leaf stands over its own place
over_leaf : (width node : ℕ) → width ≤ node → node < 2 * width → OverPlaces width node
over_leaf width node from to = record { low = node - width; halvings = 0; is = omega arith; inside = omega arith }

pub over_places : (height node : ℕ) → 1 ≤ node → node < 2 * 2 ^ height → OverPlaces (2 ^ height) node
over_places zero node some lt = record { low = 0; halvings = 0; is = omega arith; inside = omega arith }
over_places (suc height) node some lt =
    ⊎_elim (λ below. over_twice height node (over_places height node some (omega (arith, double height))))
    (λ from. over_leaf (2 ^ suc height) node from lt) (cases_lt node (2 ^ suc height))

-- all places of a node are places of the tree
pub over_end : (height node low k : ℕ) → node * 2 ^ k ≡ 2 ^ height + low → low < 2 ^ height → low + 2 ^ k ≤ 2 ^ height
over_end height node low k is short = ⊎_elim too_high inside (cases_lt (suc height) k)
  where
    some : 1 ≤ node
    some = over_some height node low k is

    too_high : suc height < k → low + 2 ^ k ≤ 2 ^ height
    too_high high =
        let wide : 2 ^ suc height ≤ 2 ^ k = pow-le-pow_right (omega arith) (omega arith) in
        let more_wide : 2 ^ k ≤ 2 ^ k * node = le-mul_of_pos_right (2 ^ k) some in
        absurd (omega (arith, double height))

    inside : k ≤ suc height → low + 2 ^ k ≤ 2 ^ height
    inside le =
        let rest : suc height ≡ (suc height - k) + k = omega arith in
        let width : 2 * 2 ^ height ≡ 2 ^ (suc height - k) * 2 ^ k = sym (double height) ∙ (ap (λ (x : ℕ). 2 ^ x) rest ∙ pow-add 2 (suc height - k) k) in
        let below : node < 2 ^ (suc height - k) = lt_of_mul-lt-mul_right (2 ^ k) (omega arith) in
        let next : (node + 1) * 2 ^ k ≤ 2 ^ (suc height - k) * 2 ^ k = mul-le-mul_right (2 ^ k) (omega arith) in
        omega arith
