-- The ways from the leaves to the root.
use Rattle.std.proofs.Common.{◌≡◌, ◌≢◌, ℕ, zero, suc, ◌+◌, ◌/◌, ◌^◌, ◌≤◌, ⊎_elim, List, [], ◌∷◌, ◌++◌, refl, sym, ap, ◌∙◌, arith}
use Rattle.std.specs.Prelude.{Contains}
use Rattle.std.proofs.lemmas.Bool.{cases_eq}
use Rattle.std.proofs.lemmas.Nat.{shr_le, shr-shr}
use Rattle.pq_array.specs.Counts.{HalvesTo}
use Rattle.pq_board.specs.Sums.{times, one_if_same}
use Rattle.pq_board.specs.Ways.{halves, way}
use Rattle.pq_board.specs.Law.{BeginsWith}
use Rattle.pq_board.proofs.Sums.{one_same, one_other, weigh_append, times_contains}

-- as many halvings as the number are enough
pub halves_enough : (a b n : ℕ) → n ≤ a → n ≤ b → halves a n ≡ halves b n
halves_enough zero zero n left right = refl
halves_enough zero (suc b) zero left right = refl
halves_enough zero (suc b) (suc n) left right = absurd (omega arith)
halves_enough (suc a) zero zero left right = refl
halves_enough (suc a) zero (suc n) left right = absurd (omega arith)
halves_enough (suc a) (suc b) zero left right = refl
halves_enough (suc a) (suc b) (suc n) left right = ap (λ (l : List ℕ). suc n ∷ l) (halves_enough a b (suc n / 2) (omega arith) (omega arith))

-- the way from a node on: the node, and the way from its half
pub halves_on : (n : ℕ) → 1 ≤ n → halves n n ≡ n ∷ halves (n / 2) (n / 2)
halves_on zero some = absurd (omega arith)
halves_on (suc n) some = ap (λ (l : List ℕ). suc n ∷ l) (halves_enough n (suc n / 2) (suc n / 2) (omega arith) (omega arith))

-- the nodes of a way are no greater than the first, and none is 0
pub halves_inside : (most n v : ℕ) → Contains (halves most n) v → (1 ≤ v) × (v ≤ n)
halves_inside zero n v (k, lt, is) = absurd (omega arith)
halves_inside (suc most) zero v (k, lt, is) = absurd (omega arith)
halves_inside (suc most) (suc n) v (zero, lt, is) = (omega (arith, is), omega (arith, is))
halves_inside (suc most) (suc n) v (suc k, lt, is) =
    let rest : (1 ≤ v) × (v ≤ suc n / 2) = halves_inside most (suc n / 2) v (k, omega arith, is) in
    (rest.0, omega arith)

-- what isn't among the numbers is there no time
pub times_none : (x : ℕ) (xs : List ℕ) → (Contains xs x → ⊥) → times x xs ≡ 0
times_none x [] out = refl
times_none x (y ∷ ys) out =
    let apart : y ≢ x = (λ e. out (0, omega arith, e)) in
    omega (arith, one_other y x apart, times_none x ys (λ at. out (suc at.0, omega (arith, at.1), at.2)))

-- no node stands on a way twice
pub times_halves : (most n v : ℕ) → times v (halves most n) ≤ 1
times_halves zero n v = omega arith
times_halves (suc most) zero v = omega arith
times_halves (suc most) (suc n) v =
    ⊎_elim
    (λ same.
    let rest : times v (halves most (suc n / 2)) ≡ 0 =
    times_none v (halves most (suc n / 2)) (λ at. absurd (omega (arith, (halves_inside most (suc n / 2) v at).1))) in
    omega (arith, ap (λ (x : ℕ). one_if_same (suc n) x) same, one_same (suc n)))
    (λ apart. omega (arith, one_other (suc n) v (λ e. apart (sym e)), times_halves most (suc n / 2) v))
    (cases_eq v (suc n))

-- what a number halves to stands on its way
pub halves_way : (k n v : ℕ) → n / 2 ^ k ≡ v → 1 ≤ v → Contains (halves n n) v
halves_way zero n v is some =
    let same : n ≡ v = omega arith in
    let on : halves n n ≡ n ∷ halves (n / 2) (n / 2) = halves_on n (omega arith) in
    rw on (0, omega arith, same)
halves_way (suc k) n v is some =
    let split : n / 2 ^ 1 / 2 ^ k ≡ n / 2 ^ (1 + k) = shr-shr n 1 k in
    let steps : n / 2 ^ (1 + k) ≡ n / 2 ^ suc k = ap (λ (x : ℕ). n / 2 ^ x) (omega arith) in
    let half : n / 2 ^ 1 ≡ n / 2 = refl in
    let next : n / 2 / 2 ^ k ≡ v = split ∙ steps ∙ is in
    let below : n / 2 / 2 ^ k ≤ n / 2 = shr_le (n / 2) k in
    let on : halves n n ≡ n ∷ halves (n / 2) (n / 2) = halves_on n (omega arith) in
    let at : Contains (halves (n / 2) (n / 2)) v = halves_way k (n / 2) v next some in
    rw on (suc at.0, omega (arith, at.1), at.2)

-- and the other way round
pub way_halves : (most n v : ℕ) → Contains (halves most n) v → HalvesTo n v
way_halves zero n v (k, lt, is) = absurd (omega arith)
way_halves (suc most) zero v (k, lt, is) = absurd (omega arith)
way_halves (suc most) (suc n) v (zero, lt, is) = (0, omega (arith, is))
way_halves (suc most) (suc n) v (suc k, lt, is) =
    let rest : HalvesTo (suc n / 2) v = way_halves most (suc n / 2) v (k, omega arith, is) in
    let split : suc n / 2 ^ 1 / 2 ^ rest.0 ≡ suc n / 2 ^ (1 + rest.0) = shr-shr (suc n) 1 rest.0 in
    (1 + rest.0, sym split ∙ rest.1)

-- so a node stands on a way once where the leaf halves to it, and else never
pub times_on : (leaves place v : ℕ) → 1 ≤ v → HalvesTo (leaves + place) v → times v (way leaves place) ≡ 1
times_on leaves place v some halves =
    omega (arith, times_halves (leaves + place) (leaves + place) v, times_contains v (way leaves place) (halves_way halves.0 (leaves + place) v halves.1 some))

pub times_off : (leaves place v : ℕ) → (HalvesTo (leaves + place) v → ⊥) → times v (way leaves place) ≡ 0
times_off leaves place v not = times_none v (way leaves place) (λ at. not (way_halves (leaves + place) (leaves + place) v at))

-- the first nodes of a way hold no node more often than the way
pub times_front : (v : ℕ) (nodes front : List ℕ) → BeginsWith nodes front → times v front ≤ times v nodes
times_front v nodes front (rest, is) =
    let same : times v (front ++ rest) ≡ times v nodes = ap (λ (l : List ℕ). times v l) is in
    omega (arith, weigh_append (λ y. one_if_same y v) front rest)

-- the next node isn't among them
pub times_next : (v : ℕ) (nodes front rest : List ℕ) → times v nodes ≤ 1 → front ++ v ∷ rest ≡ nodes → (times v front ≡ 0) × (1 ≤ times v nodes)
times_next v nodes front rest once is =
    let same : times v (front ++ v ∷ rest) ≡ times v nodes = ap (λ (l : List ℕ). times v l) is in
    (omega (arith, weigh_append (λ y. one_if_same y v) front (v ∷ rest), one_same v), omega (arith, weigh_append (λ y. one_if_same y v) front (v ∷ rest), one_same v))
