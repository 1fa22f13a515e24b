use Rattle.std.proofs.Common.{◌≡◌, ℕ, zero, suc, ◌+◌, ◌*◌, ◌^◌, ◌<◌, ◌≤◌, ◌⊎◌, inl, inr, ⊎_elim, List, [], ◌∷◌, length, get_or, refl, ap, sym, subst, ◌∙◌, arith}
use Rattle.std.proofs.lemmas.Bool.{cases_lt}
use Rattle.std.proofs.lemmas.List.{get_or_past}
use Rattle.std.proofs.lemmas.List.Elements.{All-contains, recursion_from_All}
use Rattle.std.proofs.lemmas.List.Kept.{AllPairs-from_increasing}
use Rattle.std.proofs.lemmas.Nat.{pow_pos}
use Rattle.std.specs.List.{AllByRecursion, Contains}
use Rattle.std.specs.List.Sorted.{IsStrictlyIncreasing}
use Rattle.pq_array.specs.Counts.{HalvesTo, HowMany, none, one_more, no_more, Counts}
use Rattle.pq_array.proofs.Halving.{double, halves_inside, inside_halves, OverPlaces, over_places}
use Rattle.pq_array.proofs.Descent.{right_child, right_inside}
use Rattle.pq_array.proofs.Replacing.{rising_tail}

-- only one number of a list's items have a property
pub HowMany-one : {A : Type 0} {P : A → Type 0} (xs : List A) (n m : ℕ) → HowMany P xs n → HowMany P xs m → n ≡ m
HowMany-one [] _ _ none none = refl
HowMany-one (x ∷ xs) _ _ (one_more _ _ n here many) (one_more _ _ m there others) = ap (λ (k : ℕ). suc k) (HowMany-one xs n m many others)
HowMany-one (x ∷ xs) _ _ (one_more _ _ n here many) (no_more _ _ m not_there others) = absurd (not_there here)
HowMany-one (x ∷ xs) _ _ (no_more _ _ n not_here many) (one_more _ _ m there others) = absurd (not_here there)
HowMany-one (x ∷ xs) _ _ (no_more _ _ n not_here many) (no_more _ _ m not_there others) = HowMany-one xs n m many others

-- the items of a property that is one of two are as many as those of the two
pub HowMany-either : {P Q R : ℕ → Type 0} (B : ℕ → Type 0) → ((x : ℕ) → B x → P x → Q x ⊎ R x) → ((x : ℕ) → B x → Q x → P x) → ((x : ℕ) → B x → R x → P x) →
    ((x : ℕ) → B x → Q x → R x → ⊥) → (xs : List ℕ) → AllByRecursion B xs → (n a b : ℕ) → HowMany P xs n → HowMany Q xs a → HowMany R xs b → n ≡ a + b
HowMany-either B to left right apart [] all _ _ _ none none none = refl
HowMany-either B to left right apart (x ∷ xs) all _ _ _ (one_more _ _ n p ps) (one_more _ _ a q qs) (one_more _ _ b r rs) = absurd (apart x all.0 q r)
HowMany-either B to left right apart (x ∷ xs) all _ _ _ (one_more _ _ n p ps) (one_more _ _ a q qs) (no_more _ _ b r rs) =
    omega (arith, HowMany-either B to left right apart xs all.1 n a b ps qs rs)
HowMany-either B to left right apart (x ∷ xs) all _ _ _ (one_more _ _ n p ps) (no_more _ _ a q qs) (one_more _ _ b r rs) =
    omega (arith, HowMany-either B to left right apart xs all.1 n a b ps qs rs)
HowMany-either B to left right apart (x ∷ xs) all _ _ _ (one_more _ _ n p ps) (no_more _ _ a q qs) (no_more _ _ b r rs) = absurd (⊎_elim q r (to x all.0 p))
HowMany-either B to left right apart (x ∷ xs) all _ _ _ (no_more _ _ n p ps) (one_more _ _ a q qs) _ = absurd (p (left x all.0 q))
HowMany-either B to left right apart (x ∷ xs) all _ _ _ (no_more _ _ n p ps) (no_more _ _ a q qs) (one_more _ _ b r rs) = absurd (p (right x all.0 r))
HowMany-either B to left right apart (x ∷ xs) all _ _ _ (no_more _ _ n p ps) (no_more _ _ a q qs) (no_more _ _ b r rs) =
    HowMany-either B to left right apart xs all.1 n a b ps qs rs

-- no items have a property that none has
pub HowMany-none : {P : ℕ → Type 0} (xs : List ℕ) (n : ℕ) → ((x : ℕ) → Contains xs x → P x → ⊥) → HowMany P xs n → n ≡ 0
HowMany-none [] _ out none = refl
HowMany-none (x ∷ xs) _ out (one_more _ _ n here many) = absurd (out x (0, omega arith, refl) here)
HowMany-none (x ∷ xs) _ out (no_more _ _ n not_here many) =
    HowMany-none xs n (λ y among. out y (suc among.0, omega (arith, among.1), among.2)) many

-- of numbers that rise one is a number that stands among them
pub HowMany-single : {P : ℕ → Type 0} (q : ℕ) → P q → (xs : List ℕ) (n : ℕ) → IsStrictlyIncreasing xs → ((x : ℕ) → Contains xs x → P x → x ≡ q) → Contains xs q →
    HowMany P xs n → n ≡ 1
HowMany-single q here [] _ rising only (k, lt, is) none = absurd (omega arith)
HowMany-single {P} q here (x ∷ xs) _ rising only among (one_more _ _ n there many) =
    let first : x ≡ q = only x (0, omega arith, refl) there in
    let rest : n ≡ 0 =
    HowMany-none xs n (λ y at is. omega (arith, first, at.2, only y (suc at.0, omega (arith, at.1), at.2) is, AllPairs-from_increasing (x ∷ xs) rising 0 (suc at.0) y (omega arith) (omega (arith, at.1)))) many in
    omega arith
HowMany-single {P} q here (x ∷ xs) _ rising only (zero, lt, is) (no_more _ _ n not_there many) = absurd (not_there (subst P (sym is) here))
HowMany-single q here (x ∷ xs) _ rising only (suc k, lt, is) (no_more _ _ n not_there many) =
    HowMany-single q here xs n (rising_tail x xs rising) (λ y at. only y (suc at.0, omega (arith, at.1), at.2)) (k, omega arith, is) many

-- the words are determined, but for word 0
pub Counts-one : (words other places : List ℕ) → Counts words places → Counts other places → length words ≡ length other →
    (node : ℕ) → 1 ≤ node → get_or words node 0 ≡ get_or other node 0
Counts-one words other places left right same node some =
    ⊎_elim inside (λ past. get_or_past words node 0 (omega (arith, left.size)) ∙ sym (get_or_past other node 0 (omega (arith, left.size)))) (cases_lt node (2 * 2 ^ left.height))
  where
    width : 2 ^ right.height ≡ 2 ^ left.height
    width = omega (arith, left.size, right.size)

    inside : node < 2 * 2 ^ left.height → get_or words node 0 ≡ get_or other node 0
    inside lt =
        let below : node < 2 * 2 ^ right.height = omega (arith, width) in
        HowMany-one places (get_or words node 0) (get_or other node 0) (left.counted node some lt) (rw width at (right.counted node some below))

-- the word of a node above the leaves is the sum of its children's
pub Counts-sum : (words places : List ℕ) → Counts words places → (node : ℕ) → 1 ≤ node → 2 * node + 1 < length words →
    get_or words node 0 ≡ get_or words (2 * node) 0 + get_or words (2 * node + 1) 0
Counts-sum words places counts node some lt = by (over_places counts.height (2 * node) (omega arith) (omega (arith, counts.size)))
  where
    by : OverPlaces (2 ^ counts.height) (2 * node) → get_or words node 0 ≡ get_or words (2 * node) 0 + get_or words (2 * node + 1) 0
    by over =
        let low = over.low in
        let k = over.halvings in
        let whole : node * 2 ^ suc k ≡ 2 ^ counts.height + low = omega (arith, over.is, ap (λ (x : ℕ). node * x) (double k)) in
        let right : (2 * node + 1) * 2 ^ k ≡ 2 ^ counts.height + (low + 2 ^ k) = right_child (2 ^ counts.height) node low k whole in
        let fits : low + 2 ^ k < 2 ^ counts.height = right_inside counts.height node low k whole over.inside in
        let two : 2 ^ suc k ≡ 2 * 2 ^ k = double k in
        HowMany-either (λ place. place < 2 ^ counts.height)
        (λ place inside at.
        let within : (low ≤ place) × (place < low + 2 ^ suc k) = inside_halves counts.height node low (suc k) place whole over.inside inside at in
        ⊎_elim (λ less. inl (halves_inside (2 ^ counts.height) (2 * node) low k place over.is within.0 less))
        (λ le. inr (halves_inside (2 ^ counts.height) (2 * node + 1) (low + 2 ^ k) k place right le (omega (arith, within.1)))) (cases_lt place (low + 2 ^ k)))
        (λ place inside at.
        let within : (low ≤ place) × (place < low + 2 ^ k) = inside_halves counts.height (2 * node) low k place over.is over.inside inside at in
        halves_inside (2 ^ counts.height) node low (suc k) place whole within.0 (omega (arith, within.1)))
        (λ place inside at.
        let within : (low + 2 ^ k ≤ place) × (place < low + 2 ^ k + 2 ^ k) = inside_halves counts.height (2 * node + 1) (low + 2 ^ k) k place right fits inside at in
        halves_inside (2 ^ counts.height) node low (suc k) place whole (omega (arith, within.0)) (omega (arith, within.1)))
        (λ place inside first second.
        omega (
          arith,
          (inside_halves counts.height (2 * node) low k place over.is over.inside inside first).1,
          (inside_halves counts.height (2 * node + 1) (low + 2 ^ k) k place right fits inside second).0,
        ))
        places (recursion_from_All (λ place. place < 2 ^ counts.height) places counts.in_range)
        (get_or words node 0) (get_or words (2 * node) 0) (get_or words (2 * node + 1) 0)
        (counts.counted node some (omega (arith, counts.size)))
        (counts.counted (2 * node) (omega arith) (omega (arith, counts.size)))
        (counts.counted (2 * node + 1) (omega arith) (omega (arith, counts.size)))

-- only its own place gives a leaf
leaf_of : (height place other : ℕ) → place < 2 ^ height → other < 2 ^ height → HalvesTo (2 ^ height + other) (2 ^ height + place) → other ≡ place
leaf_of height place other inside fits halves =
    let within : (place ≤ other) × (other < place + 2 ^ 0) = inside_halves height (2 ^ height + place) place 0 other (omega arith) inside fits halves in
    omega (arith, within.0, within.1)

-- the word of a leaf says whether its place is live
pub Counts-live_leaf : (words places : List ℕ) → Counts words places → (width place : ℕ) → length words ≡ 2 * width → place < width → Contains places place →
    get_or words (width + place) 0 ≡ 1
Counts-live_leaf words places counts width place size inside among =
    let power : width ≡ 2 ^ counts.height = omega (arith, counts.size) in
    rw power
    (HowMany-single place (0, omega arith) places (get_or words (2 ^ counts.height + place) 0) counts.in_order
    (λ other at halves. leaf_of counts.height place other (omega arith) (All-contains (λ p. p < 2 ^ counts.height) places other counts.in_range at) halves)
    among (counts.counted (2 ^ counts.height + place) (omega (arith, pow_pos counts.height)) (omega arith)))

pub Counts-other_leaf : (words places : List ℕ) → Counts words places → (width place : ℕ) → length words ≡ 2 * width → place < width → (Contains places place → ⊥) →
    get_or words (width + place) 0 ≡ 0
Counts-other_leaf words places counts width place size inside out =
    let power : width ≡ 2 ^ counts.height = omega (arith, counts.size) in
    rw power
    (HowMany-none places (get_or words (2 ^ counts.height + place) 0)
    (λ other at halves.
    let same : other ≡ place = leaf_of counts.height place other (omega arith) (All-contains (λ p. p < 2 ^ counts.height) places other counts.in_range at) halves in
    out (subst (Contains places) same at))
    (counts.counted (2 ^ counts.height + place) (omega (arith, pow_pos counts.height)) (omega arith)))
