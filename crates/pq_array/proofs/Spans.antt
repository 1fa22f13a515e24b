use Rattle.std.proofs.Common.{◌≡◌, ℕ, zero, suc, ◌+◌, ◌-◌, ◌*◌, ◌^◌, ◌<◌, ◌≤◌, ⊎_elim, min, Option, Some, None, List, [], ◌∷◌, length, set, get_or, refl, ap, subst, arith}
use Rattle.std.proofs.lemmas.Bool.{cases_lt}
use Rattle.std.proofs.lemmas.List.Elements.{All-from_recursion}
use Rattle.std.specs.List.{AllByRecursion}
use Rattle.std.specs.List.Sorted.{IsStrictlyIncreasing}
use Rattle.pq_array.specs.Cells.{IsLive, rank, live_places, live_places_from}
use Rattle.pq_array.specs.Counts.{HalvesTo, HowMany, none, one_more, no_more, Counts, IsLowered}
use Rattle.pq_array.proofs.Halving.{halves_inside, inside_halves, OverPlaces, over_places, over_some, over_below}
use Rattle.pq_array.proofs.Ranks.{rank-nil, rank-le, rank-lt, rank-set_before, rank-set_behind}

-- each node's word is by how much the rank rises over its places
abbrev pub Spans : {A : Type 0} → ℕ → List (Option A) → List ℕ → Type 0
Spans width cells words = (node low halvings : ℕ) → node * 2 ^ halvings ≡ width + low → low < width →
    rank cells low + get_or words node 0 ≡ rank cells (low + 2 ^ halvings)

-- the rank behind the first cell
rank-none : {A : Type 0} (cells : List (Option A)) (place : ℕ) → rank (None ∷ cells) place ≡ rank cells (place - 1)
rank-none cells zero = refl
rank-none cells (suc place) = ap (λ (n : ℕ). rank cells n) (omega arith)

rank-some : {A : Type 0} (gate : A) (cells : List (Option A)) (place : ℕ) → rank (Some gate ∷ cells) place ≡ min 1 place + rank cells (place - 1)
rank-some gate cells zero = refl
rank-some gate cells (suc place) =
    let back : rank cells (suc place - 1) ≡ rank cells place = ap (λ (n : ℕ). rank cells n) (omega arith) in
    omega arith

-- the first place is before both, between them or behind both
data Stands (low high first : ℕ) : Type 0 where
  ahead : first < low → Stands low high first
  among : low ≤ first → first < high → Stands low high first
  past : high ≤ first → Stands low high first

stands : (low high first : ℕ) → Stands low high first
stands low high first = ⊎_elim ahead (λ from. ⊎_elim (among from) past (cases_lt first high)) (cases_lt first low)

-- as many live places lie from low up to high as the rank rises between them
pub rises_by_count : {A : Type 0} (P : ℕ → Type 0) (low high : ℕ) → low ≤ high → (cells : List (Option A)) (first count : ℕ) →
    ((place : ℕ) → place < first + length cells → P place → (low ≤ place) × (place < high)) →
    ((place : ℕ) → place < first + length cells → low ≤ place → place < high → P place) →
    HowMany P (live_places_from first cells) count →
    rank cells (low - first) + count ≡ rank cells (high - first)
rises_by_count {A} P low high le [] first count inside all none = rw (rank-nil A (low - first), rank-nil A (high - first)) refl
rises_by_count P low high le (None ∷ cells) first count inside all many =
    let later : rank cells (low - (first + 1)) + count ≡ rank cells (high - (first + 1)) =
    rises_by_count P low high le cells (first + 1) count (λ place lt. inside place (omega arith)) (λ place lt. all place (omega arith)) many in
    let below : low - first - 1 ≡ low - (first + 1) = omega arith in
    let above : high - first - 1 ≡ high - (first + 1) = omega arith in
    rw (rank-none cells (low - first), rank-none cells (high - first), below, above) later
rises_by_count P low high le (Some gate ∷ cells) first count inside all (one_more _ _ less here many) =
    let later : rank cells (low - (first + 1)) + less ≡ rank cells (high - (first + 1)) =
    rises_by_count P low high le cells (first + 1) less (λ place lt. inside place (omega arith)) (λ place lt. all place (omega arith)) many in
    let below : low - first - 1 ≡ low - (first + 1) = omega arith in
    let above : high - first - 1 ≡ high - (first + 1) = omega arith in
    let within : (low ≤ first) × (first < high) = inside first (omega arith) here in
    rw (rank-some gate cells (low - first), rank-some gate cells (high - first), below, above) (omega arith)
rises_by_count P low high le (Some gate ∷ cells) first count inside all (no_more _ _ _ not_here many) =
    let later : rank cells (low - (first + 1)) + count ≡ rank cells (high - (first + 1)) =
    rises_by_count P low high le cells (first + 1) count (λ place lt. inside place (omega arith)) (λ place lt. all place (omega arith)) many in
    let below : low - first - 1 ≡ low - (first + 1) = omega arith in
    let above : high - first - 1 ≡ high - (first + 1) = omega arith in
    rw (rank-some gate cells (low - first), rank-some gate cells (high - first), below, above)
    (elim (stands low high first) [
      | ahead lt ↦ omega arith
      | among from to ↦ absurd (not_here (all first (omega arith) from to))
      | past from ↦ omega arith
    ])

-- and the other way round
pub count_by_rise : {A : Type 0} (P : ℕ → Type 0) (low high : ℕ) → low ≤ high → (cells : List (Option A)) (first count : ℕ) →
    ((place : ℕ) → place < first + length cells → P place → (low ≤ place) × (place < high)) →
    ((place : ℕ) → place < first + length cells → low ≤ place → place < high → P place) →
    rank cells (low - first) + count ≡ rank cells (high - first) →
    HowMany P (live_places_from first cells) count
count_by_rise {A} P low high le [] first count inside all is =
    let zero_many : 0 ≡ count = omega (arith, rank-nil A (low - first), rank-nil A (high - first)) in
    subst (HowMany P []) zero_many none
count_by_rise P low high le (None ∷ cells) first count inside all is =
    let below : low - first - 1 ≡ low - (first + 1) = omega arith in
    let above : high - first - 1 ≡ high - (first + 1) = omega arith in
    count_by_rise P low high le cells (first + 1) count (λ place lt. inside place (omega arith)) (λ place lt. all place (omega arith))
    (rw (rank-none cells (low - first), rank-none cells (high - first), below, above) at is)
count_by_rise P low high le (Some gate ∷ cells) first count inside all is =
    let below : low - first - 1 ≡ low - (first + 1) = omega arith in
    let above : high - first - 1 ≡ high - (first + 1) = omega arith in
    let rise : min 1 (low - first) + rank cells (low - (first + 1)) + count ≡ min 1 (high - first) + rank cells (high - (first + 1)) =
    rw (rank-some gate cells (low - first), rank-some gate cells (high - first), below, above) at is in
    let fewer = count_by_rise P low high le cells (first + 1) (count - 1) (λ place lt. inside place (omega arith)) (λ place lt. all place (omega arith)) in
    let same = count_by_rise P low high le cells (first + 1) count (λ place lt. inside place (omega arith)) (λ place lt. all place (omega arith)) in
    elim (stands low high first) [
      | ahead lt ↦ no_more first _ count (λ here. absurd (omega (arith, (inside first (omega arith) here).0))) (same (omega arith))
      | among from to ↦
          let no_fall : rank cells (low - (first + 1)) ≤ rank cells (high - (first + 1)) = rank-le cells (low - (first + 1)) (high - (first + 1)) (omega arith) in
          let some : suc (count - 1) ≡ count = omega arith in
          subst (HowMany P (first ∷ live_places_from (first + 1) cells)) some (one_more first _ (count - 1) (all first (omega arith) from to) (fewer (omega arith)))
      | past from ↦ no_more first _ count (λ here. absurd (omega (arith, (inside first (omega arith) here).1))) (same (omega arith))
    ]

-- numbers that rise, with a lesser one in front
rising-cons : (x : ℕ) (xs : List ℕ) → AllByRecursion (λ y. x < y) xs → IsStrictlyIncreasing xs → IsStrictlyIncreasing (x ∷ xs)
rising-cons x [] above rising k lt = absurd (omega arith)
rising-cons x (y ∷ ys) above rising zero lt = above.0
rising-cons x (y ∷ ys) above rising (suc k) lt =
    let next : suc k + 1 ≡ suc (k + 1) = omega arith in
    rw next (rising k (omega arith))

-- what follows for each
recursion_weaker : (P Q : ℕ → Type 0) → ((x : ℕ) → P x → Q x) → (xs : List ℕ) → AllByRecursion P xs → AllByRecursion Q xs
recursion_weaker P Q follows [] all = tt
recursion_weaker P Q follows (x ∷ xs) all = (follows x all.0, recursion_weaker P Q follows xs all.1)

-- the live places are places of the cells
pub live_places_inside : {A : Type 0} (cells : List (Option A)) (first low end : ℕ) → low ≤ first → first + length cells ≤ end →
    AllByRecursion (λ place. (low ≤ place) × (place < end)) (live_places_from first cells)
live_places_inside [] first low end from to = tt
live_places_inside (None ∷ cells) first low end from to = live_places_inside cells (first + 1) low end (omega arith) (omega arith)
live_places_inside (Some gate ∷ cells) first low end from to =
    ((from, omega arith), live_places_inside cells (first + 1) low end (omega arith) (omega arith))

-- and rise
pub live_places_rise : {A : Type 0} (cells : List (Option A)) (first : ℕ) → IsStrictlyIncreasing (live_places_from first cells)
live_places_rise [] first k lt = absurd (omega arith)
live_places_rise (None ∷ cells) first k lt = live_places_rise cells (first + 1) k lt
live_places_rise (Some gate ∷ cells) first k lt =
    rising-cons first (live_places_from (first + 1) cells)
    (recursion_weaker (λ y. (first + 1 ≤ y) × (y < first + 1 + length cells)) (λ y. first < y) (λ y within. omega arith)
    (live_places_from (first + 1) cells) (live_places_inside cells (first + 1) (first + 1) (first + 1 + length cells) (omega arith) (omega arith)))
    (live_places_rise cells (first + 1)) k lt

-- the words of a tree that counts the live places
pub Spans-from_Counts : {A : Type 0} (cells : List (Option A)) (words : List ℕ) (counts : Counts words (live_places cells)) →
    length cells ≤ 2 ^ counts.height → Spans (2 ^ counts.height) cells words
Spans-from_Counts cells words counts fits node low k is inside =
    let rise = rises_by_count (λ place. HalvesTo (2 ^ counts.height + place) node) low (low + 2 ^ k) (omega arith) cells 0 (get_or words node 0)
    (λ place lt halves. inside_halves counts.height node low k place is inside (omega arith) halves)
    (λ place lt from to. halves_inside (2 ^ counts.height) node low k place is from to)
    (counts.counted node (over_some counts.height node low k is) (over_below (2 ^ counts.height) node low k is inside)) in
    let from_zero : low - 0 ≡ low = omega arith in
    let to_zero : low + 2 ^ k - 0 ≡ low + 2 ^ k = omega arith in
    rw (from_zero, to_zero) at rise

-- and back
pub Counts-from_Spans : {A : Type 0} (cells : List (Option A)) (words : List ℕ) (height : ℕ) → length words ≡ 2 * 2 ^ height →
    length cells ≤ 2 ^ height → Spans (2 ^ height) cells words → Counts words (live_places cells)
Counts-from_Spans cells words height size fits spans = record {
  height = height;
  size = size;
  in_order = live_places_rise cells 0;
  in_range = All-from_recursion (λ place. place < 2 ^ height) (live_places cells)
      (recursion_weaker (λ y. (0 ≤ y) × (y < 2 ^ height)) (λ y. y < 2 ^ height) (λ y within. within.1)
      (live_places cells) (live_places_inside cells 0 0 (2 ^ height) (omega arith) (omega arith)));
  counted = λ node some below. at node some below (over_places height node some below);
}
  where
    at : (node : ℕ) → 1 ≤ node → node < 2 * 2 ^ height → OverPlaces (2 ^ height) node →
        HowMany (λ place. HalvesTo (2 ^ height + place) node) (live_places cells) (get_or words node 0)
    at node some below over =
        let from_zero : over.low - 0 ≡ over.low = omega arith in
        let to_zero : over.low + 2 ^ over.halvings - 0 ≡ over.low + 2 ^ over.halvings = omega arith in
        count_by_rise (λ place. HalvesTo (2 ^ height + place) node) over.low (over.low + 2 ^ over.halvings) (omega arith) cells 0 (get_or words node 0)
        (λ place lt halves. inside_halves height node over.low over.halvings place over.is over.inside (omega arith) halves)
        (λ place lt from to. halves_inside (2 ^ height) node over.low over.halvings place over.is from to)
        (rw (from_zero, to_zero) (spans node over.low over.halvings over.is over.inside))

-- a place that is lowered becomes a tombstone
pub Spans-lowered : {A : Type 0} (height : ℕ) (cells : List (Option A)) (place : ℕ) (old new : List ℕ) →
    IsLive cells place → place < 2 ^ height → Spans (2 ^ height) cells old → IsLowered (2 ^ height) place old new →
    Spans (2 ^ height) (set cells place None) new
Spans-lowered height cells place old new here fits spans lowered node low k is inside =
    elim (stands low (low + 2 ^ k) place) [
      | ahead lt ↦
          let kept : get_or new node 0 ≡ get_or old node 0 =
          lowered.elsewhere node (λ some halves. absurd (omega (arith, (inside_halves height node low k place is inside fits halves).0))) in
          omega (arith, spans node low k is inside, rank-set_behind cells place low here lt, rank-set_behind cells place (low + 2 ^ k) here (omega arith))
      | among from to ↦
          let less : get_or new node 0 + 1 ≡ get_or old node 0 =
          lowered.on_the_way node (over_some height node low k is) (halves_inside (2 ^ height) node low k place is from to) in
          omega (arith, spans node low k is inside, rank-set_before cells place low from, rank-set_behind cells place (low + 2 ^ k) here to)
      | past from ↦
          let kept : get_or new node 0 ≡ get_or old node 0 =
          lowered.elsewhere node (λ some halves. absurd (omega (arith, (inside_halves height node low k place is inside fits halves).1))) in
          omega (arith, spans node low k is inside, rank-set_before cells place low (omega arith), rank-set_before cells place (low + 2 ^ k) from)
    ]

-- the words on the way from a live place's leaf to the root count it
pub counted_on_the_way : {A : Type 0} (height : ℕ) (cells : List (Option A)) (words : List ℕ) (place node : ℕ) →
    Spans (2 ^ height) cells words → IsLive cells place → place < 2 ^ height → 1 ≤ node → node < 2 * 2 ^ height →
    HalvesTo (2 ^ height + place) node → 1 ≤ get_or words node 0
counted_on_the_way height cells words place node spans here fits some below halves = by (over_places height node some below)
  where
    by : OverPlaces (2 ^ height) node → 1 ≤ get_or words node 0
    by over =
        let within : (over.low ≤ place) × (place < over.low + 2 ^ over.halvings) = inside_halves height node over.low over.halvings place over.is over.inside fits halves in
        omega (arith, spans node over.low over.halvings over.is over.inside, rank-le cells over.low place within.0, rank-lt cells place (over.low + 2 ^ over.halvings) here within.1)
