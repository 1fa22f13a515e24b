use Rattle.std.proofs.Common.{◌≡◌, ◌≢◌, ℕ, zero, suc, ◌+◌, ◌-◌, ◌*◌, ◌^◌, ◌<◌, ◌≤◌, ⊎_elim, Option, List, length, set, get_or, ap, arith, get_or-set_same, get_or-set_other}
use Rattle.std.proofs.lemmas.Bool.{cases_eq}
use Rattle.pq_array.specs.Cells.{IsLive, rank}
use Rattle.pq_array.proofs.Halving.{double, OverPlaces, over_places, over_some, over_below}
use Rattle.pq_array.proofs.Ranks.{live_or_not, rank-suc_live, rank-suc_dead, rank-le-live, length-live-le}
use Rattle.pq_array.proofs.Spans.{Spans}
use Rattle.pq_array.proofs.Descent.{left_child, right_child, right_inside}

-- the words from this node on count
abbrev pub SpansFrom : {A : Type 0} → ℕ → ℕ → List (Option A) → List ℕ → Type 0
SpansFrom first width cells words = (node low halvings : ℕ) → first ≤ node → node * 2 ^ halvings ≡ width + low → low < width →
    rank cells low + get_or words node 0 ≡ rank cells (low + 2 ^ halvings)

-- behind the last leaf there is none
pub counts_none : {A : Type 0} (width first : ℕ) (cells : List (Option A)) (words : List ℕ) → 2 * width ≤ first → SpansFrom first width cells words
counts_none width first cells words le node low k from is inside = absurd (omega (arith, over_below width node low k is inside))

-- one more, where its own word is right
pub counts_more : {A : Type 0} (width node word : ℕ) (cells : List (Option A)) (words : List ℕ) → node < length words → SpansFrom (suc node) width cells words →
    ((low halvings : ℕ) → node * 2 ^ halvings ≡ width + low → low < width → rank cells low + word ≡ rank cells (low + 2 ^ halvings)) →
    SpansFrom node width cells (set words node word)
counts_more width node word cells words fits counted right v low k from is inside = ⊎_elim here there (cases_eq v node)
  where
    here : v ≡ node → rank cells low + get_or (set words node word) v 0 ≡ rank cells (low + 2 ^ k)
    here same =
        let written : get_or (set words node word) node 0 ≡ word = get_or-set_same words node word 0 fits in
        rw (same, written) (right low k (rw same at is) inside)

    there : v ≢ node → rank cells low + get_or (set words node word) v 0 ≡ rank cells (low + 2 ^ k)
    there other =
        let kept : get_or (set words node word) v 0 ≡ get_or words v 0 = get_or-set_other words node v word 0 other in
        rw kept (counted v low k (omega arith) is inside)

-- above the leaves the word is the sum of the children's
pub sum_counts : {A : Type 0} (height width node : ℕ) (cells : List (Option A)) (words : List ℕ) → width ≡ 2 ^ height → 1 ≤ node → node < width →
    SpansFrom (suc node) width cells words →
    (low halvings : ℕ) → node * 2 ^ halvings ≡ width + low → low < width →
    rank cells low + (get_or words (2 * node) 0 + get_or words (2 * node + 1) 0) ≡ rank cells (low + 2 ^ halvings)
sum_counts height width node cells words power some lt counted low zero is inside = absurd (omega arith)
sum_counts height width node cells words power some lt counted low (suc k) is inside =
    let first : rank cells low + get_or words (2 * node) 0 ≡ rank cells (low + 2 ^ k) =
    counted (2 * node) low k (omega arith) (left_child width node low k is) inside in
    let fits : low + 2 ^ k < 2 ^ height = right_inside height node low k (rw power at is) (omega arith) in
    let second : rank cells (low + 2 ^ k) + get_or words (2 * node + 1) 0 ≡ rank cells (low + 2 ^ k + 2 ^ k) =
    counted (2 * node + 1) (low + 2 ^ k) k (omega arith) (right_child width node low k is) (omega arith) in
    let end : low + 2 ^ suc k ≡ low + 2 ^ k + 2 ^ k = omega (arith, double k) in
    let same : rank cells (low + 2 ^ suc k) ≡ rank cells (low + 2 ^ k + 2 ^ k) = ap (λ (x : ℕ). rank cells x) end in
    omega arith

-- which is no more than the number of cells
pub sum_fits : {A : Type 0} (height width node : ℕ) (cells : List (Option A)) (words : List ℕ) → width ≡ 2 ^ height → 1 ≤ node → node < width →
    SpansFrom (suc node) width cells words → get_or words (2 * node) 0 + get_or words (2 * node + 1) 0 ≤ length cells
sum_fits height width node cells words power some lt counted = by (over_places height node some (omega arith))
  where
    by : OverPlaces (2 ^ height) node → get_or words (2 * node) 0 + get_or words (2 * node + 1) 0 ≤ length cells
    by over =
        let whole : rank cells over.low + (get_or words (2 * node) 0 + get_or words (2 * node + 1) 0) ≡ rank cells (over.low + 2 ^ over.halvings) =
        sum_counts height width node cells words power some lt counted over.low over.halvings (rw power over.is) (rw power over.inside) in
        omega (arith, rank-le-live cells (over.low + 2 ^ over.halvings), length-live-le cells)

-- at a leaf it says whether the cell is live
pub leaf_counts : {A : Type 0} (width node word : ℕ) (cells : List (Option A)) → width ≤ node → (IsLive cells (node - width) → word ≡ 1) →
    ((IsLive cells (node - width) → ⊥) → word ≡ 0) →
    (low halvings : ℕ) → node * 2 ^ halvings ≡ width + low → low < width → rank cells low + word ≡ rank cells (low + 2 ^ halvings)
leaf_counts width node word cells from one none low zero is inside =
    let place : node - width ≡ low = omega arith in
    let step : low + 1 ≡ suc low = omega arith in
    let next : rank cells (low + 1) ≡ rank cells (suc low) = ap (λ (x : ℕ). rank cells x) step in
    ⊎_elim
    (λ here. let is_one : word ≡ 1 = one (rw place here) in omega (arith, next, rank-suc_live cells low here))
    (λ dead. let is_none : word ≡ 0 = none (rw place dead) in omega (arith, next, rank-suc_dead cells low dead))
    (live_or_not cells low)
leaf_counts width node word cells from one none low (suc k) is inside =
    absurd (omega (arith, over_below width (2 * node) low k (left_child width node low k is) inside))

-- the whole tree
pub Spans-from_first : {A : Type 0} (height width first : ℕ) (cells : List (Option A)) (words : List ℕ) → width ≡ 2 ^ height → first ≤ 1 →
    SpansFrom first width cells words → Spans (2 ^ height) cells words
Spans-from_first height width first cells words power le counted node low k is inside =
    counted node low k (omega (arith, over_some height node low k is)) (rw power is) (rw power inside)
