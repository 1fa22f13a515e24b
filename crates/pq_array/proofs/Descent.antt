use Rattle.std.proofs.Common.{◌≡◌, ℕ, zero, suc, ◌+◌, ◌-◌, ◌*◌, ◌/◌, ◌^◌, ◌<◌, ◌≤◌, ⊎_elim, Option, Some, None, List, length, get_or, slice_get, IsNone, IfSome, ◌↔◌, refl, ap, sym, ◌∙◌, arith}
use Rattle.std.proofs.lemmas.Bool.{cases_lt}
use Rattle.std.proofs.lemmas.Nat.{pow_pos}
use Rattle.std.proofs.Math.Nat.{le-mul_of_pos_right}
use Rattle.pq_array.specs.Cells.{live, IsLive, rank}
use Rattle.pq_array.specs.Tree.{IsTreeOf}
use Rattle.pq_array.proofs.Halving.{double, over_below, over_end}
use Rattle.pq_array.proofs.Ranks.{live_or_not, rank-le, rank-lt, get_live, rank-suc_live, rank-suc_dead, rank-le-live, length-live-le, rank_end}
use Rattle.pq_array.proofs.Spans.{Spans, Spans-from_Counts}

-- what the tree's words are, in one power of two
pub record Counting {A : Type 0} (cells : List (Option A)) (words : List ℕ) : Type 0 where
  pub height : ℕ
  pub size : length words ≡ 2 * 2 ^ height
  pub half : length words / 2 ≡ 2 ^ height
  pub fits : length cells ≤ 2 ^ height
  pub spans : Spans (2 ^ height) cells words

-- half of twice a number
pub halved : (n m : ℕ) → n ≡ 2 * m → n / 2 ≡ m
halved n m is = omega arith

pub counting : {A : Type 0} (cells : List (Option A)) (words : List ℕ) → IsTreeOf cells words → Counting cells words
counting cells words tree = record {
  height = tree.counts.height;
  size = tree.counts.size;
  half = halved (length words) (2 ^ tree.counts.height) tree.counts.size;
  fits = omega (arith, tree.leaves.1, halved (length words) (2 ^ tree.counts.height) tree.counts.size);
  spans = Spans-from_Counts cells words tree.counts (omega (arith, tree.leaves.1, halved (length words) (2 ^ tree.counts.height) tree.counts.size));
}

-- the root counts all
pub root_counts : {A : Type 0} (cells : List (Option A)) (words : List ℕ) → IsTreeOf cells words → get_or words 1 0 ≡ length (live cells)
root_counts cells words tree = by (counting cells words tree)
  where
    by : Counting cells words → get_or words 1 0 ≡ length (live cells)
    by t =
        omega (arith, t.spans 1 0 t.height (omega arith) (omega (arith, pow_pos t.height)), rank_end cells (0 + 2 ^ t.height) (omega (arith, t.fits)))

-- a node above the leaves has two children, over the first and the second half of its places
pub left_child : (width node low k : ℕ) → node * 2 ^ suc k ≡ width + low → 2 * node * 2 ^ k ≡ width + low
left_child width node low k is = omega (arith, ap (λ (x : ℕ). node * x) (double k))

pub right_child : (width node low k : ℕ) → node * 2 ^ suc k ≡ width + low → (2 * node + 1) * 2 ^ k ≡ width + (low + 2 ^ k)
right_child width node low k is = omega (arith, ap (λ (x : ℕ). node * x) (double k))

pub right_inside : (height node low k : ℕ) → node * 2 ^ suc k ≡ 2 ^ height + low → low < 2 ^ height → low + 2 ^ k < 2 ^ height
right_inside height node low k is inside = omega (arith, over_end height node low (suc k) is inside, double k, pow_pos k)

-- On the way down to a place: the node stands over it, `offset` behind the node's first place, half
-- the node's places are `half`, and `before` live cells stand before the node's places.
pub record GoesDown {A : Type 0} (width : ℕ) (cells : List (Option A)) (place node offset half before : ℕ) : Type 0 where
  pub low : ℕ
  pub halvings : ℕ
  pub is : node * 2 ^ halvings ≡ width + low
  pub inside : low < width
  pub here : place ≡ low + offset
  pub within : offset < 2 ^ halvings
  pub halves : half ≡ 2 ^ halvings / 2
  pub counted : before ≡ rank cells low

-- at the root
pub goes_down : {A : Type 0} (cells : List (Option A)) (words : List ℕ) (width place : ℕ) → IsTreeOf cells words → width ≡ length words / 2 → place < width →
    GoesDown width cells place 1 place (width / 2) 0
goes_down cells words width place tree is lt = by (counting cells words tree)
  where
    by : Counting cells words → GoesDown width cells place 1 place (width / 2) 0
    by t =
        let power : width ≡ 2 ^ t.height = is ∙ t.half in
        record {
          low = 0;
          halvings = t.height;
          is = omega arith;
          inside = omega arith;
          here = omega arith;
          within = omega arith;
          halves = ap (λ (x : ℕ). x / 2) power;
          counted = refl;
        }

-- a half that isn't nothing is a power of two
pub half_power : (k half : ℕ) → half ≡ 2 ^ k / 2 → 0 < half → (j : ℕ) × (k ≡ suc j) × (half ≡ 2 ^ j)
half_power zero half is some = absurd (omega arith)
half_power (suc j) half is some = (j, refl, is ∙ halved (2 ^ suc j) (2 ^ j) (double j))

-- to the first half
pub goes_left : {A : Type 0} {cells : List (Option A)} {width place node offset half before : ℕ} → 0 < half → offset < half →
    GoesDown width cells place node offset half before → GoesDown width cells place (2 * node) offset (half / 2) before
goes_left {A} {cells} {width} {place} {node} {offset} {half} {before} some lt at = by (half_power at.halvings half at.halves some)
  where
    by : (j : ℕ) × (at.halvings ≡ suc j) × (half ≡ 2 ^ j) → GoesDown width cells place (2 * node) offset (half / 2) before
    by (j, high, power) = record {
      low = at.low;
      halvings = j;
      is = left_child width node at.low j (rw high at at.is);
      inside = at.inside;
      here = at.here;
      within = omega arith;
      halves = ap (λ (x : ℕ). x / 2) power;
      counted = at.counted;
    }

-- or past the live cells of the first half to the second
pub goes_right : {A : Type 0} {cells : List (Option A)} {width place node offset half before : ℕ} (words : List ℕ) → IsTreeOf cells words → width ≡ length words / 2 →
    0 < half → half ≤ offset → GoesDown width cells place node offset half before →
    GoesDown width cells place (2 * node + 1) (offset - half) (half / 2) (before + get_or words (2 * node) 0)
goes_right {A} {cells} {width} {place} {node} {offset} {half} {before} words tree is some le at = by (counting cells words tree) (half_power at.halvings half at.halves some)
  where
    by : Counting cells words → (j : ℕ) × (at.halvings ≡ suc j) × (half ≡ 2 ^ j) →
        GoesDown width cells place (2 * node + 1) (offset - half) (half / 2) (before + get_or words (2 * node) 0)
    by t (j, high, power) =
        let wide : width ≡ 2 ^ t.height = is ∙ t.half in
        let over : node * 2 ^ suc j ≡ width + at.low = rw high at at.is in
        let left : 2 * node * 2 ^ j ≡ 2 ^ t.height + at.low = rw wide at (left_child width node at.low j over) in
        let rise : rank cells at.low + get_or words (2 * node) 0 ≡ rank cells (at.low + 2 ^ j) = t.spans (2 * node) at.low j left (omega arith) in
        let inside : at.low + 2 ^ j < 2 ^ t.height = right_inside t.height node at.low j (rw wide at over) (omega arith) in
        let both : 2 ^ at.halvings ≡ 2 * 2 ^ j = ap (λ (x : ℕ). 2 ^ x) high ∙ double j in
        record {
          low = at.low + 2 ^ j;
          halvings = j;
          is = right_child width node at.low j over;
          inside = omega arith;
          here = omega arith;
          within = omega arith;
          halves = ap (λ (x : ℕ). x / 2) power;
          counted = omega arith;
        }

-- at a leaf all live cells before the place are counted
pub gone_down : {A : Type 0} {cells : List (Option A)} {width place node offset half before : ℕ} → half ≤ 0 →
    GoesDown width cells place node offset half before → before ≡ rank cells place
gone_down {A} {cells} {width} {place} {node} {offset} {half} {before} none at = by at.halvings refl
  where
    by : (k : ℕ) → k ≡ at.halvings → before ≡ rank cells place
    by zero is =
        let one : 2 ^ at.halvings ≡ 1 = ap (λ (x : ℕ). 2 ^ x) (sym is) in
        let low_is : at.low ≡ place = omega arith in
        at.counted ∙ ap (λ (x : ℕ). rank cells x) low_is
    by (suc j) is =
        let power : half ≡ 2 ^ j = at.halves ∙ halved (2 ^ at.halvings) (2 ^ j) (ap (λ (x : ℕ). 2 ^ x) (sym is) ∙ double j) in
        absurd (omega (arith, pow_pos j))

-- above the leaves both children are nodes
pub children_inside : {A : Type 0} {cells : List (Option A)} {width place node offset half before : ℕ} → 0 < half →
    GoesDown width cells place node offset half before → 2 * node + 1 < 2 * width
children_inside {A} {cells} {width} {place} {node} {offset} {half} {before} some at = by (half_power at.halvings half at.halves some)
  where
    by : (j : ℕ) × (at.halvings ≡ suc j) × (half ≡ 2 ^ j) → 2 * node + 1 < 2 * width
    by (j, high, power) =
        let left : 2 * node * 2 ^ j ≡ width + at.low = left_child width node at.low j (rw high at at.is) in
        omega (arith, over_below width (2 * node) at.low j left at.inside)

-- so far no more are counted than there are cells
pub counted_fits : {A : Type 0} (cells : List (Option A)) (words : List ℕ) (node place before width offset half : ℕ) → IsTreeOf cells words → width ≡ length words / 2 →
    0 < half → GoesDown width cells place node offset half before → before + get_or words (2 * node) 0 ≤ length cells
counted_fits cells words node place before width offset half tree is some at = by (counting cells words tree) (half_power at.halvings half at.halves some)
  where
    by : Counting cells words → (j : ℕ) × (at.halvings ≡ suc j) × (half ≡ 2 ^ j) → before + get_or words (2 * node) 0 ≤ length cells
    by t (j, high, power) =
        let wide : width ≡ 2 ^ t.height = is ∙ t.half in
        let left : 2 * node * 2 ^ j ≡ 2 ^ t.height + at.low = rw wide at (left_child width node at.low j (rw high at at.is)) in
        omega (arith, at.counted, t.spans (2 * node) at.low j left (omega (arith, at.inside)), rank-le-live cells (at.low + 2 ^ j), length-live-le cells)

-- On the way down to the live gate of a number: the node stands over it, and it is the live gate of
-- the number `rest` among those of the node.
pub record Seeks {A : Type 0} (width : ℕ) (cells : List (Option A)) (words : List ℕ) (number node rest : ℕ) : Type 0 where
  pub low : ℕ
  pub halvings : ℕ
  pub is : node * 2 ^ halvings ≡ width + low
  pub inside : low < width
  pub counted : rank cells low + rest ≡ number
  pub within : rest < get_or words node 0

-- at the root
pub seeks : {A : Type 0} (cells : List (Option A)) (words : List ℕ) (width number : ℕ) → IsTreeOf cells words → width ≡ length words / 2 →
    number < length (live cells) → Seeks width cells words number 1 number
seeks cells words width number tree is lt = by (counting cells words tree)
  where
    by : Counting cells words → Seeks width cells words number 1 number
    by t = record {
      low = 0;
      halvings = t.height;
      is = omega (arith, is, t.half);
      inside = omega (arith, is, t.half, pow_pos t.height);
      counted = omega arith;
      within = omega (arith, root_counts cells words tree);
    }

-- above the leaves
above_leaves : (width node low k : ℕ) → node * 2 ^ k ≡ width + low → node < width → (j : ℕ) × (k ≡ suc j)
above_leaves width node low zero is lt = absurd (omega arith)
above_leaves width node low (suc j) is lt = (j, refl)

-- both children are nodes
pub children_below : {A : Type 0} {cells : List (Option A)} {words : List ℕ} {width number node rest : ℕ} → node < width →
    Seeks width cells words number node rest → 2 * node + 1 < 2 * width
children_below lt at = omega arith

-- it is in the first half
pub seeks_left : {A : Type 0} {cells : List (Option A)} {words : List ℕ} {width number node rest : ℕ} → node < width → rest < get_or words (2 * node) 0 →
    Seeks width cells words number node rest → Seeks width cells words number (2 * node) rest
seeks_left {A} {cells} {words} {width} {number} {node} {rest} lt few at = by (above_leaves width node at.low at.halvings at.is lt)
  where
    by : (j : ℕ) × (at.halvings ≡ suc j) → Seeks width cells words number (2 * node) rest
    by (j, high) = record {
      low = at.low;
      halvings = j;
      is = left_child width node at.low j (rw high at at.is);
      inside = at.inside;
      counted = at.counted;
      within = few;
    }

-- or in the second
pub seeks_right : {A : Type 0} {cells : List (Option A)} {words : List ℕ} {width number node rest : ℕ} → IsTreeOf cells words → width ≡ length words / 2 →
    node < width → get_or words (2 * node) 0 ≤ rest →
    Seeks width cells words number node rest → Seeks width cells words number (2 * node + 1) (rest - get_or words (2 * node) 0)
seeks_right {A} {cells} {words} {width} {number} {node} {rest} tree is lt many at = by (counting cells words tree) (above_leaves width node at.low at.halvings at.is lt)
  where
    by : Counting cells words → (j : ℕ) × (at.halvings ≡ suc j) → Seeks width cells words number (2 * node + 1) (rest - get_or words (2 * node) 0)
    by t (j, high) =
        let wide : width ≡ 2 ^ t.height = is ∙ t.half in
        let over : node * 2 ^ suc j ≡ width + at.low = rw high at at.is in
        let left : 2 * node * 2 ^ j ≡ 2 ^ t.height + at.low = rw wide at (left_child width node at.low j over) in
        let right : (2 * node + 1) * 2 ^ j ≡ 2 ^ t.height + (at.low + 2 ^ j) = rw wide at (right_child width node at.low j over) in
        let inside : at.low + 2 ^ j < 2 ^ t.height = right_inside t.height node at.low j (rw wide at over) (omega arith) in
        let whole : rank cells at.low + get_or words node 0 ≡ rank cells (at.low + 2 ^ suc j) = t.spans node at.low (suc j) (rw wide at over) (omega arith) in
        let first : rank cells at.low + get_or words (2 * node) 0 ≡ rank cells (at.low + 2 ^ j) = t.spans (2 * node) at.low j left (omega arith) in
        let second : rank cells (at.low + 2 ^ j) + get_or words (2 * node + 1) 0 ≡ rank cells (at.low + 2 ^ j + 2 ^ j) = t.spans (2 * node + 1) (at.low + 2 ^ j) j right inside in
        let end : at.low + 2 ^ suc j ≡ at.low + 2 ^ j + 2 ^ j = omega (arith, double j) in
        let same : rank cells (at.low + 2 ^ suc j) ≡ rank cells (at.low + 2 ^ j + 2 ^ j) = ap (λ (x : ℕ). rank cells x) end in
        record {
          low = at.low + 2 ^ j;
          halvings = j;
          is = right_child width node at.low j over;
          inside = omega arith;
          counted = omega arith;
          within = omega arith;
        }

-- the place of the live gate of a number
pub record IsNumbered {A : Type 0} (cells : List (Option A)) (number place : ℕ) : Type 0 where
  pub here : IsLive cells place
  pub number_is : rank cells place ≡ number

-- which is the live gate of the number
pub numbered_gate : {A : Type 0} {cells : List (Option A)} {number place : ℕ} → IsNumbered cells number place → get_or cells place None ≡ slice_get (live cells) number
numbered_gate {A} {cells} {number} {place} at = sym (rw at.number_is at (get_live cells place at.here))

-- at a leaf it is found
pub sought : {A : Type 0} {cells : List (Option A)} {words : List ℕ} {width number node rest : ℕ} → IsTreeOf cells words → width ≡ length words / 2 → width ≤ node →
    Seeks width cells words number node rest → IsNumbered cells number (node - width)
sought {A} {cells} {words} {width} {number} {node} {rest} tree is le at = by (counting cells words tree) at.halvings refl
  where
    by : Counting cells words → (k : ℕ) → k ≡ at.halvings → IsNumbered cells number (node - width)
    by t (suc j) high =
        let low : node * 2 ^ suc j ≡ width + at.low = rw (← high) at at.is in
        absurd (omega (arith, at.inside, ap (λ (x : ℕ). node * x) (double j), le-mul_of_pos_right node (pow_pos j)))
    by t zero high =
        let leaf : node * 2 ^ 0 ≡ width + at.low = rw (← high) at at.is in
        let place_is : node - width ≡ at.low = omega arith in
        let one : rank cells at.low + get_or words node 0 ≡ rank cells (at.low + 1) = t.spans node at.low 0 (omega (arith, leaf, is, t.half)) (omega (arith, at.inside, is, t.half)) in
        let step : at.low + 1 ≡ suc at.low = omega arith in
        let next : rank cells (at.low + 1) ≡ rank cells (suc at.low) = ap (λ (x : ℕ). rank cells x) step in
        rw place_is
        (⊎_elim
        (λ here. record { here = here; number_is = omega (arith, at.counted, at.within, one, next, rank-suc_live cells at.low here) })
        (λ dead. absurd (omega (arith, at.counted, at.within, one, next, rank-suc_dead cells at.low dead)))
        (live_or_not cells at.low))

-- the live place that has the rank of a place is the next
pub record IsNext {A : Type 0} (cells : List (Option A)) (place next : ℕ) : Type 0 where
  pub here : IsLive cells next
  pub after : place ≤ next
  pub least : (later : ℕ) → place ≤ later → IsLive cells later → next ≤ later

pub next_by_rank : {A : Type 0} (cells : List (Option A)) (place next : ℕ) → IsLive cells next → rank cells next ≡ rank cells place → IsNext cells place next
next_by_rank cells place next here is = record {
  here = here;
  after = ⊎_elim (λ lt. absurd (omega (arith, rank-lt cells next place here lt))) (λ le. le) (cases_lt next place);
  least = λ later from live_there.
      ⊎_elim (λ lt. absurd (omega (arith, rank-lt cells later next live_there lt, rank-le cells place later from))) (λ le. le) (cases_lt later next);
}

-- there is a root, and each node's word is inside
pub root_inside : {A : Type 0} {cells : List (Option A)} {words : List ℕ} → IsTreeOf cells words → 1 < length words
root_inside {A} {cells} {words} tree = omega (arith, tree.counts.size, pow_pos tree.counts.height)

pub words_pair : {A : Type 0} {cells : List (Option A)} {words : List ℕ} → IsTreeOf cells words → length words ≡ 2 * (length words / 2)
words_pair {A} {cells} {words} tree = omega (arith, tree.counts.size)

-- behind the leaves there is no cell
pub rank_past : {A : Type 0} (cells : List (Option A)) (words : List ℕ) (place : ℕ) → IsTreeOf cells words → length words / 2 ≤ place → rank cells place ≡ length (live cells)
rank_past cells words place tree le = rank_end cells place (omega (arith, tree.leaves.1))

-- the next live place is the one of the number that is the place's rank
pub next_by_number : {A : Type 0} (cells : List (Option A)) (place : ℕ) (found : Option ℕ) → IfSome found (IsLive cells) →
    IfSome found (λ next. rank cells next ≡ rank cells place) → IfSome found (IsNext cells place)
next_by_number cells place None here is = here
next_by_number cells place (Some next) here is = next_by_rank cells place next here is

-- and there is none where all live gates stand before the place
pub none_by_number : {A : Type 0} (cells : List (Option A)) (place : ℕ) (found : Option ℕ) → IfSome found (IsNext cells place) →
    (IsNone found ↔ (length (live cells) ≤ rank cells place)) →
    IsNone found ↔ ((later : ℕ) → place ≤ later → IsLive cells later → ⊥)
none_by_number cells place found next none = (
  λ nothing later from here. omega (arith, none.0 nothing, rank-le cells place later from, rank-suc_live cells later here, rank-le-live cells (suc later)),
  by found next,
)
  where
    by : (r : Option ℕ) → IfSome r (IsNext cells place) → ((later : ℕ) → place ≤ later → IsLive cells later → ⊥) → IsNone r
    by None next nothing = refl
    by (Some there) next nothing = absurd (nothing there next.after next.here)
