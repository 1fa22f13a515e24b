use Rattle.std.proofs.Common.{◌≡◌, ℕ, Bool, true, false, zero, suc, ◌+◌, ◌-◌, ◌<◌, ◌≤◌, ◌⊎◌, inl, inr, cond, Option, Some, None, List, [], ◌∷◌, ◌++◌, map, length, take, drop, set, get_or, slice_get, min, length-drop, refl, ap, sym, ◌∙◌, arith}
use Rattle.std.specs.Prelude.{is_some}
use Rattle.std.proofs.lemmas.List.{take_all, length-map, length-take, get_or-map, get_or-take, get_or-drop}
use mir.Val.{bool_byte}
use Rattle.pq_array.specs.Cells.{live, IsLive, rank}

-- a cell is live or not
pub live_or_not : {A : Type 0} (cells : List (Option A)) (place : ℕ) → IsLive cells place ⊎ (IsLive cells place → ⊥)
live_or_not {A} cells place = by (get_or cells place None) refl
  where
    by : (cell : Option A) → get_or cells place None ≡ cell → IsLive cells place ⊎ (IsLive cells place → ⊥)
    by None is = rw is (inr (λ h. cc))
    by (Some gate) is = rw is (inl refl)

-- a live place is the place of a cell
pub live_inside : {A : Type 0} (cells : List (Option A)) (place : ℕ) → IsLive cells place → place < length cells
live_inside [] place here = cc
live_inside (cell ∷ cells) zero here = omega arith
live_inside (cell ∷ cells) (suc place) here = omega (arith, live_inside cells place here)

-- nothing is live in no cells
pub rank-nil : (A : Type 0) (place : ℕ) → rank {A = A} [] place ≡ 0
rank-nil A zero = refl
rank-nil A (suc place) = refl

-- a live cell adds one to the rank
pub rank-suc_live : {A : Type 0} (cells : List (Option A)) (place : ℕ) → IsLive cells place → rank cells (suc place) ≡ rank cells place + 1
rank-suc_live [] place here = cc
rank-suc_live (None ∷ cells) zero here = cc
rank-suc_live (Some gate ∷ cells) zero here = omega arith
rank-suc_live (None ∷ cells) (suc place) here = rank-suc_live cells place here
rank-suc_live (Some gate ∷ cells) (suc place) here = omega (arith, rank-suc_live cells place here)

-- and a tombstone adds none
pub rank-suc_dead : {A : Type 0} (cells : List (Option A)) (place : ℕ) → (IsLive cells place → ⊥) → rank cells (suc place) ≡ rank cells place
rank-suc_dead {A} [] place dead = sym (rank-nil A place)
rank-suc_dead (None ∷ cells) zero dead = refl
rank-suc_dead (Some gate ∷ cells) zero dead = absurd (dead refl)
rank-suc_dead (None ∷ cells) (suc place) dead = rank-suc_dead cells place dead
rank-suc_dead (Some gate ∷ cells) (suc place) dead = omega (arith, rank-suc_dead cells place dead)

-- a byte that says yes is 1
pub byte : (b : Bool) → bool_byte b ≡ cond b 1 0
byte true = refl
byte false = refl

-- so it is counted on by one cell
pub rank_on : {A : Type 0} (cells : List (Option A)) (place step : ℕ) → step ≡ cond (is_some (get_or cells place None)) 1 0 →
    rank cells (place + 1) ≡ rank cells place + step
rank_on {A} cells place step step_is = by (get_or cells place None) refl
  where
    gone : (cell : Option A) → cell ≡ None → is_some cell ≡ true → ⊥
    gone cell is here = absurd (cc)

    next : rank cells (place + 1) ≡ rank cells (suc place)
    next = ap (λ (n : ℕ). rank cells n) {x = place + 1} {y = suc place} (omega arith)

    by : (cell : Option A) → get_or cells place None ≡ cell → rank cells (place + 1) ≡ rank cells place + step
    by (Some gate) is = omega (arith, next, rank-suc_live cells place (ap is_some is), step_is ∙ ap (λ (o : Option A). cond (is_some o) 1 0) is)
    by None is = omega (arith, next, rank-suc_dead cells place (gone (get_or cells place None) is), step_is ∙ ap (λ (o : Option A). cond (is_some o) 1 0) is)

-- and so by one flag of a part
pub rank_on_part : {A : Type 0} (cells : List (Option A)) (part : List Bool) (from to index : ℕ) (d : Bool) (step : ℕ) → part ≡ take (to - from) (drop from (map is_some cells)) → to ≤ length cells →
    index < length part → step ≡ cond (get_or part index d) 1 0 → rank cells (from + (index + 1)) ≡ rank cells (from + index) + step
rank_on_part {A} cells part from to index d step part_is inside lt step_is =
    let flags = map is_some cells in
    let long : length part ≡ min (to - from) (length (drop from flags)) = ap (λ (l : List Bool). length l) part_is ∙ length-take (to - from) (drop from flags) in
    let rest : length (drop from flags) ≡ length cells - from = length-drop from flags ∙ ap (λ (n : ℕ). n - from) (length-map cells is_some) in
    let at : get_or part index d ≡ is_some (get_or cells (from + index) None) =
    ap (λ (l : List Bool). get_or l index d) part_is
    ∙ (get_or-take (to - from) (drop from flags) index d (omega arith)
    ∙ (get_or-drop from flags index d ∙ get_or-map is_some cells (from + index) None d (omega arith))) in
    let next : rank cells (from + (index + 1)) ≡ rank cells (from + index + 1) = ap (λ (n : ℕ). rank cells n) {x = from + (index + 1)} {y = from + index + 1} (omega arith) in
    next ∙ rank_on cells (from + index) step (step_is ∙ ap (λ (b : Bool). cond b 1 0) at)

-- the rank doesn't fall
pub rank-le : {A : Type 0} (cells : List (Option A)) (p q : ℕ) → p ≤ q → rank cells p ≤ rank cells q
rank-le cells zero q le = omega arith
rank-le cells (suc p) zero le = absurd (omega arith)
rank-le [] (suc p) (suc q) le = omega arith
rank-le (None ∷ cells) (suc p) (suc q) le = rank-le cells p q (omega arith)
rank-le (Some gate ∷ cells) (suc p) (suc q) le = omega (arith, rank-le cells p q (omega arith))

-- and rises behind each live place
pub rank-lt : {A : Type 0} (cells : List (Option A)) (p q : ℕ) → IsLive cells p → p < q → rank cells p < rank cells q
rank-lt cells p q here lt = omega (arith, rank-suc_live cells p here, rank-le cells (suc p) q (omega arith))

-- at the end it is the number of live gates
pub rank_end : {A : Type 0} (cells : List (Option A)) (place : ℕ) → length cells ≤ place → rank cells place ≡ length (live cells)
rank_end {A} cells place end = ap (λ (c : List (Option A)). length (live c)) (take_all place cells end)

-- which it never passes
pub rank-le-live : {A : Type 0} (cells : List (Option A)) (place : ℕ) → rank cells place ≤ length (live cells)
rank-le-live cells place =
    omega (arith, rank-le cells place (place + length cells) (omega arith), rank_end cells (place + length cells) (omega arith))

-- there are no more live gates than cells
pub length-live-le : {A : Type 0} (cells : List (Option A)) → length (live cells) ≤ length cells
length-live-le [] = omega arith
length-live-le (None ∷ cells) = omega (arith, length-live-le cells)
length-live-le (Some gate ∷ cells) = omega (arith, length-live-le cells)

-- where no cell from p up to p + more is live, the rank stays
pub rank_stays : {A : Type 0} (cells : List (Option A)) (p more : ℕ) →
    ((place : ℕ) → p ≤ place → place < p + more → IsLive cells place → ⊥) → rank cells (p + more) ≡ rank cells p
rank_stays cells p zero dead = ap (λ (n : ℕ). rank cells n) (omega arith)
rank_stays cells p (suc more) dead =
    let last : rank cells (suc (p + more)) ≡ rank cells (p + more) = rank-suc_dead cells (p + more) (dead (p + more) (omega arith) (omega arith)) in
    let so_far : rank cells (p + more) ≡ rank cells p = rank_stays cells p more (λ place low high. dead place low (omega arith)) in
    let step : p + suc more ≡ suc (p + more) = omega arith in
    rw step (last ∙ so_far)

-- where each cell holds a gate, all gates are live
pub live-map_some : {A : Type 0} (gates : List A) → live (map (λ gate. Some gate) gates) ≡ gates
live-map_some [] = refl
live-map_some {A} (gate ∷ gates) = ap (λ (rest : List A). gate ∷ rest) (live-map_some gates)

-- the gate at a live place is the live gate of the number that is the rank
pub get_live : {A : Type 0} (cells : List (Option A)) (place : ℕ) → IsLive cells place → slice_get (live cells) (rank cells place) ≡ get_or cells place None
get_live [] place here = cc
get_live (None ∷ cells) zero here = cc
get_live (Some gate ∷ cells) zero here = refl
get_live (None ∷ cells) (suc place) here = get_live cells place here
get_live (Some gate ∷ cells) (suc place) here = get_live cells place here

-- another gate at a live place is another live gate of that number
pub live-set_some : {A : Type 0} (cells : List (Option A)) (place : ℕ) (gate : A) → IsLive cells place →
    live (set cells place (Some gate)) ≡ set (live cells) (rank cells place) gate
live-set_some [] place gate here = cc
live-set_some (None ∷ cells) zero gate here = cc
live-set_some (Some old ∷ cells) zero gate here = refl
live-set_some (None ∷ cells) (suc place) gate here = live-set_some cells place gate here
live-set_some {A} (Some old ∷ cells) (suc place) gate here = ap (λ (gates : List A). old ∷ gates) (live-set_some cells place gate here)

-- a tombstone at a live place leaves that gate out
pub live-set_none : {A : Type 0} (cells : List (Option A)) (place : ℕ) → IsLive cells place →
    live (set cells place None) ≡ take (rank cells place) (live cells) ++ drop (suc (rank cells place)) (live cells)
live-set_none [] place here = cc
live-set_none (None ∷ cells) zero here = cc
live-set_none (Some old ∷ cells) zero here = refl
live-set_none (None ∷ cells) (suc place) here = live-set_none cells place here
live-set_none {A} (Some old ∷ cells) (suc place) here = ap (λ (gates : List A). old ∷ gates) (live-set_none cells place here)

-- the ranks stay with another gate at a live place
pub rank-set_some : {A : Type 0} (cells : List (Option A)) (place : ℕ) (gate : A) (q : ℕ) → IsLive cells place →
    rank (set cells place (Some gate)) q ≡ rank cells q
rank-set_some cells place gate zero here = refl
rank-set_some [] place gate (suc q) here = cc
rank-set_some (None ∷ cells) zero gate (suc q) here = cc
rank-set_some (Some old ∷ cells) zero gate (suc q) here = refl
rank-set_some (None ∷ cells) (suc place) gate (suc q) here = rank-set_some cells place gate q here
rank-set_some (Some old ∷ cells) (suc place) gate (suc q) here = ap (λ (n : ℕ). suc n) (rank-set_some cells place gate q here)

-- with a tombstone they stay up to its place
pub rank-set_before : {A : Type 0} (cells : List (Option A)) (place q : ℕ) → q ≤ place → rank (set cells place None) q ≡ rank cells q
rank-set_before cells place zero le = refl
rank-set_before [] place (suc q) le = refl
rank-set_before (cell ∷ cells) zero (suc q) le = absurd (omega arith)
rank-set_before (None ∷ cells) (suc place) (suc q) le = rank-set_before cells place q (omega arith)
rank-set_before (Some old ∷ cells) (suc place) (suc q) le = ap (λ (n : ℕ). suc n) (rank-set_before cells place q (omega arith))

-- and are one less behind it
pub rank-set_behind : {A : Type 0} (cells : List (Option A)) (place q : ℕ) → IsLive cells place → place < q →
    rank (set cells place None) q + 1 ≡ rank cells q
rank-set_behind cells place zero here lt = absurd (omega arith)
rank-set_behind [] place (suc q) here lt = cc
rank-set_behind (None ∷ cells) zero (suc q) here lt = cc
rank-set_behind (Some old ∷ cells) zero (suc q) here lt = omega arith
rank-set_behind (None ∷ cells) (suc place) (suc q) here lt = rank-set_behind cells place q here (omega arith)
rank-set_behind (Some old ∷ cells) (suc place) (suc q) here lt = omega (arith, rank-set_behind cells place q here (omega arith))
