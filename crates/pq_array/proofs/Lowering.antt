use Rattle.std.proofs.Common.{◌≡◌, ◌≢◌, ℕ, zero, suc, ◌+◌, ◌-◌, ◌/◌, ◌^◌, ◌<◌, ◌≤◌, Option, Some, None, Bool, true, false, List, [], ◌∷◌, ◌++◌, map, length, take, drop, set, get_or, is_some, refl, ap, sym, ◌∙◌, arith}
use Rattle.std.proofs.lemmas.List.{map-set, set-get_or, get_or-map, get_or-take, length-take-le, take_more, take_all, take_rest, take_at}
use Rattle.std.proofs.lemmas.Nat.{shr_le}
use Rattle.pq_array.specs.Cells.{live, spliced, IsLive, IsLiveRun, rank, Replaces}
use Rattle.pq_array.specs.Counts.{HalvesTo, IsLowered}
use Rattle.pq_array.specs.Tree.{IsTreeOf}
use Rattle.pq_array.proofs.Ranks.{live_inside}
use Rattle.pq_array.proofs.Spans.{Spans, Spans-lowered, counted_on_the_way, Counts-from_Spans}
use Rattle.pq_array.proofs.Descent.{Counting, counting}
use Rattle.pq_array.proofs.Replacing.{cleared, replaced, RunAt, run_at, run_drop, run_some, live_still, Replaces-one, Replaces-replaced, live-replaced}

-- which cells are live
abbrev pub marks : {A : Type 0} → List (Option A) → List Bool
marks cells = map is_some cells

-- the rank depends on that alone
rank-marks : {A : Type 0} (cells others : List (Option A)) (place : ℕ) → marks cells ≡ marks others → rank cells place ≡ rank others place
rank-marks cells others zero same = refl
rank-marks [] [] (suc place) same = refl
rank-marks [] (other ∷ others) (suc place) same = absurd (cc)
rank-marks (cell ∷ cells) [] (suc place) same = absurd (cc)
rank-marks (None ∷ cells) (None ∷ others) (suc place) same = rank-marks cells others place (cc)
rank-marks (Some gate ∷ cells) (Some other ∷ others) (suc place) same = ap (λ (n : ℕ). suc n) (rank-marks cells others place (cc))
rank-marks (None ∷ cells) (Some other ∷ others) (suc place) same = absurd (cc)
rank-marks (Some gate ∷ cells) (None ∷ others) (suc place) same = absurd (cc)

-- tombstones at the same places keep it
marks-cleared : {A : Type 0} (cells others : List (Option A)) (places : List ℕ) → marks cells ≡ marks others → marks (cleared cells places) ≡ marks (cleared others places)
marks-cleared cells others [] same = same
marks-cleared cells others (place ∷ places) same =
    marks-cleared (set cells place None) (set others place None) places
    (map-set is_some cells place None ∙ (ap (λ (m : List Bool). set m place false) same ∙ sym (map-set is_some others place None)))

-- another gate at a live place changes nothing of it
marks-set_some : {A : Type 0} (cells : List (Option A)) (place : ℕ) (gate : A) → IsLive cells place → marks (set cells place (Some gate)) ≡ marks cells
marks-set_some cells place gate here =
    let now : get_or (marks cells) place false ≡ true = get_or-map is_some cells place None false (live_inside cells place here) ∙ here in
    map-set is_some cells place (Some gate) ∙ rw now at (set-get_or (marks cells) place false)

-- with no output all places become tombstones
replaced-none : {A : Type 0} (cells : List (Option A)) (places : List ℕ) → replaced cells places [] ≡ cleared cells places
replaced-none cells [] = refl
replaced-none cells (place ∷ places) = replaced-none (set cells place None) places

-- and else those behind the output
marks-replaced : {A : Type 0} (cells : List (Option A)) (first : ℕ) (places : List ℕ) (output : List A) → RunAt cells first places →
    marks (replaced cells places output) ≡ marks (cleared cells (drop (length output) places))
marks-replaced cells first [] [] run = refl
marks-replaced cells first [] (gate ∷ output) run = refl
marks-replaced {A} cells first (place ∷ places) [] run = ap (λ (c : List (Option A)). marks c) (replaced-none (set cells place None) places)
marks-replaced cells first (place ∷ places) (gate ∷ output) run =
    marks-replaced (set cells place (Some gate)) (suc first) places output (run_some cells first place places gate run)
    ∙ marks-cleared (set cells place (Some gate)) cells (drop (length output) places) (marks-set_some cells place gate (run 0 (omega arith)).0)

-- one tombstone more
cleared_push : {A : Type 0} (cells : List (Option A)) (places : List ℕ) (place : ℕ) → cleared cells (places ++ place ∷ []) ≡ set (cleared cells places) place None
cleared_push cells [] place = refl
cleared_push cells (p ∷ places) place = cleared_push (set cells p None) places place

-- a place that isn't among them stays live
live_uncleared : {A : Type 0} (cells : List (Option A)) (places : List ℕ) (q : ℕ) → ((k : ℕ) → k < length places → q ≢ get_or places k 0) → IsLive cells q → IsLive (cleared cells places) q
live_uncleared cells [] q apart here = here
live_uncleared cells (place ∷ places) q apart here =
    live_uncleared (set cells place None) places q (λ k lt. apart (suc k) (omega arith)) (live_still cells place q None (apart 0 (omega arith)) here)

-- a place of a run is still live when those before it are tombstones
next_live : {A : Type 0} (cells : List (Option A)) (first : ℕ) (places : List ℕ) → RunAt cells first places → (i : ℕ) → i < length places →
    IsLive (cleared cells (take i places)) (get_or places i 0)
next_live cells first places run i lt =
    live_uncleared cells (take i places) (get_or places i 0) (λ k inside. apart k (omega (arith, length-take-le i places (omega arith)))) (run i lt).0
  where
    apart : (k : ℕ) → k < i → get_or places i 0 ≢ get_or (take i places) k 0
    apart k less same =
        let at : get_or (take i places) k 0 ≡ get_or places k 0 = get_or-take i places k 0 less in
        let ranks : rank cells (get_or places i 0) ≡ rank cells (get_or places k 0) = ap (λ (x : ℕ). rank cells x) (same ∙ at) in
        omega (arith, (run i lt).1, (run k (omega arith)).1)

-- what a number halves to is no larger
halves_below : (n v : ℕ) → HalvesTo n v → v ≤ n
halves_below n v (times, is) = omega (arith, shr_le n times)

-- the words while the places are lowered one after another, and word 0, which stays
pub record Lowers {A : Type 0} (cells : List (Option A)) (old words : List ℕ) (places : List ℕ) (i : ℕ) : Type 0 where
  pub size : length words ≡ length old
  pub unused : get_or words 0 0 ≡ get_or old 0 0
  pub spans : Spans (length old / 2) (cleared cells (take i places)) words

-- none so far
pub lowers : {A : Type 0} (cells : List (Option A)) (old : List ℕ) (places : List ℕ) → IsTreeOf cells old → Lowers cells old old places 0
lowers cells old places tree = by (counting cells old tree)
  where
    by : Counting cells old → Lowers cells old old places 0
    by t = record { size = refl; unused = refl; spans = rw (← t.half) at t.spans }

-- a live place among them is a place of the tree
inside_tree : {A : Type 0} (cells : List (Option A)) (old : List ℕ) (t : Counting cells old) (place : ℕ) → IsLive cells place → place < 2 ^ t.height
inside_tree cells old t place here = omega (arith, live_inside cells place here, t.fits)

-- the words on the way from the next place to the root count it
pub lowers_can : {A : Type 0} {cells : List (Option A)} {old words : List ℕ} {places : List ℕ} {i : ℕ} (first : ℕ) → IsTreeOf cells old → RunAt cells first places → i < length places →
    Lowers cells old words places i → (node : ℕ) → 1 ≤ node → HalvesTo (length words / 2 + get_or places i 0) node → 1 ≤ get_or words node 0
lowers_can {A} {cells} {old} {words} {places} {i} first tree run lt now node some halves = by (counting cells old tree)
  where
    by : Counting cells old → 1 ≤ get_or words node 0
    by t =
        let width : length words / 2 ≡ 2 ^ t.height = ap (λ (n : ℕ). n / 2) now.size ∙ t.half in
        let place : get_or places i 0 < 2 ^ t.height = inside_tree cells old t (get_or places i 0) (run i lt).0 in
        let spans : Spans (2 ^ t.height) (cleared cells (take i places)) words = rw t.half at now.spans in
        let way : HalvesTo (2 ^ t.height + get_or places i 0) node = rw width at halves in
        counted_on_the_way t.height (cleared cells (take i places)) words (get_or places i 0) node spans (next_live cells first places run i lt) place some
        (omega (arith, halves_below (2 ^ t.height + get_or places i 0) node way)) way

-- the next place
pub lowers_more : {A : Type 0} {cells : List (Option A)} {old words new : List ℕ} {places : List ℕ} {i : ℕ} (first : ℕ) → IsTreeOf cells old → RunAt cells first places → i < length places →
    Lowers cells old words places i → IsLowered (length words / 2) (get_or places i 0) words new → Lowers cells old new places (i + 1)
lowers_more {A} {cells} {old} {words} {new} {places} {i} first tree run lt now lowered = by (counting cells old tree)
  where
    by : Counting cells old → Lowers cells old new places (i + 1)
    by t =
        let width : length words / 2 ≡ 2 ^ t.height = ap (λ (n : ℕ). n / 2) now.size ∙ t.half in
        let place : get_or places i 0 < 2 ^ t.height = inside_tree cells old t (get_or places i 0) (run i lt).0 in
        let spans : Spans (2 ^ t.height) (cleared cells (take i places)) words = rw t.half at now.spans in
        let down : IsLowered (2 ^ t.height) (get_or places i 0) words new = rw width at lowered in
        let more : cleared cells (take (i + 1) places) ≡ set (cleared cells (take i places)) (get_or places i 0) None =
        ap (λ (p : List ℕ). cleared cells p) (take_more places i 0 lt) ∙ cleared_push cells (take i places) (get_or places i 0) in
        record {
          size = lowered.size ∙ now.size;
          unused = lowered.elsewhere 0 (λ none halves. omega arith) ∙ now.unused;
          spans = rw (t.half, more) (Spans-lowered t.height (cleared cells (take i places)) (get_or places i 0) words new (next_live cells first places run i lt) place spans down);
        }

-- the tree of the cells in which the run is replaced
pub tree_replaced : {A : Type 0} {cells new : List (Option A)} {old words : List ℕ} (places : List ℕ) (output : List A) (first : ℕ) → IsTreeOf cells old → RunAt cells first places →
    new ≡ replaced cells places output → length new ≡ length cells →
    Lowers cells old words (drop (length output) places) (length (drop (length output) places)) → IsTreeOf new words
tree_replaced {A} {cells} {new} {old} {words} places output first tree run is size now = by (counting cells old tree)
  where
    by : Counting cells old → IsTreeOf new words
    by t =
        let all : take (length (drop (length output) places)) (drop (length output) places) ≡ drop (length output) places = take_all (length (drop (length output) places)) (drop (length output) places) (omega arith) in
        let spans : Spans (2 ^ t.height) (cleared cells (drop (length output) places)) words = rw (t.half, all) at now.spans in
        let same : marks new ≡ marks (cleared cells (drop (length output) places)) = rw is (marks-replaced cells first places output run) in
        let new_spans : Spans (2 ^ t.height) new words =
        (λ node low k at_node inside.
        omega (
          arith,
          spans node low k at_node inside,
          rank-marks new (cleared cells (drop (length output) places)) low same,
          rank-marks new (cleared cells (drop (length output) places)) (low + 2 ^ k) same,
        )) in
        record {
          leaves = rw (size, now.size) tree.leaves;
          counts = Counts-from_Spans new words t.height (now.size ∙ t.size) (omega (arith, t.fits)) new_spans;
        }

-- what is lowered is the run behind its first places
pub run_rest : {A : Type 0} (cells : List (Option A)) (places : List ℕ) (n : ℕ) → IsLiveRun cells places →
    RunAt cells (rank cells (get_or places 0 0) + n) (take (length places - n) (drop n places))
run_rest cells places n run = rw (take_rest places n) (run_drop cells (rank cells (get_or places 0 0)) n places (run_at cells places run))

-- all is lowered
pub lowers_all : {A : Type 0} {cells : List (Option A)} {old words : List ℕ} (places : List ℕ) (n i : ℕ) → length (take (length places - n) (drop n places)) ≤ i →
    i ≤ length (take (length places - n) (drop n places)) → Lowers cells old words (take (length places - n) (drop n places)) i →
    Lowers cells old words (drop n places) (length (drop n places))
lowers_all {A} {cells} {old} {words} places n i from to now =
    let all : take (length places - n) (drop n places) ≡ drop n places = take_rest places n in
    let end : i ≡ length (drop n places) = omega (arith, ap (λ (p : List ℕ). length p) all) in
    rw (all, end) at now

-- a list that is written over another of its length
pub written_over : {A : Type 0} (items new : List A) (n : ℕ) → length new ≡ n → take n (new ++ drop (length new) items) ≡ new
written_over items new n is = take_at new (drop (length new) items) n is

-- the cells in which the run is replaced
pub replaced_is : {A : Type 0} {cells new : List (Option A)} {places : List ℕ} {output : List A} → IsLiveRun cells places → length output ≤ length places →
    Replaces cells new places output → new ≡ replaced cells places output
replaced_is {A} {cells} {new} {places} {output} run le is =
    Replaces-one cells new (replaced cells places output) places output is
    (Replaces-replaced cells places output run.in_order (λ i lt. live_inside cells (get_or places i 0) (run.all_live i 0 lt)) le)

-- and their live gates
pub live_replaced : {A : Type 0} {cells new : List (Option A)} {places : List ℕ} {output : List A} → IsLiveRun cells places → length output ≤ length places →
    Replaces cells new places output → live new ≡ spliced (live cells) (rank cells (get_or places 0 0)) (rank cells (get_or places 0 0) + length places) output
live_replaced {A} {cells} {new} {places} {output} run le is =
    ap (λ (c : List (Option A)). live c) (replaced_is run le is) ∙ live-replaced cells (rank cells (get_or places 0 0)) places output (run_at cells places run) le
