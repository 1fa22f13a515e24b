use Rattle.std.proofs.Common.{◌≡◌, ◌≢◌, ℕ, zero, suc, ◌+◌, ◌-◌, ◌<◌, ◌≤◌, ◌⊎◌, inl, inr, ⊎_elim, Option, Some, None, List, [], ◌∷◌, ◌++◌, length, take, drop, set, get_or, slice_get, refl, ap, sym, ◌∙◌, arith, length-set, length-append, append_assoc, get_or-set_same, get_or-set_other, take-append-drop}
use Rattle.std.proofs.lemmas.Bool.{cases_lt, cases_eq}
use Rattle.std.proofs.lemmas.List.{take_at, drop_at, drop-drop, length-take-le, drop-set-lt, take_more_set, get_or-drop, length-drop, get_or_default, ext_get_or, drop_all, get_or_append_left, get_or_push}
use Rattle.std.proofs.lemmas.List.Kept.{AllPairs-from_increasing}
use Rattle.std.proofs.lemmas.List.Elements.{Contains-get_or}
use Rattle.std.specs.List.{Contains}
use Rattle.std.specs.List.Sorted.{IsStrictlyIncreasing}
use Rattle.pq_array.specs.Cells.{live, IsLive, IsLiveRun, rank, Replaces, spliced}
use Rattle.pq_array.proofs.Ranks.{rank-le, rank-lt, rank-suc_live, rank_stays, rank-le-live, live-set_some, live-set_none, rank-set_some, rank-set_behind}

-- tombstones at these places
abbrev pub cleared : {A : Type 0} → List (Option A) → List ℕ → List (Option A)
cleared cells [] = cells
cleared cells (place ∷ places) = cleared (set cells place None) places

-- the output at the first of these places, and tombstones at the others
abbrev pub replaced : {A : Type 0} → List (Option A) → List ℕ → List A → List (Option A)
replaced cells [] output = cells
replaced cells (place ∷ places) [] = replaced (set cells place None) places []
replaced cells (place ∷ places) (gate ∷ output) = replaced (set cells place (Some gate)) places output

-- the places are those of the live gates from this number on
abbrev pub RunAt : {A : Type 0} → List (Option A) → ℕ → List ℕ → Type 0
RunAt cells first places = (i : ℕ) → i < length places → IsLive cells (get_or places i 0) × (rank cells (get_or places i 0) ≡ first + i)

-- those after the first place are behind it
run_behind : {A : Type 0} (cells : List (Option A)) (first place : ℕ) (places : List ℕ) → RunAt cells first (place ∷ places) →
    (i : ℕ) → i < length places → place < get_or places i 0
run_behind cells first place places run i lt =
    ⊎_elim (λ less. less)
    (λ le. absurd (omega (arith, (run 0 (omega arith)).1, (run (suc i) (omega arith)).1, rank-le cells (get_or places i 0) place le)))
    (cases_lt place (get_or places i 0))

-- a place keeps its cell where another is written
pub live_still : {A : Type 0} (cells : List (Option A)) (place q : ℕ) (cell : Option A) → q ≢ place → IsLive cells q → IsLive (set cells place cell) q
live_still cells place q cell other here = rw (get_or-set_other cells place q cell None other) here

-- with another gate at the first place
pub run_some : {A : Type 0} (cells : List (Option A)) (first place : ℕ) (places : List ℕ) (gate : A) → RunAt cells first (place ∷ places) →
    RunAt (set cells place (Some gate)) (suc first) places
run_some cells first place places gate run i lt =
    let behind : place < get_or places i 0 = run_behind cells first place places run i lt in (
      live_still cells place (get_or places i 0) (Some gate) (omega arith) (run (suc i) (omega arith)).0,
      omega (arith, rank-set_some cells place gate (get_or places i 0) (run 0 (omega arith)).0, (run (suc i) (omega arith)).1),
    )

-- and with a tombstone
pub run_none : {A : Type 0} (cells : List (Option A)) (first place : ℕ) (places : List ℕ) → RunAt cells first (place ∷ places) →
    RunAt (set cells place None) first places
run_none cells first place places run i lt =
    let behind : place < get_or places i 0 = run_behind cells first place places run i lt in (
      live_still cells place (get_or places i 0) None (omega arith) (run (suc i) (omega arith)).0,
      omega (arith, rank-set_behind cells place (get_or places i 0) (run 0 (omega arith)).0 behind, (run (suc i) (omega arith)).1),
    )

-- a list without its item at this place
spliced-without : {A : Type 0} (items : List A) (first more : ℕ) → first ≤ length items →
    spliced (take first items ++ drop (suc first) items) first (first + more) [] ≡ spliced items first (first + suc more) []
spliced-without {A} items first more le =
    let short : length (take first items) ≡ first = length-take-le first items le in
    let front : take first (take first items ++ drop (suc first) items) ≡ take first items = take_at (take first items) (drop (suc first) items) first short in
    let back : drop first (take first items ++ drop (suc first) items) ≡ drop (suc first) items = drop_at (take first items) (drop (suc first) items) first short in
    let end : suc first + more ≡ first + suc more = omega arith in
    let behind : drop (first + more) (take first items ++ drop (suc first) items) ≡ drop (first + suc more) items =
    sym (drop-drop more first (take first items ++ drop (suc first) items)) ∙ (ap (λ (x : List A). drop more x) back ∙ (drop-drop more (suc first) items ∙ ap (λ (n : ℕ). drop n items) end)) in
    rw (front, behind)

-- a list with another item at this place
spliced-with : {A : Type 0} (items : List A) (first more : ℕ) (item : A) (part : List A) → first < length items →
    spliced (set items first item) (suc first) (suc first + more) part ≡ spliced items first (first + suc more) (item ∷ part)
spliced-with {A} items first more item part lt =
    let one : first + 1 ≡ suc first = omega arith in
    let front : take (suc first) (set items first item) ≡ take first items ++ item ∷ [] = rw one at (take_more_set items first item lt) in
    let end : suc first + more ≡ first + suc more = omega arith in
    let behind : drop (suc first + more) (set items first item) ≡ drop (first + suc more) items =
    drop-set-lt (suc first + more) items first item (omega arith) ∙ ap (λ (n : ℕ). drop n items) end in
    rw (front, behind) (append_assoc (take first items) (item ∷ []) (part ++ drop (first + suc more) items))

-- the run of the live gates is replaced by the output
pub live-replaced : {A : Type 0} (cells : List (Option A)) (first : ℕ) (places : List ℕ) (output : List A) → RunAt cells first places →
    length output ≤ length places → live (replaced cells places output) ≡ spliced (live cells) first (first + length places) output
live-replaced cells first [] [] run le =
    let end : first + 0 ≡ first = omega arith in
    rw end (sym (take-append-drop first (live cells)))
live-replaced cells first [] (gate ∷ output) run le = absurd (omega arith)
live-replaced cells first (place ∷ places) [] run le =
    let here : IsLive cells place = (run 0 (omega arith)).0 in
    let number : rank cells place ≡ first = omega (arith, (run 0 (omega arith)).1) in
    let gone : live (set cells place None) ≡ take first (live cells) ++ drop (suc first) (live cells) = rw number at (live-set_none cells place here) in
    let rest = live-replaced (set cells place None) first places [] (run_none cells first place places run) (omega arith) in
    rest ∙ rw gone (spliced-without (live cells) first (length places) (omega (arith, rank-le-live cells place)))
live-replaced cells first (place ∷ places) (gate ∷ output) run le =
    let here : IsLive cells place = (run 0 (omega arith)).0 in
    let number : rank cells place ≡ first = omega (arith, (run 0 (omega arith)).1) in
    let put : live (set cells place (Some gate)) ≡ set (live cells) first gate = rw number at (live-set_some cells place gate here) in
    let more : first < length (live cells) = omega (arith, rank-suc_live cells place here, rank-le-live cells (suc place)) in
    let rest = live-replaced (set cells place (Some gate)) (suc first) places output (run_some cells first place places gate run) (omega arith) in
    rest ∙ rw put (spliced-with (live cells) first (length places) gate output more)

-- between two places of a live run that follow one another nothing is live
none_between : {A : Type 0} (cells : List (Option A)) (places : List ℕ) → IsLiveRun cells places → (i : ℕ) → suc i < length places →
    (place : ℕ) → get_or places i 0 < place → place < get_or places (suc i) 0 → IsLive cells place → ⊥
none_between cells places run i lt place from to here =
    by (run.whole place (get_or places i 0) (get_or places (suc i) 0) here (Contains-get_or places i 0 (omega arith)) (Contains-get_or places (suc i) 0 lt) from to)
  where
    order : (j k : ℕ) → j < k → k < length places → get_or places j 0 < get_or places k 0
    order j k less inside = AllPairs-from_increasing places run.in_order j k 0 less inside

    by : Contains places place → ⊥
    by (k, inside, is) =
        let same : get_or places k 0 ≡ place = get_or_default places k 0 place inside ∙ is in
        ⊎_elim
        (λ before. ⊎_elim (λ less. omega (arith, order k i less (omega arith))) (λ le. let i_is : k ≡ i = omega arith in omega (arith, ap (λ (x : ℕ). get_or places x 0) i_is)) (cases_lt k i))
        (λ behind. ⊎_elim (λ less. omega (arith, order (suc i) k less inside)) (λ le. let k_is : k ≡ suc i = omega arith in omega (arith, ap (λ (x : ℕ). get_or places x 0) k_is)) (cases_lt (suc i) k))
        (cases_lt k (suc i))

-- so the rank rises by one
run_next : {A : Type 0} (cells : List (Option A)) (places : List ℕ) → IsLiveRun cells places → (i : ℕ) → suc i < length places →
    rank cells (get_or places (suc i) 0) ≡ rank cells (get_or places i 0) + 1
run_next cells places run i lt =
    let less : get_or places i 0 < get_or places (suc i) 0 = AllPairs-from_increasing places run.in_order i (suc i) 0 (omega arith) lt in
    let whole : suc (get_or places i 0) + (get_or places (suc i) 0 - suc (get_or places i 0)) ≡ get_or places (suc i) 0 = omega arith in
    let stays = rank_stays cells (suc (get_or places i 0)) (get_or places (suc i) 0 - suc (get_or places i 0))
    (λ place from to. none_between cells places run i lt place from (omega arith)) in
    let same : rank cells (get_or places (suc i) 0) ≡ rank cells (suc (get_or places i 0)) = rw whole at stays in
    omega (arith, rank-suc_live cells (get_or places i 0) (run.all_live i 0 (omega arith)))

-- a live run is one of numbers that follow one another
run_ranks : {A : Type 0} (cells : List (Option A)) (places : List ℕ) → IsLiveRun cells places → (i : ℕ) → i < length places →
    rank cells (get_or places i 0) ≡ rank cells (get_or places 0 0) + i
run_ranks cells places run zero lt = omega arith
run_ranks cells places run (suc i) lt = omega (arith, run_next cells places run i lt, run_ranks cells places run i (omega arith))

pub run_at : {A : Type 0} (cells : List (Option A)) (places : List ℕ) → IsLiveRun cells places → RunAt cells (rank cells (get_or places 0 0)) places
run_at cells places run i lt = (run.all_live i 0 lt, run_ranks cells places run i lt)

-- and what is left of it behind its first places too
pub run_drop : {A : Type 0} (cells : List (Option A)) (first n : ℕ) (places : List ℕ) → RunAt cells first places → RunAt cells (first + n) (drop n places)
run_drop cells first n places run i lt =
    let at : get_or (drop n places) i 0 ≡ get_or places (n + i) 0 = get_or-drop n places i 0 in
    let inside : n + i < length places = omega (arith, length-drop n places) in
    rw at ((run (n + i) inside).0, omega (arith, (run (n + i) inside).1))

-- the cells after one place more
Replaces-cons : {A : Type 0} (cells : List (Option A)) (place : ℕ) (places : List ℕ) (cell : Option A) (new : List (Option A)) (output rest : List A) →
    IsStrictlyIncreasing (place ∷ places) → place < length cells → slice_get output 0 ≡ cell → ((i : ℕ) → slice_get output (suc i) ≡ slice_get rest i) →
    Replaces (set cells place cell) new places rest → Replaces cells new (place ∷ places) output
Replaces-cons cells place places cell new output rest rising inside first others after = record {
  size = after.size ∙ length-set cells place cell;
  listed = listed;
  others = λ q out.
      after.others q (λ among. out (suc among.0, omega (arith, among.1), among.2))
      ∙ get_or-set_other cells place q cell None (λ same. out (0, omega arith, sym same));
}
  where
    not_again : Contains places place → ⊥
    not_again (k, lt, is) = omega (arith, is, AllPairs-from_increasing (place ∷ places) rising 0 (suc k) place (omega arith) (omega arith))

    listed : (i : ℕ) → i < length (place ∷ places) → get_or new (get_or (place ∷ places) i 0) None ≡ slice_get output i
    listed zero lt = after.others place not_again ∙ (get_or-set_same cells place cell None inside ∙ sym first)
    listed (suc i) lt = after.listed i (omega arith) ∙ sym (others i)

-- numbers that rise do so behind the first
pub rising_tail : (x : ℕ) (xs : List ℕ) → IsStrictlyIncreasing (x ∷ xs) → IsStrictlyIncreasing xs
rising_tail x xs rising k lt =
    let next : suc k + 1 ≡ suc (k + 1) = omega arith in
    rw next at (rising (suc k) (omega arith))

-- the cells after it
pub Replaces-replaced : {A : Type 0} (cells : List (Option A)) (places : List ℕ) (output : List A) → IsStrictlyIncreasing places →
    ((i : ℕ) → i < length places → get_or places i 0 < length cells) → length output ≤ length places → Replaces cells (replaced cells places output) places output
Replaces-replaced cells [] output rising inside le = record { size = refl; listed = λ i lt. absurd (omega arith); others = λ place out. refl }
Replaces-replaced cells (place ∷ places) [] rising inside le =
    Replaces-cons cells place places None (replaced (set cells place None) places []) [] [] rising (inside 0 (omega arith)) refl (λ i. refl)
    (Replaces-replaced (set cells place None) places [] (rising_tail place places rising)
    (λ i lt. omega (arith, inside (suc i) (omega arith), length-set cells place None)) (omega arith))
Replaces-replaced cells (place ∷ places) (gate ∷ output) rising inside le =
    Replaces-cons cells place places (Some gate) (replaced (set cells place (Some gate)) places output) (gate ∷ output) output rising (inside 0 (omega arith)) refl (λ i. refl)
    (Replaces-replaced (set cells place (Some gate)) places output (rising_tail place places rising)
    (λ i lt. omega (arith, inside (suc i) (omega arith), length-set cells place (Some gate))) (omega arith))

-- a number stands in a list or not
member_or_not : (xs : List ℕ) (x : ℕ) → Contains xs x ⊎ (Contains xs x → ⊥)
member_or_not [] x = inr (λ among. omega (arith, among.1))
member_or_not (y ∷ ys) x = ⊎_elim (λ same. inl (0, omega arith, same)) (λ other. ⊎_elim (λ among. inl (suc among.0, omega (arith, among.1), among.2)) (λ not_among. inr (not_there other not_among)) (member_or_not ys x)) (cases_eq y x)
  where
    not_there : y ≢ x → (Contains ys x → ⊥) → Contains (y ∷ ys) x → ⊥
    not_there other not_among (zero, lt, is) = other is
    not_there other not_among (suc k, lt, is) = not_among (k, omega arith, is)

-- only one list of cells comes of it
pub Replaces-one : {A : Type 0} (old new other : List (Option A)) (places : List ℕ) (output : List A) →
    Replaces old new places output → Replaces old other places output → new ≡ other
Replaces-one old new other places output left right =
    ext_get_or None new other (left.size ∙ sym right.size) (λ place lt. ⊎_elim (listed place) (λ out. left.others place out ∙ sym (right.others place out)) (member_or_not places place))
  where
    listed : (place : ℕ) → Contains places place → get_or new place None ≡ get_or other place None
    listed place (k, inside, is) =
        let at : get_or places k 0 ≡ place = get_or_default places k 0 place inside ∙ is in
        rw at at (left.listed k inside ∙ sym (right.listed k inside))

-- one step of a loop over the places
pub replaced_more : {A : Type 0} (cells : List (Option A)) (places : List ℕ) (output : List A) (i : ℕ) → i < length places →
    replaced (set cells (get_or places i 0) (slice_get output i)) (drop (suc i) places) (drop (suc i) output) ≡ replaced cells (drop i places) (drop i output)
replaced_more cells [] output i lt = absurd (omega arith)
replaced_more cells (place ∷ places) [] zero lt = refl
replaced_more cells (place ∷ places) (gate ∷ output) zero lt = refl
replaced_more {A} cells (place ∷ places) [] (suc i) lt =
    let none : drop i [] ≡ [] = drop_all {X = A} i [] (omega arith) in
    rw none at (replaced_more cells places [] i (omega arith))
replaced_more cells (place ∷ places) (gate ∷ output) (suc i) lt = replaced_more cells places output i (omega arith)

-- a place of a lower rank stands before
run_order : {A : Type 0} (cells : List (Option A)) (p q : ℕ) → rank cells p < rank cells q → p < q
run_order cells p q lt = ⊎_elim (λ less. less) (λ le. absurd (omega (arith, rank-le cells q p le))) (cases_lt p q)

-- live places of one rank are one
rank_one : {A : Type 0} (cells : List (Option A)) (p q : ℕ) → IsLive cells p → IsLive cells q → rank cells p ≡ rank cells q → p ≡ q
rank_one cells p q here there same =
    ⊎_elim (λ less. absurd (omega (arith, rank-lt cells p q here less)))
    (λ le. ⊎_elim (λ less. absurd (omega (arith, rank-lt cells q p there less))) (λ ge. omega arith) (cases_lt q p))
    (cases_lt p q)

-- live places whose ranks follow one another are those of a live run
pub run_from_ranks : {A : Type 0} (cells : List (Option A)) (first : ℕ) (places : List ℕ) → RunAt cells first places → IsLiveRun cells places
run_from_ranks cells first places run = record {
  all_live = λ i d lt. rw (get_or_default places i d 0 lt) (run i lt).0;
  in_order = λ i lt. run_order cells (get_or places i 0) (get_or places (i + 1) 0) (omega (arith, (run i (omega arith)).1, (run (i + 1) lt).1));
  whole = λ place low high here at_low at_high from to. between place low high here at_low at_high from to;
}
  where
    rank_of : (place : ℕ) (among : Contains places place) → rank cells place ≡ first + among.0
    rank_of place (k, lt, is) =
        let at : get_or places k 0 ≡ place = get_or_default places k 0 place lt ∙ is in
        rw at at (run k lt).1

    live_of : (place : ℕ) (among : Contains places place) → IsLive cells place
    live_of place (k, lt, is) =
        let at : get_or places k 0 ≡ place = get_or_default places k 0 place lt ∙ is in
        rw at at (run k lt).0

    between : (place low high : ℕ) → IsLive cells place → Contains places low → Contains places high → low < place → place < high → Contains places place
    between place low high here at_low at_high from to =
        let above : rank cells low < rank cells place = rank-lt cells low place (live_of low at_low) from in
        let below : rank cells place < rank cells high = rank-lt cells place high here to in
        let lows : rank cells low ≡ first + at_low.0 = rank_of low at_low in
        let highs : rank cells high ≡ first + at_high.0 = rank_of high at_high in
        let inside : rank cells place - first < length places = omega (arith, at_high.1) in
        let same : get_or places (rank cells place - first) 0 ≡ place =
        rank_one cells (get_or places (rank cells place - first) 0) place (run (rank cells place - first) inside).0 here (omega (arith, (run (rank cells place - first) inside).1)) in
        (rank cells place - first, inside, get_or_default places (rank cells place - first) place 0 inside ∙ same)

-- one live gate more
pub run_push : {A : Type 0} (cells : List (Option A)) (first place : ℕ) (places : List ℕ) → RunAt cells first places → IsLive cells place →
    rank cells place ≡ first + length places → RunAt cells first (places ++ place ∷ [])
run_push cells first place places run here is i lt = ⊎_elim before last (cases_lt i (length places))
  where
    before : i < length places → IsLive cells (get_or (places ++ place ∷ []) i 0) × (rank cells (get_or (places ++ place ∷ []) i 0) ≡ first + i)
    before less = rw (get_or_append_left places (place ∷ []) 0 i less) (run i less)

    last : length places ≤ i → IsLive cells (get_or (places ++ place ∷ []) i 0) × (rank cells (get_or (places ++ place ∷ []) i 0) ≡ first + i)
    last le =
        let end : length places ≡ i = omega (arith, length-append places (place ∷ [])) in
        rw (get_or_push places place 0 i end, ← end) (here, is)
