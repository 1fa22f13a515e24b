-- Cells as gates and flags.
use Rattle.std.proofs.Common.{◌≡◌, ℕ, zero, suc, ◌+◌, ◌-◌, ◌<◌, ◌≤◌, ◌⊎◌, inl, inr, ⊎_elim, Bool, true, false, cond, Option, Some, None, List, [], ◌∷◌, ◌++◌, map, length, take, drop, replicate, set, get_or, is_some, Vec, length-set, length-drop, append_assoc, append-nil, drop-cons, take-suc-set, refl, ap, sym, ◌∙◌, arith}
use Rattle.std.proofs.lemmas.List.{drop_all, drop-set-lt, take-set-le, take_rest, get_or-drop, with_items_is}
use Rattle.std.specs.Vec.{with_items}
use Rattle.pq_array.specs.Cells.{live, IsLive, IsLiveRun, Replaces}
use Rattle.pq_array.specs.Flags.{cells_of, unmarked, written}
use Rattle.pq_array.proofs.Ranks.{live_inside}
use Rattle.pq_array.proofs.Replacing.{replaced, Replaces-replaced}

-- there are as many cells as flags
pub length-cells_of : {A : Type 0} (gates : List A) (flags : List Bool) → length gates ≡ length flags → length (cells_of gates flags) ≡ length flags
length-cells_of [] [] same = refl
length-cells_of [] (flag ∷ flags) same = absurd (omega (arith, same))
length-cells_of (gate ∷ gates) [] same = absurd (omega (arith, same))
length-cells_of (gate ∷ gates) (true ∷ flags) same = ap (λ (n : ℕ). suc n) (length-cells_of gates flags (omega (arith, same)))
length-cells_of (gate ∷ gates) (false ∷ flags) same = ap (λ (n : ℕ). suc n) (length-cells_of gates flags (omega (arith, same)))

-- the flags say which cells are live
pub flags_are : {A : Type 0} (gates : List A) (flags : List Bool) → length gates ≡ length flags → map is_some (cells_of gates flags) ≡ flags
flags_are [] [] same = refl
flags_are [] (flag ∷ flags) same = absurd (omega (arith, same))
flags_are (gate ∷ gates) [] same = absurd (omega (arith, same))
flags_are (gate ∷ gates) (true ∷ flags) same = ap (λ (f : List Bool). true ∷ f) (flags_are gates flags (omega (arith, same)))
flags_are (gate ∷ gates) (false ∷ flags) same = ap (λ (f : List Bool). false ∷ f) (flags_are gates flags (omega (arith, same)))

-- the flag of a place says whether it is live
pub flag_is : {A : Type 0} (gates : List A) (flags : List Bool) (place : ℕ) → length gates ≡ length flags →
    is_some (get_or (cells_of gates flags) place None) ≡ get_or flags place false
flag_is [] [] place same = refl
flag_is [] (flag ∷ flags) place same = absurd (omega (arith, same))
flag_is (gate ∷ gates) [] place same = absurd (omega (arith, same))
flag_is (gate ∷ gates) (true ∷ flags) zero same = refl
flag_is (gate ∷ gates) (false ∷ flags) zero same = refl
flag_is (gate ∷ gates) (true ∷ flags) (suc place) same = flag_is gates flags place (omega (arith, same))
flag_is (gate ∷ gates) (false ∷ flags) (suc place) same = flag_is gates flags place (omega (arith, same))

-- a live place is the place of a gate
pub live_gate : {A : Type 0} (gates : List A) (flags : List Bool) (place : ℕ) → IsLive (cells_of gates flags) place → place < length gates
live_gate [] flags place here = cc
live_gate (gate ∷ gates) [] place here = cc
live_gate (gate ∷ gates) (true ∷ flags) zero here = omega arith
live_gate (gate ∷ gates) (false ∷ flags) zero here = cc
live_gate (gate ∷ gates) (true ∷ flags) (suc place) here = omega (arith, live_gate gates flags place here)
live_gate (gate ∷ gates) (false ∷ flags) (suc place) here = omega (arith, live_gate gates flags place here)

-- and its cell holds that gate
pub gate_is : {A : Type 0} (gates : List A) (flags : List Bool) (place : ℕ) (d : A) → IsLive (cells_of gates flags) place →
    get_or (cells_of gates flags) place None ≡ Some (get_or gates place d)
gate_is [] flags place d here = cc
gate_is (gate ∷ gates) [] place d here = cc
gate_is (gate ∷ gates) (true ∷ flags) zero d here = refl
gate_is (gate ∷ gates) (false ∷ flags) zero d here = cc
gate_is (gate ∷ gates) (true ∷ flags) (suc place) d here = gate_is gates flags place d here
gate_is (gate ∷ gates) (false ∷ flags) (suc place) d here = gate_is gates flags place d here

-- the same of cells that are known to be those of the gates and flags
pub gate_inside : {A : Type 0} (gates : List A) (flags : List Bool) (cells : List (Option A)) (place : ℕ) → cells_of gates flags ≡ cells → true ≡ is_some (get_or cells place None) → place < length gates
gate_inside gates flags cells place is here = live_gate gates flags place (rw is (sym here))

pub gate_here : {A : Type 0} (gates : List A) (flags : List Bool) (cells : List (Option A)) (place : ℕ) (gate : A) → cells_of gates flags ≡ cells → true ≡ is_some (get_or cells place None) →
    gate ≡ get_or gates place gate → Some gate ≡ get_or cells place None
gate_here {A} gates flags cells place gate is here same =
    let lives : IsLive (cells_of gates flags) place = rw is (sym here) in
    ap (λ (g : A). Some g) same ∙ (sym (gate_is gates flags place gate lives) ∙ ap (λ (c : List (Option A)). get_or c place None) is)

-- with all flags set, each cell holds a gate
pub cells_of_all : {A : Type 0} (gates : List A) → cells_of gates (replicate (length gates) true) ≡ map (λ gate. Some gate) gates
cells_of_all [] = refl
cells_of_all {A} (gate ∷ gates) = ap (λ (rest : List (Option A)). Some gate ∷ rest) (cells_of_all gates)

-- another gate at a live place
set_gate : {A : Type 0} (gates : List A) (flags : List Bool) (place : ℕ) (new : A) → IsLive (cells_of gates flags) place →
    cells_of (set gates place new) flags ≡ set (cells_of gates flags) place (Some new)
set_gate [] flags place new here = cc
set_gate (gate ∷ gates) [] place new here = cc
set_gate (gate ∷ gates) (true ∷ flags) zero new here = refl
set_gate (gate ∷ gates) (false ∷ flags) zero new here = cc
set_gate {A} (gate ∷ gates) (true ∷ flags) (suc place) new here = ap (λ (rest : List (Option A)). Some gate ∷ rest) (set_gate gates flags place new here)
set_gate {A} (gate ∷ gates) (false ∷ flags) (suc place) new here = ap (λ (rest : List (Option A)). None ∷ rest) (set_gate gates flags place new here)

-- and a cleared flag
clear_flag : {A : Type 0} (gates : List A) (flags : List Bool) (place : ℕ) →
    cells_of gates (set flags place false) ≡ set (cells_of gates flags) place None
clear_flag [] flags place = refl
clear_flag (gate ∷ gates) [] place = refl
clear_flag (gate ∷ gates) (true ∷ flags) zero = refl
clear_flag (gate ∷ gates) (false ∷ flags) zero = refl
clear_flag {A} (gate ∷ gates) (true ∷ flags) (suc place) = ap (λ (rest : List (Option A)). Some gate ∷ rest) (clear_flag gates flags place)
clear_flag {A} (gate ∷ gates) (false ∷ flags) (suc place) = ap (λ (rest : List (Option A)). None ∷ rest) (clear_flag gates flags place)

-- flags cleared at these places are tombstones there
cleared_cells : {A : Type 0} (gates : List A) (flags : List Bool) (places : List ℕ) → cells_of gates (unmarked flags places) ≡ replaced (cells_of gates flags) places []
cleared_cells gates flags [] = refl
cleared_cells gates flags (place ∷ places) =
    let rest = cleared_cells gates (set flags place false) places in
    rw (clear_flag gates flags place) at rest

-- gates written and flags cleared are cells replaced
written_cells : {A : Type 0} (gates : List A) (flags : List Bool) (places : List ℕ) (output : List A) → length gates ≡ length flags →
    length output ≤ length places → ((i : ℕ) → i < length output → get_or flags (get_or places i 0) false ≡ true) →
    cells_of (written gates places output) (unmarked flags (drop (length output) places)) ≡ replaced (cells_of gates flags) places output
written_cells gates flags [] [] same le marked = refl
written_cells gates flags [] (gate ∷ output) same le marked = absurd (omega arith)
written_cells gates flags (place ∷ places) [] same le marked = cleared_cells gates flags (place ∷ places)
written_cells gates flags (place ∷ places) (gate ∷ output) same le marked =
    let here : IsLive (cells_of gates flags) place = flag_is gates flags place same ∙ marked 0 (omega arith) in
    let rest = written_cells (set gates place gate) flags places output (length-set gates place gate ∙ same) (omega arith) (λ i lt. marked (suc i) (omega arith)) in
    rw (set_gate gates flags place gate here) at rest

-- so a run of live gates is replaced
pub run_written : {A : Type 0} (gates : List A) (flags : List Bool) (places : List ℕ) (output : List A) → length gates ≡ length flags →
    length output ≤ length places → IsLiveRun (cells_of gates flags) places →
    Replaces (cells_of gates flags) (cells_of (written gates places output) (unmarked flags (drop (length output) places))) places output
run_written gates flags places output same le run =
    let live_at : (i : ℕ) → i < length places → IsLive (cells_of gates flags) (get_or places i 0) = λ i lt. run.all_live i 0 lt in
    let all : cells_of (written gates places output) (unmarked flags (drop (length output) places)) ≡ replaced (cells_of gates flags) places output =
    written_cells gates flags places output same le (λ i lt. sym (flag_is gates flags (get_or places i 0) same) ∙ live_at i (omega (arith, lt, le))) in
    rw all
    (Replaces-replaced (cells_of gates flags) places output run.in_order (λ i lt. live_inside (cells_of gates flags) (get_or places i 0) (live_at i lt)) le)

-- writing and clearing keep the lengths
pub length-written : {A : Type 0} (gates : List A) (places : List ℕ) (output : List A) → length (written gates places output) ≡ length gates
length-written gates [] output = refl
length-written gates (place ∷ places) [] = refl
length-written gates (place ∷ places) (gate ∷ output) = length-written (set gates place gate) places output ∙ length-set gates place gate

pub length-unmarked : (flags : List Bool) (places : List ℕ) → length (unmarked flags places) ≡ length flags
length-unmarked flags [] = refl
length-unmarked flags (place ∷ places) = length-unmarked (set flags place false) places ∙ length-set flags place false

-- one step of a loop over the output
pub written_more : {A : Type 0} (gates : List A) (places : List ℕ) (output : List A) (i : ℕ) (d : A) → i < length output → length output ≤ length places →
    written (set gates (get_or places i 0) (get_or output i d)) (drop (suc i) places) (drop (suc i) output) ≡ written gates (drop i places) (drop i output)
written_more gates places [] i d lt le = absurd (omega arith)
written_more gates [] (gate ∷ output) i d lt le = absurd (omega arith)
written_more gates (place ∷ places) (gate ∷ output) zero d lt le = refl
written_more gates (place ∷ places) (gate ∷ output) (suc i) d lt le = written_more gates places output i d (omega arith) (omega arith)

-- after its last
pub written_all : {A : Type 0} (gates : List A) (places : List ℕ) (output : List A) (i : ℕ) → length output ≤ i → written gates (drop i places) (drop i output) ≡ gates
written_all {A} gates places output i end = rw (drop_all i output end) (by (drop i places))
  where
    by : (left : List ℕ) → written gates left [] ≡ gates
    by [] = refl
    by (place ∷ places) = refl

-- one step of a loop over the places to be cleared
pub unmarked_more : (flags : List Bool) (places : List ℕ) (i : ℕ) → i < length places →
    unmarked (set flags (get_or places i 0) false) (drop (suc i) places) ≡ unmarked flags (drop i places)
unmarked_more flags [] i lt = absurd (omega arith)
unmarked_more flags (place ∷ places) zero lt = refl
unmarked_more flags (place ∷ places) (suc i) lt = unmarked_more flags places i (omega arith)

-- what was moved to the first places, and what is left to be moved, are the gates with a set flag
pub record Packs {A : Type 0} (gates now : List A) (flags : List Bool) (next place : ℕ) : Type 0 where
  pub behind : next ≤ place
  pub size : length now ≡ length gates
  pub kept : take next now ++ live (cells_of (drop place now) (drop place flags)) ≡ live (cells_of gates flags)

pub packs : {A : Type 0} (gates : List A) (flags : List Bool) → Packs gates gates flags 0 0
packs gates flags = record { behind = omega arith; size = refl; kept = refl }

-- one place more
pub packs_more : {A : Type 0} (gates now : List A) (flags : List Bool) (next place step : ℕ) (d : A) (flag : Bool) → length gates ≡ length flags → place < length flags →
    get_or flags place flag ≡ flag → step ≡ cond flag 1 0 → Packs gates now flags next place → Packs gates (set now next (get_or now place d)) flags (next + step) (place + 1)
packs_more {A} gates now flags next place step d flag same lt is step_is so_far = record {
  behind = ⊎_elim (λ one. omega (arith, one, so_far.behind)) (λ none. omega (arith, none, so_far.behind)) (step_small flag step_is);
  size = length-set now next (get_or now place d) ∙ so_far.size;
  kept = by flag is step_is ∙ so_far.kept;
}
  where
    step_small : (b : Bool) → step ≡ cond b 1 0 → (step ≡ 1) ⊎ (step ≡ 0)
    step_small true one = inl one
    step_small false none = inr none

    rest_same : drop (suc place) (set now next (get_or now place d)) ≡ drop (suc place) now
    rest_same = drop-set-lt (suc place) now next (get_or now place d) (omega (arith, so_far.behind))

    inside : place < length now
    inside = omega (arith, so_far.size, same, lt)

    gates_left : drop place now ≡ get_or now place d ∷ drop (suc place) now
    gates_left = drop-cons now place d inside

    flags_left : (b : Bool) → get_or flags place b ≡ b → drop place flags ≡ b ∷ drop (suc place) flags
    flags_left b here = drop-cons flags place b lt ∙ ap (λ (f : Bool). f ∷ drop (suc place) flags) here

    by : (b : Bool) → get_or flags place b ≡ b → step ≡ cond b 1 0 →
        take (next + step) (set now next (get_or now place d)) ++ live (cells_of (drop (place + 1) (set now next (get_or now place d))) (drop (place + 1) flags))
        ≡ take next now ++ live (cells_of (drop place now) (drop place flags))
    by true here one =
        let on : next + step ≡ suc next = omega (arith, one) in
        let later : place + 1 ≡ suc place = omega arith in
        let moved : take (suc next) (set now next (get_or now place d)) ≡ take next now ++ get_or now place d ∷ [] =
        take-suc-set now next (get_or now place d) (omega (arith, so_far.behind, inside)) in
        rw (on, later, moved, rest_same, gates_left, flags_left true here)
        (append_assoc (take next now) (get_or now place d ∷ []) (live (cells_of (drop (suc place) now) (drop (suc place) flags))))
    by false here none =
        let on : next + step ≡ next = omega (arith, none) in
        let later : place + 1 ≡ suc place = omega arith in
        let moved : take next (set now next (get_or now place d)) ≡ take next now = take-set-le next now next (get_or now place d) (omega arith) in
        rw (on, later, moved, rest_same, gates_left, flags_left false here) refl

-- all is moved
pub packs_all : {A : Type 0} (gates now : List A) (flags : List Bool) (next place : ℕ) → length gates ≡ length flags → length flags ≤ place → Packs gates now flags next place →
    take next now ≡ live (cells_of gates flags)
packs_all {A} gates now flags next place same end so_far =
    let none : drop place now ≡ [] = drop_all place now (omega (arith, so_far.size, same, end)) in
    sym (append-nil (take next now)) ∙ rw none at so_far.kept

-- so it is in vectors that are written over
pub replaced_over : {A Z : Type 0} (gates : Vec A Z) (flags : Vec Bool Z) {new_gates : List A} {new_flags : List Bool} {places : List ℕ} {output : List A} → length gates.items ≡ length flags.items →
    length output ≤ length places → IsLiveRun (cells_of gates.items flags.items) places → new_gates ≡ written gates.items places output →
    new_flags ≡ unmarked flags.items (take (length places - length output) (drop (length output) places)) →
    Replaces (cells_of gates.items flags.items) (cells_of (with_items gates new_gates).items (with_items flags new_flags).items) places output
replaced_over {A} {Z} gates flags {new_gates} {new_flags} {places} {output} same le run put cleared =
    let rest : take (length places - length output) (drop (length output) places) ≡ drop (length output) places = take_rest places (length output) in
    let gates_long : length new_gates ≡ gates.len = ap (λ (x : List A). length x) put ∙ (length-written gates.items places output ∙ sym gates.ok.0) in
    let flags_long : length new_flags ≡ flags.len = ap (λ (x : List Bool). length x) cleared ∙ (length-unmarked flags.items (take (length places - length output) (drop (length output) places)) ∙ sym flags.ok.0) in
    let gates_now : (with_items gates new_gates).items ≡ written gates.items places output = with_items_is gates new_gates gates_long ∙ put in
    let flags_now : (with_items flags new_flags).items ≡ unmarked flags.items (drop (length output) places) =
    with_items_is flags new_flags flags_long ∙ (cleared ∙ ap (λ (p : List ℕ). unmarked flags.items p) rest) in
    let cells : cells_of (written gates.items places output) (unmarked flags.items (drop (length output) places)) ≡ cells_of (with_items gates new_gates).items (with_items flags new_flags).items =
    sym (ap (λ (g : List A). cells_of g (with_items flags new_flags).items) gates_now ∙ ap (λ (f : List Bool). cells_of (written gates.items places output) f) flags_now) in
    rw cells at (run_written gates.items flags.items places output same le run)

-- the places of a run are places of flags, also behind its first
pub rest_inside : {A : Type 0} (gates : List A) (flags : List Bool) (places : List ℕ) (n : ℕ) → length gates ≡ length flags → IsLiveRun (cells_of gates flags) places →
    (k d : ℕ) → k < length (take (length places - n) (drop n places)) → get_or (take (length places - n) (drop n places)) k d < length flags
rest_inside gates flags places n same run k d lt =
    let all : take (length places - n) (drop n places) ≡ drop n places = take_rest places n in
    let inside : n + k < length places = omega (arith, lt, ap (λ (p : List ℕ). length p) all, length-drop n places) in
    let at : get_or (take (length places - n) (drop n places)) k d ≡ get_or places (n + k) d = ap (λ (p : List ℕ). get_or p k d) all ∙ get_or-drop n places k d in
    omega (arith, at, live_gate gates flags (get_or places (n + k) d) (run.all_live (n + k) d inside), same)
