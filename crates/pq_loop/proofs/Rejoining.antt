-- Cells after the answers of a round are put, and the words of the tree over them.
use Rattle.std.proofs.Common.{arith, ◌≡◌, ◌≢◌, ℕ, zero, suc, ◌+◌, ◌-◌, ◌/◌, ◌<◌, ◌≤◌, ◌⊎◌, inl, inr, ⊎_elim, Bool, true, false, cond, eqb, Option, Some, None, List, [], ◌∷◌, ◌++◌, length, drop, get_or, slice_get, refl, sym, ap, ap₂, ◌∙◌, subst}
use Rattle.std.specs.Prelude.{All, Contains, IsSome}
use Rattle.std.specs.Int.{IsNextPowerOfTwo}
use Rattle.std.specs.List.{concat}
use Rattle.std.proofs.lemmas.List.Elements.{All-nil, All-append}
use Rattle.std.proofs.lemmas.Bool.{cases_lt, cases_eq}
use Rattle.std.proofs.lemmas.Bool.Decides.{nat_tests}
use Rattle.std.proofs.lemmas.List.{get_or-drop, get_or_default, length-drop}
use Rattle.std.proofs.lemmas.Option.{slice_get_past}
use Rattle.std.proofs.lemmas.Bool.{cases_Bool}
use Rattle.std.proofs.lemmas.List.{drop_more, drop_all}
use Rattle.pq_gate.specs.declared.gate.Gate.{Gate}
use Rattle.pq_oracle.specs.Outcomes.{WorkedView}
use Rattle.pq_array.specs.Cells.{live, IsLiveRun, IsLive, live_places, live_places_from, Replaces}
use Rattle.pq_array.specs.Counts.{Counts}
use Rattle.pq_array.specs.Tree.{IsTreeOf}
use Rattle.pq_array.proofs.Descent.{root_counts}
use Rattle.pq_board.specs.Sums.{times, one_if_same}
use Rattle.pq_board.specs.Ways.{live_leaves}
use Rattle.pq_board.specs.Law.{late, one_if_late}
use Rattle.pq_board.specs.Steps.{Numbers, without, early, AreFirst}
use Rattle.pq_board.specs.declared.plan.Plan.{Plan}
use Rattle.pq_board.proofs.Keeping.{late_below}
use Rattle.pq_board.proofs.Whole.{early_late}
use Rattle.pq_board.proofs.Sums.{weigh_append, times_contains, one_other}
use Rattle.pq_board.proofs.Ways.{times_none}
use Rattle.pq_round.specs.Results.{given_up, all_given_up, AreSameNumbers}

-- the live cells are those that were live, but for these places
pub record LiveBut {A : Type 0} (old new : List (Option A)) (given : List ℕ) : Type 0 where
  pub size : length new ≡ length old
  pub was : (p : ℕ) → IsLive new p → IsLive old p
  pub kept : (p : ℕ) → IsLive new p → times p given ≡ 0
  pub stays : (p : ℕ) → IsLive old p → times p given ≡ 0 → IsLive new p

pub but_none : {A : Type 0} (cells : List (Option A)) → LiveBut cells cells []
but_none cells = record { size = refl; was = λ p live. live; kept = λ p live. refl; stays = λ p live none. live }

-- one change after another
pub but_more : {A : Type 0} (old between new : List (Option A)) (given more : List ℕ) → LiveBut old between given → LiveBut between new more → LiveBut old new (more ++ given)
but_more old between new given more one two = record {
  size = two.size ∙ one.size;
  was = λ p live. one.was p (two.was p live);
  kept = λ p live. omega (arith, weigh_append (λ y. one_if_same y p) more given, two.kept p live, one.kept p (two.was p live));
  stays = λ p live none.
      two.stays p (one.stays p live (omega (arith, weigh_append (λ y. one_if_same y p) more given, none))) (omega (arith, weigh_append (λ y. one_if_same y p) more given, none));
}

-- the same places in another order
pub but_same : {A : Type 0} (old new : List (Option A)) (given other : List ℕ) → AreSameNumbers other given → LiveBut old new given → LiveBut old new other
but_same old new given other same but = record {
  size = but.size;
  was = but.was;
  kept = λ p live. same (λ y. one_if_same y p) ∙ but.kept p live;
  stays = λ p live none. but.stays p live (sym (same (λ y. one_if_same y p)) ∙ none);
}

-- a number stands in a list, or no time
there_or_none : (p : ℕ) (xs : List ℕ) → Contains xs p ⊎ (times p xs ≡ 0)
there_or_none p [] = inr refl
there_or_none p (x ∷ xs) = ⊎_elim (λ same. inl (0, omega arith, same)) (λ apart. by apart (there_or_none p xs)) (cases_eq x p)
  where
    by : x ≢ p → Contains xs p ⊎ (times p xs ≡ 0) → Contains (x ∷ xs) p ⊎ (times p (x ∷ xs) ≡ 0)
    by apart (inl (k, lt, is)) = inl (suc k, omega (arith, lt), is)
    by apart (inr none) = inr (omega (arith, one_other x p apart, none))

-- no cell is both
none_there : (A : Type 0) → IsSome {T = A} None → ⊥
none_there A is = absurd (cc)

-- an item that is there
some_at : {A : Type 0} (xs : List A) (i : ℕ) → i < length xs → IsSome (slice_get xs i)
some_at [] i lt = absurd (omega (arith, lt))
some_at (x ∷ xs) zero lt = refl
some_at (x ∷ xs) (suc i) lt = some_at xs i (omega (arith, lt))

-- a replacement takes out the places behind its output
pub but_replaced : {A : Type 0} (old new : List (Option A)) (places : List ℕ) (output : List A) → All (IsLive old) places → Replaces old new places output
    → LiveBut old new (drop (length output) places)
but_replaced {A} old new places output live replaces = record {
  size = replaces.size;
  was = λ p here. ⊎_elim (λ at. listed_was p at) (λ none. subst (λ (c : Option A). IsSome c) (replaces.others p (not_there p none)) here) (there_or_none p places);
  kept = λ p here. times_none p (drop (length output) places) (λ at. dead p at here);
  stays = λ p here none. ⊎_elim (λ at. listed_stays p at none) (λ out. subst (λ (c : Option A). IsSome c) (sym (replaces.others p (not_there p out))) here) (there_or_none p places);
}
  where
    not_there : (p : ℕ) → times p places ≡ 0 → Contains places p → ⊥
    not_there p none at = omega (arith, none, times_contains p places at)

    listed_was : (p : ℕ) → Contains places p → IsLive old p
    listed_was p (k, lt, is) = subst (IsLive old) is (live k p lt)

    cell : (p k : ℕ) → k < length places → get_or places k p ≡ p → get_or new p None ≡ slice_get output k
    cell p k lt is = ap (λ (q : ℕ). get_or new q None) (sym is ∙ get_or_default places k p 0 lt) ∙ replaces.listed k lt

    dead : (p : ℕ) → Contains (drop (length output) places) p → IsLive new p → ⊥
    dead p (k, lt, is) here =
        let inside : length output + k < length places = omega (arith, lt, length-drop (length output) places) in
        let none : get_or new p None ≡ None = cell p (length output + k) inside (sym (get_or-drop (length output) places k p) ∙ is) ∙ slice_get_past output (length output + k) (omega arith) in
        none_there A (subst (λ (c : Option A). IsSome c) none here)

    listed_stays : (p : ℕ) → Contains places p → times p (drop (length output) places) ≡ 0 → IsLive new p
    listed_stays p (k, lt, is) none =
        ⊎_elim (λ before. subst (λ (c : Option A). IsSome c) (sym (cell p k lt is)) (some_at output k before))
        (λ behind.
        let e : length output + (k - length output) ≡ k = omega arith in
        let inside : k - length output < length (drop (length output) places) = omega (arith, lt, length-drop (length output) places) in
        let at : Contains (drop (length output) places) p =
        (k - length output, inside, get_or-drop (length output) places (k - length output) p ∙ (ap (λ (i : ℕ). get_or places i p) e ∙ is)) in
        absurd (omega (arith, none, times_contains p (drop (length output) places) at)))
        (cases_lt k (length output))

-- the live places, one after another
places_from : {A : Type 0} (first : ℕ) (old new : List (Option A)) (given : List ℕ) → length new ≡ length old → ((i : ℕ) → IsLive new i → IsLive old i)
    → ((i : ℕ) → IsLive new i → times (first + i) given ≡ 0) → ((i : ℕ) → IsLive old i → times (first + i) given ≡ 0 → IsLive new i)
    → live_places_from first new ≡ without given (live_places_from first old)
places_from first [] [] given same was kept stays = refl
places_from first [] (c ∷ new) given same was kept stays = absurd (omega (arith, same))
places_from first (c ∷ old) [] given same was kept stays = absurd (omega (arith, same))
places_from {A} first (c ∷ old) (d ∷ new) given same was kept stays =
    by c d (was 0) (kept 0) (stays 0)
    (places_from (first + 1) old new given (omega (arith, same)) (λ i. was (suc i)) (λ i here. ap (λ (n : ℕ). times n given) (next i) ∙ kept (suc i) here)
    (λ i here none. stays (suc i) here (ap (λ (n : ℕ). times n given) (sym (next i)) ∙ none)))
  where
    next : (i : ℕ) → first + 1 + i ≡ first + suc i
    next i = omega arith

    here : first + 0 ≡ first
    here = omega arith

    by : (c d : Option A) → (IsSome d → IsSome c) → (IsSome d → times (first + 0) given ≡ 0) → (IsSome c → times (first + 0) given ≡ 0 → IsSome d)
        → live_places_from (first + 1) new ≡ without given (live_places_from (first + 1) old)
        → live_places_from first (d ∷ new) ≡ without given (live_places_from first (c ∷ old))
    by None None was kept stays rest = rest
    by None (Some g) was kept stays rest = absurd (none_there A (was refl))
    by (Some g) None was kept stays rest =
        let some : times first given ≢ 0 = λ none. none_there A (stays refl (ap (λ (n : ℕ). times n given) here ∙ none)) in
        let out : eqb (times first given) 0 ≡ false = grind (arith, nat_tests) in
        rest ∙ sym (ap (λ (b : Bool). cond b (first ∷ without given (live_places_from (first + 1) old)) (without given (live_places_from (first + 1) old))) out)
    by (Some g) (Some h) was kept stays rest =
        let none : times first given ≡ 0 = ap (λ (n : ℕ). times n given) (sym here) ∙ kept refl in
        let in' : eqb (times first given) 0 ≡ true = grind (arith, nat_tests) in
        ap (λ (l : List ℕ). first ∷ l) rest
        ∙ sym (ap (λ (b : Bool). cond b (first ∷ without given (live_places_from (first + 1) old)) (without given (live_places_from (first + 1) old))) in')

pub places_but : {A : Type 0} (old new : List (Option A)) (given : List ℕ) → LiveBut old new given → live_places new ≡ without given (live_places old)
places_but old new given but =
    places_from 0 old new given but.size but.was (λ i here. ap (λ (n : ℕ). times n given) (from_0 i) ∙ but.kept i here)
    (λ i here none. but.stays i here (ap (λ (n : ℕ). times n given) (sym (from_0 i)) ∙ none))
  where
    from_0 : (i : ℕ) → 0 + i ≡ i
    from_0 i = omega arith

-- the closing words of a board are those of the tree over the cells after the round
pub tree_rejoined : {A : Type 0} (old new : List (Option A)) (words opened closed lowered given : List ℕ) → IsTreeOf old words → length closed ≡ length words → live_leaves opened ≡ live_places old
    → LiveBut old new given → AreSameNumbers lowered given → Counts closed (without lowered (live_leaves opened)) → IsTreeOf new closed
tree_rejoined {A} old new words opened closed lowered given tree same leaves but numbers counts = record {
  leaves = subst (λ (n : ℕ). IsNextPowerOfTwo n (length closed / 2)) (sym but.size) (subst (λ (n : ℕ). IsNextPowerOfTwo (length old) (n / 2)) (sym same) tree.leaves);
  counts = subst (Counts closed) (ap (λ (l : List ℕ). without lowered l) leaves ∙ sym (places_but old new lowered (but_same old new given lowered numbers but))) counts;
}

-- the same numbers left out
pub without_same : (given other xs : List ℕ) → AreSameNumbers given other → without given xs ≡ without other xs
without_same given other [] same = refl
without_same given other (x ∷ xs) same =
    let is : times x given ≡ times x other = same (λ y. one_if_same y x) in
    ap₂ (λ (n : ℕ) (rest : List ℕ). cond (eqb n 0) (x ∷ rest) rest) is (without_same given other xs same)

-- the places of live cells are among the live places
live_from : {A : Type 0} (first : ℕ) (cells : List (Option A)) (i : ℕ) → IsLive cells i → Contains (live_places_from first cells) (first + i)
live_from {A} first [] i live = absurd (none_there A live)
live_from {A} first (None ∷ cells) zero live = absurd (none_there A live)
live_from first (Some g ∷ cells) zero live = (0, omega arith, omega arith)
live_from first (None ∷ cells) (suc i) live = let e : first + 1 + i ≡ first + suc i = omega arith in subst (Contains (live_places_from (first + 1) cells)) e (live_from (first + 1) cells i live)
live_from first (Some g ∷ cells) (suc i) live = by (live_from (first + 1) cells i live)
  where
    by : Contains (live_places_from (first + 1) cells) (first + 1 + i) → Contains (first ∷ live_places_from (first + 1) cells) (first + suc i)
    by (k, lt, is) =
        let e : first + 1 + i ≡ first + suc i = omega arith in
        subst (Contains (first ∷ live_places_from (first + 1) cells)) e (suc k, omega (arith, lt), is)

all_live_from : {A : Type 0} (cells : List (Option A)) (places : List ℕ) → All (IsLive cells) places → All (Contains (live_places cells)) places
all_live_from cells places live k d lt = let e : 0 + get_or places k d ≡ get_or places k d = omega arith in subst (Contains (live_places cells)) e (live_from 0 cells (get_or places k d) (live k d lt))

pub jobs_live_from : {A : Type 0} (cells : List (Option A)) (jobs : List (List ℕ)) → All (λ places. All (IsLive cells) places) jobs → All (Contains (live_places cells)) (concat jobs)
jobs_live_from cells [] live = All-nil (Contains (live_places cells))
jobs_live_from cells (j ∷ js) live =
    All-append (Contains (live_places cells)) j (concat js) (all_live_from cells j (live 0 j (omega arith))) (jobs_live_from cells js (λ k d lt. live (suc k) d (omega (arith, lt))))

-- all jobs were claimed
pub early_all : (plan : Plan) (tickets : List ℕ) → AreFirst tickets → 1 ≤ late plan tickets → early plan tickets ≡ length plan.jobs
early_all plan tickets first some = omega (arith, early_late plan tickets, first (one_if_late plan), late_below plan (length tickets), some)

-- one result more is put, the last one first
pub but_turn : {old now new : List (Option Gate)} {n : ℕ} {places : List ℕ} (jobs : List (List ℕ)) (results : List WorkedView) (worked : WorkedView) →
    worked ≡ get_or results (n - 1) worked → 1 ≤ n → n ≤ length results → places ≡ get_or jobs (n - 1) [] → (get_or results (n - 1) worked).ticket ≡ n - 1 → IsLiveRun now places →
    (worked.answer.improved ≡ false → new ≡ now) → (worked.answer.improved ≡ true → Replaces now new places worked.answer.gates) →
    LiveBut old now (all_given_up jobs (drop n results)) → LiveBut old new (all_given_up jobs (drop (n - 1) results))
but_turn {old} {now} {new} {n} {places} jobs results worked is some inside places_is ticket run same done but =
    subst (λ (rs : List WorkedView). LiveBut old new (all_given_up jobs rs)) (sym split)
    (but_more old now new (all_given_up jobs (drop n results)) (given_up jobs worked) but (one (cases_Bool worked.answer.improved)))
  where
    own : worked.ticket ≡ n - 1
    own = ap (λ (w : WorkedView). w.ticket) is ∙ ticket

    next : n - 1 + 1 ≡ n
    next = omega (arith, some)

    split : drop (n - 1) results ≡ worked ∷ drop n results
    split = drop_more results (n - 1) worked (omega (arith, some, inside)) ∙ ap₂ (λ (w : WorkedView) (k : ℕ). w ∷ drop k results) (sym is) next

    one : (worked.answer.improved ≡ true) ⊎ (worked.answer.improved ≡ false) → LiveBut now new (given_up jobs worked)
    one (inl better) =
        subst (LiveBut now new) (sym (ap₂ (λ (b : Bool) (l : List ℕ). cond b (drop (length worked.answer.gates) l) []) better (ap (λ (k : ℕ). get_or jobs k []) own ∙ sym places_is)))
        (but_replaced now new places worked.answer.gates run.all_live (done better))
    one (inr no_better) =
        subst (λ (cells : List (Option Gate)). LiveBut now cells (given_up jobs worked)) (sym (same no_better))
        (subst (LiveBut now now) (sym (ap (λ (b : Bool). cond b (drop (length worked.answer.gates) (get_or jobs worked.ticket [])) []) no_better)) (but_none now))

-- none is put yet
pub but_start : (cells : List (Option Gate)) (jobs : List (List ℕ)) (results : List WorkedView) → LiveBut cells cells (all_given_up jobs (drop (length results) results))
but_start cells jobs results = subst (λ (rs : List WorkedView). LiveBut cells cells (all_given_up jobs rs)) (sym (drop_all (length results) results (omega arith))) (but_none cells)

-- all are put
pub but_end : (old new : List (Option Gate)) (jobs : List (List ℕ)) (results : List WorkedView) (n : ℕ) → n ≡ 0 → LiveBut old new (all_given_up jobs (drop n results))
    → live_places new ≡ without (all_given_up jobs results) (live_places old)
but_end old new jobs results n none but = places_but old new (all_given_up jobs results) (subst (λ (k : ℕ). LiveBut old new (all_given_up jobs (drop k results))) none but)

-- the words that count the cells after a round are those of the tree over them
pub tree_after : {A : Type 0} (old cells new : List (Option A)) (words closed given other : List ℕ) → IsTreeOf old words → cells ≡ old → length new ≡ length cells → length closed ≡ length words
    → other ≡ given → live_places new ≡ without other (live_places cells) → Counts closed (without given (live_places cells)) → IsTreeOf new closed
tree_after {A} old cells new words closed given other tree is size same numbers gone counts = record {
  leaves = subst (λ (n : ℕ). IsNextPowerOfTwo n (length closed / 2)) (sym (size ∙ ap (λ (l : List (Option A)). length l) is)) (subst (λ (n : ℕ). IsNextPowerOfTwo (length old) (n / 2)) (sym same) tree.leaves);
  counts = subst (Counts closed) (sym (gone ∙ ap (λ (l : List ℕ). without l (live_places cells)) numbers)) counts;
}

-- the roots of the board's words are the numbers of the live cells before and after a round with a job for each selected finger
pub round_receipt : {A : Type 0} (old cells new : List (Option A)) (words closed : List ℕ) (jobs : List (List ℕ)) → IsTreeOf old words → IsTreeOf cells closed → new ≡ cells →
    {selected : ℕ} → selected ≡ length jobs → {receipt : Numbers} →
    receipt ≡ record { jobs = length jobs; claimed = length jobs; opened = get_or words 1 0; closed = get_or closed 1 0 } →
    receipt ≡ record { jobs = selected; claimed = selected; opened = length (live old); closed = length (live new) }
round_receipt {A} old cells new words closed jobs before after same {selected} count {receipt} is =
    let opened : get_or words 1 0 ≡ length (live old) = root_counts old words before in
    let left : get_or closed 1 0 ≡ length (live new) = root_counts cells closed after ∙ ap (λ (l : List (Option A)). length (live l)) (sym same) in
    is ∙ (λ i. record { jobs = sym count i; claimed = sym count i; opened = opened i; closed = left i })
