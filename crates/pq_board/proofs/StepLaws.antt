-- The law of a board, and the live leaves of a tree.
use Rattle.std.proofs.Common.{◌≡◌, ◌≢◌, ℕ, zero, suc, ◌+◌, ◌-◌, ◌*◌, ◌/◌, ◌^◌, ◌<◌, ◌≤◌, ◌⊎◌, inl, inr, ⊎_elim, List, [], ◌∷◌, ◌++◌, length, drop, set, get_or, refl, sym, ◌∙◌, subst, arith}
use Rattle.std.specs.Prelude.{All, Contains}
use Rattle.std.specs.List.{concat}
use Rattle.std.specs.List.Sorted.{IsStrictlyIncreasing}
use Rattle.std.proofs.lemmas.Bool.{cases_lt}
use Rattle.std.proofs.lemmas.List.{get_or-drop, length-drop}
use Rattle.std.proofs.lemmas.List.Elements.{All-head, All-tail, Contains-get_or}
use mathlib.Core.Option.{some}
use lib.ListN.{get_elem?}
use Rattle.atomic_table.proofs.Lists.{set_else}
use Rattle.pq_array.specs.Counts.{Counts}
use Rattle.pq_array.proofs.Replacing.{rising_tail}
use Rattle.pq_array.proofs.TreeLaws.{Counts-live_leaf, Counts-other_leaf}
use Rattle.pq_board.specs.Sums.{weigh, times}
use Rattle.pq_board.specs.Ways.{way, live_from, live_leaves}
use Rattle.pq_board.specs.Law.{Lawful, leaves, job, nodes_at, lowerings_of}
use Rattle.pq_board.specs.Steps.{with_ticket, with_lowered, with_both, at_nodes, places_under}
use Rattle.pq_board.specs.Kinds.{Seated, Step, split, claim, lower, join, survey}
use Rattle.pq_board.specs.declared.plan.Plan.{Plan}
use Rattle.pq_board.specs.declared.plan.View.{View}
use Rattle.pq_board.proofs.Sums.{weigh_le, below_joined}
use Rattle.pq_board.proofs.Bounds.{places_below, lowered_le, first_below}
use Rattle.pq_board.proofs.Keeping.{claims, splits, lowers, lowers_room, joins}
use Rattle.pq_board.proofs.Allowed.{own, back, plan_words}

-- each kind of step keeps the law
pub step_keeps : (plan : Plan) (words after : List ℕ) (views views_after : List View) → Lawful plan words views → Step plan words views after views_after → Lawful plan after views_after
step_keeps plan words _ views _ law (split seat view rights seated few less) =
    let same : plan ≡ view.plan = sym seated.plan_is in
    rw same (splits words views seat view rights (own plan view words views same law) seated.here few less)
step_keeps plan words _ views _ law (claim seat view seated right) =
    let same : plan ≡ view.plan = sym seated.plan_is in
    let long : 0 < length words = omega (arith, law.size, plan_words plan law.opened) in
    let next : get_or words 0 0 + 1 ≡ suc (get_or words 0 0) = omega arith in
    rw next (back plan view (set words 0 (suc (get_or words 0 0))) (set views seat (with_ticket (get_or words 0 0) view)) same
    (claims words views seat view (own plan view words views same law) seated.here right long))
step_keeps plan words _ views _ law (lower seat view ticket place node rest seated low held early there next) =
    let same : plan ≡ view.plan = sym seated.plan_is in
    let its : Lawful view.plan words views = own plan view words views same law in
    lowering its (rw same at early) (rw same at there) (rw same at next)
  where
    lowering : Lawful view.plan words views → ticket < length view.plan.jobs → Contains (job view.plan ticket) place →
        nodes_at place view.lowered ++ node ∷ rest ≡ way (leaves view.plan) place →
        Lawful plan (set words node (get_or words node 0 - 1)) (set views seat (with_lowered (at_nodes ticket place (node ∷ [])) view))
    lowering its early there next =
        let room : 1 ≤ get_or words node 0 = lowers_room words views seat view ticket place node rest its seated.here low held there next in
        back plan view (set words node (get_or words node 0 - 1)) (set views seat (with_lowered (at_nodes ticket place (node ∷ [])) view)) (sym seated.plan_is)
        (lowers words views seat view ticket place node (get_or words node 0 - 1) rest its seated.here low held early there next (omega arith))
step_keeps plan words _ views _ law (join seat other view from seated too apart) =
    let back_apart : other ≢ seat = (λ e. apart (sym e)) in
    joins plan words views seat other view from law seated.here back_apart (set_else views seat other (with_both view from) back_apart ∙ too.here) seated.plan_is too.plan_is
step_keeps plan words _ views _ law survey = law

-- no word is more than at the opening
pub word_most : (plan : Plan) (words : List ℕ) (views : List View) → Lawful plan words views → (node : ℕ) → 1 ≤ node → get_or words node 0 ≤ get_or plan.words.items node 0
word_most plan words views law node low = omega (arith, law.counts node low)

-- and none is less than that without all places of the jobs below its node
pub word_least : (plan : Plan) (words : List ℕ) (views : List View) → Lawful plan words views → (node : ℕ) → 1 ≤ node →
    get_or plan.words.items node 0 ≤ get_or words node 0 + places_under plan node (concat plan.jobs)
word_least plan words views law node low =
    omega (
      arith,
      law.counts node low,
      weigh_le (λ (u : View). lowerings_of node u.lowered) (λ (u : View). weigh (places_below plan node) u.tickets) views each_le,
      law.tickets (places_below plan node),
      below_joined (λ p. times node (way (leaves plan) p)) plan.jobs (get_or words 0 0),
    )
  where
    each_le : (j : ℕ) (u : View) → get_elem? views j ≡ some u → lowerings_of node u.lowered ≤ weigh (places_below plan node) u.tickets
    each_le j u there = ⊎_elim (λ e. rw e (omega arith)) (λ s. lowered_le plan u node s) (law.each j u there)

-- numbers that rise, of which none is before the first, are the places of the leaves that aren't 0
live_is : (first : ℕ) (words live : List ℕ) → IsStrictlyIncreasing live → All (λ p. first ≤ p) live → All (λ p. p < first + length words) live →
    ((i : ℕ) → i < length words → Contains live (first + i) → get_or words i 0 ≡ 1) →
    ((i : ℕ) → i < length words → (Contains live (first + i) → ⊥) → get_or words i 0 ≡ 0) → live_from first words ≡ live
live_is first [] [] up from to here out = refl
live_is first [] (p ∷ ps) up from to here out =
    absurd (omega (arith, All-head (λ p. first ≤ p) p ps from, All-head (λ p. p < first + 0) p ps to))
live_is first (zero ∷ words) live up from to here out =
    live_is (first + 1) words live up later (λ k d lt. omega (arith, to k d lt))
    (λ i lt at. here (suc i) (omega arith) (moved i at)) (λ i lt not. out (suc i) (omega arith) (λ at. not (back_at i at)))
  where
    moved : (i : ℕ) → Contains live (first + 1 + i) → Contains live (first + suc i)
    moved i at = let e : first + 1 + i ≡ first + suc i = omega arith in subst (Contains live) e at

    back_at : (i : ℕ) → Contains live (first + suc i) → Contains live (first + 1 + i)
    back_at i at = let e : first + suc i ≡ first + 1 + i = omega arith in subst (Contains live) e at

    missing : Contains live first → ⊥
    missing at = let e : first ≡ first + 0 = omega arith in omega (arith, here 0 (omega arith) (subst (Contains live) e at))

    later : All (λ p. first + 1 ≤ p) live
    later k d lt =
        ⊎_elim (λ less. omega arith)
        (λ le.
        let e : get_or live k d ≡ first = omega (arith, from k d lt) in
        absurd (missing (subst (Contains live) e (Contains-get_or live k d lt)))) (cases_lt first (get_or live k d))
live_is first (suc n ∷ words) [] up from to here out = absurd (omega (arith, out 0 (omega arith) none_there))
  where
    none_there : Contains [] (first + 0) → ⊥
    none_there (k, lt, is) = omega arith
live_is first (suc n ∷ words) (p ∷ ps) up from to here out = by (cases_lt first p) (live_is (first + 1) words ps (rising_tail p ps up))
  where
    -- a number before all others isn't there
    missing : first < p → ⊥
    missing less =
        omega (arith, out 0 (omega arith) (λ at. not_there less at))
      where
        not_there : first < p → Contains (p ∷ ps) (first + 0) → ⊥
        not_there less (zero, lt, is) = omega (arith, is)
        not_there less (suc k, lt, is) = omega (arith, first_below p (first + 0) ps up (k, omega arith, is))

    by : (first < p) ⊎ (p ≤ first) →
        (All (λ p. first + 1 ≤ p) ps → All (λ p. p < first + 1 + length words) ps → ((i : ℕ) → i < length words → Contains ps (first + 1 + i) → get_or words i 0 ≡ 1) →
        ((i : ℕ) → i < length words → (Contains ps (first + 1 + i) → ⊥) → get_or words i 0 ≡ 0) → live_from (first + 1) words ≡ ps) →
        first ∷ live_from (first + 1) words ≡ p ∷ ps
    by (inl less) again = absurd (missing less)
    by (inr le) again =
        let same : first ≡ p = omega (arith, All-head (λ p. first ≤ p) p ps from) in
        let rest : live_from (first + 1) words ≡ ps =
        again (λ k d lt. omega (arith, first_below p (get_or ps k d) ps up (Contains-get_or ps k d lt)))
        (λ k d lt. omega (arith, All-tail (λ p. p < first + length (suc n ∷ words)) p ps to k d lt))
        (λ i lt at. here (suc i) (omega arith) (behind i at)) (λ i lt not. out (suc i) (omega arith) (λ at. not (before i at))) in
        λ i. same i ∷ rest i
      where
        behind : (i : ℕ) → Contains ps (first + 1 + i) → Contains (p ∷ ps) (first + suc i)
        behind i at = let e : first + 1 + i ≡ first + suc i = omega arith in subst (Contains (p ∷ ps)) e (suc at.0, omega (arith, at.1), at.2)

        before : (i : ℕ) → Contains (p ∷ ps) (first + suc i) → Contains ps (first + 1 + i)
        before i (zero, lt, is) = absurd (omega (arith, is))
        before i (suc k, lt, is) = let e : first + suc i ≡ first + 1 + i = omega arith in subst (Contains ps) e (k, omega arith, is)

-- what words count is what their live leaves are
pub leaves_counted : (words live : List ℕ) → Counts words live → live_leaves words ≡ live
leaves_counted words live counts =
    live_is 0 (drop (length words / 2) words) live counts.in_order (λ k d lt. omega arith) (λ k d lt. omega (arith, counts.in_range k d lt, many))
    (λ i lt at. get_or-drop (length words / 2) words i 0 ∙ Counts-live_leaf words live counts (length words / 2) i pairs (omega (arith, many)) (there i at))
    (λ i lt not. get_or-drop (length words / 2) words i 0 ∙ Counts-other_leaf words live counts (length words / 2) i pairs (omega (arith, many)) (λ at. not (away i at)))
  where
    pairs : length words ≡ 2 * (length words / 2)
    pairs = omega (arith, counts.size)

    many : length (drop (length words / 2) words) ≡ 2 ^ counts.height
    many = omega (arith, length-drop (length words / 2) words, counts.size)

    there : (i : ℕ) → Contains live (0 + i) → Contains live i
    there i at = let e : 0 + i ≡ i = omega arith in subst (Contains live) e at

    away : (i : ℕ) → Contains live i → Contains live (0 + i)
    away i at = let e : i ≡ 0 + i = omega arith in subst (Contains live) e at

-- the word that a pass lowers next isn't 0
pub next_room : (plan : Plan) (words : List ℕ) (views : List View) (seat : ℕ) (view : View) (ticket place node : ℕ) (rest : List ℕ) → Lawful plan words views → Seated plan views seat view → 1 ≤ node →
    Contains view.tickets ticket → ticket < length plan.jobs → Contains (job plan ticket) place → nodes_at place view.lowered ++ node ∷ rest ≡ way (leaves plan) place → 1 ≤ get_or words node 0
next_room plan words views seat view ticket place node rest law seated low held early there next =
    let same : plan ≡ view.plan = sym seated.plan_is in
    lowers_room words views seat view ticket place node rest (own plan view words views same law) seated.here low held (rw same at there) (rw same at next)
