-- What the law tells a pass, and that each kind of step keeps it.
use Rattle.std.proofs.Common.{◌≡◌, ◌≢◌, ℕ, zero, suc, ◌+◌, ◌-◌, ◌<◌, ◌≤◌, ◌⊎◌, inl, inr, ⊎_elim, Bool, true, false, cond, eqb, ltb, List, [], ◌∷◌, ◌++◌, map, length, set, get_or, refl, sym, ap, ◌∙◌, subst, arith, length-set, get_or-set_same, get_or-set_other, append_assoc}
use Rattle.std.specs.Prelude.{All, Contains}
use Rattle.std.specs.List.{concat, filter}
use Rattle.std.proofs.lemmas.Bool.{cases_lt, cases_eq}
use Rattle.std.proofs.lemmas.Bool.Decides.{nat_tests}
use Rattle.std.proofs.lemmas.List.{append-nil, get_or_past, map-append}
use Rattle.std.proofs.lemmas.List.Elements.{All-nil, All-append, All-push, All-head, All-tail, All-weaker, Contains-append_left, Contains-append_right, filter-append}
use mathlib.Core.Option.{some, some-injective, some-ne-none}
use lib.ListN.{get_elem?}
use Rattle.atomic_table.proofs.Lists.{at_set, at_snoc, set_else}
use Rattle.pq_board.specs.Sums.{weigh, times, below, one_if_same}
use Rattle.pq_board.specs.Ways.{way}
use Rattle.pq_board.specs.Law.{IsPlan, Lawful, Stands, IsLowering, BeginsWith, leaves, job, late, one_if_late, stake, nodes_at, lowerings_of, spent}
use Rattle.pq_board.specs.Steps.{unused, without_rights, with_ticket, with_lowered, with_both, at_nodes, Looked, AreOnce}
use Rattle.pq_board.specs.declared.plan.Plan.{Plan}
use Rattle.pq_board.specs.declared.plan.Lowering.{Lowering}
use Rattle.pq_board.specs.declared.plan.View.{View}
use Rattle.pq_board.proofs.Sums.{one_same, one_other, times_contains, weigh_append, weigh_push, weigh_set, weigh_part, weigh_two, weigh_contains, weigh_only, weigh_le, weigh_lt, below_past, below_at_most, below_late, below_joined}
use Rattle.pq_board.proofs.Bounds.{places_below, lowered_le, lowered_lt, opening_counts, times_rising}

-- no pass that belongs to a board is spent
pub stands : (plan : Plan) (words : List ℕ) (views : List View) (id : ℕ) (v : View) → Lawful plan words views → get_elem? views id ≡ some v → v.plan ≡ plan → Stands plan v
stands plan words views id v law at same = ⊎_elim gone (λ here. here) (law.each id v at)
  where
    gone : v ≡ spent → Stands plan v
    gone e =
        let none : 0 ≡ plan.passes = ap (λ (u : View). u.plan.passes) (sym e) ∙ ap (λ (p : Plan). p.passes) same in
        absurd (omega (arith, law.opened.passes.least))

-- the tickets of a pass were drawn
pub ticket_below : (plan : Plan) (words : List ℕ) (views : List View) (id : ℕ) (v : View) → Lawful plan words views → get_elem? views id ≡ some v →
    (ticket : ℕ) → Contains v.tickets ticket → ticket < get_or words 0 0
ticket_below plan words views id v law at ticket held = ⊎_elim (λ lt. lt) past (cases_lt ticket (get_or words 0 0))
  where
    past : get_or words 0 0 ≤ ticket → ticket < get_or words 0 0
    past le =
        absurd
        (omega (
          arith,
          times_contains ticket v.tickets held,
          weigh_part (λ (u : View). times ticket u.tickets) views id v at,
          law.tickets (λ y. one_if_same y ticket),
          below_past ticket (get_or words 0 0) le,
        ))

-- each once
pub ticket_once : (plan : Plan) (words : List ℕ) (views : List View) (id : ℕ) (v : View) → Lawful plan words views → get_elem? views id ≡ some v → AreOnce v.tickets
ticket_once plan words views id v law at ticket =
    omega (
      arith,
      weigh_part (λ (u : View). times ticket u.tickets) views id v at,
      law.tickets (λ y. one_if_same y ticket),
      below_at_most ticket (get_or words 0 0),
    )

early_is : (plan : Plan) (t : ℕ) → t < length plan.jobs → one_if_late plan t ≡ 0
early_is plan t lt = grind (arith, nat_tests)

late_is : (plan : Plan) (t : ℕ) → length plan.jobs ≤ t → one_if_late plan t ≡ 1
late_is plan t le = grind (arith, nat_tests)

-- how many of the numbers below n are late
pub late_below : (plan : Plan) (n : ℕ) → below (one_if_late plan) n ≡ n - length plan.jobs
late_below plan n = below_late (one_if_late plan) (length plan.jobs) n (early_is plan) (late_is plan)

-- no more tickets are drawn than there are jobs and passes
pub few_drawn : (plan : Plan) (words : List ℕ) (views : List View) → Lawful plan words views → get_or words 0 0 ≤ length plan.jobs + plan.passes
few_drawn plan words views law =
    omega (
      arith,
      law.tickets (one_if_late plan),
      late_below plan (get_or words 0 0),
      weigh_le (λ u. late plan u.tickets) (stake plan) views (λ j u at. omega arith),
      law.stakes,
    )

-- what a pass that has the whole stake knows
pub alone : (plan : Plan) (words : List ℕ) (views : List View) (id : ℕ) (v : View) → Lawful plan words views → get_elem? views id ≡ some v → stake plan v ≡ plan.passes →
    (f : View → ℕ) → f spent ≡ 0 → weigh f views ≡ f v
alone plan words views id v law at whole f none = weigh_only f (stake plan) views id v at (law.stakes ∙ sym whole) others
  where
    others : (j : ℕ) (w : View) → get_elem? views j ≡ some w → stake plan w ≡ 0 → f w ≡ 0
    others j w there zero_stake = ⊎_elim (λ e. ap f e ∙ none) (λ s. absurd (omega (arith, s.staked))) (law.each j w there)

-- what a look tells
pub looked : (words : List ℕ) (views : List View) (id : ℕ) (v : View) → Lawful v.plan words views → get_elem? views id ≡ some v → Looked v (get_or words 0 0)
looked words views id v law at = record {
  few = omega (arith, weigh_part (stake v.plan) views id v at, law.stakes);
  once = ticket_once v.plan words views id v law at;
  whole = λ all h. sym (alone v.plan words views id v law at all (λ u. weigh h u.tickets) refl) ∙ law.tickets h;
}

-- one view becomes another, which stands
each_set : (plan : Plan) (views : List View) (id : ℕ) (w : View) → ((seat : ℕ) (u : View) → get_elem? views seat ≡ some u → (u ≡ spent) ⊎ Stands plan u) → (w ≡ spent) ⊎ Stands plan w →
    (seat : ℕ) (u : View) → get_elem? (set views id w) seat ≡ some u → (u ≡ spent) ⊎ Stands plan u
each_set plan views id w each here seat u at =
    ⊎_elim (λ new. subst (λ (x : View). (x ≡ spent) ⊎ Stands plan x) new.1 here) (λ old. each seat u old.1) (at_set views id seat w u at)

-- a claim draws the number in word 0
stake_claim : (b : Bool) (rights before : ℕ) → 1 ≤ rights → cond b rights (rights - 1) + (before + cond b 0 1) ≡ rights + before
stake_claim true rights before right = omega arith
stake_claim false rights before right = omega arith

pub claim_stake : (v : View) (n : ℕ) → 1 ≤ v.rights → stake v.plan (with_ticket n v) ≡ stake v.plan v
claim_stake v n right =
    omega (arith, weigh_push (one_if_late v.plan) v.tickets n, stake_claim (ltb n (length v.plan.jobs)) v.rights (late v.plan v.tickets) right)

-- the same where the plan is another name for the view's
pub claimed_stake : (plan : Plan) (old new : View) (n : ℕ) → old.plan ≡ plan → 1 ≤ old.rights → new ≡ with_ticket n old → stake plan new ≡ stake plan old
claimed_stake plan old new n same right is =
    let its : stake old.plan new ≡ stake old.plan old = ap (λ (u : View). stake old.plan u) is ∙ claim_stake old n right in
    subst (λ (p : Plan). stake p new ≡ stake p old) same its

-- of two passes together
pub joined_stake : (plan : Plan) (v w : View) → stake plan (with_both v w) ≡ stake plan v + stake plan w
joined_stake plan v w = omega (arith, weigh_append (one_if_late plan) v.tickets w.tickets)

claim_stands : (v : View) (n : ℕ) → 1 ≤ v.rights → Stands v.plan v → Stands v.plan (with_ticket n v)
claim_stands v n right s = record {
  plan_is = refl;
  staked = omega (arith, claim_stake v n right, s.staked);
  lowerings =
      All-weaker (IsLowering v.plan v.tickets) (IsLowering v.plan (v.tickets ++ n ∷ []))
      (λ l is. record { held = Contains-append_left v.tickets (n ∷ []) l.ticket is.held; early = is.early; place = is.place; node = is.node }) v.lowered s.lowerings;
  in_order = s.in_order;
}

pub claims : (words : List ℕ) (views : List View) (id : ℕ) (v : View) → Lawful v.plan words views → get_elem? views id ≡ some v → 1 ≤ v.rights → 0 < length words →
    Lawful v.plan (set words 0 (suc (get_or words 0 0))) (set views id (with_ticket (get_or words 0 0) v))
claims words views id v law at right room =
    let n : ℕ = get_or words 0 0 in
    let w : View = with_ticket n v in
    let s : Stands v.plan v = stands v.plan words views id v law at refl in record {
      opened = law.opened;
      size = length-set words 0 (suc n) ∙ law.size;
      tickets = λ h.
          let word : get_or (set words 0 (suc n)) 0 0 ≡ suc n = get_or-set_same words 0 (suc n) 0 room in
          let more : weigh (λ (u : View). weigh h u.tickets) (set views id w) ≡ below h n + h n =
          omega (arith, weigh_set (λ (u : View). weigh h u.tickets) views id v w at, weigh_push h v.tickets n, law.tickets h) in
          rw word more;
      stakes = omega (arith, weigh_set (stake v.plan) views id v w at, claim_stake v n right, law.stakes);
      each = each_set v.plan views id w law.each (inr (claim_stands v n right s));
      counts = λ node low.
          let apart : node ≢ 0 = omega arith in
          omega (arith, get_or-set_other words 0 node (suc n) 0 apart, weigh_set (λ (u : View). lowerings_of node u.lowered) views id v w at, law.counts node low);
    }

-- a split moves rights to a new pass
left_stands : (v : View) (rights : ℕ) → 1 ≤ rights → rights < v.rights → Stands v.plan v → Stands v.plan (without_rights rights v)
left_stands v rights few less s = record { plan_is = refl; staked = omega arith; lowerings = s.lowerings; in_order = s.in_order }

right_stands : (plan : Plan) (rights : ℕ) → 1 ≤ rights → Stands plan (unused plan rights)
right_stands plan rights few = record {
  plan_is = refl;
  staked = omega arith;
  lowerings = All-nil (IsLowering plan []);
  in_order = λ place. (way (leaves plan) place, refl);
}

pub splits : (words : List ℕ) (views : List View) (id : ℕ) (v : View) (rights : ℕ) → Lawful v.plan words views → get_elem? views id ≡ some v → 1 ≤ rights → rights < v.rights →
    Lawful v.plan words (set views id (without_rights rights v) ++ unused v.plan rights ∷ [])
splits words views id v rights law at few less =
    let left : View = without_rights rights v in
    let right : View = unused v.plan rights in
    let s : Stands v.plan v = stands v.plan words views id v law at refl in record {
      opened = law.opened;
      size = law.size;
      tickets = λ h.
          omega (arith, weigh_push (λ (u : View). weigh h u.tickets) (set views id left) right, weigh_set (λ (u : View). weigh h u.tickets) views id v left at, law.tickets h);
      stakes = omega (arith, weigh_push (stake v.plan) (set views id left) right, weigh_set (stake v.plan) views id v left at, law.stakes);
      each = λ seat u there.
          ⊎_elim (λ old. each_set v.plan views id left law.each (inr (left_stands v rights few less s)) seat u old)
          (λ new. subst (λ (x : View). (x ≡ spent) ⊎ Stands v.plan x) new (inr (right_stands v.plan rights few)))
          (at_snoc (set views id left) right u seat there);
      counts = λ node low.
          omega (
            arith,
            weigh_push (λ (u : View). lowerings_of node u.lowered) (set views id left) right,
            weigh_set (λ (u : View). lowerings_of node u.lowered) views id v left at,
            law.counts node low,
          );
    }

-- the opening
pub opens : (plan : Plan) → IsPlan plan → get_or plan.words.items 0 0 ≡ 0 → Lawful plan plan.words.items (unused plan plan.passes ∷ [])
opens plan is zero_first = record {
  opened = is;
  size = refl;
  tickets = λ h. rw zero_first refl;
  stakes = omega arith;
  each = λ seat u at. inr (one seat u at);
  counts = λ node low. omega arith;
}
  where
    one : (seat : ℕ) (u : View) → get_elem? (unused plan plan.passes ∷ []) seat ≡ some u → Stands plan u
    one zero u at = subst (Stands plan) (some-injective (unused plan plan.passes) u at) (right_stands plan plan.passes is.passes.least)
    one (suc seat) u at = absurd (some-ne-none u (sym at))

-- the lowerings for a place, of lists that are joined
pub nodes-append : (place : ℕ) (ls ms : List Lowering) → nodes_at place (ls ++ ms) ≡ nodes_at place ls ++ nodes_at place ms
nodes-append place ls ms =
    ap (λ (l : List Lowering). map (λ m. m.node) l) (filter-append (λ m. eqb m.place place) ls ms)
    ∙ map-append (λ (m : Lowering). m.node) (filter (λ m. eqb m.place place) ls) (filter (λ m. eqb m.place place) ms)

pub kept_here : (l : Lowering) (place : ℕ) → l.place ≡ place → nodes_at place (l ∷ []) ≡ l.node ∷ []
kept_here l place same = ap (λ (b : Bool). map (λ (m : Lowering). m.node) (cond b (l ∷ []) [])) (let t : eqb l.place place ≡ true = grind (arith, nat_tests) in t)

pub kept_not : (l : Lowering) (place : ℕ) → l.place ≢ place → nodes_at place (l ∷ []) ≡ []
kept_not l place apart = ap (λ (b : Bool). map (λ (m : Lowering). m.node) (cond b (l ∷ []) [])) (let t : eqb l.place place ≡ false = grind (arith, nat_tests) in t)

-- there is room for one lowering more
pub lowers_room : (words : List ℕ) (views : List View) (id : ℕ) (v : View) (ticket place node : ℕ) (rest : List ℕ) → Lawful v.plan words views → get_elem? views id ≡ some v →
    1 ≤ node → Contains v.tickets ticket → Contains (job v.plan ticket) place → nodes_at place v.lowered ++ node ∷ rest ≡ way (leaves v.plan) place → 1 ≤ get_or words node 0
lowers_room words views id v ticket place node rest law at low held there next =
    let s : Stands v.plan v = stands v.plan words views id v law at refl in
    omega (
      arith,
      weigh_lt (λ (u : View). lowerings_of node u.lowered) (λ (u : View). weigh (places_below v.plan node) u.tickets) views id v at
          (lowered_lt v.plan v ticket place node rest s held there next) each_le,
      law.tickets (places_below v.plan node),
      below_joined (λ p. times node (way (leaves v.plan) p)) v.plan.jobs (get_or words 0 0),
      opening_counts v.plan law.opened node low,
      law.counts node low,
    )
  where
    each_le : (j : ℕ) (u : View) → get_elem? views j ≡ some u → lowerings_of node u.lowered ≤ weigh (places_below v.plan node) u.tickets
    each_le j u there = ⊎_elim (λ e. rw e (omega arith)) (λ s. lowered_le v.plan u node s) (law.each j u there)

-- a lowering of the next node of a place of one of the pass's jobs
lower_stands : (v : View) (ticket place node : ℕ) (rest : List ℕ) → Stands v.plan v → Contains v.tickets ticket → ticket < length v.plan.jobs → Contains (job v.plan ticket) place →
    nodes_at place v.lowered ++ node ∷ rest ≡ way (leaves v.plan) place → Stands v.plan (with_lowered (at_nodes ticket place (node ∷ [])) v)
lower_stands v ticket place node rest s held early there next = record {
  plan_is = refl;
  staked = s.staked;
  lowerings = All-push (IsLowering v.plan v.tickets) v.lowered here s.lowerings (record { held = held; early = early; place = there; node = rw (← next) on });
  in_order = λ q. ⊎_elim (same q) (other q) (cases_eq place q);
}
  where
    here : Lowering
    here = record { ticket = ticket; place = place; node = node }

    on : Contains (nodes_at place v.lowered ++ node ∷ rest) node
    on = Contains-append_right (nodes_at place v.lowered) (node ∷ rest) node (0, omega arith, refl)

    same : (q : ℕ) → place ≡ q → BeginsWith (way (leaves v.plan) q) (nodes_at q (v.lowered ++ here ∷ []))
    same q e =
        let now : nodes_at place (v.lowered ++ here ∷ []) ≡ nodes_at place v.lowered ++ node ∷ [] =
        nodes-append place v.lowered (here ∷ []) ∙ ap (λ (l : List ℕ). nodes_at place v.lowered ++ l) (kept_here here place refl) in
        let begins : BeginsWith (way (leaves v.plan) place) (nodes_at place (v.lowered ++ here ∷ [])) =
        (rest, ap (λ (l : List ℕ). l ++ rest) now ∙ append_assoc (nodes_at place v.lowered) (node ∷ []) rest ∙ next) in
        subst (λ (p : ℕ). BeginsWith (way (leaves v.plan) p) (nodes_at p (v.lowered ++ here ∷ []))) e begins

    other : (q : ℕ) → place ≢ q → BeginsWith (way (leaves v.plan) q) (nodes_at q (v.lowered ++ here ∷ []))
    other q apart =
        let now : nodes_at q (v.lowered ++ here ∷ []) ≡ nodes_at q v.lowered =
        nodes-append q v.lowered (here ∷ []) ∙ (ap (λ (l : List ℕ). nodes_at q v.lowered ++ l) (kept_not here q apart) ∙ append-nil (nodes_at q v.lowered)) in
        let was : BeginsWith (way (leaves v.plan) q) (nodes_at q v.lowered) = s.in_order q in
        (was.0, ap (λ (l : List ℕ). l ++ was.0) now ∙ was.1)

-- how often a node is lowered, with one lowering more
lowerings_more : (node q ticket place : ℕ) (ls : List Lowering) → lowerings_of q (ls ++ at_nodes ticket place (node ∷ [])) ≡ lowerings_of q ls + one_if_same node q
lowerings_more node q ticket place ls = weigh_push (λ l. one_if_same l.node q) ls (record { ticket = ticket; place = place; node = node })

pub lowers : (words : List ℕ) (views : List View) (id : ℕ) (v : View) (ticket place node less : ℕ) (rest : List ℕ) → Lawful v.plan words views → get_elem? views id ≡ some v →
    1 ≤ node → Contains v.tickets ticket → ticket < length v.plan.jobs → Contains (job v.plan ticket) place →
    nodes_at place v.lowered ++ node ∷ rest ≡ way (leaves v.plan) place → less + 1 ≡ get_or words node 0 →
    Lawful v.plan (set words node less) (set views id (with_lowered (at_nodes ticket place (node ∷ [])) v))
lowers words views id v ticket place node less rest law at low held early there next one_less =
    let w : View = with_lowered (at_nodes ticket place (node ∷ [])) v in
    let s : Stands v.plan v = stands v.plan words views id v law at refl in record {
      opened = law.opened;
      size = length-set words node less ∙ law.size;
      tickets = λ h.
          let apart : 0 ≢ node = omega arith in
          let word : get_or (set words node less) 0 0 ≡ get_or words 0 0 = get_or-set_other words node 0 less 0 apart in
          let same : weigh (λ (u : View). weigh h u.tickets) (set views id w) ≡ below h (get_or words 0 0) =
          omega (arith, weigh_set (λ (u : View). weigh h u.tickets) views id v w at, law.tickets h) in
          rw word same;
      stakes = omega (arith, weigh_set (stake v.plan) views id v w at, law.stakes);
      each = each_set v.plan views id w law.each (inr (lower_stands v ticket place node rest s held early there next));
      counts = λ q some_q. ⊎_elim (λ e. same q some_q e) (λ apart. other q some_q apart) (cases_eq node q);
    }
  where
    w : View
    w = with_lowered (at_nodes ticket place (node ∷ [])) v

    inside : node < length words
    inside = ⊎_elim (λ lt. lt) (λ le. absurd (omega (arith, get_or_past words node 0 le))) (cases_lt node (length words))

    same : (q : ℕ) → 1 ≤ q → node ≡ q → get_or (set words node less) q 0 + weigh (λ (u : View). lowerings_of q u.lowered) (set views id w) ≡ get_or v.plan.words.items q 0
    same q q_low e =
        let here : get_or (set words node less) node 0 + weigh (λ (u : View). lowerings_of node u.lowered) (set views id w) ≡ get_or v.plan.words.items node 0 =
        omega (
          arith,
          get_or-set_same words node less 0 inside,
          weigh_set (λ (u : View). lowerings_of node u.lowered) views id v w at,
          lowerings_more node node ticket place v.lowered,
          one_same node,
          law.counts node low,
        ) in
        subst (λ (p : ℕ). get_or (set words node less) p 0 + weigh (λ (u : View). lowerings_of p u.lowered) (set views id w) ≡ get_or v.plan.words.items p 0) e here

    other : (q : ℕ) → 1 ≤ q → node ≢ q → get_or (set words node less) q 0 + weigh (λ (u : View). lowerings_of q u.lowered) (set views id w) ≡ get_or v.plan.words.items q 0
    other q q_low apart =
        let back : q ≢ node = (λ e. apart (sym e)) in
        omega (
          arith,
          get_or-set_other words node q less 0 back,
          weigh_set (λ (u : View). lowerings_of q u.lowered) views id v w at,
          lowerings_more node q ticket place v.lowered,
          one_other node q apart,
          law.counts q q_low,
        )

-- a join moves all to the first pass
weigh_join : (f : View → ℕ) (views : List View) (id other : ℕ) (v w both : View) → get_elem? views id ≡ some v → get_elem? (set views id both) other ≡ some w →
    f both ≡ f v + f w → f spent ≡ 0 → weigh f (set (set views id both) other spent) ≡ weigh f views
weigh_join f views id other v w both at there sum none =
    omega (arith, weigh_set f views id v both at, weigh_set f (set views id both) other w spent there)

-- where a place was lowered, it is of a job of the pass
lowered_held : (plan : Plan) (tickets : List ℕ) (place : ℕ) (ls : List Lowering) → All (IsLowering plan tickets) ls →
    (nodes_at place ls ≡ []) ⊎ (1 ≤ weigh (λ t. times place (job plan t)) tickets)
lowered_held plan tickets place [] all = inl refl
lowered_held plan tickets place (l ∷ ls) all =
    ⊎_elim
    (λ same.
    let is : IsLowering plan tickets l = All-head (IsLowering plan tickets) l ls all in
    let there : Contains (job plan l.ticket) place = subst (Contains (job plan l.ticket)) same is.place in
    inr (omega (arith, weigh_contains (λ t. times place (job plan t)) tickets l.ticket is.held, times_contains place (job plan l.ticket) there)))
    (λ apart.
    ⊎_elim
    (λ none. inl (nodes-append place (l ∷ []) ls ∙ (ap (λ (n : List ℕ). n ++ nodes_at place ls) (kept_not l place apart) ∙ none)))
    (λ some_there. inr some_there) (lowered_held plan tickets place ls (All-tail (IsLowering plan tickets) l ls all)))
    (cases_eq l.place place)

-- two passes have lowered no place both
apart_lowered : (plan : Plan) (words : List ℕ) (views : List View) (id other : ℕ) (v w : View) → Lawful plan words views → get_elem? views id ≡ some v → get_elem? views other ≡ some w →
    id ≢ other → Stands plan v → Stands plan w → (place : ℕ) → (nodes_at place v.lowered ≡ []) ⊎ (nodes_at place w.lowered ≡ [])
apart_lowered plan words views id other v w law at there apart s t place =
    ⊎_elim (λ none. inl none)
    (λ held. ⊎_elim (λ none. inr none)
    (λ more.
    absurd
    (omega (
      arith,
      weigh_two (λ (u : View). weigh (λ t. times place (job plan t)) u.tickets) views id other v w at there apart,
      law.tickets (λ t. times place (job plan t)),
      below_joined (λ y. one_if_same y place) plan.jobs (get_or words 0 0),
      times_rising place (concat plan.jobs) law.opened.rising,
    )))
    (lowered_held plan w.tickets place w.lowered t.lowerings))
    (lowered_held plan v.tickets place v.lowered s.lowerings)

join_stands : (plan : Plan) (v w : View) → Stands plan v → Stands plan w → ((place : ℕ) → (nodes_at place v.lowered ≡ []) ⊎ (nodes_at place w.lowered ≡ [])) → Stands plan (with_both v w)
join_stands plan v w s t apart = record {
  plan_is = s.plan_is;
  staked = omega (arith, weigh_append (one_if_late plan) v.tickets w.tickets, s.staked);
  lowerings =
      All-append (IsLowering plan (v.tickets ++ w.tickets)) v.lowered w.lowered
      (All-weaker (IsLowering plan v.tickets) (IsLowering plan (v.tickets ++ w.tickets))
      (λ l is. record { held = Contains-append_left v.tickets w.tickets l.ticket is.held; early = is.early; place = is.place; node = is.node }) v.lowered s.lowerings)
      (All-weaker (IsLowering plan w.tickets) (IsLowering plan (v.tickets ++ w.tickets))
      (λ l is. record { held = Contains-append_right v.tickets w.tickets l.ticket is.held; early = is.early; place = is.place; node = is.node }) w.lowered t.lowerings);
  in_order = λ place. ⊎_elim (first place) (second place) (apart place);
}
  where
    first : (place : ℕ) → nodes_at place v.lowered ≡ [] → BeginsWith (way (leaves plan) place) (nodes_at place (v.lowered ++ w.lowered))
    first place none =
        let now : nodes_at place (v.lowered ++ w.lowered) ≡ nodes_at place w.lowered =
        nodes-append place v.lowered w.lowered ∙ ap (λ (l : List ℕ). l ++ nodes_at place w.lowered) none in
        let was : BeginsWith (way (leaves plan) place) (nodes_at place w.lowered) = t.in_order place in
        (was.0, ap (λ (l : List ℕ). l ++ was.0) now ∙ was.1)

    second : (place : ℕ) → nodes_at place w.lowered ≡ [] → BeginsWith (way (leaves plan) place) (nodes_at place (v.lowered ++ w.lowered))
    second place none =
        let now : nodes_at place (v.lowered ++ w.lowered) ≡ nodes_at place v.lowered =
        nodes-append place v.lowered w.lowered ∙ (ap (λ (l : List ℕ). nodes_at place v.lowered ++ l) none ∙ append-nil (nodes_at place v.lowered)) in
        let was : BeginsWith (way (leaves plan) place) (nodes_at place v.lowered) = s.in_order place in
        (was.0, ap (λ (l : List ℕ). l ++ was.0) now ∙ was.1)

pub joins : (plan : Plan) (words : List ℕ) (views : List View) (id other : ℕ) (v w : View) → Lawful plan words views → get_elem? views id ≡ some v → other ≢ id →
    get_elem? (set views id (with_both v w)) other ≡ some w → v.plan ≡ plan → w.plan ≡ plan →
    Lawful plan words (set (set views id (with_both v w)) other spent)
joins plan words views id other v w law at apart there v_plan w_plan =
    let both : View = with_both v w in
    let second : get_elem? views other ≡ some w = sym (set_else views id other both apart) ∙ there in
    let s : Stands plan v = stands plan words views id v law at v_plan in
    let t : Stands plan w = stands plan words views other w law second w_plan in
    let back : id ≢ other = (λ e. apart (sym e)) in
    record {
      opened = law.opened;
      size = law.size;
      tickets = λ h. weigh_join (λ (u : View). weigh h u.tickets) views id other v w both at there (weigh_append h v.tickets w.tickets) refl ∙ law.tickets h;
      stakes = weigh_join (stake plan) views id other v w both at there (omega (arith, weigh_append (one_if_late plan) v.tickets w.tickets)) refl ∙ law.stakes;
      each =
          each_set plan (set views id both) other spent
          (each_set plan views id both law.each (inr (join_stands plan v w s t (apart_lowered plan words views id other v w law at second back s t))))
          (inl refl);
      counts = λ node low.
          omega (
            arith,
            weigh_join (λ (u : View). lowerings_of node u.lowered) views id other v w both at there (weigh_append (λ l. one_if_same l.node node) v.lowered w.lowered) refl,
            law.counts node low,
          );
    }
