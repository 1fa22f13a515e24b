-- On the way from a leaf to the root.
use Rattle.std.proofs.Common.{◌≡◌, ℕ, zero, suc, ◌+◌, ◌-◌, ◌/◌, ◌%◌, ◌^◌, ◌<◌, ◌≤◌, List, [], ◌∷◌, ◌++◌, length, get_or, refl, sym, ap, ◌∙◌, subst, arith, append_assoc}
use Rattle.std.specs.Prelude.{Contains}
use Rattle.std.specs.List.{concat}
use Rattle.std.proofs.lemmas.List.{append-nil, map-append}
use Rattle.std.proofs.lemmas.List.Elements.{All-contains, Contains-append_left, Contains-append_right}
use Rattle.atomic_table.specs.Table.{Me, Allows}
use mathlib.Core.Option.{some, some-injective, some-ne-none}
use lib.ListN.{get_elem?}
use Rattle.pq_board.specs.Ways.{halves, way, live_leaves}
use Rattle.pq_board.specs.Law.{IsPlan, leaves, job, nodes_at}
use Rattle.pq_board.specs.Steps.{with_lowered, at_nodes, whole_way}
use Rattle.pq_board.specs.declared.plan.Plan.{Plan}
use Rattle.pq_board.specs.declared.plan.Lowering.{Lowering}
use Rattle.pq_board.specs.declared.plan.View.{View}
use Rattle.pq_board.proofs.Ways.{halves_on, halves_inside}
use Rattle.pq_board.proofs.Keeping.{nodes-append}
use Rattle.pq_board.proofs.Allowed.{Keeps, lower_allowed}
use Rattle.pq_board.proofs.Whole.{nodes_own}

-- the nodes passed are lowered, and the way goes on from the node
pub record Climbs (width ticket place : ℕ) (old now : View) (node : ℕ) : Type 0 where
  pub passed : List ℕ
  pub way_is : passed ++ halves node node ≡ way width place
  pub now_is : now ≡ with_lowered (at_nodes ticket place passed) old

-- at the leaf none is
pub climbs_none : (width ticket place : ℕ) (old : View) → Climbs width ticket place old old (width + place)
climbs_none width ticket place old = record {
  passed = [];
  way_is = refl;
  now_is = ap (λ (l : List Lowering). record { plan = old.plan; rights = old.rights; tickets = old.tickets; lowered = l }) (sym (append-nil old.lowered));
}

-- one node further
pub climbs_on : (width ticket place : ℕ) (old now new : View) (node : ℕ) → 1 ≤ node → Climbs width ticket place old now node →
    new ≡ with_lowered (at_nodes ticket place (node ∷ [])) now → Climbs width ticket place old new (node / 2)
climbs_on width ticket place old now new node low c is = record {
  passed = c.passed ++ node ∷ [];
  way_is = append_assoc c.passed (node ∷ []) (halves (node / 2) (node / 2)) ∙ (ap (λ (l : List ℕ). c.passed ++ l) (sym (halves_on node low)) ∙ c.way_is);
  now_is = is ∙ (ap (λ (u : View). with_lowered (at_nodes ticket place (node ∷ [])) u) c.now_is ∙ ap (λ (l : List Lowering). lowered_is l) joined);
}
  where
    lowered_is : List Lowering → View
    lowered_is l = record { plan = old.plan; rights = old.rights; tickets = old.tickets; lowered = l }

    joined : (old.lowered ++ at_nodes ticket place c.passed) ++ at_nodes ticket place (node ∷ []) ≡ old.lowered ++ at_nodes ticket place (c.passed ++ node ∷ [])
    joined = append_assoc old.lowered (at_nodes ticket place c.passed) (at_nodes ticket place (node ∷ []))
        ∙ ap (λ (l : List Lowering). old.lowered ++ l) (sym (map-append (λ (n : ℕ). record { ticket = ticket; place = place; node = n }) c.passed (node ∷ [])))

-- behind the root all are
pub climbed : (width ticket place : ℕ) (old now : View) (node : ℕ) → node ≤ 0 → Climbs width ticket place old now node → now ≡ with_lowered (whole_way width ticket place) old
climbed width ticket place old now node end c =
    let none : node ≡ 0 = omega arith in
    let rest : halves node node ≡ [] = ap (λ (n : ℕ). halves n n) none in
    let all : c.passed ≡ way width place = sym (append-nil c.passed) ∙ (ap (λ (l : List ℕ). c.passed ++ l) (sym rest) ∙ c.way_is) in
    c.now_is ∙ ap (λ (l : List ℕ). with_lowered (at_nodes ticket place l) old) all

-- what a step on the way has to show
record Next (plan : Plan) (ticket place node : ℕ) (u : View) : Type 0 where
  plan_is : plan ≡ u.plan
  held : Contains u.tickets ticket
  early : ticket < length u.plan.jobs
  there : Contains (job u.plan ticket) place
  next : nodes_at place u.lowered ++ node ∷ halves (node / 2) (node / 2) ≡ way (leaves u.plan) place

pub climb_allowed : (plan : Plan) (slots id : ℕ) (me : Me (Unit {0}) View) (ticket place node : ℕ) (old : View) → plan ≡ old.plan → 1 ≤ node → Contains old.tickets ticket →
    ticket < length old.plan.jobs → Contains (job old.plan ticket) place → nodes_at place old.lowered ≡ [] → Climbs (leaves old.plan) ticket place old me.0 node →
    Allows (Keeps plan) slots id me node (λ n. (n + (2 ^ 64 - 1)) % 2 ^ 64)
    (λ found after. (after.0 ≡ with_lowered (at_nodes ticket place (node ∷ [])) me.0) × (after.1 ≡ me.1))
climb_allowed plan slots id me ticket place node old same low held early there fresh c =
    let now : nodes_at place (old.lowered ++ at_nodes ticket place c.passed) ≡ c.passed =
    nodes-append place old.lowered (at_nodes ticket place c.passed) ∙ (λ i. fresh i ++ nodes_own ticket place c.passed i) in
    let then : Next plan ticket place node (with_lowered (at_nodes ticket place c.passed) old) = record {
      plan_is = same;
      held = held;
      early = early;
      there = there;
      next = ap (λ (l : List ℕ). l ++ node ∷ halves (node / 2) (node / 2)) now ∙ (ap (λ (l : List ℕ). c.passed ++ l) (sym (halves_on node low)) ∙ c.way_is);
    } in
    let is : Next plan ticket place node me.0 = subst (Next plan ticket place node) (sym c.now_is) then in
    lower_allowed plan slots id me ticket place node (halves (node / 2) (node / 2)) is.plan_is low is.held is.early is.there is.next

-- the lists joined hold what one of them holds
pub contains_concat : (lists : List (List ℕ)) (k : ℕ) (x : ℕ) → k < length lists → Contains (get_or lists k []) x → Contains (concat lists) x
contains_concat [] k x lt there = absurd (omega arith)
contains_concat (list ∷ lists) zero x lt there = Contains-append_left list (concat lists) x there
contains_concat (list ∷ lists) (suc k) x lt there = Contains-append_right list (concat lists) x (contains_concat lists k x (omega arith) there)

-- a place of a job is one of the tree
pub job_inside : (plan : Plan) → IsPlan plan → (ticket place : ℕ) → ticket < length plan.jobs → Contains (job plan ticket) place → place < leaves plan
job_inside plan is ticket place early there =
    let in_all : Contains (concat plan.jobs) place = contains_concat plan.jobs ticket place early there in
    let is_live : Contains (live_leaves plan.words.items) place = All-contains (Contains (live_leaves plan.words.items)) (concat plan.jobs) place is.live in_all in
    let fits : place < 2 ^ is.tree.height = All-contains (λ p. p < 2 ^ is.tree.height) (live_leaves plan.words.items) place is.tree.in_range is_live in
    omega (arith, is.tree.size)

-- and the nodes on its way are nodes of the tree
pub climb_inside : (plan : Plan) → IsPlan plan → (ticket place node : ℕ) (old now : View) → ticket < length plan.jobs → Contains (job plan ticket) place → 1 ≤ node →
    Climbs (leaves plan) ticket place old now node → node < length plan.words.items
climb_inside plan is ticket place node old now early there low c =
    let on : Contains (c.passed ++ halves node node) node = Contains-append_right c.passed (halves node node) node (subst (λ (l : List ℕ). Contains l node) (sym (halves_on node low)) (0, omega arith, refl)) in
    let at : Contains (way (leaves plan) place) node = subst (λ (l : List ℕ). Contains l node) c.way_is on in
    omega (arith, is.tree.size, job_inside plan is ticket place early there, (halves_inside (leaves plan + place) (leaves plan + place) node at).1)

-- what is found at a number
pub found_is : (xs : List ℕ) (i x : ℕ) → get_elem? xs i ≡ some x → get_or xs i 0 ≡ x
found_is [] i x at = absurd (some-ne-none x (sym at))
found_is (y ∷ ys) zero x at = some-injective y x at
found_is (y ∷ ys) (suc i) x at = found_is ys i x at
