-- No more is lowered than may be: at each node at most once for each place of a job.
use Rattle.std.proofs.Common.{◌≡◌, ℕ, zero, suc, ◌+◌, ◌*◌, ◌^◌, ◌<◌, ◌≤◌, ⊎_elim, Bool, true, false, cond, eqb, List, [], ◌∷◌, ◌++◌, map, get_or, refl, sym, ap, subst, arith}
use Rattle.std.specs.Prelude.{All, Contains}
use Rattle.std.specs.List.{concat, filter, flat_map}
use Rattle.std.specs.List.Sorted.{IsStrictlyIncreasing}
use Rattle.std.proofs.lemmas.Bool.{cases_lt, cases_eq}
use Rattle.std.proofs.lemmas.Bool.Decides.{nat_tests}
use Rattle.std.proofs.lemmas.List.Elements.{All-head, All-tail, All-cons, All-contains, All-weaker, Contains-append_left, Contains-append_right, Contains-get_or}
use Rattle.std.proofs.lemmas.List.Kept.{AllPairs-from_increasing}
use mathlib.Core.Option.{some, some-injective, some-ne-none}
use lib.ListN.{get_elem?}
use Rattle.pq_array.specs.Counts.{HalvesTo, HowMany, none, one_more, no_more}
use Rattle.pq_array.proofs.Replacing.{rising_tail}
use Rattle.pq_board.specs.Sums.{weigh, times, one_if_same}
use Rattle.pq_board.specs.Ways.{way, live_leaves}
use Rattle.pq_board.specs.Law.{IsPlan, Stands, IsLowering, leaves, job, nodes_at, lowerings_of}
use Rattle.pq_board.specs.declared.plan.Plan.{Plan}
use Rattle.pq_board.specs.declared.plan.Lowering.{Lowering}
use Rattle.pq_board.specs.declared.plan.View.{View}
use Rattle.pq_board.proofs.Sums.{one_same, one_other, weigh_append, weigh_contains, weigh_none, weigh_zero, weigh_le, weigh_lt, weigh_same, weigh_turn}
use Rattle.pq_board.proofs.Ways.{times_halves, times_none, times_on, times_off, times_front, times_next, halves_inside}

-- what is found at some number stands in the list, and the other way round
pub at_contains : {A : Type 0} (xs : List A) (i : ℕ) (x : A) → get_elem? xs i ≡ some x → Contains xs x
at_contains [] i x at = absurd (some-ne-none x (sym at))
at_contains (y ∷ ys) zero x at = (0, omega arith, some-injective y x at)
at_contains (y ∷ ys) (suc i) x at = let rest : Contains ys x = at_contains ys i x at in (suc rest.0, omega (arith, rest.1), rest.2)

pub contains_at : {A : Type 0} (xs : List A) (x : A) → Contains xs x → (i : ℕ) × (get_elem? xs i ≡ some x)
contains_at [] x (k, lt, is) = absurd (omega arith)
contains_at (y ∷ ys) x (zero, lt, is) = (0, ap (λ (z : _). some z) is)
contains_at (y ∷ ys) x (suc k, lt, is) = let rest = contains_at ys x (k, omega arith, is) in (suc rest.0, rest.1)

-- the lists of some items, joined
pub contains_flat : {A B : Type 0} (f : A → List B) (xs : List A) (x : A) (y : B) → Contains xs x → Contains (f x) y → Contains (flat_map f xs) y
contains_flat f [] x y (k, lt, is) there = absurd (omega arith)
contains_flat {A} {B} f (z ∷ zs) x y (zero, lt, is) there =
    Contains-append_left (f z) (flat_map f zs) y (subst (λ (a : A). Contains (f a) y) (sym is) there)
contains_flat f (z ∷ zs) x y (suc k, lt, is) there = Contains-append_right (f z) (flat_map f zs) y (contains_flat f zs x y (k, omega arith, is) there)

pub weigh_flat : {A B : Type 0} (h : B → ℕ) (f : A → List B) (xs : List A) → weigh h (flat_map f xs) ≡ weigh (λ x. weigh h (f x)) xs
weigh_flat h f [] = refl
weigh_flat h f (x ∷ xs) = omega (arith, weigh_append h (f x) (flat_map f xs), weigh_flat h f xs)

-- 1 where the lowering is of this node and for this place
abbrev pub one_if_both : ℕ → Lowering → ℕ → ℕ
one_if_both node l place = cond (eqb l.place place) (one_if_same l.node node) 0

times_kept : (node : ℕ) (l : Lowering) (b : Bool) (ls : List Lowering) →
    times node (map (λ m. m.node) (cond b (l ∷ ls) ls)) ≡ cond b (one_if_same l.node node) 0 + times node (map (λ m. m.node) ls)
times_kept node l true ls = refl
times_kept node l false ls = omega arith

-- the lowerings of a node, for one place
pub times_nodes : (node place : ℕ) (ls : List Lowering) → times node (nodes_at place ls) ≡ weigh (λ l. one_if_both node l place) ls
times_nodes node place [] = refl
times_nodes node place (l ∷ ls) =
    omega (arith, times_kept node l (eqb l.place place) (filter (λ m. eqb m.place place) ls), times_nodes node place ls)

-- as often as it is lowered, it is for some place
pub lowerings_by_place : (node : ℕ) (places : List ℕ) (ls : List Lowering) → All (λ l. Contains places l.place) ls →
    lowerings_of node ls ≤ weigh (λ place. times node (nodes_at place ls)) places
lowerings_by_place node places ls all =
    omega (
      arith,
      weigh_le (λ l. one_if_same l.node node) (λ l. weigh (one_if_both node l) places) ls each,
      weigh_turn (λ l place. one_if_both node l place) ls places,
      weigh_same (λ place. times node (nodes_at place ls)) (λ place. weigh (λ l. one_if_both node l place) ls) places (λ place. times_nodes node place ls),
    )
  where
    here : (l : Lowering) → one_if_both node l l.place ≡ one_if_same l.node node
    here l = grind (arith, nat_tests)

    each : (j : ℕ) (l : Lowering) → get_elem? ls j ≡ some l → one_if_same l.node node ≤ weigh (one_if_both node l) places
    each j l at =
        let there : Contains places l.place = All-contains (λ m. Contains places m.place) ls l all (at_contains ls j l at) in
        omega (arith, weigh_contains (one_if_both node l) places l.place there, here l)

-- how many places of a ticket's job stand below a node
abbrev pub places_below : Plan → ℕ → ℕ → ℕ
places_below plan node ticket = weigh (λ place. times node (way (leaves plan) place)) (job plan ticket)

-- the places of the jobs of a pass
abbrev places_of : Plan → View → List ℕ
places_of plan view = flat_map (job plan) view.tickets

inside_jobs : (plan : Plan) (view : View) → Stands plan view → All (λ l. Contains (places_of plan view) l.place) view.lowered
inside_jobs plan view stands =
    All-weaker (IsLowering plan view.tickets) (λ l. Contains (places_of plan view) l.place)
    (λ l is. contains_flat (job plan) view.tickets l.ticket l.place is.held is.place) view.lowered stands.lowerings

-- a pass lowered a node at most once for each place of its jobs
pub lowered_le : (plan : Plan) (view : View) (node : ℕ) → Stands plan view → lowerings_of node view.lowered ≤ weigh (places_below plan node) view.tickets
lowered_le plan view node stands =
    omega (
      arith,
      lowerings_by_place node (places_of plan view) view.lowered (inside_jobs plan view stands),
      weigh_le (λ place. times node (nodes_at place view.lowered)) (λ place. times node (way (leaves plan) place)) (places_of plan view)
          (λ j place at. times_front node (way (leaves plan) place) (nodes_at place view.lowered) (stands.in_order place)),
      weigh_flat (λ place. times node (way (leaves plan) place)) (job plan) view.tickets,
    )

-- and less often, where it is the next node of one of them
pub lowered_lt : (plan : Plan) (view : View) (ticket place node : ℕ) (rest : List ℕ) → Stands plan view → Contains view.tickets ticket → Contains (job plan ticket) place →
    nodes_at place view.lowered ++ node ∷ rest ≡ way (leaves plan) place → lowerings_of node view.lowered < weigh (places_below plan node) view.tickets
lowered_lt plan view ticket place node rest stands held there next = by (contains_at (places_of plan view) place (contains_flat (job plan) view.tickets ticket place held there))
  where
    by : (i : ℕ) × (get_elem? (places_of plan view) i ≡ some place) → lowerings_of node view.lowered < weigh (places_below plan node) view.tickets
    by (i, at) =
        let fewer = times_next node (way (leaves plan) place) (nodes_at place view.lowered) rest (times_halves (leaves plan + place) (leaves plan + place) node) next in
        omega (
          arith,
          lowerings_by_place node (places_of plan view) view.lowered (inside_jobs plan view stands),
          weigh_lt (λ p. times node (nodes_at p view.lowered)) (λ p. times node (way (leaves plan) p)) (places_of plan view) i place at (omega (arith, fewer.0, fewer.1))
              (λ j p at. times_front node (way (leaves plan) p) (nodes_at p view.lowered) (stands.in_order p)),
          weigh_flat (λ p. times node (way (leaves plan) p)) (job plan) view.tickets,
        )

-- how many have the property, as a weight
pub counted_weigh : (P : ℕ → Type 0) (f : ℕ → ℕ) → ((x : ℕ) → P x → f x ≡ 1) → ((x : ℕ) → (P x → ⊥) → f x ≡ 0) → (xs : List ℕ) (n : ℕ) → HowMany P xs n → weigh f xs ≡ n
counted_weigh P f when unless [] _ none = refl
counted_weigh P f when unless (x ∷ xs) _ (one_more _ _ n here many) = omega (arith, when x here, counted_weigh P f when unless xs n many)
counted_weigh P f when unless (x ∷ xs) _ (no_more _ _ n out many) = omega (arith, unless x out, counted_weigh P f when unless xs n many)

-- of numbers that rise the first is the least
pub first_below : (x z : ℕ) (xs : List ℕ) → IsStrictlyIncreasing (x ∷ xs) → Contains xs z → x < z
first_below x z xs up (k, lt, is) = omega (arith, AllPairs-from_increasing (x ∷ xs) up 0 (suc k) z (omega arith) (omega arith), is)

-- and none stands there twice
pub times_rising : (x : ℕ) (xs : List ℕ) → IsStrictlyIncreasing xs → times x xs ≤ 1
times_rising x [] up = omega arith
times_rising x (y ∷ ys) up =
    ⊎_elim
    (λ same.
    let none_behind : times x ys ≡ 0 = times_none x ys (λ at. absurd (omega (arith, first_below y x ys up at))) in
    omega (arith, ap (λ (z : ℕ). one_if_same z x) same, one_same x))
    (λ apart. omega (arith, one_other y x apart, times_rising x ys (rising_tail y ys up)))
    (cases_eq y x)

-- the rest of numbers that rise, of those that are greater than the first
behind : (y z : ℕ) (ys : List ℕ) → Contains (y ∷ ys) z → y < z → Contains ys z
behind y z ys (zero, lt, is) less = absurd (omega arith)
behind y z ys (suc k, lt, is) less = (k, omega arith, is)

-- numbers that rise weigh no more than others that rise, among which they stand
pub weigh_within : (f : ℕ → ℕ) (xs ys : List ℕ) → IsStrictlyIncreasing xs → IsStrictlyIncreasing ys → All (Contains ys) xs → weigh f xs ≤ weigh f ys
weigh_within f [] ys up rising all = omega arith
weigh_within f (x ∷ xs) [] up rising all = absurd (none_there (All-head (Contains []) x xs all))
  where
    none_there : Contains [] x → ⊥
    none_there (k, lt, is) = omega arith
weigh_within f (x ∷ xs) (y ∷ ys) up rising all =
    by (All-head (Contains (y ∷ ys)) x xs all) (weigh_within f xs ys (rising_tail x xs up) (rising_tail y ys rising)) (weigh_within f (x ∷ xs) ys up (rising_tail y ys rising))
  where
    rest : y ≤ x → All (Contains ys) xs
    rest le = λ k d lt.
        let at : Contains xs (get_or xs k d) = Contains-get_or xs k d lt in
        behind y (get_or xs k d) ys (All-tail (Contains (y ∷ ys)) x xs all k d lt) (omega (arith, first_below x (get_or xs k d) xs up at))

    by : Contains (y ∷ ys) x → (All (Contains ys) xs → weigh f xs ≤ weigh f ys) → (All (Contains ys) (x ∷ xs) → weigh f (x ∷ xs) ≤ weigh f ys) →
        weigh f (x ∷ xs) ≤ weigh f (y ∷ ys)
    by (zero, lt, is) same more = omega (arith, ap f is, same (rest (omega arith)))
    by (suc k, lt, is) same more =
        let there : Contains ys x = (k, omega arith, is) in
        let less : y < x = first_below y x ys rising there in
        omega (arith, more (All-cons (Contains ys) x xs there (rest (omega arith))))

-- at the opening each word counts the places of the jobs below it, and maybe more
pub opening_counts : (plan : Plan) → IsPlan plan → (node : ℕ) → 1 ≤ node →
    weigh (λ place. times node (way (leaves plan) place)) (concat plan.jobs) ≤ get_or plan.words.items node 0
opening_counts plan is node low = ⊎_elim inside past (cases_lt node (2 * 2 ^ is.tree.height))
  where
    width : 2 ^ is.tree.height ≡ leaves plan
    width = omega (arith, is.tree.size)

    inside : node < 2 * 2 ^ is.tree.height → weigh (λ place. times node (way (leaves plan) place)) (concat plan.jobs) ≤ get_or plan.words.items node 0
    inside lt =
        let counted : HowMany (λ place. HalvesTo (leaves plan + place) node) (live_leaves plan.words.items) (get_or plan.words.items node 0) =
        subst (λ (w : ℕ). HowMany (λ place. HalvesTo (w + place) node) (live_leaves plan.words.items) (get_or plan.words.items node 0)) width (is.tree.counted node low lt) in
        omega (
          arith,
          weigh_within (λ place. times node (way (leaves plan) place)) (concat plan.jobs) (live_leaves plan.words.items) is.rising is.tree.in_order is.live,
          counted_weigh (λ place. HalvesTo (leaves plan + place) node) (λ place. times node (way (leaves plan) place))
              (λ place here. times_on (leaves plan) place node low here) (λ place out. times_off (leaves plan) place node out)
              (live_leaves plan.words.items) (get_or plan.words.items node 0) counted,
        )

    above : 2 * 2 ^ is.tree.height ≤ node → (j place : ℕ) → get_elem? (concat plan.jobs) j ≡ some place → times node (way (leaves plan) place) ≡ 0
    above le j place at =
        let there : Contains (live_leaves plan.words.items) place = All-contains (Contains (live_leaves plan.words.items)) (concat plan.jobs) place is.live (at_contains (concat plan.jobs) j place at) in
        let fits : place < 2 ^ is.tree.height = All-contains (λ p. p < 2 ^ is.tree.height) (live_leaves plan.words.items) place is.tree.in_range there in
        times_none node (way (leaves plan) place) (λ on. absurd (omega (arith, width, (halves_inside (leaves plan + place) (leaves plan + place) node on).1)))

    past : 2 * 2 ^ is.tree.height ≤ node → weigh (λ place. times node (way (leaves plan) place)) (concat plan.jobs) ≤ get_or plan.words.items node 0
    past le =
        omega (
          arith,
          weigh_none (λ place. times node (way (leaves plan) place)) (λ place. 0) (concat plan.jobs) (weigh_zero (concat plan.jobs)) (λ j place at none. above le j place at),
        )
