-- The closing words count the live leaves without the lowered places.
use Rattle.std.proofs.Common.{◌≡◌, ◌≢◌, ℕ, zero, suc, ◌+◌, ◌*◌, ◌^◌, ◌<◌, ◌≤◌, ◌⊎◌, inl, inr, ⊎_elim, Bool, true, false, cond, eqb, List, [], ◌∷◌, map, length, get_or, refl, sym, ap, ◌∙◌, subst, arith}
use Rattle.std.specs.Prelude.{All, Contains}
use Rattle.std.specs.List.{concat, filter}
use Rattle.std.proofs.lemmas.Bool.{cases_eq}
use Rattle.std.proofs.lemmas.Bool.Decides.{nat_tests}
use Rattle.std.proofs.lemmas.List.Elements.{All-contains, All-filter, All-map, All-weaker}
use Rattle.std.proofs.lemmas.List.Kept.{IsStrictlyIncreasing-filter}
use mathlib.Core.Option.{some}
use lib.ListN.{get_elem?}
use Rattle.pq_array.specs.Counts.{HalvesTo, HowMany, none, one_more, no_more, Counts}
use Rattle.pq_board.specs.Sums.{weigh, times, one_if_same}
use Rattle.pq_board.specs.Ways.{way, live_leaves}
use Rattle.pq_board.specs.Law.{IsPlan, Stands, IsLowering, leaves, nodes_at}
use Rattle.pq_board.specs.Steps.{at_root, lowered_places, places_under, without}
use Rattle.pq_board.specs.declared.plan.Plan.{Plan}
use Rattle.pq_board.specs.declared.plan.Lowering.{Lowering}
use Rattle.pq_board.specs.declared.plan.View.{View}
use Rattle.pq_board.proofs.Sums.{one_same, one_other, times_contains, weigh_turn, weigh_same}
use Rattle.pq_board.proofs.Ways.{times_halves, times_on, times_off, times_front, way_halves}
use Rattle.pq_board.proofs.Bounds.{at_contains, counted_weigh, one_if_both, times_nodes, times_rising}
use Rattle.pq_board.proofs.Climbing.{contains_concat}

-- the same weights for each item that is there
weigh_same_at : {A : Type 0} (f g : A → ℕ) (xs : List A) → ((j : ℕ) (w : A) → get_elem? xs j ≡ some w → f w ≡ g w) → weigh f xs ≡ weigh g xs
weigh_same_at f g [] same = refl
weigh_same_at f g (x ∷ xs) same = omega (arith, same 0 x refl, weigh_same_at f g xs (λ j. same (suc j)))

-- what stands in a list at least once is there
pub contains_times : (x : ℕ) (xs : List ℕ) → 1 ≤ times x xs → Contains xs x
contains_times x [] low = absurd (omega arith)
contains_times x (y ∷ ys) low =
    ⊎_elim (λ same. (0, omega arith, same))
    (λ apart. let rest : Contains ys x = contains_times x ys (omega (arith, one_other y x apart)) in (suc rest.0, omega (arith, rest.1), rest.2)) (cases_eq y x)

-- a weight where two numbers are the same
pick_same : (x y w : ℕ) → x ≡ y → cond (eqb x y) w 0 ≡ w
pick_same x y w same = grind (arith, nat_tests)

pick_other : (x y w : ℕ) → x ≢ y → cond (eqb x y) w 0 ≡ 0
pick_other x y w apart = grind (arith, nat_tests)

-- a number that isn't there adds nothing, and one that is there once adds its weight
picked_none : (f : ℕ → ℕ) (x : ℕ) (xs : List ℕ) → times x xs ≡ 0 → weigh (λ q. cond (eqb x q) (f q) 0) xs ≡ 0
picked_none f x [] is = refl
picked_none f x (y ∷ ys) is =
    ⊎_elim (λ same. absurd (omega (arith, ap (λ (z : ℕ). one_if_same z x) same, one_same x)))
    (λ apart. omega (arith, one_other y x apart, pick_other x y (f y) (λ e. apart (sym e)), picked_none f x ys (omega (arith, one_other y x apart)))) (cases_eq y x)

picked_once : (f : ℕ → ℕ) (x : ℕ) (xs : List ℕ) → times x xs ≡ 1 → weigh (λ q. cond (eqb x q) (f q) 0) xs ≡ f x
picked_once f x [] is = absurd (omega arith)
picked_once f x (y ∷ ys) is =
    ⊎_elim
    (λ same.
    omega (
      arith,
      ap (λ (z : ℕ). one_if_same z x) same,
      one_same x,
      pick_same x y (f y) (sym same),
      ap f same,
      picked_none f x ys (omega (arith, ap (λ (z : ℕ). one_if_same z x) same, one_same x)),
    ))
    (λ apart. omega (arith, one_other y x apart, pick_other x y (f y) (λ e. apart (sym e)), picked_once f x ys (omega (arith, one_other y x apart)))) (cases_eq y x)

-- the same with the number itself weighed
taken_once : (w x : ℕ) (xs : List ℕ) → times x xs ≡ 1 → weigh (λ y. cond (eqb y x) w 0) xs ≡ w
taken_once w x xs is = weigh_same (λ y. cond (eqb y x) w 0) (λ y. cond (eqb x y) w 0) xs turned ∙ picked_once (λ y. w) x xs is
  where
    turned : (y : ℕ) → cond (eqb y x) w 0 ≡ cond (eqb x y) w 0
    turned y = ⊎_elim (λ same. pick_same y x w same ∙ sym (pick_same x y w (sym same))) (λ apart. pick_other y x w apart ∙ sym (pick_other x y w (λ e. apart (sym e)))) (cases_eq y x)

-- a list falls into what passes a test and the rest
parted : (b : Bool) (f : ℕ → ℕ) (x : ℕ) (xs : List ℕ) → weigh f (cond b (x ∷ xs) xs) + cond b 0 (f x) ≡ f x + weigh f xs
parted true f x xs = omega arith
parted false f x xs = omega arith

weigh_filter : (f : ℕ → ℕ) (q : ℕ → Bool) (xs : List ℕ) → weigh f (filter q xs) + weigh (λ x. cond (q x) 0 (f x)) xs ≡ weigh f xs
weigh_filter f q [] = refl
weigh_filter f q (x ∷ xs) = omega (arith, parted (q x) f x (filter q xs), weigh_filter f q xs)

-- numbers that stand once each in a list, and the rest of the list
pub weigh_without : (f : ℕ → ℕ) (places live : List ℕ) → ((p : ℕ) → times p places ≤ 1) → ((p : ℕ) → times p live ≤ 1) → All (Contains live) places →
    weigh f (without places live) + weigh f places ≡ weigh f live
weigh_without f places live once rising inside =
    omega (
      arith,
      weigh_filter f (λ x. eqb (times x places) 0) live,
      weigh_same (λ x. cond (eqb (times x places) 0) 0 (f x)) (λ x. weigh (λ q. cond (eqb x q) (f q) 0) places) live each,
      weigh_turn (λ x q. cond (eqb x q) (f q) 0) live places,
      weigh_same_at (λ q. weigh (λ x. cond (eqb x q) (f q) 0) live) f places there,
    )
  where
    gone : (x : ℕ) → times x places ≡ 0 → cond (eqb (times x places) 0) 0 (f x) ≡ 0
    gone x is = grind (arith, nat_tests)

    stays : (x : ℕ) → times x places ≢ 0 → cond (eqb (times x places) 0) 0 (f x) ≡ f x
    stays x is = grind (arith, nat_tests)

    each : (x : ℕ) → cond (eqb (times x places) 0) 0 (f x) ≡ weigh (λ q. cond (eqb x q) (f q) 0) places
    each x =
        ⊎_elim (λ is. gone x is ∙ sym (picked_none f x places is)) (λ is. stays x is ∙ sym (picked_once f x places (omega (arith, once x)))) (cases_eq (times x places) 0)

    there : (j q : ℕ) → get_elem? places j ≡ some q → weigh (λ x. cond (eqb x q) (f q) 0) live ≡ f q
    there j q at =
        let in_live : Contains live q = All-contains (Contains live) places q inside (at_contains places j q at) in
        taken_once (f q) q live (omega (arith, rising q, times_contains q live in_live))

-- each lowered place is lowered once
both_ways : (a b : Bool) → cond a (cond b 1 0) 0 ≡ cond b (cond a 1 0) (zero)
both_ways true true = refl
both_ways true false = refl
both_ways false true = refl
both_ways false false = refl

places_kept : (place : ℕ) (l : Lowering) (b : Bool) (ls : List Lowering) →
    times place (map (λ m. m.place) (cond b (l ∷ ls) ls)) ≡ cond b (one_if_same l.place place) 0 + times place (map (λ m. m.place) ls)
places_kept place l true ls = refl
places_kept place l false ls = omega arith

times_lowered : (place : ℕ) (ls : List Lowering) → times place (lowered_places ls) ≡ weigh (λ l. one_if_both 1 l place) ls
times_lowered place [] = refl
times_lowered place (l ∷ ls) =
    omega (arith, places_kept place l (eqb l.node 1) (filter (λ m. eqb m.node 1) ls), times_lowered place ls, both_ways (eqb l.node 1) (eqb l.place place))

pub lowered_once : (plan : Plan) (v : View) → Stands plan v → (place : ℕ) → times place (lowered_places v.lowered) ≤ 1
lowered_once plan v s place =
    omega (
      arith,
      times_lowered place v.lowered,
      times_nodes 1 place v.lowered,
      times_front 1 (way (leaves plan) place) (nodes_at place v.lowered) (s.in_order place),
      times_halves (leaves plan + place) (leaves plan + place) 1,
    )

-- and is live at the opening
pub lowered_live : (plan : Plan) (v : View) → IsPlan plan → Stands plan v → All (Contains (live_leaves plan.words.items)) (lowered_places v.lowered)
lowered_live plan v is s =
    All-map (Contains (live_leaves plan.words.items)) (λ (l : Lowering). l.place) (at_root v.lowered)
    (All-filter (λ m. eqb m.node 1) (λ (l : Lowering). Contains (live_leaves plan.words.items) l.place) v.lowered
    (All-weaker (IsLowering plan v.tickets) (λ (l : Lowering). Contains (live_leaves plan.words.items) l.place)
    (λ l one. All-contains (Contains (live_leaves plan.words.items)) (concat plan.jobs) l.place is.live (contains_concat plan.jobs l.ticket l.place one.early one.place)) v.lowered s.lowerings))

-- how many have a property that is 1 or 0 as a weight
count_of : (P : ℕ → Type 0) (f : ℕ → ℕ) → ((x : ℕ) → (P x × (f x ≡ 1)) ⊎ ((P x → ⊥) × (f x ≡ 0))) → (xs : List ℕ) → HowMany P xs (weigh f xs)
count_of P f tells [] = none
count_of P f tells (x ∷ xs) = by (tells x) (count_of P f tells xs)
  where
    by : (P x × (f x ≡ 1)) ⊎ ((P x → ⊥) × (f x ≡ 0)) → HowMany P xs (weigh f xs) → HowMany P (x ∷ xs) (f x + weigh f xs)
    by (inl here) many =
        let e : suc (weigh f xs) ≡ f x + weigh f xs = omega (arith, here.1) in
        subst (HowMany P (x ∷ xs)) e (one_more x xs (weigh f xs) here.0 many)
    by (inr out) many =
        let e : weigh f xs ≡ f x + weigh f xs = omega (arith, out.1) in
        subst (HowMany P (x ∷ xs)) e (no_more x xs (weigh f xs) out.0 many)

-- the closing words
pub closing_counts : (plan : Plan) (words places : List ℕ) → IsPlan plan → length words ≡ length plan.words.items → ((p : ℕ) → times p places ≤ 1) → All (Contains (live_leaves plan.words.items)) places →
    ((node : ℕ) → 1 ≤ node → get_or words node 0 + places_under plan node places ≡ get_or plan.words.items node 0) → Counts words (without places (live_leaves plan.words.items))
closing_counts plan words places is size once inside counts = record {
  height = is.tree.height;
  size = size ∙ is.tree.size;
  in_order = IsStrictlyIncreasing-filter (λ x. eqb (times x places) 0) live is.tree.in_order;
  in_range = All-filter (λ x. eqb (times x places) 0) (λ p. p < 2 ^ is.tree.height) live is.tree.in_range;
  counted = λ node low lt.
      let opening : weigh (λ p. times node (way (leaves plan) p)) live ≡ get_or plan.words.items node 0 = whole node low lt in
      let left : weigh (λ p. times node (way (leaves plan) p)) (without places live) ≡ get_or words node 0 =
      omega (arith, weigh_without (λ p. times node (way (leaves plan) p)) places live once (λ p. times_rising p live is.tree.in_order) inside, counts node low) in
      subst (HowMany (λ p. HalvesTo (2 ^ is.tree.height + p) node) (without places live)) left
      (count_of (λ p. HalvesTo (2 ^ is.tree.height + p) node) (λ p. times node (way (leaves plan) p)) (tells node low) (without places live));
}
  where
    live : List ℕ
    live = live_leaves plan.words.items

    width : 2 ^ is.tree.height ≡ leaves plan
    width = omega (arith, is.tree.size)

    tells : (node : ℕ) → 1 ≤ node → (p : ℕ) →
        (HalvesTo (2 ^ is.tree.height + p) node × (times node (way (leaves plan) p) ≡ 1)) ⊎ ((HalvesTo (2 ^ is.tree.height + p) node → ⊥) × (times node (way (leaves plan) p) ≡ 0))
    tells node low p =
        ⊎_elim
        (λ zero_times. inr ((λ halves. absurd (omega (arith, times_on (leaves plan) p node low (subst (λ (w : ℕ). HalvesTo (w + p) node) width halves)))), zero_times))
        (λ some_times.
        let one : times node (way (leaves plan) p) ≡ 1 = omega (arith, times_halves (leaves plan + p) (leaves plan + p) node) in
        inl (
          subst (λ (w : ℕ). HalvesTo (w + p) node) (sym width) (way_halves (leaves plan + p) (leaves plan + p) node (contains_times node (way (leaves plan) p) (omega arith))),
          one,
        ))
        (cases_eq (times node (way (leaves plan) p)) 0)

    whole : (node : ℕ) → 1 ≤ node → node < 2 * 2 ^ is.tree.height → weigh (λ p. times node (way (leaves plan) p)) live ≡ get_or plan.words.items node 0
    whole node low lt =
        counted_weigh (λ p. HalvesTo (2 ^ is.tree.height + p) node) (λ p. times node (way (leaves plan) p))
        (λ p here. times_on (leaves plan) p node low (subst (λ (w : ℕ). HalvesTo (w + p) node) width here))
        (λ p out. times_off (leaves plan) p node (λ halves. out (subst (λ (w : ℕ). HalvesTo (w + p) node) (sym width) halves)))
        live (get_or plan.words.items node 0) (is.tree.counted node low lt)
