use Rattle.std.proofs.Common.{◌≡◌, ℕ, suc, ◌+◌, ◌<◌, ◌≤◌, Bool, true, false, cond, ◌&&◌, not, eqb, ltb, leb, List, [], ◌∷◌, length, get_or, map, refl, sym, ap, subst, ◌∙◌, arith, inl, inr, ◌⊎◌}
use Rattle.std.specs.List.{All, AllPairs, AllZip, list_any, slice_index}
use Rattle.std.proofs.lemmas.Bool.{cases_Bool, cases_order, cases_lt, le-leb, lt-leb, or_cases, or_parts, and_parts, false≢true, not-true, or_right, and_cases, ltb-false}
use Rattle.std.proofs.lemmas.List.Elements.{All-cons, All-nil, All-head, All-tail}
use Rattle.std.proofs.lemmas.List.{get_or_default}
use Rattle.std.proofs.lemmas.List.Folds.{list_any_at, Any-from_list_any}
use Rattle.pq_finger.specs.declared.cut.Cut.{Cut}
use Rattle.pq_gaps.specs.Gaps.{ascending, lost_before, moved_gap, new_fingers, is_inside, GapCut}
use Rattle.pq_finger.specs.Settled.{settled, is_dropped, new_places, AreInOrder}
use Rattle.pq_finger.specs.Ranks.{IsRank, IsAtPlaces, LosesGates}
use Rattle.pq_gaps.proofs.Ascending.{member, member_here}
use Rattle.pq_gaps.proofs.Rising.{all_member}
use Rattle.pq_finger.proofs.RankLaws.{map-ascending, settled_ranked, flat_stand}
use Rattle.pq_gaps.proofs.KeptGaps.{member_kept, member-flat_map, edges_exactly}
use Rattle.pq_finger.proofs.Halfway.{not_turned}

-- the place isn't strictly inside the cut's segment, where that was improved
abbrev pub IsOutside : ℕ → Cut → Type 0
IsOutside place cut = cut.improved ≡ true → (place ≤ cut.from) ⊎ (cut.to ≤ place)

-- cuts that follow one another from a place on
abbrev pub Follow : ℕ → List Cut → Type 0
Follow start [] = Unit {0}
Follow start (cut ∷ cuts) = (start ≤ cut.from) × (cut.from ≤ cut.to) × Follow cut.to cuts

-- all that follow begin at or behind the place
Follow-from : (start place : ℕ) (cuts : List Cut) → place ≤ start → Follow start cuts → All (λ cut. place ≤ cut.from) cuts
Follow-from start place [] le follow = All-nil (λ cut. place ≤ cut.from)
Follow-from start place (cut ∷ cuts) le follow =
    All-cons (λ cut. place ≤ cut.from) cut cuts (omega (arith, follow.0)) (Follow-from cut.to place cuts (omega (arith, follow.0, follow.1)) follow.2)

-- nothing is lost before a place that comes before where all cuts end
lost_none : (old : ℕ → ℕ) (stood : ℕ → Bool) (live : ℕ) (places : List ℕ) (start place : ℕ) (gaps : List GapCut) (cuts : List Cut) →
    IsRank old stood → stood place ≡ true → place < start → Follow start cuts → AllZip (IsAtPlaces old stood live places) gaps cuts → lost_before gaps (old place) ≡ 0
lost_none old stood live places start place [] [] rises sp lt follow at = refl
lost_none old stood live places start place [] (cut ∷ cuts) rises sp lt follow at = absurd at
lost_none old stood live places start place (gap ∷ gaps) [] rises sp lt follow at = absurd at
lost_none old stood live places start place (gap ∷ gaps) (cut ∷ cuts) rises sp lt follow at =
    let rest : lost_before gaps (old place) ≡ 0 = lost_none old stood live places cut.to place gaps cuts rises sp (omega (arith, follow.0, follow.1)) follow.2 at.1 in
    let up : old place < old cut.to = rises place cut.to sp at.0.to_stands (omega (arith, follow.0, follow.1)) in
    let not_yet : leb gap.to (old place) ≡ false = lt-leb gap.to (old place) (omega (arith, at.0.to, up)) in
    here gap.improved rest not_yet
  where
    here : (b : Bool) → lost_before gaps (old place) ≡ 0 → leb gap.to (old place) ≡ false → cond (b && leb gap.to (old place)) gap.lost 0 + lost_before gaps (old place) ≡ 0
    here true rest not_yet = rw (not_yet, rest) refl
    here false rest not_yet = rw rest refl

-- ranks don't fall
rank_up_to : {rank : ℕ → ℕ} {stands : ℕ → Bool} (x y : ℕ) → IsRank rank stands → stands x ≡ true → stands y ≡ true → x ≤ y → rank x ≤ rank y
rank_up_to {rank} x y rises sx sy le = by (cases_order x y)
  where
    by : (x ≡ y) ⊎ ((x < y) ⊎ (y < x)) → rank x ≤ rank y
    by (inl same) = let P : ℕ → Type 0 = λ n. rank x ≤ rank n in subst P same (omega arith)
    by (inr (inl below)) = let up : rank x < rank y = rises x y sx sy below in omega arith
    by (inr (inr above)) = absurd (omega arith)

-- what was lost from a place on, before a place that is strictly inside no improved segment
pub lost_from : (old new : ℕ → ℕ) (stood : ℕ → Bool) (live : ℕ) (places : List ℕ) (start place : ℕ) (gaps : List GapCut) (cuts : List Cut) →
    IsRank old stood → stood place ≡ true → start ≤ place → Follow start cuts → AllZip (IsAtPlaces old stood live places) gaps cuts →
    ((from to : ℕ) → start ≤ from → from ≤ to → All (λ cut. cut.improved ≡ true → (cut.to ≤ from) ⊎ (to ≤ cut.from)) cuts → new to + old from ≡ new from + old to) →
    AllZip (λ (gap : GapCut) (cut : Cut). cut.improved ≡ true → new cut.to + gap.lost + old cut.from ≡ new cut.from + old cut.to) gaps cuts →
    All (IsOutside place) cuts → new place + lost_before gaps (old place) + old start ≡ new start + old place
lost_from old new stood live places start place [] [] rises sp le follow at outside inside apart =
    omega (arith, outside start place (omega arith) le (All-nil (λ cut. cut.improved ≡ true → (cut.to ≤ start) ⊎ (place ≤ cut.from))))
lost_from old new stood live places start place [] (cut ∷ cuts) rises sp le follow at outside inside apart = absurd at
lost_from old new stood live places start place (gap ∷ gaps) [] rises sp le follow at outside inside apart = absurd at
lost_from old new stood live places start place (gap ∷ gaps) (cut ∷ cuts) rises sp le follow at outside inside apart =
    by (cases_Bool cut.improved)
    (λ low out. lost_from old new stood live places start place gaps cuts rises sp le low at.1 out inside.1 (All-tail (IsOutside place) cut cuts apart))
    (λ low out. lost_from old new stood live places cut.to place gaps cuts rises sp low follow.2 at.1 out inside.1 (All-tail (IsOutside place) cut cuts apart))
  where
    Apart : ℕ → ℕ → Cut → Type 0
    Apart from to c = c.improved ≡ true → (c.to ≤ from) ⊎ (to ≤ c.from)

    Outside : ℕ → Type 0
    Outside from' = (from to : ℕ) → from' ≤ from → from ≤ to → All (λ c. c.improved ≡ true → (c.to ≤ from) ⊎ (to ≤ c.from)) cuts → new to + old from ≡ new from + old to

    Follow-weaker : (s : ℕ) (cs : List Cut) → start ≤ s → Follow s cs → Follow start cs
    Follow-weaker s [] le' f = tt
    Follow-weaker s (c ∷ cs) le' f = (omega (arith, f.0), f.1, f.2)

    by : (cut.improved ≡ true) ⊎ (cut.improved ≡ false) →
        (Follow start cuts → Outside start → new place + lost_before gaps (old place) + old start ≡ new start + old place) →
        (cut.to ≤ place → Outside cut.to → new place + lost_before gaps (old place) + old cut.to ≡ new cut.to + old place) →
        new place + lost_before (gap ∷ gaps) (old place) + old start ≡ new start + old place
    by (inr unchanged) same later =
        let none : gap.improved ≡ false = sym at.0.improved ∙ unchanged in
        let out : Outside start =
        λ from to low up all. outside from to low up
        (All-cons (λ c. c.improved ≡ true → (c.to ≤ from) ⊎ (to ≤ c.from)) cut cuts (λ better. absurd (false≢true (sym unchanged ∙ better))) all) in
        let rest = same (Follow-weaker cut.to cuts (omega (arith, follow.0, follow.1)) follow.2) out in
        rw none (omega (arith, rest))
    by (inl better) same later = side (cases_lt place cut.to)
      where
        gap_better : gap.improved ≡ true
        gap_better = sym at.0.improved ∙ better

        side : (place < cut.to) ⊎ (cut.to ≤ place) → new place + lost_before (gap ∷ gaps) (old place) + old start ≡ new start + old place
        side (inl before) =
            let front : place ≤ cut.from = which (All-head (IsOutside place) cut cuts apart better) in
            let up : old place < old cut.to = rises place cut.to sp at.0.to_stands before in
            let not_yet : leb gap.to (old place) ≡ false = lt-leb gap.to (old place) (omega (arith, at.0.to, up)) in
            let none : lost_before gaps (old place) ≡ 0 = lost_none old stood live places cut.to place gaps cuts rises sp before follow.2 at.1 in
            let all = Follow-from cut.to place cuts (omega arith) follow.2 in
            let stays = outside start place (omega arith) le
            (All-cons (λ c. c.improved ≡ true → (c.to ≤ start) ⊎ (place ≤ c.from)) cut cuts (λ _. inr front) (λ k d lt _. inr (all k d lt))) in
            rw (gap_better, not_yet, none) (omega (arith, stays))
          where
            which : (place ≤ cut.from) ⊎ (cut.to ≤ place) → place ≤ cut.from
            which (inl front) = front
            which (inr back) = absurd (omega arith)
        side (inr after) =
            let up : old cut.to ≤ old place = rank_up_to cut.to place rises at.0.to_stands sp after in
            let counted : leb gap.to (old place) ≡ true = le-leb gap.to (old place) (omega (arith, at.0.to, up)) in
            let all = Follow-from cut.to cut.from cuts (omega (arith, follow.1)) follow.2 in
            let front = outside start cut.from (omega arith) follow.0
            (All-cons (λ c. c.improved ≡ true → (c.to ≤ start) ⊎ (cut.from ≤ c.from)) cut cuts (λ _. inr (omega arith)) (λ k d lt _. inr (all k d lt))) in
            let middle = inside.0 better in
            let out : Outside cut.to =
            λ from to low up' all'. outside from to (omega (arith, follow.0, follow.1)) up'
            (All-cons (λ c. c.improved ≡ true → (c.to ≤ from) ⊎ (to ≤ c.from)) cut cuts (λ _. inl low) all') in
            let rest = later after out in
            rw (gap_better, counted) (omega (arith, front, middle, rest))

-- cuts in order follow one another
Follow-from_order : (start : ℕ) (cuts : List Cut) → ((d : Cut) → 0 < length cuts → start ≤ (get_or cuts 0 d).from) → All (λ cut. cut.from ≤ cut.to) cuts →
    AllPairs (λ cut later. cut.to ≤ later.from) cuts → Follow start cuts
Follow-from_order start [] low turned apart = tt
Follow-from_order start (cut ∷ cuts) low turned apart = (
  low cut (omega arith),
  turned 0 cut (omega arith),
  Follow-from_order cut.to cuts (λ d some. apart 0 1 d (omega arith) (omega arith))
      (λ k d lt. turned (suc k) d (omega arith)) (λ i j d lt in'. apart (suc i) (suc j) d (omega arith) (omega arith)),
)

-- what isn't inside is outside
outside_test : (place : ℕ) (cut : Cut) → is_inside cut.improved cut.from cut.to place ≡ false → IsOutside place cut
outside_test place cut is better = which (and_cases (ltb cut.from place) (ltb place cut.to) here)
  where
    here : (ltb cut.from place && ltb place cut.to) ≡ false
    here = rw better at is

    which : (ltb cut.from place ≡ false) ⊎ (ltb place cut.to ≡ false) → (place ≤ cut.from) ⊎ (cut.to ≤ place)
    which (inl front) = inl (ltb-false cut.from place front)
    which (inr back) = inr (ltb-false place cut.to back)

-- no settled place is strictly inside an improved segment
settled_outside : (places : List ℕ) (cuts : List Cut) (place : ℕ) → AreInOrder places cuts → member place (settled places cuts) ≡ true → All (IsOutside place) cuts
unfolding settled
settled_outside places cuts place order is =
    which (or_cases (member place places && not (list_any (is_dropped places place) cuts)) (list_any (λ cut. member place (new_places cut)) cuts)
    (sym (member_kept (is_dropped places) new_places place places cuts) ∙ is))
  where
    old : not (list_any (is_dropped places place) cuts) ≡ true → All (IsOutside place) cuts
    old stays k d lt = by (cases_Bool (is_dropped places place (get_or cuts k d)))
      where
        by : (is_dropped places place (get_or cuts k d) ≡ true) ⊎ (is_dropped places place (get_or cuts k d) ≡ false) → IsOutside place (get_or cuts k d)
        by (inl dropped) =
            absurd (false≢true (sym (not-true (list_any (is_dropped places place) cuts) stays) ∙ list_any_at (is_dropped places place) cuts k d lt dropped))
        by (inr kept) =
            outside_test place (get_or cuts k d)
            (or_parts (eqb place (slice_index places (get_or cuts k d).finger)) (is_inside (get_or cuts k d).improved (get_or cuts k d).from (get_or cuts k d).to place) kept).1

    edge : (j : ℕ) (cut : Cut) → j < length cuts → get_or cuts j cut ≡ cut → (place ≡ cut.from) ⊎ (place ≡ cut.to) → All (IsOutside place) cuts
    edge j cut in' at at_edge k d lt better = side (cases_order k j)
      where
        itself : (e : Cut) → get_or cuts j e ≡ cut
        itself e = get_or_default cuts j e cut in' ∙ at

        turned : cut.from ≤ cut.to
        turned = let P : Cut → Type 0 = λ c. c.from ≤ c.to in subst P at (not_turned places cuts order j cut in')

        up : cut.from ≤ place
        up = low at_edge
          where
            low : (place ≡ cut.from) ⊎ (place ≡ cut.to) → cut.from ≤ place
            low (inl same) = omega arith
            low (inr same) = omega (arith, turned)

        most : place ≤ cut.to
        most = high at_edge
          where
            high : (place ≡ cut.from) ⊎ (place ≡ cut.to) → place ≤ cut.to
            high (inl same) = omega (arith, turned)
            high (inr same) = omega arith

        side : (k ≡ j) ⊎ ((k < j) ⊎ (j < k)) → (place ≤ (get_or cuts k d).from) ⊎ ((get_or cuts k d).to ≤ place)
        side (inl same) =
            let here : get_or cuts k d ≡ cut = ap (λ (n : ℕ). get_or cuts n d) same ∙ itself d in
            let P : Cut → Type 0 = λ c. (place ≤ c.from) ⊎ (c.to ≤ place) in
            subst P (sym here) (turn at_edge)
          where
            turn : (place ≡ cut.from) ⊎ (place ≡ cut.to) → (place ≤ cut.from) ⊎ (cut.to ≤ place)
            turn (inl same') = inl (omega arith)
            turn (inr same') = inr (omega arith)
        side (inr (inl earlier)) =
            let P : Cut → Type 0 = λ c. (get_or cuts k d).to ≤ c.from in
            let before : (get_or cuts k d).to ≤ cut.from = subst P (itself d) (order.apart k j d earlier in') in
            inr (omega (arith, before, up))
        side (inr (inr later)) =
            let P : Cut → Type 0 = λ c. c.to ≤ (get_or cuts k d).from in
            let after : cut.to ≤ (get_or cuts k d).from = subst P (itself d) (order.apart j k d later lt) in
            inl (omega (arith, after, most))

    new : list_any (λ cut. member place (new_places cut)) cuts ≡ true → All (IsOutside place) cuts
    new any =
        let some = Any-from_list_any (λ cut. member place (new_places cut)) cuts any in
        let edges = (edges_exactly some.1.improved some.1.at_start some.1.at_end some.1.from some.1.to place).0 some.4 in
        edge some.0 some.1 some.2 some.3 (either edges.1)
      where
        either : {a b : ℕ} {P Q : Type 0} → ((place ≡ a) × P) ⊎ ((place ≡ b) × Q) → (place ≡ a) ⊎ (place ≡ b)
        either (inl at) = inl at.0
        either (inr at) = inr at.0

    which : ((member place places && not (list_any (is_dropped places place) cuts)) ≡ true) ⊎ (list_any (λ cut. member place (new_places cut)) cuts ≡ true) → All (IsOutside place) cuts
    which (inl stays) = old (and_parts (member place places) (not (list_any (is_dropped places place) cuts)) stays).1
    which (inr any) = new any

-- settled places stand
settled_stand : (old : ℕ → ℕ) (stood : ℕ → Bool) (live : ℕ) (places : List ℕ) (gaps : List GapCut) (cuts : List Cut) (place : ℕ) →
    All (λ p. stood p ≡ true) places → AllZip (IsAtPlaces old stood live places) gaps cuts → member place (settled places cuts) ≡ true → stood place ≡ true
unfolding settled
settled_stand old stood live places gaps cuts place all at is =
    which (or_cases (member place places && not (list_any (is_dropped places place) cuts)) (list_any (λ cut. member place (new_places cut)) cuts)
    (sym (member_kept (is_dropped places) new_places place places cuts) ∙ is))
  where
    which : ((member place places && not (list_any (is_dropped places place) cuts)) ≡ true) ⊎ (list_any (λ cut. member place (new_places cut)) cuts ≡ true) → stood place ≡ true
    which (inl stays) = all_member (λ p. stood p ≡ true) places all place (and_parts (member place places) (not (list_any (is_dropped places place) cuts)) stays).0
    which (inr any) = flat_stand old stood live places gaps cuts at place (member-flat_map new_places place cuts ∙ any)

-- after the round a settled place has the gap to which its gap moves
pub moved_rank : (old new : ℕ → ℕ) (stood : ℕ → Bool) (live : ℕ) (places : List ℕ) (gaps : List GapCut) (cuts : List Cut) (place : ℕ) →
    IsRank old stood → All (λ p. stood p ≡ true) places → AllZip (IsAtPlaces old stood live places) gaps cuts → AreInOrder places cuts →
    LosesGates old new gaps cuts → member place (settled places cuts) ≡ true → new place ≡ moved_gap gaps (old place)
moved_rank old new stood live places gaps cuts place rises all at order loses is =
    let follow : Follow 0 cuts = Follow-from_order 0 cuts (λ d some. omega arith) (not_turned places cuts order) order.apart in
    let total = lost_from old new stood live places 0 place gaps cuts rises (settled_stand old stood live places gaps cuts place all at is) (omega arith) follow at
    (λ from to low up outside. loses.outside from to up outside) loses.inside (settled_outside places cuts place order is) in
    omega (arith, total, loses.start)

-- lists that agree at each of their numbers
map_agree : (f g : ℕ → ℕ) (h : ℕ → ℕ) (xs : List ℕ) → ((x : ℕ) → member x xs ≡ true → f x ≡ g (h x)) → map f xs ≡ map g (map h xs)
map_agree f g h [] same = refl
map_agree f g h (x ∷ xs) same =
    let first : f x ≡ g (h x) = same x (member_here x xs) in
    let rest : map f xs ≡ map g (map h xs) = map_agree f g h xs (λ y is. same y (or_right (eqb y x) (member y xs) is)) in
    cc

-- the new places without repeats have the gaps of the new fingers
pub moved_round : (old new : ℕ → ℕ) (stood stands : ℕ → Bool) (live : ℕ) (places to : List ℕ) (gaps : List GapCut) (cuts : List Cut) →
    IsRank old stood → All (λ p. stood p ≡ true) places → AllZip (IsAtPlaces old stood live places) gaps cuts → AreInOrder places cuts →
    LosesGates old new gaps cuts → IsRank new stands → All (λ p. stands p ≡ true) to → map new to ≡ map new (settled places cuts) →
    map new (ascending to) ≡ new_fingers live gaps (map old places)
moved_round old new stood stands live places to gaps cuts rises all at order loses rises' all' same =
    map-ascending to rises' (all_member (λ p. stands p ≡ true) to all') ∙
    ap ascending (same ∙
    (map_agree new (moved_gap gaps) old (settled places cuts) (λ p is. moved_rank old new stood live places gaps cuts p rises all at order loses is) ∙
    ap (map (moved_gap gaps)) (settled_ranked old stood live places gaps cuts rises all at)))
