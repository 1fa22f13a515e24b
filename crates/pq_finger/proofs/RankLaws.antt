use Rattle.std.proofs.Common.{◌≡◌, ℕ, zero, suc, ◌+◌, ◌-◌, ◌*◌, ◌<◌, ◌≤◌, min, Bool, true, false, cond, ◌||◌, ◌&&◌, not, eqb, ltb, List, [], ◌∷◌, ◌++◌, length, get_or, map, refl, sym, ap, subst, ◌∙◌, arith, inl, inr, ◌⊎◌}
use Rattle.std.specs.Prelude.{◌↔◌}
use Rattle.std.specs.List.{All, AllZip, flat_map, filter, list_any, slice_index}
use Rattle.std.specs.List.Sorted.{IsStrictlyIncreasing}
use Rattle.std.proofs.lemmas.Bool.{cases_Bool, cases_order, cases_lt, eqb-true, eq-eqb, ne_eqb, le-ltb, lt-ltb, or_cases, and_parts, false≢true}
use Rattle.std.proofs.lemmas.List.{map-append, get_or-map, length-map}
use Rattle.pq_finger.specs.declared.cut.Cut.{Cut}
use Rattle.pq_gaps.specs.Gaps.{with_number, ascending, kept_gaps, new_gaps, is_dropped_gap, GapCut, selected}
use Rattle.pq_finger.specs.Settled.{settled, is_dropped, new_places, AreInOrder}
use Rattle.pq_finger.specs.Ranks.{IsRank, IsAtPlaces, AreCutsOf}
use Rattle.pq_gaps.proofs.Ascending.{member, member-append, member-ascending, member_here}
use Rattle.pq_gaps.proofs.Rising.{all_member}
use Rattle.pq_gaps.proofs.KeptGaps.{member-filter}
use Rattle.pq_gaps.proofs.Selections.{selected_far}
use Rattle.pq_finger.proofs.Halfway.{place_up_to}

-- places that stand are in the order of their ranks
eqb_rank : {rank : ℕ → ℕ} {stands : ℕ → Bool} (x y : ℕ) → IsRank rank stands → stands x ≡ true → stands y ≡ true → eqb (rank x) (rank y) ≡ eqb x y
eqb_rank {rank} x y rises sx sy = by (cases_order x y)
  where
    by : (x ≡ y) ⊎ ((x < y) ⊎ (y < x)) → eqb (rank x) (rank y) ≡ eqb x y
    by (inl same) = eq-eqb (rank x) (rank y) (ap rank same) ∙ sym (eq-eqb x y same)
    by (inr (inl below)) =
        let up : rank x < rank y = rises x y sx sy below in
        ne_eqb (rank x) (rank y) (λ same. omega arith) ∙ sym (ne_eqb x y (λ same. omega arith))
    by (inr (inr above)) =
        let up : rank y < rank x = rises y x sy sx above in
        ne_eqb (rank x) (rank y) (λ same. omega arith) ∙ sym (ne_eqb x y (λ same. omega arith))

ltb_rank : {rank : ℕ → ℕ} {stands : ℕ → Bool} (x y : ℕ) → IsRank rank stands → stands x ≡ true → stands y ≡ true → ltb (rank x) (rank y) ≡ ltb x y
ltb_rank {rank} x y rises sx sy = by (cases_order x y)
  where
    by : (x ≡ y) ⊎ ((x < y) ⊎ (y < x)) → ltb (rank x) (rank y) ≡ ltb x y
    by (inl same) = ap (λ (n : ℕ). ltb (rank x) (rank n)) (sym same) ∙ (le-ltb (rank x) (rank x) (omega arith) ∙ sym (le-ltb x y (omega arith)))
    by (inr (inl below)) = lt-ltb (rank x) (rank y) (rises x y sx sy below) ∙ sym (lt-ltb x y below)
    by (inr (inr above)) =
        let up : rank y < rank x = rises y x sy sx above in
        le-ltb (rank x) (rank y) (omega arith) ∙ sym (le-ltb x y (omega arith))

-- a place whose rank isn't more isn't later
place_from_rank : {rank : ℕ → ℕ} {stands : ℕ → Bool} (x y : ℕ) → IsRank rank stands → stands x ≡ true → stands y ≡ true → rank x ≤ rank y → x ≤ y
place_from_rank {rank} x y rises sx sy le = by (cases_lt y x)
  where
    by : (y < x) ⊎ (x ≤ y) → x ≤ y
    by (inl above) = let up : rank y < rank x = rises y x sy sx above in absurd (omega arith)
    by (inr right) = right

-- the ranks of an ascending list are the ascending ranks
map-with_number : {rank : ℕ → ℕ} {stands : ℕ → Bool} (x : ℕ) (xs : List ℕ) → IsRank rank stands → stands x ≡ true →
    ((y : ℕ) → member y xs ≡ true → stands y ≡ true) → map rank (with_number x xs) ≡ with_number (rank x) (map rank xs)
map-with_number x [] rises sx stand = refl
map-with_number {rank} {stands} x (y ∷ ys) rises sx stand =
    by (map-with_number x ys rises sx (λ z is. stand z (or_later z is))) (cases_Bool (ltb x y)) (cases_Bool (eqb x y))
  where
    or_later : (z : ℕ) → member z ys ≡ true → member z (y ∷ ys) ≡ true
    or_later z is = later (eqb z y)
      where
        later : (b : Bool) → (b || member z ys) ≡ true
        later true = refl
        later false = is

    sy : stands y ≡ true
    sy = stand y (member_here y ys)

    by : map rank (with_number x ys) ≡ with_number (rank x) (map rank ys) → (ltb x y ≡ true) ⊎ (ltb x y ≡ false) → (eqb x y ≡ true) ⊎ (eqb x y ≡ false) →
        map rank (with_number x (y ∷ ys)) ≡ with_number (rank x) (rank y ∷ map rank ys)
    by more (inl below) equal =
        let at : ltb (rank x) (rank y) ≡ true = ltb_rank x y rises sx sy ∙ below in
        rw (below, at) refl
    by more (inr not_below) (inl same) =
        let at : ltb (rank x) (rank y) ≡ false = ltb_rank x y rises sx sy ∙ not_below in
        let eq : eqb (rank x) (rank y) ≡ true = eqb_rank x y rises sx sy ∙ same in
        rw (not_below, same, at, eq) refl
    by more (inr not_below) (inr differ) =
        let at : ltb (rank x) (rank y) ≡ false = ltb_rank x y rises sx sy ∙ not_below in
        let ne : eqb (rank x) (rank y) ≡ false = eqb_rank x y rises sx sy ∙ differ in
        rw (not_below, differ, at, ne) (ap (λ (r : List ℕ). rank y ∷ r) more)

pub map-ascending : {rank : ℕ → ℕ} {stands : ℕ → Bool} (xs : List ℕ) → IsRank rank stands → ((y : ℕ) → member y xs ≡ true → stands y ≡ true) →
    map rank (ascending xs) ≡ ascending (map rank xs)
map-ascending [] rises stand = refl
map-ascending {rank} {stands} (x ∷ xs) rises stand =
    map-with_number x (ascending xs) rises (stand x (member_here x xs)) (λ y is. stand y (or_later y (sym (member-ascending y xs) ∙ is))) ∙
    ap (with_number (rank x)) (map-ascending xs rises (λ y is. stand y (or_later y is)))
  where
    or_later : (z : ℕ) → member z xs ≡ true → member z (x ∷ xs) ≡ true
    or_later z is = later (eqb z x)
      where
        later : (b : Bool) → (b || member z xs) ≡ true
        later true = refl
        later false = is

-- a filter and a change of numbers may be exchanged
map-filter : (rank : ℕ → ℕ) (p q : ℕ → Bool) (xs : List ℕ) → ((x : ℕ) → member x xs ≡ true → q (rank x) ≡ p x) → map rank (filter p xs) ≡ filter q (map rank xs)
map-filter rank p q [] same = refl
map-filter rank p q (x ∷ xs) same = by (map-filter rank p q xs (λ y is. same y (or_later y is))) (cases_Bool (p x))
  where
    or_later : (z : ℕ) → member z xs ≡ true → member z (x ∷ xs) ≡ true
    or_later z is = later (eqb z x)
      where
        later : (b : Bool) → (b || member z xs) ≡ true
        later true = refl
        later false = is

    by : map rank (filter p xs) ≡ filter q (map rank xs) → (p x ≡ true) ⊎ (p x ≡ false) → map rank (filter p (x ∷ xs)) ≡ filter q (rank x ∷ map rank xs)
    by rest (inl passes) =
        let at : q (rank x) ≡ true = same x (member_here x xs) ∙ passes in
        rw (passes, at) (ap (λ (r : List ℕ). rank x ∷ r) rest)
    by rest (inr fails) =
        let at : q (rank x) ≡ false = same x (member_here x xs) ∙ fails in
        rw (fails, at) rest

-- the flags say whether the edges are the start and the end
flag_is : (flag : Bool) (a b : ℕ) → (flag ≡ true) ↔ (a ≡ b) → flag ≡ eqb a b
flag_is true a b says = sym (eq-eqb a b (says.0 refl))
flag_is false a b says = sym (ne_eqb a b (λ same. false≢true (says.1 same)))

map-wanted : (rank : ℕ → ℕ) (wanted : Bool) (x : ℕ) → map rank (cond wanted (x ∷ []) []) ≡ cond wanted (rank x ∷ []) []
map-wanted rank true x = refl
map-wanted rank false x = refl

-- the new places have the new gaps
new_places_ranked : {rank : ℕ → ℕ} {stands : ℕ → Bool} {live : ℕ} {places : List ℕ} (gap : GapCut) (cut : Cut) → IsAtPlaces rank stands live places gap cut →
    map rank (new_places cut) ≡ new_gaps live gap
new_places_ranked {rank} {stands} {live} gap cut at =
    map-append rank (cond (cut.improved && not cut.at_start) (cut.from ∷ []) []) (cond (cut.improved && not cut.at_end) (cut.to ∷ []) []) ∙
    rw (
      map-wanted rank (cut.improved && not cut.at_start) cut.from,
      map-wanted rank (cut.improved && not cut.at_end) cut.to,
      at.from,
      at.to,
      at.improved,
      flag_is cut.at_start gap.from 0 at.at_start,
      flag_is cut.at_end gap.to live at.at_end,
    ) refl

flat_ranked : (rank : ℕ → ℕ) (stands : ℕ → Bool) (live : ℕ) (places : List ℕ) (gaps : List GapCut) (cuts : List Cut) →
    AllZip (IsAtPlaces rank stands live places) gaps cuts → map rank (flat_map new_places cuts) ≡ flat_map (new_gaps live) gaps
flat_ranked rank stands live places [] [] at = refl
flat_ranked rank stands live places [] (cut ∷ cuts) at = absurd at
flat_ranked rank stands live places (gap ∷ gaps) [] at = absurd at
flat_ranked rank stands live places (gap ∷ gaps) (cut ∷ cuts) at =
    let rest : map rank (flat_map new_places cuts) ≡ flat_map (new_gaps live) gaps = flat_ranked rank stands live places gaps cuts at.1 in
    let first : map rank (new_places cut) ≡ new_gaps live gap = new_places_ranked gap cut at.0 in
    map-append rank (new_places cut) (flat_map new_places cuts) ∙ cc

-- a finger is dropped exactly where its gap is
dropped_ranked : {rank : ℕ → ℕ} {stands : ℕ → Bool} {live : ℕ} {places : List ℕ} (x : ℕ) (gap : GapCut) (cut : Cut) → IsRank rank stands →
    stands x ≡ true → All (λ place. stands place ≡ true) places → IsAtPlaces rank stands live places gap cut →
    is_dropped_gap (rank x) gap ≡ is_dropped places x cut
dropped_ranked {rank} {stands} {live} {places} x gap cut rises sx all at =
    let own : eqb (rank x) gap.finger ≡ eqb x (slice_index places cut.finger) =
    ap (eqb (rank x)) (sym at.finger) ∙ eqb_rank x (slice_index places cut.finger) rises sx (all cut.finger 0 at.in_range) in
    let after : ltb gap.from (rank x) ≡ ltb cut.from x = ap (λ (n : ℕ). ltb n (rank x)) (sym at.from) ∙ ltb_rank cut.from x rises at.from_stands sx in
    let before : ltb (rank x) gap.to ≡ ltb x cut.to = ap (ltb (rank x)) (sym at.to) ∙ ltb_rank x cut.to rises sx at.to_stands in
    rw (own, after, before, at.improved) refl

any_dropped_ranked : (rank : ℕ → ℕ) (stands : ℕ → Bool) (live : ℕ) (places : List ℕ) (x : ℕ) (gaps : List GapCut) (cuts : List Cut) → IsRank rank stands →
    stands x ≡ true → All (λ place. stands place ≡ true) places → AllZip (IsAtPlaces rank stands live places) gaps cuts →
    list_any (is_dropped_gap (rank x)) gaps ≡ list_any (is_dropped places x) cuts
any_dropped_ranked rank stands live places x [] [] rises sx all at = refl
any_dropped_ranked rank stands live places x [] (cut ∷ cuts) rises sx all at = absurd at
any_dropped_ranked rank stands live places x (gap ∷ gaps) [] rises sx all at = absurd at
any_dropped_ranked rank stands live places x (gap ∷ gaps) (cut ∷ cuts) rises sx all at =
    let rest : list_any (is_dropped_gap (rank x)) gaps ≡ list_any (is_dropped places x) cuts =
    any_dropped_ranked rank stands live places x gaps cuts rises sx all at.1 in
    let first : is_dropped_gap (rank x) gap ≡ is_dropped places x cut = dropped_ranked x gap cut rises sx all at.0 in
    ap (λ (b : Bool). b || list_any (is_dropped_gap (rank x)) gaps) first ∙ ap (λ (b : Bool). is_dropped places x cut || b) rest

-- the places of boundaries stand
edges_stand : {rank : ℕ → ℕ} {stands : ℕ → Bool} {live : ℕ} {places : List ℕ} (gap : GapCut) (cut : Cut) → IsAtPlaces rank stands live places gap cut →
    (y : ℕ) → member y (new_places cut) ≡ true → stands y ≡ true
edges_stand {rank} {stands} {live} {places} gap cut at y is =
    one (or_cases (member y left) (member y right) (sym (member-append y left right) ∙ is))
  where
    left : List ℕ
    left = cond (cut.improved && not cut.at_start) (cut.from ∷ []) []

    right : List ℕ
    right = cond (cut.improved && not cut.at_end) (cut.to ∷ []) []

    wanted : (b : Bool) (x : ℕ) → stands x ≡ true → member y (cond b (x ∷ []) []) ≡ true → stands y ≡ true
    wanted true x sx has = here (or_cases (eqb y x) false has)
      where
        here : (eqb y x ≡ true) ⊎ (false ≡ true) → stands y ≡ true
        here (inl same) = ap stands (eqb-true y x same) ∙ sx
        here (inr none) = absurd (false≢true none)
    wanted false x sx has = absurd (false≢true has)

    one : (member y left ≡ true) ⊎ (member y right ≡ true) → stands y ≡ true
    one (inl has) = wanted (cut.improved && not cut.at_start) cut.from at.from_stands has
    one (inr has) = wanted (cut.improved && not cut.at_end) cut.to at.to_stands has

pub flat_stand : (rank : ℕ → ℕ) (stands : ℕ → Bool) (live : ℕ) (places : List ℕ) (gaps : List GapCut) (cuts : List Cut) →
    AllZip (IsAtPlaces rank stands live places) gaps cuts → (y : ℕ) → member y (flat_map new_places cuts) ≡ true → stands y ≡ true
flat_stand rank stands live places gaps [] at y is = absurd (false≢true is)
flat_stand rank stands live places [] (cut ∷ cuts) at y is = absurd at
flat_stand rank stands live places (gap ∷ gaps) (cut ∷ cuts) at y is =
    by (flat_stand rank stands live places gaps cuts at.1 y) (or_cases (member y (new_places cut)) (member y (flat_map new_places cuts))
    (sym (member-append y (new_places cut) (flat_map new_places cuts)) ∙ is))
  where
    by : (member y (flat_map new_places cuts) ≡ true → stands y ≡ true) →
        (member y (new_places cut) ≡ true) ⊎ (member y (flat_map new_places cuts) ≡ true) → stands y ≡ true
    by rest (inl here) = edges_stand gap cut at.0 y here
    by rest (inr later) = rest later

-- the ranks of the settled places are the kept gaps
pub settled_ranked : (rank : ℕ → ℕ) (stands : ℕ → Bool) (live : ℕ) (places : List ℕ) (gaps : List GapCut) (cuts : List Cut) → IsRank rank stands →
    All (λ place. stands place ≡ true) places → AllZip (IsAtPlaces rank stands live places) gaps cuts →
    map rank (settled places cuts) ≡ kept_gaps live gaps (map rank places)
unfolding settled kept_gaps
settled_ranked rank stands live places gaps cuts rises all at =
    map-ascending (stay ++ flat_map new_places cuts) rises stand ∙
    ap ascending (map-append rank stay (flat_map new_places cuts) ∙
    (ap (λ (r : List ℕ). r ++ map rank (flat_map new_places cuts)) kept ∙
    ap (λ (r : List ℕ). filter (λ gap. not (list_any (is_dropped_gap gap) gaps)) (map rank places) ++ r) (flat_ranked rank stands live places gaps cuts at)))
  where
    stay : List ℕ
    stay = filter (λ place. not (list_any (is_dropped places place) cuts)) places

    kept : map rank stay ≡ filter (λ gap. not (list_any (is_dropped_gap gap) gaps)) (map rank places)
    kept = map-filter rank (λ place. not (list_any (is_dropped places place) cuts)) (λ gap. not (list_any (is_dropped_gap gap) gaps)) places
        (λ x is. ap not (any_dropped_ranked rank stands live places x gaps cuts rises (all_member (λ place. stands place ≡ true) places all x is) all at))

    which : (y : ℕ) → (member y stay ≡ true) ⊎ (member y (flat_map new_places cuts) ≡ true) → stands y ≡ true
    which y (inl old) =
        let parts = and_parts (member y places) (not (list_any (is_dropped places y) cuts))
        (sym (member-filter (λ place. not (list_any (is_dropped places place) cuts)) y places) ∙ old) in
        all_member (λ place. stands place ≡ true) places all y parts.0
    which y (inr new) = flat_stand rank stands live places gaps cuts at y new

    stand : (y : ℕ) → member y (stay ++ flat_map new_places cuts) ≡ true → stands y ≡ true
    stand y is = which y (or_cases (member y stay) (member y (flat_map new_places cuts)) (sym (member-append y stay (flat_map new_places cuts)) ∙ is))

-- what holds of two lists place by place
zip_at : {A B : Type 0} (R : A → B → Type 0) (xs : List A) (ys : List B) (k : ℕ) (d : A) (e : B) → AllZip R xs ys → k < length ys →
    (k < length xs) × R (get_or xs k d) (get_or ys k e)
zip_at R [] [] k d e all lt = absurd (omega arith)
zip_at R [] (y ∷ ys) k d e all lt = absurd all
zip_at R (x ∷ xs) [] k d e all lt = absurd all
zip_at R (x ∷ xs) (y ∷ ys) zero d e all lt = (omega arith, all.0)
zip_at R (x ∷ xs) (y ∷ ys) (suc k) d e all lt =
    let rest = zip_at R xs ys k d e all.1 (omega arith) in
    (omega (arith, rest.0), rest.1)

-- some gaps of a cut, where a list has none
no_gaps : GapCut
no_gaps = record { finger = 0; from = 0; to = 0; improved = false; lost = 0 }

-- what a cut of a round has, with the gaps that it stands for
record AtGaps (rank : ℕ → ℕ) (stands : ℕ → Bool) (omega_ live : ℕ) (places : List ℕ) (gaps : List GapCut) (cut : Cut) (k : ℕ) : Type 0 where
  at : IsAtPlaces rank stands live places (get_or gaps k no_gaps) cut
  in_range : k < length gaps
  from_is : rank cut.from ≡ rank (get_or places cut.finger 0) - omega_
  to_is : rank cut.to ≡ min live (rank (get_or places cut.finger 0) + omega_)
  up_to : rank (get_or places cut.finger 0) ≤ live
  finger_stands : stands (get_or places cut.finger 0) ≡ true
  selected_is : rank (get_or places cut.finger 0) ≡ get_or (selected omega_ (map rank places)) k 0

at_gaps : (rank : ℕ → ℕ) (stands : ℕ → Bool) (omega_ live : ℕ) (places : List ℕ) (gaps : List GapCut) (cuts : List Cut) →
    AreCutsOf rank stands omega_ live places gaps cuts → (k : ℕ) (d : Cut) → k < length cuts → AtGaps rank stands omega_ live places gaps (get_or cuts k d) k
at_gaps rank stands w live places gaps cuts of k d lt =
    let told = zip_at (IsAtPlaces rank stands live places) gaps cuts k no_gaps d of.at_places lt in
    let gap : GapCut = get_or gaps k no_gaps in
    let at : IsAtPlaces rank stands live places gap (get_or cuts k d) = told.1 in
    let P : ℕ → Type 0 = λ n. rank (get_or cuts k d).from ≡ n - w in
    let Q : ℕ → Type 0 = λ n. rank (get_or cuts k d).to ≡ min live (n + w) in
    record {
      at = at;
      in_range = told.0;
      from_is = subst P (sym at.finger) (at.from ∙ of.begin k no_gaps told.0);
      to_is = subst Q (sym at.finger) (at.to ∙ of.end k no_gaps told.0);
      up_to = of.up_to_live (get_or cuts k d).finger 0 at.in_range;
      finger_stands = of.all_stand (get_or cuts k d).finger 0 at.in_range;
      selected_is = at.finger ∙ (sym (get_or-map (λ (cut : GapCut). cut.finger) gaps k no_gaps 0 told.0) ∙ ap (λ (r : List ℕ). get_or r k 0) of.fingers);
    }

-- the cuts of a round are in order
pub round_in_order : (rank : ℕ → ℕ) (stands : ℕ → Bool) (omega_ live : ℕ) (places : List ℕ) (gaps : List GapCut) (cuts : List Cut) →
    0 < omega_ → IsRank rank stands → IsStrictlyIncreasing places → AreCutsOf rank stands omega_ live places gaps cuts → AreInOrder places cuts
round_in_order rank stands w live places gaps cuts some rises up of = record {
  in_range = λ k d lt. (at_gaps rank stands w live places gaps cuts of k d lt).at.in_range;
  after_from = λ k d lt. after k d lt (at_gaps rank stands w live places gaps cuts of k d lt);
  before_to = λ k d lt. before k d lt (at_gaps rank stands w live places gaps cuts of k d lt);
  fingers_rise = λ i j d lt in'. fingers i j d lt (at_gaps rank stands w live places gaps cuts of i d (omega arith)) (at_gaps rank stands w live places gaps cuts of j d in');
  apart = λ i j d lt in'. apart i j d lt (at_gaps rank stands w live places gaps cuts of i d (omega arith)) (at_gaps rank stands w live places gaps cuts of j d in');
}
  where
    after : (k : ℕ) (d : Cut) → k < length cuts → AtGaps rank stands w live places gaps (get_or cuts k d) k → (get_or cuts k d).from ≤ get_or places (get_or cuts k d).finger 0
    after k d lt g = place_from_rank (get_or cuts k d).from (get_or places (get_or cuts k d).finger 0) rises g.at.from_stands g.finger_stands (omega (arith, g.from_is))

    before : (k : ℕ) (d : Cut) → k < length cuts → AtGaps rank stands w live places gaps (get_or cuts k d) k → get_or places (get_or cuts k d).finger 0 ≤ (get_or cuts k d).to
    before k d lt g = place_from_rank (get_or places (get_or cuts k d).finger 0) (get_or cuts k d).to rises g.finger_stands g.at.to_stands (omega (arith, g.to_is, g.up_to))

    count : length gaps ≡ length (selected w (map rank places))
    count = sym (length-map gaps (λ (cut : GapCut). cut.finger)) ∙ ap length of.fingers

    far : (i j : ℕ) (d : Cut) → i < j → AtGaps rank stands w live places gaps (get_or cuts i d) i → AtGaps rank stands w live places gaps (get_or cuts j d) j →
        rank (get_or places (get_or cuts i d).finger 0) + 2 * w ≤ rank (get_or places (get_or cuts j d).finger 0)
    far i j d lt g h = omega (arith, g.selected_is, h.selected_is, selected_far w (map rank places) i j 0 lt (omega (arith, count, h.in_range)))

    fingers : (i j : ℕ) (d : Cut) → i < j → AtGaps rank stands w live places gaps (get_or cuts i d) i → AtGaps rank stands w live places gaps (get_or cuts j d) j →
        (get_or cuts i d).finger < (get_or cuts j d).finger
    fingers i j d lt g h = by (cases_lt (get_or cuts i d).finger (get_or cuts j d).finger)
      where
        P : ℕ → Type 0
        P n = rank (get_or places (get_or cuts j d).finger 0) ≤ rank n

        back : (get_or cuts j d).finger ≤ (get_or cuts i d).finger → rank (get_or places (get_or cuts j d).finger 0) ≤ rank (get_or places (get_or cuts i d).finger 0)
        back ge = which (cases_lt (get_or places (get_or cuts j d).finger 0) (get_or places (get_or cuts i d).finger 0))
          where
            which : (get_or places (get_or cuts j d).finger 0 < get_or places (get_or cuts i d).finger 0) ⊎ (get_or places (get_or cuts i d).finger 0 ≤ get_or places (get_or cuts j d).finger 0) →
                rank (get_or places (get_or cuts j d).finger 0) ≤ rank (get_or places (get_or cuts i d).finger 0)
            which (inl less) =
                let up : rank (get_or places (get_or cuts j d).finger 0) < rank (get_or places (get_or cuts i d).finger 0) =
                rises (get_or places (get_or cuts j d).finger 0) (get_or places (get_or cuts i d).finger 0) h.finger_stands g.finger_stands less in
                omega arith
            which (inr more) =
                let same : get_or places (get_or cuts j d).finger 0 ≡ get_or places (get_or cuts i d).finger 0 =
                omega (arith, place_up_to places (get_or cuts j d).finger (get_or cuts i d).finger up ge g.at.in_range) in
                let Q : ℕ → Type 0 = λ n. rank (get_or places (get_or cuts j d).finger 0) ≤ rank n in
                subst Q same (omega arith)

        by : ((get_or cuts i d).finger < (get_or cuts j d).finger) ⊎ ((get_or cuts j d).finger ≤ (get_or cuts i d).finger) → (get_or cuts i d).finger < (get_or cuts j d).finger
        by (inl less) = less
        by (inr more) = absurd (omega (arith, far i j d lt g h, back more, some))

    apart : (i j : ℕ) (d : Cut) → i < j → AtGaps rank stands w live places gaps (get_or cuts i d) i → AtGaps rank stands w live places gaps (get_or cuts j d) j →
        (get_or cuts i d).to ≤ (get_or cuts j d).from
    apart i j d lt g h =
        place_from_rank (get_or cuts i d).to (get_or cuts j d).from rises g.at.to_stands h.at.from_stands
        (omega (arith, g.to_is, h.from_is, far i j d lt g h))
