use Rattle.std.proofs.Common.{◌≡◌, ℕ, ◌+◌, ◌<◌, ◌≤◌, Bool, true, false, cond, ◌||◌, ◌&&◌, not, eqb, ltb, List, [], ◌∷◌, ◌++◌, length, take, get_or, refl, sym, ap, subst, ◌∙◌, arith, inl, inr, ◌⊎◌}
use Rattle.std.specs.List.Sorted.{IsStrictlyIncreasing}
use Rattle.std.specs.List.{All, flat_map, filter, list_any}
use Rattle.std.proofs.lemmas.Bool.{cases_order, cases_lt, cases_eq, eqb-true, eq-eqb, ne_eqb, or_cases, or_parts, or_left, or_right, or_from, and_left, and_right, and_cases, le-ltb, lt-ltb, ltb-false, false≢true}
use Rattle.std.proofs.lemmas.List.{append-nil, get_or_default}
use Rattle.std.proofs.lemmas.List.Kept.{AllPairs-from_increasing}
use Rattle.std.proofs.lemmas.List.Elements.{filter_more}
use Rattle.std.proofs.lemmas.List.Folds.{list_any_none, list_any_at}
use Rattle.pq_finger.specs.declared.cut.Cut.{Cut}
use Rattle.pq_gaps.specs.Gaps.{with_number, ascending, is_inside}
use Rattle.pq_finger.specs.Settled.{is_dropped, new_places, AreInOrder}
use Rattle.pq_finger.specs.Settling.{IsBefore, first_edge, SettledUpTo, IsAtFinger}
use Rattle.pq_gaps.proofs.Ascending.{member, Rises-with_number, Rises-ascending, member-with_number, member-append, member-ascending, same_rising}
use Rattle.pq_gaps.proofs.Rising.{all_member, All-from_member}
use Rattle.pq_finger.proofs.Boundaries.{boundaries_more, reaches_to, ahead_next}

-- the finger of this place stays
abbrev pub stays : List ℕ → List Cut → ℕ → Bool
stays places cuts place = not (list_any (is_dropped places place) cuts)

-- an earlier place is less
pub place_below : (places : List ℕ) (i k : ℕ) → IsStrictlyIncreasing places → i < k → k < length places → get_or places i 0 < get_or places k 0
place_below places i k up lt in' = AllPairs-from_increasing places up i k 0 lt in'

-- and one that isn't later isn't more
pub place_up_to : (places : List ℕ) (i k : ℕ) → IsStrictlyIncreasing places → i ≤ k → k < length places → get_or places i 0 ≤ get_or places k 0
place_up_to places i k up le in' = by (cases_eq i k)
  where
    by : (i ≡ k) ⊎ (i ≡ k → ⊥) → get_or places i 0 ≤ get_or places k 0
    by (inl same) = let P : ℕ → Type 0 = λ n. get_or places i 0 ≤ get_or places n 0 in subst P same (omega arith)
    by (inr differ) = omega (arith, place_below places i k up (omega arith) in')

-- no segment ends before it begins
pub not_turned : (places : List ℕ) (cuts : List Cut) → AreInOrder places cuts → All (λ cut. cut.from ≤ cut.to) cuts
not_turned places cuts order k d lt = omega (arith, order.after_from k d lt, order.before_to k d lt)

-- nothing is settled at first
pub SettledUpTo-none : (places : List ℕ) (cuts : List Cut) → SettledUpTo places cuts [] 0 0
SettledUpTo-none places cuts = record {
  list_is = refl;
  in_range = omega arith;
  short = omega arith;
  below = λ k low lt i d in'. absurd (omega arith);
  ahead = λ d lt i e in'. absurd (omega arith);
  left = λ u k d lt low lt'. absurd (omega arith);
  later = λ u d lt in'. omega arith;
}

-- a later cut whose finger is this one has this cut before it
before_own : (places : List ℕ) (cuts : List Cut) (index behind u : ℕ) (d : Cut) → AreInOrder places cuts → behind < u → u < length cuts →
    index ≡ (get_or cuts u d).finger → IsBefore index (get_or places index 0) (get_or cuts behind d)
before_own places cuts index behind u d order lt in' same =
    let P : ℕ → Type 0 = λ n. (get_or cuts u d).from ≤ get_or places n 0 in
    let starts : (get_or cuts u d).from ≤ get_or places index 0 = subst P (sym same) (order.after_from u d in') in
    (omega (arith, order.fingers_rise behind u d lt in'), omega (arith, order.apart behind u d lt in'))

-- where the next cut isn't before the finger, it stays
pub IsAtFinger-stays : {places : List ℕ} {cuts : List Cut} {list : List ℕ} {index behind : ℕ} → AreInOrder places cuts →
    SettledUpTo places cuts list index behind →
    ((d : Cut) → behind < length cuts → IsBefore index (get_or places index 0) (get_or cuts behind d) → ⊥) →
    IsAtFinger places cuts list index behind
IsAtFinger-stays {places} {cuts} {list} {index} {behind} order so_far here = record {
  so_far = so_far;
  here = here;
  later = λ u d lt in'. by u d lt in' (cases_eq index (get_or cuts u d).finger);
}
  where
    by : (u : ℕ) (d : Cut) → behind < u → u < length cuts → (index ≡ (get_or cuts u d).finger) ⊎ (index ≡ (get_or cuts u d).finger → ⊥) →
        index < (get_or cuts u d).finger
    by u d lt in' (inl same) = absurd (here d (omega arith) (before_own places cuts index behind u d order lt in' same))
    by u d lt in' (inr differ) = omega (arith, so_far.later u d lt in')

-- where it is, its boundaries are put and it is left behind
pub IsAtFinger-passes : {places : List ℕ} {cuts : List Cut} {list : List ℕ} {index behind : ℕ} (d : Cut) → (list' : List ℕ) →
    AreInOrder places cuts → IsStrictlyIncreasing places → index < length places →
    SettledUpTo places cuts list index behind → behind < length cuts →
    IsBefore index (get_or places index 0) (get_or cuts behind d) →
    list' ≡ ascending (list ++ new_places (get_or cuts behind d)) → length list' ≤ length list + 2 →
    IsAtFinger places cuts list' index (behind + 1)
IsAtFinger-passes {places} {cuts} {list} {index} {behind} d list' order up in' so_far lt before is long = record {
  so_far = record {
    list_is = is ∙ boundaries_more (filter (stays places cuts) (take index places)) list cuts behind d lt so_far.list_is;
    in_range = omega arith;
    short = omega (arith, so_far.short);
    below = λ k low high. rw is (λ i e inside. below k low high i e inside);
    ahead = λ e more. rw (is_at e) (ahead_next (get_or cuts behind e) (get_or cuts (behind + 1) e) list (not_turned places cuts order behind e lt)
        (order.apart behind (behind + 1) e (omega arith) more) (not_turned places cuts order (behind + 1) e more) (so_far.ahead e lt));
    left = λ u k e last low high. left u k e low high (cases_eq u behind) last;
    later = λ u e last inside. so_far.later u e (omega arith) inside;
  };
  here = λ e more turned. absurd (omega (arith, so_far.later (behind + 1) e (omega arith) more, turned.0));
  later = λ u e last inside. omega (arith, so_far.later (behind + 1) e (omega arith) (omega arith), order.fingers_rise (behind + 1) u e last inside);
}
  where
    is_at : (e : Cut) → list' ≡ ascending (list ++ new_places (get_or cuts behind e))
    is_at e = is ∙ ap (λ (cut : Cut). ascending (list ++ new_places cut)) (get_or_default cuts behind d e lt)

    below : (k : ℕ) → index ≤ k → k < length places → All (λ place. place ≤ get_or places k 0) (ascending (list ++ new_places (get_or cuts behind d)))
    below k low high i e inside =
        omega (
          arith,
          reaches_to (get_or cuts behind d) list (not_turned places cuts order behind d lt) (so_far.ahead d lt) i e inside,
          before.1,
          place_up_to places index k up low high,
        )

    here_left : (k : ℕ) (e : Cut) → index ≤ k → k < length places → IsBefore k (get_or places k 0) (get_or cuts behind e)
    here_left k e low high =
        let P : Cut → Type 0 = λ cut. IsBefore index (get_or places index 0) cut in
        let at : IsBefore index (get_or places index 0) (get_or cuts behind e) = subst P (get_or_default cuts behind d e lt) before in
        (omega (arith, at.0), omega (arith, at.1, place_up_to places index k up low high))

    left : (u k : ℕ) (e : Cut) → index ≤ k → k < length places → (u ≡ behind) ⊎ (u ≡ behind → ⊥) → u < behind + 1 →
        IsBefore k (get_or places k 0) (get_or cuts u e)
    left u k e low high (inl same) last =
        let P : ℕ → Type 0 = λ n. IsBefore k (get_or places k 0) (get_or cuts n e) in subst P (sym same) (here_left k e low high)
    left u k e low high (inr differ) last = so_far.left u k e (omega arith) low high

-- a place in the middle of the lists may as well be put last
pub ascending-middle : (x : ℕ) (xs ys : List ℕ) → ascending ((xs ++ x ∷ []) ++ ys) ≡ with_number x (ascending (xs ++ ys))
ascending-middle x xs ys =
    same_rising 0 0 (ascending ((xs ++ x ∷ []) ++ ys)) (with_number x (ascending (xs ++ ys)))
    (Rises-ascending ((xs ++ x ∷ []) ++ ys)) (Rises-with_number 0 x (ascending (xs ++ ys)) (omega arith) (Rises-ascending (xs ++ ys)))
    (λ z. member-ascending z ((xs ++ x ∷ []) ++ ys) ∙ (member-append z (xs ++ x ∷ []) ys ∙
    (ap (λ (b : Bool). b || member z ys) (member-append z xs (x ∷ [])) ∙ (turn (member z xs) (eqb z x) (member z ys) ∙
    (ap (λ (b : Bool). eqb z x || b) (sym (member-append z xs ys) ∙ sym (member-ascending z (xs ++ ys))) ∙ sym (member-with_number z x (ascending (xs ++ ys))))))))
  where
    turn : (a b c : Bool) → ((a || (b || false)) || c) ≡ (b || (a || c))
    turn true true c = refl
    turn true false c = refl
    turn false true c = refl
    turn false false c = refl

-- the finger of this index is dropped where the next cut drops it
pub SettledUpTo-drops : {places : List ℕ} {cuts : List Cut} {list : List ℕ} {index behind : ℕ} (d : Cut) →
    index < length places → IsAtFinger places cuts list index behind → behind < length cuts →
    (eqb index (get_or cuts behind d).finger || is_inside (get_or cuts behind d).improved (get_or cuts behind d).from (get_or cuts behind d).to (get_or places index 0)) ≡ true →
    SettledUpTo places cuts list (index + 1) behind
SettledUpTo-drops {places} {cuts} {list} {index} {behind} d in' at lt drops = record {
  list_is = at.so_far.list_is ∙ ap (λ (r : List ℕ). ascending (r ++ flat_map new_places (take behind cuts))) (sym front);
  in_range = at.so_far.in_range;
  short = omega (arith, at.so_far.short);
  below = λ k low high. at.so_far.below k (omega arith) high;
  ahead = at.so_far.ahead;
  left = λ u k e last low high. at.so_far.left u k e last (omega arith) high;
  later = λ u e last inside. omega (arith, at.later u e last inside);
}
  where
    by_place : (eqb index (get_or cuts behind d).finger ≡ true) ⊎ (is_inside (get_or cuts behind d).improved (get_or cuts behind d).from (get_or cuts behind d).to (get_or places index 0) ≡ true) →
        is_dropped places (get_or places index 0) (get_or cuts behind d) ≡ true
    by_place (inl own) = or_left _ _ (eq-eqb (get_or places index 0) (get_or places (get_or cuts behind d).finger 0)
        (ap (λ (n : ℕ). get_or places n 0) (eqb-true index (get_or cuts behind d).finger own)))
    by_place (inr inside) = or_right _ _ inside

    gone : stays places cuts (get_or places index 0) ≡ false
    gone =
        let any : list_any (is_dropped places (get_or places index 0)) cuts ≡ true =
        list_any_at (is_dropped places (get_or places index 0)) cuts behind d lt (by_place (or_cases _ _ drops)) in
        ap not any

    front : filter (stays places cuts) (take (index + 1) places) ≡ filter (stays places cuts) (take index places)
    front = filter_more (stays places cuts) places index 0 in' ∙
        (ap (λ (b : Bool). filter (stays places cuts) (take index places) ++ cond b (get_or places index 0 ∷ []) []) gone ∙ append-nil _)

-- a finger before a cut's segment, or behind it, that isn't the cut's own isn't dropped by it
not_dropped : (places : List ℕ) (place : ℕ) (cut : Cut) → (place ≡ get_or places cut.finger 0 → ⊥) → (place ≤ cut.from) ⊎ (cut.to ≤ place) →
    is_dropped places place cut ≡ false
not_dropped places place cut other apart =
    or_from (eqb place (get_or places cut.finger 0)) _ (ne_eqb place (get_or places cut.finger 0) other) (and_right cut.improved _ (by apart))
  where
    by : (place ≤ cut.from) ⊎ (cut.to ≤ place) → (ltb cut.from place && ltb place cut.to) ≡ false
    by (inl front) = and_left (ltb cut.from place) (ltb place cut.to) (le-ltb cut.from place front)
    by (inr back) = and_right (ltb cut.from place) (ltb place cut.to) (le-ltb place cut.to back)

-- what isn't inside an improved segment, but before its end, isn't behind its first boundary
up_to_edge : (cut : Cut) (place : ℕ) → place < cut.to → is_inside cut.improved cut.from cut.to place ≡ false → place ≤ first_edge cut
up_to_edge cut place lt outside = by cut.improved refl
  where
    front : (ltb cut.from place ≡ false) ⊎ (ltb place cut.to ≡ false) → place ≤ cut.from
    front (inl not_after) = ltb-false cut.from place not_after
    front (inr not_before) = absurd (false≢true (sym not_before ∙ lt-ltb place cut.to lt))

    by : (b : Bool) → cut.improved ≡ b → place ≤ first_edge cut
    by true is =
        let here : (ltb cut.from place && ltb place cut.to) ≡ false = rw is at outside in
        rw is (front (and_cases (ltb cut.from place) (ltb place cut.to) here))
    by false is = rw is (omega arith)

-- the next cut, where it isn't before the finger and doesn't drop it as its own, ends behind it
pub ends_behind : {places : List ℕ} {cuts : List Cut} {list : List ℕ} {index behind : ℕ} (d : Cut) → AreInOrder places cuts → IsStrictlyIncreasing places →
    IsAtFinger places cuts list index behind → behind < length cuts → (index ≡ (get_or cuts behind d).finger → ⊥) →
    get_or places index 0 < (get_or cuts behind d).to
ends_behind {places} {cuts} {list} {index} {behind} d order up at lt differ =
    by (cases_lt (get_or places index 0) (get_or cuts behind d).to) (cases_lt (get_or cuts behind d).finger index)
  where
    by : (get_or places index 0 < (get_or cuts behind d).to) ⊎ ((get_or cuts behind d).to ≤ get_or places index 0) →
        ((get_or cuts behind d).finger < index) ⊎ (index ≤ (get_or cuts behind d).finger) → get_or places index 0 < (get_or cuts behind d).to
    by (inl less) side = less
    by (inr ends) (inl earlier) = absurd (at.here d lt (earlier, ends))
    by (inr ends) (inr not_earlier) =
        omega (arith, place_below places index (get_or cuts behind d).finger up (omega arith) (order.in_range behind d lt), order.before_to behind d lt)

-- no cut drops the finger of this index where the next one doesn't
pub none_drops : {places : List ℕ} {cuts : List Cut} {list : List ℕ} {index behind : ℕ} (d : Cut) → AreInOrder places cuts → IsStrictlyIncreasing places →
    index < length places → IsAtFinger places cuts list index behind →
    (behind < length cuts → (index ≡ (get_or cuts behind d).finger → ⊥) × (is_inside (get_or cuts behind d).improved (get_or cuts behind d).from (get_or cuts behind d).to (get_or places index 0) ≡ false)) →
    All (λ cut. is_dropped places (get_or places index 0) cut ≡ false) cuts
none_drops {places} {cuts} {list} {index} {behind} d order up in' at next u e inside = by (cases_order u behind)
  where
    own : (cut : Cut) → cut.finger < length places → (index ≡ cut.finger → ⊥) → get_or places index 0 ≡ get_or places cut.finger 0 → ⊥
    own cut exists differ same = at_side (cases_order index cut.finger)
      where
        at_side : (index ≡ cut.finger) ⊎ ((index < cut.finger) ⊎ (cut.finger < index)) → ⊥
        at_side (inl is) = differ is
        at_side (inr (inl before)) = omega (arith, place_below places index cut.finger up before exists)
        at_side (inr (inr after)) = omega (arith, place_below places cut.finger index up after in')

    by : (u ≡ behind) ⊎ ((u < behind) ⊎ (behind < u)) → is_dropped places (get_or places index 0) (get_or cuts u e) ≡ false
    by (inl same) =
        let lt : behind < length cuts = omega arith in
        let P : Cut → Type 0 = λ cut. is_dropped places (get_or places index 0) cut ≡ false in
        let here : is_dropped places (get_or places index 0) (get_or cuts behind d) ≡ false =
        or_from _ _ (ne_eqb _ _ (own (get_or cuts behind d) (order.in_range behind d lt) (next lt).0)) (next lt).1 in
        let Q : ℕ → Type 0 = λ n. is_dropped places (get_or places index 0) (get_or cuts n e) ≡ false in
        subst Q (sym same) (subst P (get_or_default cuts behind d e lt) here)
    by (inr (inl earlier)) =
        let left = at.so_far.left u index e earlier (omega arith) in' in
        not_dropped places (get_or places index 0) (get_or cuts u e)
        (own (get_or cuts u e) (order.in_range u e inside) (λ same. omega (arith, left.0))) (inr left.1)
    by (inr (inr later)) =
        let lt : behind < length cuts = omega arith in
        let ends : get_or places index 0 < (get_or cuts behind e).to =
        let P : Cut → Type 0 = λ cut. get_or places index 0 < cut.to in
        subst P (get_or_default cuts behind d e lt) (ends_behind d order up at lt (next lt).0) in
        not_dropped places (get_or places index 0) (get_or cuts u e)
        (own (get_or cuts u e) (order.in_range u e inside) (λ same. omega (arith, at.later u e later inside)))
        (inl (omega (arith, order.apart behind u e later inside)))

-- the finger of this index is put where the next cut doesn't drop it
pub SettledUpTo-puts : {places : List ℕ} {cuts : List Cut} {list : List ℕ} {index behind : ℕ} (d : Cut) (list' : List ℕ) →
    AreInOrder places cuts → IsStrictlyIncreasing places → index < length places → IsAtFinger places cuts list index behind →
    (behind < length cuts → (index ≡ (get_or cuts behind d).finger → ⊥) × (is_inside (get_or cuts behind d).improved (get_or cuts behind d).from (get_or cuts behind d).to (get_or places index 0) ≡ false)) →
    list' ≡ with_number (get_or places index 0) list → length list' ≤ length list + 1 →
    SettledUpTo places cuts list' (index + 1) behind
SettledUpTo-puts {places} {cuts} {list} {index} {behind} d list' order up in' at next is long = record {
  list_is = is ∙ (ap (with_number (get_or places index 0)) at.so_far.list_is ∙
      (sym (ascending-middle (get_or places index 0) (filter (stays places cuts) (take index places)) (flat_map new_places (take behind cuts))) ∙
      ap (λ (r : List ℕ). ascending (r ++ flat_map new_places (take behind cuts))) (sym front)));
  in_range = at.so_far.in_range;
  short = omega (arith, at.so_far.short);
  below = λ k low high. rw is (up_to (get_or places k 0) (at.so_far.below k (omega arith) high) (place_up_to places index k up (omega arith) high));
  ahead = λ e lt. rw is (up_to (first_edge (get_or cuts behind e)) (at.so_far.ahead e lt) (edge e lt));
  left = λ u k e last low high. at.so_far.left u k e last (omega arith) high;
  later = λ u e last inside. omega (arith, at.later u e last inside);
}
  where
    kept : stays places cuts (get_or places index 0) ≡ true
    kept = ap not (list_any_none (is_dropped places (get_or places index 0)) cuts (none_drops d order up in' at next))

    front : filter (stays places cuts) (take (index + 1) places) ≡ filter (stays places cuts) (take index places) ++ get_or places index 0 ∷ []
    front = filter_more (stays places cuts) places index 0 in' ∙
        ap (λ (b : Bool). filter (stays places cuts) (take index places) ++ cond b (get_or places index 0 ∷ []) []) kept

    up_to : (most : ℕ) → All (λ place. place ≤ most) list → get_or places index 0 ≤ most → All (λ place. place ≤ most) (with_number (get_or places index 0) list)
    up_to most old new =
        All-from_member (λ place. place ≤ most) (with_number (get_or places index 0) list)
        (λ y there. by y (or_cases (eqb y (get_or places index 0)) (member y list) (sym (member-with_number y (get_or places index 0) list) ∙ there)))
      where
        by : (y : ℕ) → (eqb y (get_or places index 0) ≡ true) ⊎ (member y list ≡ true) → y ≤ most
        by y (inl same) = omega (arith, eqb-true y (get_or places index 0) same)
        by y (inr there) = all_member (λ z. z ≤ most) list old y there

    edge : (e : Cut) → behind < length cuts → get_or places index 0 ≤ first_edge (get_or cuts behind e)
    edge e lt =
        let P : Cut → Type 0 = λ cut. get_or places index 0 ≤ first_edge cut in
        subst P (get_or_default cuts behind d e lt)
        (up_to_edge (get_or cuts behind d) (get_or places index 0) (ends_behind d order up at lt (next lt).0) (next lt).1)

-- a finger that a cut doesn't drop isn't its own, nor inside
pub own_and_inside : (index finger : ℕ) (inside : Bool) → (eqb index finger || inside) ≡ false → (index ≡ finger → ⊥) × (inside ≡ false)
own_and_inside index finger inside is =
    let parts = or_parts (eqb index finger) inside is in
    ((λ same. false≢true (sym parts.0 ∙ eq-eqb index finger same)), parts.1)

-- some cut, where a list of cuts has none
pub no_cut : Cut
no_cut = record { finger = 0; improved = false; from = 0; to = 0; at_start = false; at_end = false }
