-- The redexes of some slots are those of the gates in them: their places are ranks.
use Rattle.std.proofs.Common.{◌≡◌, ◌≢◌, ℕ, suc, ◌-◌, ◌<◌, ◌≤◌, true, false, List, [], ◌∷◌, ◌⊎◌, length, map, get_or, inl, inr, refl, ap, sym, subst, ◌∙◌, arith, eqb}
use Rattle.std.specs.Prelude.{All, AllPairs}
use Rattle.std.proofs.lemmas.Bool.{cases_lt, cases_Bool, eq-eqb, eqb-true, both_ways}
use Rattle.std.proofs.lemmas.List.{length-map, get_or-map, get_or_default}
use Rattle.std.proofs.lemmas.List.Elements.{All-from_get_or}
use Rattle.std.proofs.lemmas.List.Folds.{Any-from_list_any, list_any_at}
use Rattle.pq_gate.specs.declared.gate.Gate.{Gate}
use Rattle.pq_gate.specs.declared.gate.Gate.TheVariants.{Cx}
use Rattle.pq_gate.specs.declared.kind.Kind.TheVariants as kind
use Rattle.pq_gate.specs.Circuit.{IsOnWires}
use Rattle.pq_gate.specs.Commuting.{Touches, Commutes}
use Rattle.pq_gate.specs.Kind.{kind_of}
use Rattle.pq_gate.specs.Ports.{first_wire}
use Rattle.pq_gate.proofs.WireLaws.{touches_first}
use Rattle.pq_links.specs.Slots.{no_wire, free_slot, is_free, AreSlots}
use Rattle.pq_rules.specs.Row.{RowView, IsSound}
use Rattle.pq_rules.specs.Renaming.{renamed}
use Rattle.pq_match.specs.Wires.{wire_of}
use Rattle.pq_match.specs.Redex.{RedexView, IsRedex, IsMatch, AreWires, AreFree, HasNoRedex, gate_at, last_place, is_chosen}
use Rattle.pq_match.specs.First.{Precedes, key, IsFirst}
use Rattle.pq_match.proofs.OneFirst.{row_sound, redex_within_all}
use Rattle.pq_match.proofs.RewritingPlaces.{last_place_is}
use Rattle.pq_match.proofs.RewritingWires.{places_long, chosen_at}
use Rattle.pq_match.proofs.SearchGates.{kind-renamed, wire-renamed, wire_below, gate_on_wires, wires_apart}
use Rattle.pq_match.proofs.SearchTouches.{commute_apart}
use Rattle.pq_match.proofs.Ranks.{IsTaken, AreRanked}

-- the redex with other places
abbrev pub moved : (ℕ → ℕ) → RedexView → RedexView
moved lead redex = record { row = redex.row; wires = redex.wires; places = map lead redex.places }

-- where a place is chosen
pub record IsChosenAt (places : List ℕ) (place : ℕ) : Type 0 where
  pub at : ℕ
  pub below : at < length places
  pub is : get_or places at 0 ≡ place

pub chosen_somewhere : (places : List ℕ) (place : ℕ) → is_chosen places place ≡ true → IsChosenAt places place
chosen_somewhere places place is =
    let any = Any-from_list_any (λ p. eqb p place) places is in
    record {
      at = any.0;
      below = any.2;
      is = get_or_default places any.0 0 any.1 any.2 ∙ (any.3 ∙ eqb-true any.1 place any.4);
    }

pub is_chosen_at : (places : List ℕ) (at place : ℕ) → at < length places → get_or places at 0 ≡ place → is_chosen places place ≡ true
is_chosen_at places at place below is = list_any_at (λ p. eqb p place) places at 0 below (eq-eqb (get_or places at 0) place is)

-- if no place is chosen behind the lead that wasn't before it
pub not_chosen : (places others : List ℕ) (place other : ℕ) → (IsChosenAt others other → IsChosenAt places place) → is_chosen places place ≡ false →
    is_chosen others other ≡ false
not_chosen places others place other leads other_is =
    ⊎_cases (cases_Bool (is_chosen others other))
  where
    ⊎_cases : (is_chosen others other ≡ true) ⊎ (is_chosen others other ≡ false) → is_chosen others other ≡ false
    ⊎_cases (inl chosen) =
        let found = leads (chosen_somewhere others other chosen) in
        absurd (both_ways (is_chosen places place) other_is (is_chosen_at places found.at place found.below found.is))
    ⊎_cases (inr not) = not

pub last_moved : (lead : ℕ → ℕ) (places : List ℕ) → 0 < length places → last_place (map lead places) ≡ lead (last_place places)
last_moved lead [] some = absurd (omega arith)
last_moved lead (p ∷ []) some = refl
last_moved lead (p ∷ q ∷ places) some = last_moved lead (q ∷ places) (omega arith)

-- where the last place is
pub last_is_at : (places : List ℕ) → 0 < length places → get_or places (length places - 1) 0 ≡ last_place places
last_is_at places some = sym (last_place_is places (length places - 1) (omega arith))

map_each : (f g : ℕ → Gate) (lead : ℕ → ℕ) (places : List ℕ) → ((k : ℕ) → k < length places → f (lead (get_or places k 0)) ≡ g (get_or places k 0)) →
    map f (map lead places) ≡ map g places
map_each f g lead [] same = refl
map_each f g lead (p ∷ places) same =
    let here : f (lead p) ≡ g p = same 0 (omega arith) in
    let rest : map f (map lead places) ≡ map g places = map_each f g lead places (λ k below. same (suc k) (omega arith)) in
    λ i. here i ∷ rest i

-- a gate on two wires has two different ones
cx_apart : (n : ℕ) (gate : Gate) → IsOnWires n gate → kind_of gate ≡ kind.Cx → wire_of false gate ≢ wire_of true gate
cx_apart n (Cx control target) on is same = on.2 same
cx_apart n gate on is same = absurd (cc)

pub moved_at : (lead : ℕ → ℕ) (places : List ℕ) (k : ℕ) → k < length places → get_or (map lead places) k 0 ≡ lead (get_or places k 0)
moved_at lead places k below = get_or-map lead places k 0 0 below

-- The lead rises along the places.
rising_moved : (lead : ℕ → ℕ) (places : List ℕ) → AllPairs (λ i j. i < j) places →
    ((i j : ℕ) → i < length places → j < length places → get_or places i 0 < get_or places j 0 → lead (get_or places i 0) < lead (get_or places j 0)) →
    AllPairs (λ i j. i < j) (map lead places)
rising_moved lead places rising more i j d before below =
    let long : length (map lead places) ≡ length places = length-map places lead in
    let first : get_or (map lead places) i d ≡ lead (get_or places i 0) = get_or-map lead places i 0 d (omega arith) in
    let second : get_or (map lead places) j d ≡ lead (get_or places j 0) = get_or-map lead places j 0 d (omega arith) in
    let up : lead (get_or places i 0) < lead (get_or places j 0) =
    more i j (omega arith) (omega arith) (rising i j 0 before (omega arith)) in
    omega arith

inside_moved : (lead : ℕ → ℕ) (places : List ℕ) (n : ℕ) → ((k : ℕ) → k < length places → lead (get_or places k 0) < n) →
    All (λ i. i < n) (map lead places)
inside_moved lead places n each =
    All-from_get_or (λ i. i < n) (map lead places) 0
    (λ k below.
    let long : length (map lead places) ≡ length places = length-map places lead in
    let is : get_or (map lead places) k 0 ≡ lead (get_or places k 0) = moved_at lead places k (omega arith) in
    let low : lead (get_or places k 0) < n = each k (omega arith) in
    omega arith)

-- a free gate is the free slot's
pub free_is : (slots : List Gate) (p : ℕ) → AreSlots slots → p < length slots → is_free (gate_at slots p) ≡ true → gate_at slots p ≡ free_slot
free_is slots p are inside free =
    let at : first_wire (gate_at slots p) ≡ no_wire = eqb-true (first_wire (gate_at slots p)) no_wire free in
    are p inside (subst (Touches (gate_at slots p)) at (touches_first (gate_at slots p)))

-- a taken one doesn't use that wire
pub taken_apart : (slots : List Gate) (p : ℕ) → AreSlots slots → IsTaken slots p → ¬ Touches (gate_at slots p) no_wire
taken_apart slots p are is touches =
    both_ways (is_free (gate_at slots p)) is.taken (ap is_free (are p is.inside touches))

-- a gate in a slot commutes with what stands in a free one
commutes_free : (slots : List Gate) (p q : ℕ) → AreSlots slots → IsTaken slots p → q < length slots → is_free (gate_at slots q) ≡ true →
    Commutes (gate_at slots p) (gate_at slots q)
commutes_free slots p q are is inside free =
    subst (Commutes (gate_at slots p)) (sym (free_is slots q are inside free))
    (commute_apart (gate_at slots p) free_slot
    (λ w here there. by w here there))
  where
    by : (w : ℕ) → Touches (gate_at slots p) w → Touches free_slot w → ⊥
    by w here (inl same) = taken_apart slots p are is (subst (Touches (gate_at slots p)) same here)
    by w here (inr same) = taken_apart slots p are is (subst (Touches (gate_at slots p)) same here)

-- a gate on different wires isn't led to the free slot's
led_apart : (n : ℕ) (wires : List ℕ) (gate : Gate) → IsOnWires n gate → length wires ≡ n → AllPairs (λ v w. v ≢ w) wires → renamed wires gate ≢ free_slot
led_apart n wires gate on whole apart same =
    let is : kind_of gate ≡ kind.Cx = sym (kind-renamed wires gate) ∙ ap kind_of same in
    let first : get_or wires (wire_of false gate) 0 ≡ no_wire = sym (wire-renamed wires false gate) ∙ ap (wire_of false) same in
    let last : get_or wires (wire_of true gate) 0 ≡ no_wire = sym (wire-renamed wires true gate) ∙ ap (wire_of true) same in
    cx_apart n gate on is
    (wires_apart n wires (record { whole = whole; apart = apart }) (wire_of false gate) (wire_of true gate) (wire_below n gate false on) (wire_below n gate true on) (first ∙ sym last))

-- gates stand in the slots that match a row's pattern
pub placed_taken : (row : RowView) → IsSound row → (slots : List Gate) → AreSlots slots → (wires places : List ℕ) → AreWires row.wires wires → IsMatch slots row.pattern wires places →
    (k : ℕ) → k < length places → IsTaken slots (get_or places k 0)
placed_taken row sound slots free wires places are matches k below =
    let long : length places ≡ length row.pattern = places_long slots row.pattern wires places matches.chosen in
    let inside : get_or places k 0 < length slots = matches.inside k 0 below in
    let gate : gate_at slots (get_or places k 0) ≡ renamed wires (gate_at row.pattern k) =
    chosen_at slots row.pattern wires places matches.chosen k _ (omega arith) in
    let on : IsOnWires row.wires (gate_at row.pattern k) = gate_on_wires row.wires row.pattern sound.wires.left k (omega arith) in
    record {
      inside = inside;
      taken = by (cases_Bool (is_free (gate_at slots (get_or places k 0)))) (λ here. led_apart row.wires wires (gate_at row.pattern k) on are.whole are.apart
          (sym gate ∙ free_is slots (get_or places k 0) free inside here));
    }
  where
    by : (is_free (gate_at slots (get_or places k 0)) ≡ true) ⊎ (is_free (gate_at slots (get_or places k 0)) ≡ false) →
        (is_free (gate_at slots (get_or places k 0)) ≡ true → ⊥) → is_free (gate_at slots (get_or places k 0)) ≡ false
    by (inl here) none = absurd (none here)
    by (inr not) none = not

module _ (rules : List RowView) (sound : All IsSound rules) (slots : List Gate) (free : AreSlots slots) where
  pub redex_taken : (redex : RedexView) → IsRedex rules slots redex → (k : ℕ) → k < length redex.places → IsTaken slots (get_or redex.places k 0)
  redex_taken redex is = placed_taken is.row (row_sound rules redex.row is.row is.numbered sound) slots free redex.wires redex.places is.wires is.matches

  module _ (gates : List Gate) (up down : ℕ → ℕ) (are : AreRanked slots gates up down) where
    back_less : (p q : ℕ) → up p < up q → p < q
    back_less p q less =
        elim (cases_lt p q) [
          | inl below ↦ below
          | inr upto ↦ (let other : up q ≤ up p = are.rises q p upto in absurd (omega arith))
        ]

    up_once : (p q : ℕ) → IsTaken slots p → IsTaken slots q → up p ≡ up q → p ≡ q
    up_once p q left right same =
        let one : ¬ (p < q) = λ less. (let more : up p < up q = are.less p q left less in omega arith) in
        let other : ¬ (q < p) = λ less. (let more : up q < up p = are.less q p right less in omega arith) in
        omega arith

    down_up : (p : ℕ) → IsTaken slots p → down (up p) ≡ p
    down_up p is =
        let inside : up p < length gates = are.inside p is in
        up_once (down (up p)) p (are.taken (up p) inside) is (are.back (up p) inside)

    down_gate : (k : ℕ) → k < length gates → gate_at slots (down k) ≡ gate_at gates k
    down_gate k below = sym (are.gate (down k) (are.taken k below)) ∙ ap (gate_at gates) (are.back k below)

    -- which places are chosen is kept
    up_free : (places : List ℕ) → 0 < length places → ((k : ℕ) → k < length places → IsTaken slots (get_or places k 0)) → AreFree slots places → AreFree gates (map up places)
    up_free places some taken are_free i j chosen other before below =
        let long : length (map up places) ≡ length places = length-map places up in
        let found = chosen_somewhere (map up places) i chosen in
        let low : found.at < length places = omega (arith, found.below) in
        let p : ℕ = get_or places found.at 0 in
        let p_is : up p ≡ i = sym (moved_at up places found.at low) ∙ found.is in
        let last : last_place (map up places) ≡ up (last_place places) = last_moved up places some in
        let last_taken : IsTaken slots (last_place places) = subst (IsTaken slots) (last_is_at places some) (taken (length places - 1) (omega arith)) in
        let end : up (last_place places) < length gates = are.inside (last_place places) last_taken in
        let j_inside : j < length gates = omega arith in
        let q : ℕ = down j in
        let q_is : up q ≡ j = are.back j j_inside in
        let q_taken : IsTaken slots q = are.taken j j_inside in
        let commute : Commutes (gate_at slots p) (gate_at slots q) =
        are_free p q (is_chosen_at places found.at p low refl)
        (not_chosen (map up places) places j q
        (λ at. record { at = at.at; below = omega (arith, at.below); is = moved_at up places at.at at.below ∙ (ap up at.is ∙ q_is) }) other)
        (back_less p q (omega arith)) (back_less q (last_place places) (omega arith)) in
        let first : gate_at slots p ≡ gate_at gates i = sym (are.gate p (taken found.at low)) ∙ ap (gate_at gates) p_is in
        let second : gate_at slots q ≡ gate_at gates j = sym (are.gate q q_taken) ∙ ap (gate_at gates) q_is in
        subst (λ (g : Gate). Commutes g (gate_at gates j)) first (subst (Commutes (gate_at slots p)) second commute)

    pub up_redex : (redex : RedexView) → IsRedex rules slots redex → IsRedex rules gates (moved up redex)
    up_redex redex is =
        let taken = redex_taken redex is in
        record {
          row = is.row;
          numbered = is.numbered;
          wires = is.wires;
          some = omega (arith, length-map redex.places up, is.some);
          matches = record {
            rising = rising_moved up redex.places is.matches.rising (λ i j i_in j_in less. are.less _ _ (taken i i_in) less);
            inside = inside_moved up redex.places (length gates) (λ k below. are.inside _ (taken k below));
            chosen = map_each (gate_at gates) (gate_at slots) up redex.places (λ k below. are.gate _ (taken k below)) ∙ is.matches.chosen;
          };
          free = up_free redex.places is.some taken is.free;
        }

    down_less : (k m : ℕ) → k < length gates → m < length gates → k < m → down k < down m
    down_less k m k_in m_in less =
        let one : up (down k) ≡ k = are.back k k_in in
        let other : up (down m) ≡ m = are.back m m_in in
        back_less (down k) (down m) (omega arith)

    down_free : (places : List ℕ) → 0 < length places → ((k : ℕ) → k < length places → get_or places k 0 < length gates) → AreFree gates places → AreFree slots (map down places)
    down_free places some inside are_free i j chosen other before below =
        let long : length (map down places) ≡ length places = length-map places down in
        let found = chosen_somewhere (map down places) i chosen in
        let low : found.at < length places = omega (arith, found.below) in
        let k : ℕ = get_or places found.at 0 in
        let i_is : down k ≡ i = sym (moved_at down places found.at low) ∙ found.is in
        let k_inside : k < length gates = inside found.at low in
        let i_taken : IsTaken slots i = subst (IsTaken slots) i_is (are.taken k k_inside) in
        let up_i : k ≡ up i = sym (are.back k k_inside) ∙ ap up i_is in
        let last : last_place (map down places) ≡ down (last_place places) = last_moved down places some in
        let last_inside : last_place places < length gates = subst (λ (n : ℕ). n < length gates) (last_is_at places some) (inside (length places - 1) (omega arith)) in
        let end : down (last_place places) < length slots = (are.taken (last_place places) last_inside).inside in
        let up_last : up (down (last_place places)) ≡ last_place places = are.back (last_place places) last_inside in
        by i j i_taken (omega arith) (cases_Bool (is_free (gate_at slots j)))
        (λ j_taken.
        let upto : up j < up (down (last_place places)) = are.less j (down (last_place places)) j_taken (omega arith) in
        let more : up i < up j = are.less i j i_taken before in
        let commute : Commutes (gate_at gates (up i)) (gate_at gates (up j)) =
        are_free (up i) (up j) (is_chosen_at places found.at (up i) low up_i)
        (not_chosen (map down places) places j (up j)
        (λ at. record { at = at.at; below = omega (arith, at.below); is = moved_at down places at.at at.below ∙ (ap down at.is ∙ down_up j j_taken) }) other)
        more (omega arith) in
        subst (λ (g : Gate). Commutes g (gate_at slots j)) (are.gate i i_taken) (subst (Commutes (gate_at gates (up i))) (are.gate j j_taken) commute))
      where
        by : (i j : ℕ) → IsTaken slots i → j < length slots → (is_free (gate_at slots j) ≡ true) ⊎ (is_free (gate_at slots j) ≡ false) →
            (IsTaken slots j → Commutes (gate_at slots i) (gate_at slots j)) → Commutes (gate_at slots i) (gate_at slots j)
        by i j is inside (inl here) rest = commutes_free slots i j free is inside here
        by i j is inside (inr not) rest = rest (record { inside = inside; taken = not })

    pub down_redex : (redex : RedexView) → IsRedex rules gates redex → IsRedex rules slots (moved down redex)
    down_redex redex is =
        let inside : (k : ℕ) → k < length redex.places → get_or redex.places k 0 < length gates = λ k below. is.matches.inside k 0 below in
        record {
          row = is.row;
          numbered = is.numbered;
          wires = is.wires;
          some = omega (arith, length-map redex.places down, is.some);
          matches = record {
            rising = rising_moved down redex.places is.matches.rising (λ i j i_in j_in less. down_less _ _ (inside i i_in) (inside j j_in) less);
            inside = inside_moved down redex.places (length slots) (λ k below. (are.taken _ (inside k below)).inside);
            chosen = map_each (gate_at slots) (gate_at gates) down redex.places (λ k below. down_gate _ (inside k below)) ∙ is.matches.chosen;
          };
          free = down_free redex.places is.some inside is.free;
        }

    -- the order of places is that of their ranks
    precedes_back : (xs ys : List ℕ) → ((k : ℕ) → k < length xs → IsTaken slots (get_or xs k 0)) → ((k : ℕ) → k < length ys → IsTaken slots (get_or ys k 0)) →
        Precedes (map up xs) (map up ys) → Precedes xs ys
    precedes_back [] ys left right before = before
    precedes_back (x ∷ xs) [] left right before = before
    precedes_back (x ∷ xs) (y ∷ ys) left right (inl less) = inl (back_less x y less)
    precedes_back (x ∷ xs) (y ∷ ys) left right (inr (same, rest)) = inr (
      up_once x y (left 0 (omega arith)) (right 0 (omega arith)) same,
      precedes_back xs ys (λ k below. left (suc k) (omega arith)) (λ k below. right (suc k) (omega arith)) rest,
    )

    key_back : (x y : RedexView) → IsRedex rules slots x → IsRedex rules slots y → Precedes (key (moved up x)) (key (moved up y)) → Precedes (key x) (key y)
    key_back x y left right before = by before
      where
        first_x : get_or (map up x.places) 0 0 ≡ up (get_or x.places 0 0)
        first_x = moved_at up x.places 0 left.some

        first_y : get_or (map up y.places) 0 0 ≡ up (get_or y.places 0 0)
        first_y = moved_at up y.places 0 right.some

        by : Precedes (key (moved up x)) (key (moved up y)) → Precedes (key x) (key y)
        by (inl less) = inl (back_less _ _ (let a : get_or (map up x.places) 0 0 ≡ up (get_or x.places 0 0) = first_x in let b : get_or (map up y.places) 0 0 ≡ up (get_or y.places 0 0) = first_y in omega arith))
        by (inr (same, inl less)) = inr (up_once _ _ (redex_taken x left 0 left.some) (redex_taken y right 0 right.some) (sym first_x ∙ (same ∙ first_y)), inl less)
        by (inr (same, inr (row, rest))) = inr (
          up_once _ _ (redex_taken x left 0 left.some) (redex_taken y right 0 right.some) (sym first_x ∙ (same ∙ first_y)),
          inr (row, precedes_back x.places y.places (redex_taken x left) (redex_taken y right) rest),
        )

    up_down : (places : List ℕ) → ((k : ℕ) → k < length places → get_or places k 0 < length gates) → map up (map down places) ≡ places
    up_down [] inside = refl
    up_down (p ∷ places) inside =
        let here : up (down p) ≡ p = are.back p (inside 0 (omega arith)) in
        let rest : map up (map down places) ≡ places = up_down places (λ k below. inside (suc k) (omega arith)) in
        λ i. here i ∷ rest i

    -- the first redex of the slots is the first of the gates
    pub up_first : (redex : RedexView) → IsFirst rules slots (length slots) redex → IsFirst rules gates (length gates) (moved up redex)
    up_first redex first = record {
      is = up_redex redex first.is;
      among = redex_within_all rules gates (moved up redex) (up_redex redex first.is);
      first = λ other is within before.
          let low : IsRedex rules slots (moved down other) = down_redex other is in
          let back : map up (map down other.places) ≡ other.places = up_down other.places (λ k below. is.matches.inside k 0 below) in
          first.first (moved down other) low (redex_within_all rules slots (moved down other) low)
          (key_back (moved down other) redex low first.is
          (subst (λ (places : List ℕ). Precedes (get_or places 0 0 ∷ other.row ∷ places) (key (moved up redex))) (sym back) before));
    }

    pub up_none : HasNoRedex rules slots → HasNoRedex rules gates
    up_none none redex is = none (moved down redex) (down_redex redex is)
