-- Rewriting in slots: the chosen ones are freed, and the replacement stands in free ones around the last of them. The
-- gates in the slots are then the rewritten list.
use Rattle.std.proofs.Common.{◌≡◌, ℕ, zero, suc, ◌+◌, ◌-◌, ◌<◌, ◌≤◌, Bool, true, false, cond, List, [], ◌∷◌, ◌++◌, ◌⊎◌, length, map, get_or, take, drop, inl, inr, refl, ap, sym, subst, ◌∙◌, arith, append_assoc}
use Rattle.std.specs.Prelude.{All, AllPairs}
use Rattle.std.proofs.lemmas.Bool.{cases_lt, cases_Bool, ne_eqb, both_ways}
use Rattle.std.proofs.lemmas.List.{length-map, length-append, length-take, length-drop, get_or-map, get_or-take, get_or-drop, get_or_default, take_more, take-append-drop, drop_more, append-nil, same_lists, get_or_append_left, get_or-append_right}
use Rattle.pq_gate.specs.declared.gate.Gate.{Gate}
use Rattle.pq_gate.specs.declared.gate.Gate.TheVariants.{H}
use Rattle.pq_gate.specs.Circuit.{IsOnWires}
use Rattle.pq_gate.specs.Commuting.{Touches}
use Rattle.pq_gate.specs.Ports.{first_wire}
use Rattle.pq_links.specs.Slots.{no_wire, free_slot, is_free, AreSlots, gates_in}
use Rattle.pq_rules.specs.Row.{RowView, Uses, IsSound}
use Rattle.pq_rules.specs.Renaming.{renamed}
use Rattle.pq_match.specs.Wires.{wire_of}
use Rattle.pq_match.specs.Redex.{RedexView, IsRedex, gate_at, last_place, is_chosen}
use Rattle.pq_match.specs.Rewrite.{unchosen, rewritten}
use Rattle.pq_match.specs.Work.{AreFreed, AreFilled}
use Rattle.pq_match.proofs.OneFirst.{row_sound}
use Rattle.pq_match.proofs.RenamedWires.{touches_renamed}
use Rattle.pq_match.proofs.RewritingPlaces.{unchosen-append, before_first}
use Rattle.pq_match.proofs.RewritingWires.{places_long, chosen_at}
use Rattle.pq_match.proofs.SearchGates.{wire-renamed, wire_below, gate_on_wires}
use Rattle.pq_match.proofs.Ranks.{IsTaken, rank, rank_taken, rank_less, front_gates, back_gates}
use Rattle.pq_match.proofs.RankedRedexes.{moved, chosen_somewhere, is_chosen_at, last_moved, last_is_at, moved_at, taken_apart, redex_taken}

pub gates_in-append : (xs ys : List Gate) → gates_in (xs ++ ys) ≡ gates_in xs ++ gates_in ys
gates_in-append [] ys = refl
gates_in-append (gate ∷ xs) ys =
    ap (λ (gates : List Gate). cond (is_free gate) gates (gate ∷ gates)) (gates_in-append xs ys) ∙ here gate (gates_in xs) (gates_in ys) (is_free gate)
  where
    here : (gate : Gate) (us vs : List Gate) (b : Bool) → cond b (us ++ vs) (gate ∷ (us ++ vs)) ≡ cond b us (gate ∷ us) ++ vs
    here gate us vs true = refl
    here gate us vs false = refl

-- gates that are all taken are in slots as they stand
all_taken : (xs : List Gate) → ((k : ℕ) → k < length xs → is_free (gate_at xs k) ≡ false) → gates_in xs ≡ xs
all_taken [] each = refl
all_taken (gate ∷ xs) each =
    ap (λ (b : Bool). cond b (gates_in xs) (gate ∷ gates_in xs)) (each 0 (omega arith)) ∙ ap (λ (gates : List Gate). gate ∷ gates) (all_taken xs (λ k below. each (suc k) (omega arith)))

one_free : (gate : Gate) (rest : List Gate) → is_free gate ≡ true → gates_in (gate ∷ rest) ≡ gates_in rest
one_free gate rest free = ap (λ (b : Bool). cond b (gates_in rest) (gate ∷ gates_in rest)) free

one_taken : (gate : Gate) → is_free gate ≡ false → gates_in (gate ∷ []) ≡ gate ∷ []
one_taken gate taken = ap (λ (b : Bool). cond b [] (gate ∷ [])) taken

-- free slots at the end of a prefix play no part
skip_front : (xs : List Gate) (a n : ℕ) → a + n ≤ length xs → ((p : ℕ) → a ≤ p → p < a + n → is_free (gate_at xs p) ≡ true) →
    gates_in (take (a + n) xs) ≡ gates_in (take a xs)
skip_front xs a zero inside free = ap (λ k. gates_in (take k xs)) (let e : a + 0 ≡ a = omega arith in e)
skip_front xs a (suc n) inside free =
    ap (λ k. gates_in (take k xs)) (let e : a + suc n ≡ (a + n) + 1 = omega arith in e)
    ∙ ap gates_in (take_more xs (a + n) (H 0) (omega arith))
    ∙ gates_in-append (take (a + n) xs) (gate_at xs (a + n) ∷ [])
    ∙ ap (λ (gates : List Gate). gates_in (take (a + n) xs) ++ gates) (one_free (gate_at xs (a + n)) [] (free (a + n) (omega arith) (omega arith)))
    ∙ append-nil (gates_in (take (a + n) xs))
    ∙ skip_front xs a n (omega arith) (λ p from below. free p from (omega arith))

-- and at the beginning of an end
skip_back : (xs : List Gate) (a n : ℕ) → a + n ≤ length xs → ((p : ℕ) → a ≤ p → p < a + n → is_free (gate_at xs p) ≡ true) →
    gates_in (drop a xs) ≡ gates_in (drop (a + n) xs)
skip_back xs a zero inside free = ap (λ k. gates_in (drop k xs)) (let e : a ≡ a + 0 = omega arith in e)
skip_back xs a (suc n) inside free =
    skip_back xs a n (omega arith) (λ p from below. free p from (omega arith))
    ∙ ap gates_in (drop_more xs (a + n) (H 0) (omega arith))
    ∙ one_free (gate_at xs (a + n)) (drop ((a + n) + 1) xs) (free (a + n) (omega arith) (omega arith))
    ∙ ap (λ k. gates_in (drop k xs)) (let e : (a + n) + 1 ≡ a + suc n = omega arith in e)

between : (xs : List Gate) (a b : ℕ) → a ≤ b → b ≤ length xs → ((p : ℕ) → a ≤ p → p < b → is_free (gate_at xs p) ≡ true) →
    (gates_in (take b xs) ≡ gates_in (take a xs)) × (gates_in (drop a xs) ≡ gates_in (drop b xs))
between xs a b upto inside free =
    let e : a + (b - a) ≡ b = omega arith in
    let each : (p : ℕ) → a ≤ p → p < a + (b - a) → is_free (gate_at xs p) ≡ true = λ p from below. free p from (omega arith) in (
      ap (λ k. gates_in (take k xs)) (sym e) ∙ skip_front xs a (b - a) (omega arith) each,
      skip_back xs a (b - a) (omega arith) each ∙ ap (λ k. gates_in (drop k xs)) e,
    )

rank_count : (slots : List Gate) (p : ℕ) → length (gates_in (take p slots)) ≡ rank slots p
rank_count [] zero = refl
rank_count [] (suc p) = refl
rank_count (gate ∷ slots) zero = refl
rank_count (gate ∷ slots) (suc p) = here gate (gates_in (take p slots)) (rank slots p) (is_free gate) (rank_count slots p)
  where
    here : (gate : Gate) (gates : List Gate) (n : ℕ) (b : Bool) → length gates ≡ n → length (cond b gates (gate ∷ gates)) ≡ cond b n (suc n)
    here gate gates n true same = same
    here gate gates n false same = ap suc same

rank_once : (slots : List Gate) (p q : ℕ) → IsTaken slots p → IsTaken slots q → rank slots p ≡ rank slots q → p ≡ q
rank_once slots p q left right same =
    let one : ¬ (p < q) = λ less. (let more : rank slots p < rank slots q = rank_less slots p q left less in omega arith) in
    let other : ¬ (q < p) = λ less. (let more : rank slots q < rank slots p = rank_less slots q p right less in omega arith) in
    omega arith

-- one slot more
freed_here : (slots : List Gate) (places : List ℕ) (n : ℕ) (new : Gate) → ((k : ℕ) → k < length places → IsTaken slots (get_or places k 0)) → n < length slots →
    (is_chosen places n ≡ true → new ≡ free_slot) → (is_chosen places n ≡ false → new ≡ gate_at slots n) →
    gates_in (new ∷ []) ≡ unchosen (map (rank slots) places) (rank slots n) (gates_in (gate_at slots n ∷ []))
freed_here slots places n new taken inside freed other =
    by (cases_Bool (is_chosen places n)) (cases_Bool (is_free (gate_at slots n)))
  where
    ranks : List ℕ
    ranks = map (rank slots) places

    chosen_rank : is_chosen places n ≡ true → is_chosen (map (rank slots) places) (rank slots n) ≡ true
    chosen_rank chosen =
        let found = chosen_somewhere places n chosen in
        is_chosen_at (map (rank slots) places) found.at (rank slots n) (omega (arith, found.below, length-map places (rank slots)))
        (moved_at (rank slots) places found.at found.below ∙ ap (rank slots) found.is)

    is_taken : is_chosen places n ≡ true → is_free (gate_at slots n) ≡ false
    is_taken chosen =
        let found = chosen_somewhere places n chosen in
        let here : IsTaken slots n = subst (IsTaken slots) found.is (taken found.at found.below) in
        here.taken

    other_rank : is_chosen places n ≡ false → is_free (gate_at slots n) ≡ false → is_chosen (map (rank slots) places) (rank slots n) ≡ false
    other_rank not here = cases (cases_Bool (is_chosen (map (rank slots) places) (rank slots n)))
      where
        cases : (is_chosen (map (rank slots) places) (rank slots n) ≡ true) ⊎ (is_chosen (map (rank slots) places) (rank slots n) ≡ false) →
            is_chosen (map (rank slots) places) (rank slots n) ≡ false
        cases (inl chosen) =
            let found = chosen_somewhere (map (rank slots) places) (rank slots n) chosen in
            let low : found.at < length places = omega (arith, found.below, length-map places (rank slots)) in
            let same : get_or places found.at 0 ≡ n =
            rank_once slots (get_or places found.at 0) n (taken found.at low) (record { inside = inside; taken = here })
            (sym (moved_at (rank slots) places found.at low) ∙ found.is) in
            absurd (both_ways (is_chosen places n) not (is_chosen_at places found.at n low same))
        cases (inr is) = is

    by : (is_chosen places n ≡ true) ⊎ (is_chosen places n ≡ false) → (is_free (gate_at slots n) ≡ true) ⊎ (is_free (gate_at slots n) ≡ false) →
        gates_in (new ∷ []) ≡ unchosen (map (rank slots) places) (rank slots n) (gates_in (gate_at slots n ∷ []))
    by (inl chosen) at =
        ap (λ (g : Gate). gates_in (g ∷ [])) (freed chosen)
        ∙ sym (ap (λ (gates : List Gate). unchosen (map (rank slots) places) (rank slots n) gates) (one_taken (gate_at slots n) (is_taken chosen))
        ∙ ap (λ (b : Bool). cond b [] (gate_at slots n ∷ [])) (chosen_rank chosen))
    by (inr not) (inl free) =
        ap (λ (g : Gate). gates_in (g ∷ [])) (other not) ∙ one_free (gate_at slots n) [] free
        ∙ sym (ap (λ (gates : List Gate). unchosen (map (rank slots) places) (rank slots n) gates) (one_free (gate_at slots n) [] free))
    by (inr not) (inr here) =
        ap (λ (g : Gate). gates_in (g ∷ [])) (other not) ∙ one_taken (gate_at slots n) here
        ∙ sym (ap (λ (gates : List Gate). unchosen (map (rank slots) places) (rank slots n) gates) (one_taken (gate_at slots n) here)
        ∙ ap (λ (b : Bool). cond b [] (gate_at slots n ∷ [])) (other_rank not here))

-- what the freed slots up to a place hold
freed_front : (slots new : List Gate) (places : List ℕ) → ((k : ℕ) → k < length places → IsTaken slots (get_or places k 0)) → AreFreed slots new places →
    (n : ℕ) → n ≤ length slots → gates_in (take n new) ≡ unchosen (map (rank slots) places) 0 (gates_in (take n slots))
freed_front slots new places taken is zero upto = refl
freed_front slots new places taken is (suc n) upto =
    let inside : n < length slots = omega arith in
    let new_inside : n < length new = omega (arith, is.whole) in
    let e : suc n ≡ n + 1 = omega arith in
    let ranks : List ℕ = map (rank slots) places in
    let front : List Gate = gates_in (take n slots) in
    let at : 0 + length front ≡ rank slots n = omega (arith, rank_count slots n) in
    ap (λ k. gates_in (take k new)) e ∙ ap gates_in (take_more new n (H 0) new_inside)
    ∙ gates_in-append (take n new) (gate_at new n ∷ [])
    ∙ ap (λ (gates : List Gate). gates ++ gates_in (gate_at new n ∷ [])) (freed_front slots new places taken is n (omega arith))
    ∙ ap (λ (gates : List Gate). unchosen ranks 0 front ++ gates) (freed_here slots places n (gate_at new n) taken inside (is.freed n inside) (is.others n inside))
    ∙ sym (ap (λ k. unchosen ranks 0 (gates_in (take k slots))) e ∙ ap (λ (gates : List Gate). unchosen ranks 0 (gates_in gates)) (take_more slots n (H 0) inside)
    ∙ ap (unchosen ranks 0) (gates_in-append (take n slots) (gate_at slots n ∷ []))
    ∙ unchosen-append ranks 0 front (gates_in (gate_at slots n ∷ []))
    ∙ ap (λ k. unchosen ranks 0 front ++ unchosen ranks k (gates_in (gate_at slots n ∷ []))) at)

-- lists that have the same gates up to a place, or from a place on
pub same_front : (xs ys : List Gate) (n : ℕ) → length xs ≡ length ys → ((p : ℕ) → p < n → p < length xs → gate_at xs p ≡ gate_at ys p) → take n xs ≡ take n ys
same_front xs ys n long same =
    same_lists (take n xs) (take n ys) (omega (arith, length-take n xs, length-take n ys))
    (λ k d below.
    let low : k < n = omega (arith, length-take n xs) in
    let inside : k < length xs = omega (arith, length-take n xs) in
    get_or-take n xs k d low ∙ get_or_default xs k d (H 0) inside ∙ same k low inside ∙ get_or_default ys k (H 0) d (omega arith) ∙ sym (get_or-take n ys k d low))

pub same_back : (xs ys : List Gate) (n : ℕ) → length xs ≡ length ys → ((p : ℕ) → n ≤ p → p < length xs → gate_at xs p ≡ gate_at ys p) → drop n xs ≡ drop n ys
same_back xs ys n long same =
    same_lists (drop n xs) (drop n ys) (omega (arith, length-drop n xs, length-drop n ys))
    (λ k d below.
    let inside : n + k < length xs = omega (arith, length-drop n xs) in
    get_or-drop n xs k d ∙ get_or_default xs (n + k) d (H 0) inside ∙ same (n + k) (omega arith) inside ∙ get_or_default ys (n + k) (H 0) d (omega arith) ∙ sym (get_or-drop n ys k d))

filled_front : (old new : List Gate) (start : ℕ) (gates : List Gate) → AreFilled old new start gates → start + length gates ≤ length old →
    take (start + length gates) new ≡ take start old ++ gates
filled_front old new start gates is room =
    let long : length (take start old) ≡ start = omega (arith, length-take start old) in
    let new_long : length (take (start + length gates) new) ≡ start + length gates = omega (arith, length-take (start + length gates) new, is.whole) in
    same_lists (take (start + length gates) new) (take start old ++ gates) (omega (arith, length-append (take start old) gates))
    (λ k d below. by k d (omega arith) (cases_lt k start))
  where
    by : (k : ℕ) (d : Gate) → k < start + length gates → (k < start) ⊎ (start ≤ k) → get_or (take (start + length gates) new) k d ≡ get_or (take start old ++ gates) k d
    by k d below (inl front) =
        let whole : length new ≡ length old = is.whole in
        get_or-take (start + length gates) new k d below ∙ get_or_default new k d (H 0) (omega arith) ∙ is.before k front
        ∙ get_or_default old k (H 0) d (omega arith) ∙ sym (get_or-take start old k d front)
        ∙ sym (get_or_append_left (take start old) gates d k (omega (arith, length-take start old)))
    by k d below (inr behind) =
        let whole : length new ≡ length old = is.whole in
        let low : k - start < length gates = omega arith in
        let e : k ≡ start + (k - start) = omega arith in
        get_or-take (start + length gates) new k d below ∙ get_or_default new k d (H 0) (omega arith)
        ∙ ap (gate_at new) e ∙ is.filled (k - start) low ∙ get_or_default gates (k - start) (H 0) d low
        ∙ sym (get_or-append_right (take start old) gates start k d (omega (arith, length-take start old)) behind)

-- a place behind the last one isn't chosen
pub behind_last : (places : List ℕ) → AllPairs (λ i j. i < j) places → (p : ℕ) → last_place places < p → is_chosen places p ≡ false
behind_last places rising p after = by (cases_Bool (is_chosen places p))
  where
    by : (is_chosen places p ≡ true) ⊎ (is_chosen places p ≡ false) → is_chosen places p ≡ false
    by (inl chosen) =
        let found = chosen_somewhere places p chosen in
        let last : get_or places (length places - 1) 0 ≡ last_place places = last_is_at places (omega (arith, found.below)) in
        let here : get_or places found.at 0 ≡ p = found.is in
        absurd (elim (cases_lt found.at (length places - 1)) [
          | inl below ↦ (let up : get_or places found.at 0 < get_or places (length places - 1) 0 = rising found.at (length places - 1) 0 below (omega (arith, found.below)) in omega arith)
          | inr upto ↦
              (let e : found.at ≡ length places - 1 = omega (arith, found.below) in
              let same : get_or places found.at 0 ≡ get_or places (length places - 1) 0 = ap (λ k. get_or places k 0) e in omega arith)
        ])
    by (inr not) = not

-- nor one before the first one
pub before_chosen : (places : List ℕ) → AllPairs (λ i j. i < j) places → (p : ℕ) → p < get_or places 0 0 → is_chosen places p ≡ false
before_chosen places rising p below = before_first places rising p below

module _ (rules : List RowView) (sound : All IsSound rules) (slots : List Gate) (free : AreSlots slots) (redex : RedexView) (is : IsRedex rules slots redex) where
  -- a gate of the replacement isn't led to the free slot's wire
  replacement_taken : (k : ℕ) → k < length is.row.replacement → is_free (renamed redex.wires (gate_at is.row.replacement k)) ≡ false
  replacement_taken k below =
      let row : IsSound is.row = row_sound rules redex.row is.row is.numbered sound in
      let gate : Gate = gate_at is.row.replacement k in
      let on : IsOnWires is.row.wires gate = gate_on_wires is.row.wires is.row.replacement row.wires.right k below in
      let used : Uses is.row.pattern (wire_of false gate) = row.wires.used (wire_of false gate) (wire_below is.row.wires gate false on) in
      let P : Gate → Type 0 = λ g. Touches g (get_or redex.wires (wire_of false gate) 0) in
      let at : gate_at slots (get_or redex.places used.0 0) ≡ renamed redex.wires used.1 =
      chosen_at slots is.row.pattern redex.wires redex.places is.matches.chosen used.0 used.1 used.2 ∙ ap (renamed redex.wires) used.3 in
      let there : Touches (gate_at slots (get_or redex.places used.0 0)) (get_or redex.wires (wire_of false gate) 0) =
      subst P (sym at) (touches_renamed redex.wires used.1 (wire_of false gate) used.4) in
      let long : length redex.places ≡ length is.row.pattern = places_long slots is.row.pattern redex.wires redex.places is.matches.chosen in
      let apart = taken_apart slots (get_or redex.places used.0 0) free (redex_taken rules sound slots free redex is used.0 (omega (arith, used.2))) in
      ne_eqb (first_wire (renamed redex.wires gate)) no_wire
      (λ same. apart (subst (Touches (gate_at slots (get_or redex.places used.0 0))) (sym (wire-renamed redex.wires false gate) ∙ same) there))

  -- The gates in the slots afterwards are the rewritten ones.
  pub rewritten_slots : (freed filled : List Gate) (start end : ℕ) → AreFreed slots freed redex.places →
      AreFilled freed filled start (map (renamed redex.wires) is.row.replacement) → start ≤ last_place redex.places → last_place redex.places < end → end ≤ length slots →
      start + length is.row.replacement ≤ end → ((p : ℕ) → start ≤ p → p < end → is_free (gate_at freed p) ≡ true) →
      gates_in filled ≡ rewritten (gates_in slots) is.row.replacement (moved (rank slots) redex)
  rewritten_slots freed filled start end are_freed are_filled from upto inside room run =
      let new : List Gate = map (renamed redex.wires) is.row.replacement in
      let new_long : length new ≡ length is.row.replacement = length-map is.row.replacement (renamed redex.wires) in
      let whole : length freed ≡ length slots = are_freed.whole in
      let all : length filled ≡ length freed = are_filled.whole in
      let last : ℕ = last_place redex.places in
      let behind : ℕ = start + length new in
      let taken = redex_taken rules sound slots free redex is in
      let last_taken : IsTaken slots last = subst (IsTaken slots) (last_is_at redex.places is.some) (taken (length redex.places - 1) (omega (arith, is.some))) in
      let ranked_last : last_place (map (rank slots) redex.places) ≡ rank slots last = last_moved (rank slots) redex.places is.some in
      let last_rank : rank slots (last + 1) ≡ last_place (map (rank slots) redex.places) + 1 =
      ap (rank slots) (let e : last + 1 ≡ suc last = omega arith in e) ∙ rank_taken slots last last_taken ∙ (let e : suc (rank slots last) ≡ last_place (map (rank slots) redex.places) + 1 = omega arith in e) in
      let new_taken : gates_in new ≡ new =
      all_taken new
      (λ k below. ap is_free (get_or-map (renamed redex.wires) is.row.replacement k (H 0) (H 0) (omega arith)) ∙ replacement_taken k (omega arith)) in
      let front : take behind filled ≡ take start freed ++ new = filled_front freed filled start new are_filled (omega arith) in
      let back : drop behind filled ≡ drop behind freed = same_back filled freed behind all (λ p after p_in. are_filled.behind p after) in
      let left : gates_in (take start freed) ≡ unchosen (map (rank slots) redex.places) 0 (take (last_place (map (rank slots) redex.places) + 1) (gates_in slots)) =
      sym (between freed start (last + 1) (omega arith) (omega arith) (λ p p_from below. run p p_from (omega arith))).0
      ∙ freed_front slots freed redex.places taken are_freed (last + 1) (omega arith)
      ∙ ap (unchosen (map (rank slots) redex.places) 0) (front_gates slots (last + 1) ∙ ap (λ k. take k (gates_in slots)) last_rank) in
      let same_end : drop (last + 1) freed ≡ drop (last + 1) slots =
      same_back freed slots (last + 1) whole (λ p after p_in. are_freed.others p (omega arith) (behind_last redex.places is.matches.rising p (omega arith))) in
      let right : gates_in (drop behind freed) ≡ drop (last_place (map (rank slots) redex.places) + 1) (gates_in slots) =
      (between freed behind end (omega arith) (omega arith) (λ p p_from below. run p (omega arith) below)).1
      ∙ sym (between freed (last + 1) end (omega arith) (omega arith) (λ p p_from below. run p (omega arith) below)).1
      ∙ ap gates_in same_end ∙ back_gates slots (last + 1) ∙ ap (λ k. drop k (gates_in slots)) last_rank in
      let a : List Gate = unchosen (map (rank slots) redex.places) 0 (take (last_place (map (rank slots) redex.places) + 1) (gates_in slots)) in
      let z : List Gate = drop (last_place (map (rank slots) redex.places) + 1) (gates_in slots) in
      ap gates_in (sym (take-append-drop behind filled))
      ∙ gates_in-append (take behind filled) (drop behind filled)
      ∙ ap (λ (gates : List Gate). gates_in gates ++ gates_in (drop behind filled)) front
      ∙ ap (λ (gates : List Gate). gates ++ gates_in (drop behind filled)) (gates_in-append (take start freed) new)
      ∙ ap (λ (gates : List Gate). (gates_in (take start freed) ++ gates_in new) ++ gates_in gates) back
      ∙ ap (λ (gates : List Gate). (gates ++ gates_in new) ++ gates_in (drop behind freed)) left
      ∙ ap (λ (gates : List Gate). (a ++ gates) ++ gates_in (drop behind freed)) new_taken
      ∙ ap (λ (gates : List Gate). (a ++ new) ++ gates) right
      ∙ append_assoc a new z
