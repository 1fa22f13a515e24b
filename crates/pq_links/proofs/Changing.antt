-- The chains of slots where a gate goes or comes.
use Rattle.std.proofs.Common.{◌≡◌, ◌≢◌, ℕ, ◌+◌, ◌<◌, ◌≤◌, Bool, true, false, List, length, set, sym, ap, subst, ◌∙◌, arith, inl, inr, ◌⊎◌}
use Rattle.std.proofs.lemmas.Bool.{cases_order, cases_lt}
use Rattle.std.proofs.lemmas.List.{length-set, get_or-set_same, get_or-set_other}
use Rattle.pq_gate.specs.declared.gate.Gate.{Gate}
use Rattle.pq_gate.specs.declared.gate.Gate.TheVariants.{H}
use Rattle.pq_gate.specs.Commuting.{Touches}
use Rattle.pq_links.specs.declared.links.Sides.{Sides}
use Rattle.pq_links.specs.Wires.{wire_of}
use Rattle.pq_links.specs.Places.{gate_at}
use Rattle.pq_links.specs.Links.{side, side_at, far, IsNextOn, IsLastOn}
use Rattle.pq_links.specs.Slots.{no_wire, free_slot, AreSlots, AreChained, IsGap}
use Rattle.pq_links.specs.Leading.{IsLedAt, AreLed}
use Rattle.pq_links.proofs.Touching.{touched, touching}
use Rattle.pq_links.proofs.Neighbours.{AgreeBut, same_next, same_last, last_behind, next_ahead, next_kept, last_kept, gap_left, next_over, last_over, next_of_new, last_of_new, next_to_new, last_to_new}

-- a slot that is set differs there alone
pub set_agrees : (slots : List Gate) (place : ℕ) (gate : Gate) → AgreeBut place slots (set slots place gate)
set_agrees slots place gate = record {
  long = length-set slots place gate;
  same = λ p other. get_or-set_other slots place p gate (H 0) other;
}

-- a free slot uses no wire
pub free_uses : (wire : ℕ) (gate : Gate) → gate ≡ free_slot → wire ≢ no_wire → ¬ Touches gate wire
free_uses wire gate free valid uses = elim (subst (λ (g : Gate). Touches g wire) free uses) [ inl is ↦ valid is | inr is ↦ valid is ]

-- the wires of a free slot are none
pub free_wire : (one : Bool) (gate : Gate) → gate ≡ free_slot → wire_of one gate ≡ no_wire
free_wire true gate free = ap (λ (g : Gate). wire_of true g) free
free_wire false gate free = ap (λ (g : Gate). wire_of false g) free

-- a place on a wire that is another one
on_wire : {wire other : ℕ} → wire ≡ other → wire ≢ no_wire → other ≢ no_wire
on_wire same valid none = valid (same ∙ none)

module _ (slots : List Gate) (place : ℕ) (few : length slots < far) (inside : place < length slots) (next next_new previous previous_new : List Sides) (before after : Sides)
    (chained : AreChained slots next previous) (is_before : (i : Bool) → side i before ≡ side_at i previous place) (is_after : (i : Bool) → side i after ≡ side_at i next place) where
  last_of : (i : Bool) → wire_of i (gate_at slots place) ≢ no_wire → IsLastOn slots (wire_of i (gate_at slots place)) place (side i before)
  last_of i valid = subst (λ (l : ℕ). IsLastOn slots (wire_of i (gate_at slots place)) place l) (sym (is_before i)) (chained.previous place i inside valid)

  next_of : (i : Bool) → wire_of i (gate_at slots place) ≢ no_wire → IsNextOn slots (wire_of i (gate_at slots place)) (place + 1) (side i after)
  next_of i valid = subst (λ (n : ℕ). IsNextOn slots (wire_of i (gate_at slots place)) (place + 1) n) (sym (is_after i)) (chained.next place i inside valid)

  freed : gate_at (set slots place free_slot) place ≡ free_slot
  freed = get_or-set_same slots place free_slot (H 0) inside

  unused : (wire : ℕ) → wire ≢ no_wire → ¬ Touches (gate_at (set slots place free_slot) place) wire
  unused wire valid = free_uses wire (gate_at (set slots place free_slot) place) freed valid

  -- the gap that the gate leaves
  pub removed_gap : (i : Bool) → wire_of i (gate_at slots place) ≢ no_wire → IsGap (set slots place free_slot) (wire_of i (gate_at slots place)) place (side i before) (side i after)
  removed_gap i valid = gap_left (set_agrees slots place free_slot) few inside (last_of i valid) (next_of i valid) (unused (wire_of i (gate_at slots place)) valid)

  next_freed : AreLed slots (gate_at slots place) before after next next_new → (p : ℕ) (one : Bool) → p < length slots → (p ≡ place → ⊥) → wire_of one (gate_at slots p) ≢ no_wire →
      IsNextOn (set slots place free_slot) (wire_of one (gate_at slots p)) (p + 1) (side_at one next_new p)
  next_freed led p one below other valid = by (led.each p one below)
    where
      by : ((i : Bool) × IsLedAt slots (gate_at slots place) before one p i × (side_at one next_new p ≡ side i after))
          ⊎ (((i : Bool) → ¬ IsLedAt slots (gate_at slots place) before one p i) × (side_at one next_new p ≡ side_at one next p)) →
          IsNextOn (set slots place free_slot) (wire_of one (gate_at slots p)) (p + 1) (side_at one next_new p)
      by (inl (i, at, noted)) =
          let valid_i : wire_of i (gate_at slots place) ≢ no_wire = on_wire at.on valid in
          let last : IsLastOn slots (wire_of i (gate_at slots place)) place (side i before) = last_of i valid_i in
          let less : side i before < place = less_than (cases_lt (side i before) place) last at.here in
          let over : IsNextOn (set slots place free_slot) (wire_of i (gate_at slots place)) (side i before + 1) (side i after) =
          next_over (set_agrees slots place free_slot) few inside last (next_of i valid_i) (unused (wire_of i (gate_at slots place)) valid_i) less in
          subst (λ (n : ℕ). IsNextOn (set slots place free_slot) (wire_of one (gate_at slots p)) (p + 1) n) (sym noted)
          (subst (λ (q : ℕ). IsNextOn (set slots place free_slot) (wire_of one (gate_at slots p)) (q + 1) (side i after)) (sym at.here)
          (subst (λ (w : ℕ). IsNextOn (set slots place free_slot) w (side i before + 1) (side i after)) (sym at.on) over))
        where
          less_than : {w b : ℕ} → (b < place) ⊎ (place ≤ b) → IsLastOn slots w place b → p ≡ b → b < place
          less_than (inl less) last here = less
          less_than {w} {b} (inr past) last here = absurd (let e : b ≡ far = last.past past in omega arith)
      by (inr (none, kept)) =
          let old : IsNextOn slots (wire_of one (gate_at slots p)) (p + 1) (side_at one next p) = chained.next p one below valid in
          subst (λ (n : ℕ). IsNextOn (set slots place free_slot) (wire_of one (gate_at slots p)) (p + 1) n) (sym kept)
          (next_kept (set_agrees slots place free_slot) old (λ here. not_here here old) (λ _ _. unused (wire_of one (gate_at slots p)) valid))
        where
          not_on : (i : Bool) × (wire_of one (gate_at slots p) ≡ wire_of i (gate_at slots place)) → IsLastOn slots (wire_of one (gate_at slots p)) place p → ⊥
          not_on (i, on) is = none i (record {
            here = same_last is (subst (λ (w : ℕ). IsLastOn slots w place (side i before)) (sym on) (last_of i (on_wire on valid)));
            on = on;
          })

          not_here : {n : ℕ} → n ≡ place → IsNextOn slots (wire_of one (gate_at slots p)) (p + 1) n → ⊥
          not_here {n} here old =
              let a : p + 1 ≤ n = old.ahead in
              not_on (touched (gate_at slots place) (wire_of one (gate_at slots p)) (subst (λ (q : ℕ). Touches (gate_at slots q) (wire_of one (gate_at slots p))) here (old.uses (omega arith))))
              (last_behind p n place old (omega arith) (omega arith) (omega arith) (touching (gate_at slots p) one))

  previous_freed : AreLed slots (gate_at slots place) after before previous previous_new → (p : ℕ) (one : Bool) → p < length slots → (p ≡ place → ⊥) → wire_of one (gate_at slots p) ≢ no_wire →
      IsLastOn (set slots place free_slot) (wire_of one (gate_at slots p)) p (side_at one previous_new p)
  previous_freed led p one below other valid = by (led.each p one below)
    where
      by : ((i : Bool) × IsLedAt slots (gate_at slots place) after one p i × (side_at one previous_new p ≡ side i before))
          ⊎ (((i : Bool) → ¬ IsLedAt slots (gate_at slots place) after one p i) × (side_at one previous_new p ≡ side_at one previous p)) →
          IsLastOn (set slots place free_slot) (wire_of one (gate_at slots p)) p (side_at one previous_new p)
      by (inl (i, at, noted)) =
          let valid_i : wire_of i (gate_at slots place) ≢ no_wire = on_wire at.on valid in
          let is_below : side i after < length slots = subst (λ (q : ℕ). q < length slots) at.here below in
          let over : IsLastOn (set slots place free_slot) (wire_of i (gate_at slots place)) (side i after) (side i before) =
          last_over (set_agrees slots place free_slot) few inside (last_of i valid_i) (next_of i valid_i) (unused (wire_of i (gate_at slots place)) valid_i) is_below in
          subst (λ (l : ℕ). IsLastOn (set slots place free_slot) (wire_of one (gate_at slots p)) p l) (sym noted)
          (subst (λ (q : ℕ). IsLastOn (set slots place free_slot) (wire_of one (gate_at slots p)) q (side i before)) (sym at.here)
          (subst (λ (w : ℕ). IsLastOn (set slots place free_slot) w (side i after) (side i before)) (sym at.on) over))
      by (inr (none, kept)) =
          let old : IsLastOn slots (wire_of one (gate_at slots p)) p (side_at one previous p) = chained.previous p one below valid in
          subst (λ (l : ℕ). IsLastOn (set slots place free_slot) (wire_of one (gate_at slots p)) p l) (sym kept)
          (last_kept (set_agrees slots place free_slot) old (λ here. not_here here old (cases_lt (side_at one previous p) p)) (λ _ _. unused (wire_of one (gate_at slots p)) valid))
        where
          not_on : (i : Bool) × (wire_of one (gate_at slots p) ≡ wire_of i (gate_at slots place)) → IsNextOn slots (wire_of one (gate_at slots p)) (place + 1) p → ⊥
          not_on (i, on) is = none i (record {
            here = same_next is (subst (λ (w : ℕ). IsNextOn slots w (place + 1) (side i after)) (sym on) (next_of i (on_wire on valid)));
            on = on;
          })

          not_here : {l : ℕ} → l ≡ place → IsLastOn slots (wire_of one (gate_at slots p)) p l → (l < p) ⊎ (p ≤ l) → ⊥
          not_here {l} here old (inr past) = (let e : l ≡ far = old.past past in omega arith)
          not_here {l} here old (inl less) =
              not_on (touched (gate_at slots place) (wire_of one (gate_at slots p)) (subst (λ (q : ℕ). Touches (gate_at slots q) (wire_of one (gate_at slots p))) here (old.uses less)))
              (next_ahead p l (place + 1) old (λ _. omega arith) (omega arith) below (touching (gate_at slots p) one))

  -- the chains without the gate
  pub removed : AreLed slots (gate_at slots place) before after next next_new →
      AreLed slots (gate_at slots place) after before previous previous_new → AreChained (set slots place free_slot) next_new previous_new
  removed led_next led_previous = record {
    nexts = led_next.long ∙ (chained.nexts ∙ sym (length-set slots place free_slot));
    previouses = led_previous.long ∙ (chained.previouses ∙ sym (length-set slots place free_slot));
    next = λ p one below valid. next_at p one (subst (λ (n : ℕ). p < n) (length-set slots place free_slot) below) valid (cases_order p place);
    previous = λ p one below valid. previous_at p one (subst (λ (n : ℕ). p < n) (length-set slots place free_slot) below) valid (cases_order p place);
  }
    where
      other_next : (p : ℕ) (one : Bool) → p < length slots → wire_of one (gate_at (set slots place free_slot) p) ≢ no_wire → (p ≡ place → ⊥) →
          IsNextOn (set slots place free_slot) (wire_of one (gate_at (set slots place free_slot) p)) (p + 1) (side_at one next_new p)
      other_next p one below valid other =
          let same : gate_at (set slots place free_slot) p ≡ gate_at slots p = get_or-set_other slots place p free_slot (H 0) other in
          subst (λ (g : Gate). IsNextOn (set slots place free_slot) (wire_of one g) (p + 1) (side_at one next_new p)) (sym same)
          (next_freed led_next p one below other (subst (λ (g : Gate). wire_of one g ≢ no_wire) same valid))

      other_previous : (p : ℕ) (one : Bool) → p < length slots → wire_of one (gate_at (set slots place free_slot) p) ≢ no_wire → (p ≡ place → ⊥) →
          IsLastOn (set slots place free_slot) (wire_of one (gate_at (set slots place free_slot) p)) p (side_at one previous_new p)
      other_previous p one below valid other =
          let same : gate_at (set slots place free_slot) p ≡ gate_at slots p = get_or-set_other slots place p free_slot (H 0) other in
          subst (λ (g : Gate). IsLastOn (set slots place free_slot) (wire_of one g) p (side_at one previous_new p)) (sym same)
          (previous_freed led_previous p one below other (subst (λ (g : Gate). wire_of one g ≢ no_wire) same valid))

      next_at : (p : ℕ) (one : Bool) → p < length slots → wire_of one (gate_at (set slots place free_slot) p) ≢ no_wire → (p ≡ place) ⊎ ((p < place) ⊎ (place < p)) →
          IsNextOn (set slots place free_slot) (wire_of one (gate_at (set slots place free_slot) p)) (p + 1) (side_at one next_new p)
      next_at p one below valid (inl here) = absurd (valid (free_wire one (gate_at (set slots place free_slot) p) (ap (λ (q : ℕ). gate_at (set slots place free_slot) q) here ∙ freed)))
      next_at p one below valid (inr (inl less)) = other_next p one below valid (λ here. omega arith)
      next_at p one below valid (inr (inr more)) = other_next p one below valid (λ here. omega arith)

      previous_at : (p : ℕ) (one : Bool) → p < length slots → wire_of one (gate_at (set slots place free_slot) p) ≢ no_wire → (p ≡ place) ⊎ ((p < place) ⊎ (place < p)) →
          IsLastOn (set slots place free_slot) (wire_of one (gate_at (set slots place free_slot) p)) p (side_at one previous_new p)
      previous_at p one below valid (inl here) = absurd (valid (free_wire one (gate_at (set slots place free_slot) p) (ap (λ (q : ℕ). gate_at (set slots place free_slot) q) here ∙ freed)))
      previous_at p one below valid (inr (inl less)) = other_previous p one below valid (λ here. omega arith)
      previous_at p one below valid (inr (inr more)) = other_previous p one below valid (λ here. omega arith)

-- slots stay slots where one of them is freed, or takes a gate on wires
pub slots_kept : (slots : List Gate) (place : ℕ) (gate : Gate) → place < length slots → (Touches gate no_wire → gate ≡ free_slot) → AreSlots slots → AreSlots (set slots place gate)
slots_kept slots place gate inside fits are p below uses = by (cases_order p place)
  where
    at_other : (p ≡ place → ⊥) → gate_at (set slots place gate) p ≡ free_slot
    at_other other =
        let same : gate_at (set slots place gate) p ≡ gate_at slots p = get_or-set_other slots place p gate (H 0) other in
        same ∙ are p (subst (λ (n : ℕ). p < n) (length-set slots place gate) below) (subst (λ (g : Gate). Touches g no_wire) same uses)

    by : (p ≡ place) ⊎ ((p < place) ⊎ (place < p)) → gate_at (set slots place gate) p ≡ free_slot
    by (inl here) =
        let same : gate_at (set slots place gate) p ≡ gate = ap (λ (q : ℕ). gate_at (set slots place gate) q) here ∙ get_or-set_same slots place gate (H 0) inside in
        same ∙ fits (subst (λ (g : Gate). Touches g no_wire) same uses)
    by (inr (inl less)) = at_other (λ here. omega arith)
    by (inr (inr more)) = at_other (λ here. omega arith)

module _ (slots : List Gate) (place : ℕ) (few : length slots < far) (inside : place < length slots) (gate : Gate) (next next_new previous previous_new : List Sides) (before after here_both : Sides)
    (chained : AreChained slots next previous) (free : gate_at slots place ≡ free_slot) (on_wires : ¬ Touches gate no_wire)
    (gaps : (i : Bool) → IsGap slots (wire_of i gate) place (side i before) (side i after)) (is_here : (i : Bool) → side i here_both ≡ place) where
  placed : gate_at (set slots place gate) place ≡ gate
  placed = get_or-set_same slots place gate (H 0) inside

  valid_wire : (i : Bool) → wire_of i gate ≢ no_wire
  valid_wire i none = on_wires (subst (λ (w : ℕ). Touches gate w) none (touching gate i))

  unused_before : (wire : ℕ) → wire ≢ no_wire → ¬ Touches (gate_at slots place) wire
  unused_before wire valid = free_uses wire (gate_at slots place) free valid

  uses_at : (i : Bool) → Touches (gate_at (set slots place gate) place) (wire_of i gate)
  uses_at i = subst (λ (g : Gate). Touches g (wire_of i gate)) (sym placed) (touching gate i)

  which : (wire : ℕ) → Touches (gate_at (set slots place gate) place) wire → (i : Bool) × (wire ≡ wire_of i gate)
  which wire uses = touched gate wire (subst (λ (g : Gate). Touches g wire) placed uses)

  next_placed : AreLed slots gate before here_both next next_new → (p : ℕ) (one : Bool) → p < length slots → (p ≡ place → ⊥) → wire_of one (gate_at slots p) ≢ no_wire →
      IsNextOn (set slots place gate) (wire_of one (gate_at slots p)) (p + 1) (side_at one next_new p)
  next_placed led p one below other valid = by (led.each p one below)
    where
      by : ((i : Bool) × IsLedAt slots gate before one p i × (side_at one next_new p ≡ side i here_both))
          ⊎ (((i : Bool) → ¬ IsLedAt slots gate before one p i) × (side_at one next_new p ≡ side_at one next p)) →
          IsNextOn (set slots place gate) (wire_of one (gate_at slots p)) (p + 1) (side_at one next_new p)
      by (inl (i, at, noted)) =
          let less : side i before < place = less_than (cases_lt (side i before) place) (gaps i).before at.here in
          let to : IsNextOn (set slots place gate) (wire_of i gate) (side i before + 1) place =
          next_to_new (set_agrees slots place gate) few inside (gaps i) (unused_before (wire_of i gate) (valid_wire i)) (uses_at i) less in
          subst (λ (n : ℕ). IsNextOn (set slots place gate) (wire_of one (gate_at slots p)) (p + 1) n) (sym (noted ∙ is_here i))
          (subst (λ (q : ℕ). IsNextOn (set slots place gate) (wire_of one (gate_at slots p)) (q + 1) place) (sym at.here)
          (subst (λ (w : ℕ). IsNextOn (set slots place gate) w (side i before + 1) place) (sym at.on) to))
        where
          less_than : {w b : ℕ} → (b < place) ⊎ (place ≤ b) → IsLastOn slots w place b → p ≡ b → b < place
          less_than (inl less) last here = less
          less_than {w} {b} (inr past) last here = absurd (let e : b ≡ far = last.past past in omega arith)
      by (inr (none, kept)) =
          let old : IsNextOn slots (wire_of one (gate_at slots p)) (p + 1) (side_at one next p) = chained.next p one below valid in
          subst (λ (n : ℕ). IsNextOn (set slots place gate) (wire_of one (gate_at slots p)) (p + 1) n) (sym kept)
          (next_kept (set_agrees slots place gate) old (λ here. not_here here old) (λ above upto uses. not_on (which (wire_of one (gate_at slots p)) uses)
          (last_behind p (side_at one next p) place old (omega arith) (omega arith) (omega arith) (touching (gate_at slots p) one))))
        where
          not_on : (i : Bool) × (wire_of one (gate_at slots p) ≡ wire_of i gate) → IsLastOn slots (wire_of one (gate_at slots p)) place p → ⊥
          not_on (i, on) is = none i (record {
            here = same_last is (subst (λ (w : ℕ). IsLastOn slots w place (side i before)) (sym on) (gaps i).before);
            on = on;
          })

          not_here : {n : ℕ} → n ≡ place → IsNextOn slots (wire_of one (gate_at slots p)) (p + 1) n → ⊥
          not_here {n} here old =
              unused_before (wire_of one (gate_at slots p)) valid (subst (λ (q : ℕ). Touches (gate_at slots q) (wire_of one (gate_at slots p))) here (old.uses (omega arith)))

  previous_placed : AreLed slots gate after here_both previous previous_new → (p : ℕ) (one : Bool) → p < length slots → (p ≡ place → ⊥) → wire_of one (gate_at slots p) ≢ no_wire →
      IsLastOn (set slots place gate) (wire_of one (gate_at slots p)) p (side_at one previous_new p)
  previous_placed led p one below other valid = by (led.each p one below)
    where
      by : ((i : Bool) × IsLedAt slots gate after one p i × (side_at one previous_new p ≡ side i here_both))
          ⊎ (((i : Bool) → ¬ IsLedAt slots gate after one p i) × (side_at one previous_new p ≡ side_at one previous p)) →
          IsLastOn (set slots place gate) (wire_of one (gate_at slots p)) p (side_at one previous_new p)
      by (inl (i, at, noted)) =
          let is_below : side i after < length slots = subst (λ (q : ℕ). q < length slots) at.here below in
          let to : IsLastOn (set slots place gate) (wire_of i gate) (side i after) place =
          last_to_new (set_agrees slots place gate) few inside (gaps i) (unused_before (wire_of i gate) (valid_wire i)) (uses_at i) is_below in
          subst (λ (l : ℕ). IsLastOn (set slots place gate) (wire_of one (gate_at slots p)) p l) (sym (noted ∙ is_here i))
          (subst (λ (q : ℕ). IsLastOn (set slots place gate) (wire_of one (gate_at slots p)) q place) (sym at.here)
          (subst (λ (w : ℕ). IsLastOn (set slots place gate) w (side i after) place) (sym at.on) to))
      by (inr (none, kept)) =
          let old : IsLastOn slots (wire_of one (gate_at slots p)) p (side_at one previous p) = chained.previous p one below valid in
          subst (λ (l : ℕ). IsLastOn (set slots place gate) (wire_of one (gate_at slots p)) p l) (sym kept)
          (last_kept (set_agrees slots place gate) old (λ here. not_here here old (cases_lt (side_at one previous p) p)) (λ upto behind uses. not_on (which (wire_of one (gate_at slots p)) uses)
          (next_ahead p (side_at one previous p) place old behind (omega arith) below (touching (gate_at slots p) one))))
        where
          not_on : (i : Bool) × (wire_of one (gate_at slots p) ≡ wire_of i gate) → IsNextOn slots (wire_of one (gate_at slots p)) place p → ⊥
          not_on (i, on) is = none i (record {
            here = same_next is (subst (λ (w : ℕ). IsNextOn slots w place (side i after)) (sym on) (gaps i).after);
            on = on;
          })

          not_here : {l : ℕ} → l ≡ place → IsLastOn slots (wire_of one (gate_at slots p)) p l → (l < p) ⊎ (p ≤ l) → ⊥
          not_here {l} here old (inr past) = (let e : l ≡ far = old.past past in omega arith)
          not_here {l} here old (inl less) =
              unused_before (wire_of one (gate_at slots p)) valid (subst (λ (q : ℕ). Touches (gate_at slots q) (wire_of one (gate_at slots p))) here (old.uses less))

  -- the chains with the gate
  pub inserted : AreLed slots gate before here_both next next_new → AreLed slots gate after here_both previous previous_new →
      AreChained (set slots place gate) (set next_new place after) (set previous_new place before)
  inserted led_next led_previous = record {
    nexts = length-set next_new place after ∙ (led_next.long ∙ (chained.nexts ∙ sym (length-set slots place gate)));
    previouses = length-set previous_new place before ∙ (led_previous.long ∙ (chained.previouses ∙ sym (length-set slots place gate)));
    next = λ p one below valid. next_at p one (subst (λ (n : ℕ). p < n) (length-set slots place gate) below) valid (cases_order p place);
    previous = λ p one below valid. previous_at p one (subst (λ (n : ℕ). p < n) (length-set slots place gate) below) valid (cases_order p place);
  }
    where
      other_next : (p : ℕ) (one : Bool) → p < length slots → wire_of one (gate_at (set slots place gate) p) ≢ no_wire → (p ≡ place → ⊥) →
          IsNextOn (set slots place gate) (wire_of one (gate_at (set slots place gate) p)) (p + 1) (side_at one (set next_new place after) p)
      other_next p one below valid other =
          let same : gate_at (set slots place gate) p ≡ gate_at slots p = get_or-set_other slots place p gate (H 0) other in
          subst (λ (s : Sides). IsNextOn (set slots place gate) (wire_of one (gate_at (set slots place gate) p)) (p + 1) (side one s)) (sym (get_or-set_other next_new place p after (record { first = 0; second = 0 }) other))
          (subst (λ (g : Gate). IsNextOn (set slots place gate) (wire_of one g) (p + 1) (side_at one next_new p)) (sym same)
          (next_placed led_next p one below other (subst (λ (g : Gate). wire_of one g ≢ no_wire) same valid)))

      other_previous : (p : ℕ) (one : Bool) → p < length slots → wire_of one (gate_at (set slots place gate) p) ≢ no_wire → (p ≡ place → ⊥) →
          IsLastOn (set slots place gate) (wire_of one (gate_at (set slots place gate) p)) p (side_at one (set previous_new place before) p)
      other_previous p one below valid other =
          let same : gate_at (set slots place gate) p ≡ gate_at slots p = get_or-set_other slots place p gate (H 0) other in
          subst (λ (s : Sides). IsLastOn (set slots place gate) (wire_of one (gate_at (set slots place gate) p)) p (side one s)) (sym (get_or-set_other previous_new place p before (record { first = 0; second = 0 }) other))
          (subst (λ (g : Gate). IsLastOn (set slots place gate) (wire_of one g) p (side_at one previous_new p)) (sym same)
          (previous_placed led_previous p one below other (subst (λ (g : Gate). wire_of one g ≢ no_wire) same valid)))

      own_next : (one : Bool) → IsNextOn (set slots place gate) (wire_of one (gate_at (set slots place gate) place)) (place + 1) (side_at one (set next_new place after) place)
      own_next one =
          subst (λ (s : Sides). IsNextOn (set slots place gate) (wire_of one (gate_at (set slots place gate) place)) (place + 1) (side one s))
          (sym (get_or-set_same next_new place after (record { first = 0; second = 0 }) (let l : length next_new ≡ length next = led_next.long in let m : length next ≡ length slots = chained.nexts in omega arith)))
          (subst (λ (g : Gate). IsNextOn (set slots place gate) (wire_of one g) (place + 1) (side one after)) (sym placed)
          (next_of_new (set_agrees slots place gate) few inside (gaps one) (unused_before (wire_of one gate) (valid_wire one)) (uses_at one)))

      own_previous : (one : Bool) → IsLastOn (set slots place gate) (wire_of one (gate_at (set slots place gate) place)) place (side_at one (set previous_new place before) place)
      own_previous one =
          subst (λ (s : Sides). IsLastOn (set slots place gate) (wire_of one (gate_at (set slots place gate) place)) place (side one s))
          (sym (get_or-set_same previous_new place before (record { first = 0; second = 0 }) (let l : length previous_new ≡ length previous = led_previous.long in let m : length previous ≡ length slots = chained.previouses in omega arith)))
          (subst (λ (g : Gate). IsLastOn (set slots place gate) (wire_of one g) place (side one before)) (sym placed)
          (last_of_new (set_agrees slots place gate) few inside (gaps one) (unused_before (wire_of one gate) (valid_wire one)) (uses_at one)))

      next_at : (p : ℕ) (one : Bool) → p < length slots → wire_of one (gate_at (set slots place gate) p) ≢ no_wire → (p ≡ place) ⊎ ((p < place) ⊎ (place < p)) →
          IsNextOn (set slots place gate) (wire_of one (gate_at (set slots place gate) p)) (p + 1) (side_at one (set next_new place after) p)
      next_at p one below valid (inl here) =
          subst (λ (q : ℕ). IsNextOn (set slots place gate) (wire_of one (gate_at (set slots place gate) q)) (q + 1) (side_at one (set next_new place after) q)) (sym here) (own_next one)
      next_at p one below valid (inr (inl less)) = other_next p one below valid (λ here. omega arith)
      next_at p one below valid (inr (inr more)) = other_next p one below valid (λ here. omega arith)

      previous_at : (p : ℕ) (one : Bool) → p < length slots → wire_of one (gate_at (set slots place gate) p) ≢ no_wire → (p ≡ place) ⊎ ((p < place) ⊎ (place < p)) →
          IsLastOn (set slots place gate) (wire_of one (gate_at (set slots place gate) p)) p (side_at one (set previous_new place before) p)
      previous_at p one below valid (inl here) =
          subst (λ (q : ℕ). IsLastOn (set slots place gate) (wire_of one (gate_at (set slots place gate) q)) q (side_at one (set previous_new place before) q)) (sym here) (own_previous one)
      previous_at p one below valid (inr (inl less)) = other_previous p one below valid (λ here. omega arith)
      previous_at p one below valid (inr (inr more)) = other_previous p one below valid (λ here. omega arith)
