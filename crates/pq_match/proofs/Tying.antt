-- The next gate of a pattern is tied to a wire: it shares it with a chosen gate, or with the gate that binds it.
use Rattle.std.proofs.Common.{◌≡◌, ◌≢◌, ℕ, ◌+◌, ◌-◌, ◌<◌, ◌≤◌, Bool, not, List, length, get_or, set, refl, sym, ap, subst, ◌∙◌, arith, inl, inr, ◌⊎◌}
use Rattle.std.proofs.lemmas.Bool.{cases_order}
use Rattle.std.proofs.lemmas.Grind.{get_or-set_at}
use Rattle.pq_gate.specs.declared.gate.Gate.{Gate}
use Rattle.pq_gate.specs.Circuit.{IsCircuit}
use Rattle.pq_gate.specs.Commuting.{Touches, Commutes}
use Rattle.pq_links.specs.Wires.{wire_of}
use Rattle.pq_links.specs.Links.{IsNextOn}
use Rattle.pq_links.specs.Slots.{no_wire, free_slot, AreSlots}
use Rattle.pq_match.specs.declared.cursors.Cursors.{Cursors}
use Rattle.pq_match.specs.declared.looked.Looked.{Looked}
use Rattle.pq_match.specs.declared.ties.Binding.{Binding}
use Rattle.pq_match.specs.Redex.{gate_at}
use Rattle.pq_match.specs.Search.{IsPassed, IsPassable, IsGrown, IsFull, Begins}
use Rattle.pq_match.specs.Seek.{IsMarked, LooksAtMore, LookAlike, HasNoFullAlike, AreLookedAt, AreCursors, AreAhead, HaveMovedOn}
use Rattle.pq_match.specs.Ties.{IsShared, IsBinding, MayBind, IsStop, IsTiedBy}
use Rattle.pq_match.proofs.CursorLaws.{pattern_wire, moved_next}
use Rattle.pq_match.proofs.LookingAlike.{alike_less, as_long, chosen_same}
use Rattle.pq_match.proofs.SearchTouches.{touched, touching}
use Rattle.pq_match.proofs.Seeking.{passable_back}

-- a gate that isn't in a free slot has no wire of one
pub taken_side : (gates : List Gate) (wire p : ℕ) (one : Bool) → AreSlots gates → p < length gates → wire ≢ no_wire → Touches (gate_at gates p) wire → wire_of one (gate_at gates p) ≢ no_wire
taken_side gates wire p one slots inside taken uses none =
    let free : gate_at gates p ≡ free_slot = slots p inside (subst (Touches (gate_at gates p)) none (touching (gate_at gates p) one)) in
    by (subst (λ (g : Gate). Touches g wire) free uses)
  where
    by : (wire ≡ no_wire) ⊎ (wire ≡ no_wire) → ⊥
    by (inl is) = taken is
    by (inr is) = taken is

-- a wire that a later gate of the pattern shares with a chosen one, in slots that look alike
module _ {gates other pattern : List Gate} {looked : Looked} {places full : List ℕ} {count : ℕ} (alike : LookAlike (get_or places 0 0) looked gates other)
    (grown : IsGrown gates pattern (length gates) places count) (are : AreLookedAt gates looked places count) (is : IsFull other pattern (length other) full) (begins : Begins places count full) where
  chosen_wire : (at : ℕ) (one : Bool) → at < count → wire_of one (gate_at other (get_or full at 0)) ≡ wire_of one (gate_at gates (get_or places at 0))
  chosen_wire at one below =
      ap (λ (p : ℕ). wire_of one (gate_at other p)) (begins at below) ∙ ap (wire_of one) (sym (chosen_same alike refl grown are at below))

  led_on : (at u : ℕ) (one side : Bool) → at < count → at ≤ u → u < length pattern → wire_of one (gate_at pattern at) ≡ wire_of side (gate_at pattern u) →
      wire_of side (gate_at other (get_or full u 0)) ≡ wire_of one (gate_at gates (get_or places at 0))
  led_on at u one side below upto inside same = sym (((is.fitting u inside).wires at upto one side).1 same) ∙ chosen_wire at one below

  led_back : (at u : ℕ) (one side : Bool) → at < count → at ≤ u → u < length pattern → wire_of side (gate_at other (get_or full u 0)) ≡ wire_of one (gate_at gates (get_or places at 0)) →
      wire_of one (gate_at pattern at) ≡ wire_of side (gate_at pattern u)
  led_back at u one side below upto inside same = ((is.fitting u inside).wires at upto one side).0 (chosen_wire at one below ∙ sym same)

-- it is tied by a wire that it shares
pub tied_by_shared : {gates pattern : List Gate} {looked : Looked} {places : List ℕ} {count from : ℕ} {cursors : Cursors} {wire : ℕ} → IsCircuit 3 pattern → count < length pattern →
    AreCursors gates pattern places count from cursors → IsGrown gates pattern (length gates) places count → AreLookedAt gates looked places count → IsShared pattern count wire →
    IsTiedBy gates pattern looked places count from cursors
tied_by_shared {gates} {pattern} {looked} {places} {count} {from} {cursors} {wire} circuit next are grown looked_at shared =
    let one = touched (gate_at pattern shared.at) wire shared.before in
    let side = touched (gate_at pattern count) wire shared.own in
    let leads = are.leads shared.at one.0 shared.below in
    let at_below : shared.at < count = shared.below in
    record {
      cursor = wire_of one.0 (gate_at pattern shared.at);
      below = pattern_wire pattern circuit shared.at one.0 (omega arith);
      marked = subst (IsMarked looked.mask) (sym leads) (looked_at.marked shared.at one.0 shared.below);
      next = subst (λ (w : ℕ). IsNextOn gates w from (get_or cursors.next (wire_of one.0 (gate_at pattern shared.at)) 0)) (sym leads) (are.next shared.at one.0 shared.below);
      on = λ other slots alike full is begins.
          subst (Touches (gate_at other (get_or full count 0))) (led_on alike grown looked_at is begins shared.at count one.0 side.0 shared.below (omega arith) next (sym one.1 ∙ side.1) ∙ sym leads)
          (touching (gate_at other (get_or full count 0)) side.0);
    }

-- where more is looked at, and where the cursors move on, it stays tied
pub tied_more : {gates pattern : List Gate} {less more : Looked} {places : List ℕ} {count place : ℕ} {cursors : Cursors} → LooksAtMore less more →
    IsTiedBy gates pattern less places count place cursors → IsTiedBy gates pattern more places count place cursors
tied_more looks tied = record {
  cursor = tied.cursor;
  below = tied.below;
  marked = (tied.marked.0, looks.marks _ tied.marked.1);
  next = tied.next;
  on = λ other slots alike. tied.on other slots (alike_less looks alike);
}

pub tied_on : {gates pattern : List Gate} {looked : Looked} {places : List ℕ} {count from : ℕ} {cursors : Cursors} (place : ℕ) → AreAhead place cursors → from ≤ place →
    IsTiedBy gates pattern looked places count from cursors → IsTiedBy gates pattern looked places count place cursors
tied_on place ahead upto tied = record {
  cursor = tied.cursor;
  below = tied.below;
  marked = tied.marked;
  next = record {
    ahead = ahead tied.cursor tied.below;
    uses = tied.next.uses;
    none = λ p above less inside. tied.next.none p (omega arith) less inside;
    past = tied.next.past;
  };
  on = tied.on;
}

pub tied_moved : {gates pattern : List Gate} {looked : Looked} {places : List ℕ} {count place : ℕ} {old new : Cursors} → IsCircuit 3 pattern → count < length pattern →
    AreCursors gates pattern places count place old → AreAhead place old → place < length gates → HaveMovedOn gates place old new →
    IsTiedBy gates pattern looked places count place old → IsTiedBy gates pattern looked places count (place + 1) new
tied_moved {gates} {pattern} {looked} {places} {count} {place} {old} {new} on next are ahead inside moved tied =
    let same : get_or new.wires tied.cursor 0 ≡ get_or old.wires tied.cursor 0 = ap (λ (xs : List ℕ). get_or xs tied.cursor 0) moved.wires in
    record {
      cursor = tied.cursor;
      below = tied.below;
      marked = subst (IsMarked looked.mask) (sym same) tied.marked;
      next = subst (λ (w : ℕ). IsNextOn gates w (place + 1) (get_or new.next tied.cursor 0)) (sym same) (moved_next on next are ahead inside moved tied.cursor tied.below tied.next);
      on = λ other slots alike full is begins. subst (Touches (gate_at other (get_or full count 0))) (sym same) (tied.on other slots alike full is begins);
    }

-- a cursor that is led to the wire on which the next gate has to stand
pub bound_tied : {gates pattern : List Gate} {looked : Looked} {places : List ℕ} {count from : ℕ} (old : Cursors) (y to next_to : ℕ) → y < 3 → y < length old.wires → y < length old.next →
    IsMarked looked.mask to → IsNextOn gates to from next_to →
    ((other : List Gate) → AreSlots other → LookAlike (get_or places 0 0) looked gates other → (full : List ℕ) → IsFull other pattern (length other) full → Begins places count full →
    Touches (gate_at other (get_or full count 0)) to) →
    IsTiedBy gates pattern looked places count from (record { wires = set old.wires y to; next = set old.next y next_to })
bound_tied {gates} {pattern} {looked} {places} {count} {from} old y to next_to below wires_long next_long marked next on = record {
  cursor = y;
  below = below;
  marked = subst (IsMarked looked.mask) (sym wire) marked;
  next = subst (λ (w : ℕ). IsNextOn gates w from (get_or (set old.next y next_to) y 0)) (sym wire)
      (subst (λ (n : ℕ). IsNextOn gates to from n) (sym (get_or-set_at old.next y y next_to 0 refl next_long)) next);
  on = λ other slots alike full is begins. subst (Touches (gate_at other (get_or full count 0))) (sym wire) (on other slots alike full is begins);
}
  where
    wire : get_or (set old.wires y to) y 0 ≡ to
    wire = get_or-set_at old.wires y y to 0 refl wires_long

-- The binding gate stands where the walk along the used wire has to stop.
module _ {gates pattern : List Gate} {looked : Looked} {places : List ℕ} {count from stop : ℕ} {cursors : Cursors} {binding : Binding} (is_binding : IsBinding pattern count binding)
    (are : AreCursors gates pattern places count from cursors) (grown : IsGrown gates pattern (length gates) places count) (looked_at : AreLookedAt gates looked places count)
    (some : 0 < count) (from_is : from ≡ get_or places (count - 1) 0 + 1)
    (stops : IsStop gates (gate_at pattern binding.gate) binding.last (get_or cursors.wires (wire_of binding.last (gate_at pattern binding.gate)) 0) from stop)
    (near : stop < looked.reach ⊎ (length gates < looked.reach)) where
  wire : ℕ
  wire = get_or cursors.wires (wire_of binding.last (gate_at pattern binding.gate)) 0

  one : (side : Bool) × (wire_of binding.last (gate_at pattern binding.gate) ≡ wire_of side (gate_at pattern is_binding.at))
  one = touched (gate_at pattern is_binding.at) (wire_of binding.last (gate_at pattern binding.gate)) is_binding.before

  leads : get_or cursors.wires (wire_of binding.last (gate_at pattern binding.gate)) 0 ≡ wire_of one.0 (gate_at gates (get_or places is_binding.at 0))
  leads = ap (λ (v : ℕ). get_or cursors.wires v 0) one.1 ∙ are.leads is_binding.at one.0 is_binding.below

  pub used_marked : IsMarked looked.mask (get_or cursors.wires (wire_of binding.last (gate_at pattern binding.gate)) 0)
  used_marked = subst (IsMarked looked.mask) (sym leads) (looked_at.marked is_binding.at one.0 is_binding.below)

  before_from : (s : ℕ) → s < count → get_or places s 0 < from
  before_from s below = by (cases_order s (count - 1))
    where
      by : (s ≡ count - 1) ⊎ ((s < count - 1) ⊎ (count - 1 < s)) → get_or places s 0 < from
      by (inl same) = (let e : get_or places s 0 ≡ get_or places (count - 1) 0 = ap (λ (k : ℕ). get_or places k 0) same in omega (arith, from_is, e))
      by (inr (inl less)) = (let rise : get_or places s 0 < get_or places (count - 1) 0 = grown.rising s (count - 1) less (omega arith) in omega (arith, from_is, rise))
      by (inr (inr more)) = absurd (omega arith)

  -- in slots that look alike
  module _ {other : List Gate} {full : List ℕ} (slots : AreSlots gates) (alike : LookAlike (get_or places 0 0) looked gates other)
      (is : IsFull other pattern (length other) full) (begins : Begins places count full) where
    behind_from : (r : ℕ) → count ≤ r → r < length pattern → from ≤ get_or full r 0
    behind_from r upto inside =
        let e : get_or full (count - 1) 0 ≡ get_or places (count - 1) 0 = begins (count - 1) (omega arith) in
        let rise : get_or full (count - 1) 0 < get_or full r 0 = is.rising (count - 1) r (omega arith) inside in
        omega (arith, from_is, e, rise)

    start_before : get_or places 0 0 < from
    start_before = before_from 0 some

    -- a gate on the used wire, from there on up to where the walk stops, is the same
    same_on : (p : ℕ) → from ≤ p → p < looked.reach → Touches (gate_at gates p) (get_or cursors.wires (wire_of binding.last (gate_at pattern binding.gate)) 0) ⊎
        Touches (gate_at other p) (get_or cursors.wires (wire_of binding.last (gate_at pattern binding.gate)) 0) → gate_at gates p ≡ gate_at other p
    same_on p above below uses = (let s : get_or places 0 0 < from = start_before in alike.same p _ (omega arith) below used_marked uses)

    side_is : wire_of binding.last (gate_at other (get_or full binding.gate 0)) ≡ get_or cursors.wires (wire_of binding.last (gate_at pattern binding.gate)) 0
    side_is =
        let a : is_binding.at < count = is_binding.below in
        let b : count < binding.gate = is_binding.behind in
        led_on alike grown looked_at is begins is_binding.at binding.gate one.0 binding.last is_binding.below (omega arith) is_binding.inside (sym one.1) ∙ sym leads

    binds_there : MayBind (gate_at pattern binding.gate) binding.last (get_or cursors.wires (wire_of binding.last (gate_at pattern binding.gate)) 0) (gate_at other (get_or full binding.gate 0))
    binds_there = record { kind = (is.fitting binding.gate is_binding.inside).kind; side = side_is }

    uses_there : Touches (gate_at other (get_or full binding.gate 0)) (get_or cursors.wires (wire_of binding.last (gate_at pattern binding.gate)) 0)
    uses_there = subst (Touches (gate_at other (get_or full binding.gate 0))) side_is (touching (gate_at other (get_or full binding.gate 0)) binding.last)

    same_there : get_or full binding.gate 0 < looked.reach → gate_at gates (get_or full binding.gate 0) ≡ gate_at other (get_or full binding.gate 0)
    same_there below = (let b : count < binding.gate = is_binding.behind in same_on (get_or full binding.gate 0) (behind_from binding.gate (omega arith) is_binding.inside) below (inr uses_there))

    -- it doesn't stand before that place,
    pub not_before_stop : stop ≤ get_or full binding.gate 0
    not_before_stop = by (cases_order (get_or full binding.gate 0) stop)
      where
        in_other : get_or full binding.gate 0 < length other
        in_other = is.inside binding.gate is_binding.inside

        in_reach : get_or full binding.gate 0 < stop → stop < looked.reach ⊎ (length gates < looked.reach) → get_or full binding.gate 0 < looked.reach
        in_reach less (inl below) = omega arith
        in_reach less (inr whole) = (let l = as_long alike whole in let i : get_or full binding.gate 0 < length other = in_other in omega (arith, l, i, whole))

        clash : get_or full binding.gate 0 < stop → ⊥
        clash less =
            let below : get_or full binding.gate 0 < looked.reach = in_reach less near in
            let b : count < binding.gate = is_binding.behind in
            stops.none (get_or full binding.gate 0) (behind_from binding.gate (omega arith) is_binding.inside) less ((alike.long (get_or full binding.gate 0) below).1 in_other)
            (subst (MayBind (gate_at pattern binding.gate) binding.last (get_or cursors.wires (wire_of binding.last (gate_at pattern binding.gate)) 0)) (sym (same_there below)) binds_there)

        by : (get_or full binding.gate 0 ≡ stop) ⊎ ((get_or full binding.gate 0 < stop) ⊎ (stop < get_or full binding.gate 0)) → stop ≤ get_or full binding.gate 0
        by (inl same) = omega arith
        by (inr (inl less)) = absurd (clash less)
        by (inr (inr more)) = omega arith

    module _ (inside : stop < length gates) (blocks : IsPassable gates places count stop → ⊥) where
      stop_near : stop < looked.reach
      stop_near = by near
        where
          by : stop < looked.reach ⊎ (length gates < looked.reach) → stop < looked.reach
          by (inl below) = below
          by (inr whole) = omega arith

      same_stop : gate_at gates stop ≡ gate_at other stop
      same_stop = same_on stop stops.ahead stop_near (inl (stops.uses inside))

      -- no chosen gate stands at that place but the binding one
      passed : stop < get_or full binding.gate 0 → IsPassed full (length pattern) stop
      passed less r below same = by (cases_order r binding.gate) (cases_order r count)
        where
          touches : Touches (gate_at other (get_or full r 0)) (get_or cursors.wires (wire_of binding.last (gate_at pattern binding.gate)) 0)
          touches =
              subst (λ (p : ℕ). Touches (gate_at other p) (get_or cursors.wires (wire_of binding.last (gate_at pattern binding.gate)) 0)) (sym same)
              (subst (λ (g : Gate). Touches g (get_or cursors.wires (wire_of binding.last (gate_at pattern binding.gate)) 0)) same_stop (stops.uses inside))

          at : is_binding.at < count
          at = is_binding.below

          on_used : count ≤ r → Touches (gate_at pattern r) (wire_of binding.last (gate_at pattern binding.gate))
          on_used upto =
              let side = touched (gate_at other (get_or full r 0)) (get_or cursors.wires (wire_of binding.last (gate_at pattern binding.gate)) 0) touches in
              let a : is_binding.at < count = at in
              subst (Touches (gate_at pattern r)) (sym (led_back alike grown looked_at is begins is_binding.at r one.0 side.0 is_binding.below (omega arith) below (sym side.1 ∙ leads)) ∙ sym one.1)
              (touching (gate_at pattern r) side.0)

          early : r < count → ⊥
          early less_count =
              let e : get_or full r 0 ≡ get_or places r 0 = begins r less_count in
              let b : get_or places r 0 < from = before_from r less_count in
              let a : from ≤ stop = stops.ahead in
              omega (arith, e, b, a, same)

          by : (r ≡ binding.gate) ⊎ ((r < binding.gate) ⊎ (binding.gate < r)) → (r ≡ count) ⊎ ((r < count) ⊎ (count < r)) → ⊥
          by (inl is_gate) _ = (let e : get_or full r 0 ≡ get_or full binding.gate 0 = ap (λ (k : ℕ). get_or full k 0) is_gate in omega (arith, e, same, less))
          by (inr (inr later)) _ = (let rise : get_or full binding.gate 0 < get_or full r 0 = is.rising binding.gate r later below in omega (arith, rise, same, less))
          by (inr (inl sooner)) (inl here) = is_binding.between r (omega arith) sooner (on_used (omega arith))
          by (inr (inl sooner)) (inr (inl less_count)) = early less_count
          by (inr (inl sooner)) (inr (inr behind)) = is_binding.between r (omega arith) sooner (on_used (omega arith))

      -- nor behind it
      pub at_stop : get_or full binding.gate 0 ≡ stop
      at_stop = by (cases_order (get_or full binding.gate 0) stop)
        where
          passes : stop < get_or full binding.gate 0 → IsPassable other places count stop
          passes less = record {
            commute = λ s below.
                (let e : get_or full s 0 ≡ get_or places s 0 = begins s below in
                let b : get_or places s 0 < from = before_from s below in
                let a : from ≤ stop = stops.ahead in
                let c : count < binding.gate = is_binding.behind in
                let d : binding.gate < length pattern = is_binding.inside in
                subst (λ (p : ℕ). Commutes (gate_at other p) (gate_at other stop)) e
                (is.clear binding.gate is_binding.inside s stop (omega arith) (passed less) (omega (arith, e, b, a)) less));
          }

          by : (get_or full binding.gate 0 ≡ stop) ⊎ ((get_or full binding.gate 0 < stop) ⊎ (stop < get_or full binding.gate 0)) → get_or full binding.gate 0 ≡ stop
          by (inl same) = same
          by (inr (inl less)) = absurd (let upto : stop ≤ get_or full binding.gate 0 = not_before_stop in omega arith)
          by (inr (inr more)) =
              let s : get_or places 0 0 < from = start_before in
              let a : from ≤ stop = stops.ahead in
              absurd (blocks (passable_back alike refl grown looked_at stop (omega arith) stop_near (passes more)))

      pub binds_at_stop : MayBind (gate_at pattern binding.gate) binding.last (get_or cursors.wires (wire_of binding.last (gate_at pattern binding.gate)) 0) (gate_at gates stop)
      binds_at_stop =
          subst (MayBind (gate_at pattern binding.gate) binding.last (get_or cursors.wires (wire_of binding.last (gate_at pattern binding.gate)) 0))
          (ap (gate_at other) at_stop ∙ sym same_stop) binds_there

      -- so the next gate shares its other wire
      pub bound_there : Touches (gate_at other (get_or full count 0)) (wire_of (not binding.last) (gate_at gates stop))
      bound_there =
          let b : count < binding.gate = is_binding.behind in
          let side = touched (gate_at pattern count) (wire_of (not binding.last) (gate_at pattern binding.gate)) is_binding.joins in
          subst (Touches (gate_at other (get_or full count 0)))
          (((is.fitting binding.gate is_binding.inside).wires count (omega arith) side.0 (not binding.last)).1 (sym side.1)
          ∙ ap (λ (p : ℕ). wire_of (not binding.last) (gate_at other p)) at_stop ∙ ap (wire_of (not binding.last)) (sym same_stop))
          (touching (gate_at other (get_or full count 0)) side.0)

  -- no gate is left that may bind
  pub none_past : AreSlots gates → length gates ≤ stop → HasNoFullAlike gates pattern looked places count
  none_past slots past = record {
    none = λ other other_slots alike. record {
      none = λ full is begins.
          (let l = as_long alike (whole near) in
          let upto : stop ≤ get_or full binding.gate 0 = not_before_stop slots alike is begins in
          let inside : get_or full binding.gate 0 < length other = is.inside binding.gate is_binding.inside in
          omega (arith, l, upto, inside, past));
    };
  }
    where
      whole : stop < looked.reach ⊎ (length gates < looked.reach) → length gates < looked.reach
      whole (inl below) = omega arith
      whole (inr is) = is

  -- or what stops the walk doesn't
  pub none_binds : AreSlots gates → stop < length gates → (IsPassable gates places count stop → ⊥) →
      (MayBind (gate_at pattern binding.gate) binding.last (get_or cursors.wires (wire_of binding.last (gate_at pattern binding.gate)) 0) (gate_at gates stop) → ⊥) → HasNoFullAlike gates pattern looked places count
  none_binds slots inside blocks never = record {
    none = λ other other_slots alike. record { none = λ full is begins. never (binds_at_stop slots alike is begins inside blocks) };
  }
