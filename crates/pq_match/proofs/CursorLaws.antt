-- Cursors on the wires of the chosen gates.
use Rattle.std.proofs.Common.{◌≡◌, ◌≢◌, ℕ, ◌+◌, ◌-◌, ◌<◌, ◌≤◌, Bool, true, false, List, length, get_or, set, min, refl, sym, ap, subst, ◌∙◌, arith, inl, inr, ◌⊎◌}
use Rattle.std.proofs.lemmas.Bool.{cases_order}
use Rattle.std.proofs.lemmas.Grind.{get_or-set_at}
use Rattle.std.proofs.lemmas.List.{get_or-set_other}
use Rattle.pq_gate.specs.declared.gate.Gate.{Gate}
use Rattle.pq_gate.specs.Circuit.{IsCircuit}
use Rattle.pq_gate.specs.Commuting.{Touches}
use Rattle.pq_links.specs.Wires.{wire_of}
use Rattle.pq_links.specs.Links.{far, IsNextOn}
use Rattle.pq_links.specs.Slots.{no_wire}
use Rattle.pq_match.specs.declared.looked.Looked.{Looked}
use Rattle.pq_match.specs.declared.cursors.Cursors.{Cursors}
use Rattle.pq_match.specs.Redex.{gate_at}
use Rattle.pq_match.specs.Search.{AreApart, AreAlike, IsFitting, AreEight}
use Rattle.pq_match.specs.Seek.{HasBit, LooksAtMore, AreMarked, IsTaken, IsAtCursor, IsKnownAt, AreCursors, AreAhead, HaveMovedOn, AreLedTo}
use Rattle.pq_match.proofs.Growing.{put_at, put_before}
use Rattle.pq_match.proofs.SearchGates.{wire_below, gate_on_wires}
use Rattle.pq_match.proofs.SearchTouches.{touched}

-- the wires of the pattern are three
pub pattern_wire : (pattern : List Gate) → IsCircuit 3 pattern → (s : ℕ) (one : Bool) → s < length pattern → wire_of one (gate_at pattern s) < 3
pattern_wire pattern on s one below = wire_below 3 (gate_at pattern s) one (gate_on_wires 3 pattern on s below)

module _ {gates pattern : List Gate} {places : List ℕ} {count from : ℕ} {cursors : Cursors} (on : IsCircuit 3 pattern) (next : count < length pattern)
    (are : AreCursors gates pattern places count from cursors) where
  -- a gate before all cursors shares no wire with the chosen ones
  pub cursors_apart : (place : ℕ) → AreAhead place cursors → place ≤ length gates → (p : ℕ) → from ≤ p → p < place → (s : ℕ) → s < count →
      AreApart (gate_at gates (get_or places s 0)) (gate_at gates p)
  cursors_apart place ahead inside p above below s s_below w uses_chosen uses =
      let side = touched (gate_at gates (get_or places s 0)) w uses_chosen in
      let least : place ≤ get_or cursors.next (wire_of side.0 (gate_at pattern s)) 0 =
      ahead (wire_of side.0 (gate_at pattern s)) (pattern_wire pattern on s side.0 (omega arith)) in
      (are.next s side.0 s_below).none p above (omega arith) (omega arith) (subst (Touches (gate_at gates p)) side.1 uses)

  -- cursors at a place are cursors at each later one that they don't stand before
  pub cursors_on : (place : ℕ) → AreAhead place cursors → from ≤ place → AreCursors gates pattern places count place cursors
  cursors_on place ahead upto = record {
    taken = are.taken;
    leads = are.leads;
    standing = λ v below inside. (
      (are.standing v below inside).0,
      record {
        ahead = ahead v below;
        uses = (are.standing v below inside).1.uses;
        none = λ p above less in_gates. (are.standing v below inside).1.none p (omega arith) less in_gates;
        past = (are.standing v below inside).1.past;
      },
    );
    next = λ s one below. record {
      ahead = ahead (wire_of one (gate_at pattern s)) (pattern_wire pattern on s one (omega arith));
      uses = (are.next s one below).uses;
      none = λ p above less inside. (are.next s one below).none p (omega arith) less inside;
      past = (are.next s one below).past;
    };
  }

  module _ {new : Cursors} (ahead : AreAhead from cursors) (inside : from < length gates) (moved : HaveMovedOn gates from cursors new) where
    -- one that stood there goes on on its wire
    goes_on : (v : ℕ) → v < 3 → get_or cursors.next v 0 ≡ from → (get_or cursors.wires v 0 ≢ no_wire) × IsNextOn gates (get_or cursors.wires v 0) (from + 1) (get_or new.next v 0)
    goes_on v below same =
        let in_gates : get_or cursors.next v 0 < length gates = subst (λ (p : ℕ). p < length gates) (sym same) inside in
        let is = are.standing v below in_gates in
        (is.0, moved.next v below same is.0 (subst (λ (p : ℕ). Touches (gate_at gates p) (get_or cursors.wires v 0)) same (is.1.uses in_gates)))

    -- the others stay
    goes_by : (v : ℕ) → v < 3 → from < get_or cursors.next v 0 → (w : ℕ) → IsNextOn gates w from (get_or cursors.next v 0) → IsNextOn gates w (from + 1) (get_or new.next v 0)
    goes_by v below more w is =
        subst (λ (c : ℕ). IsNextOn gates w (from + 1) c) (sym (moved.others v below (λ same. omega arith)))
        (record {
          ahead = omega arith;
          uses = is.uses;
          none = λ p above less in_gates. is.none p (omega arith) less in_gates;
          past = is.past;
        })

    pub moved_ahead : AreAhead (from + 1) new
    moved_ahead v below = by (cases_order (get_or cursors.next v 0) from)
      where
        by : (get_or cursors.next v 0 ≡ from) ⊎ ((get_or cursors.next v 0 < from) ⊎ (from < get_or cursors.next v 0)) → from + 1 ≤ get_or new.next v 0
        by (inl same) = (goes_on v below same).1.ahead
        by (inr (inl less)) = (let least : from ≤ get_or cursors.next v 0 = ahead v below in absurd (omega arith))
        by (inr (inr more)) = (let e : get_or new.next v 0 ≡ get_or cursors.next v 0 = moved.others v below (λ same. omega arith) in omega arith)

    -- one that is next on its wire stays so
    pub moved_next : (v : ℕ) → v < 3 → IsNextOn gates (get_or cursors.wires v 0) from (get_or cursors.next v 0) → IsNextOn gates (get_or cursors.wires v 0) (from + 1) (get_or new.next v 0)
    moved_next v below is = by (cases_order (get_or cursors.next v 0) from)
      where
        by : (get_or cursors.next v 0 ≡ from) ⊎ ((get_or cursors.next v 0 < from) ⊎ (from < get_or cursors.next v 0)) → IsNextOn gates (get_or cursors.wires v 0) (from + 1) (get_or new.next v 0)
        by (inl same) = (goes_on v below same).1
        by (inr (inl less)) = (let least : from ≤ get_or cursors.next v 0 = ahead v below in absurd (omega arith))
        by (inr (inr more)) = goes_by v below more (get_or cursors.wires v 0) is

    -- one that stands before the end did so before
    stood : (v : ℕ) → v < 3 → get_or new.next v 0 < length gates → get_or cursors.next v 0 < length gates
    stood v below stands = by (cases_order (get_or cursors.next v 0) from)
      where
        by : (get_or cursors.next v 0 ≡ from) ⊎ ((get_or cursors.next v 0 < from) ⊎ (from < get_or cursors.next v 0)) → get_or cursors.next v 0 < length gates
        by (inl same) = omega arith
        by (inr (inl less)) = omega arith
        by (inr (inr more)) = (let e : get_or new.next v 0 ≡ get_or cursors.next v 0 = moved.others v below (λ same. omega arith) in omega arith)

    same_wire : (v : ℕ) → get_or new.wires v 0 ≡ get_or cursors.wires v 0
    same_wire v = ap (λ (xs : List ℕ). get_or xs v 0) moved.wires

    pub marked_moved : {looked : Looked} → AreMarked gates looked cursors → AreMarked gates looked new
    marked_moved {looked} marks = record {
      marked = λ v below stands. subst (HasBit looked.mask) (sym (same_wire v)) (marks.marked v below (stood v below stands));
    }

    pub cursors_moved : AreCursors gates pattern places count (from + 1) new
    cursors_moved = record {
      taken = are.taken;
      leads = λ s one below. same_wire (wire_of one (gate_at pattern s)) ∙ are.leads s one below;
      next = λ s one below.
          subst (λ (w : ℕ). IsNextOn gates w (from + 1) (get_or new.next (wire_of one (gate_at pattern s)) 0)) (are.leads s one below)
          (moved_next (wire_of one (gate_at pattern s)) (pattern_wire pattern on s one (omega arith))
          (subst (λ (w : ℕ). IsNextOn gates w from (get_or cursors.next (wire_of one (gate_at pattern s)) 0)) (sym (are.leads s one below)) (are.next s one below)));
      standing = λ v below stands.
          (let is = are.standing v below (stood v below stands) in
          subst (λ (w : ℕ). (w ≢ no_wire) × IsNextOn gates w (from + 1) (get_or new.next v 0)) (sym (same_wire v)) (is.0, moved_next v below is.1));
    }

  -- where one of them stands the same gate stands in all slots that look alike
  pub cursor_known : {looked : Looked} {start place : ℕ} → AreMarked gates looked cursors → IsAtCursor place cursors → start < place → place < length gates → place < looked.reach →
      IsKnownAt gates start looked place
  cursor_known {looked} {start} {place} marks stands behind inside near =
      let in_gates : get_or cursors.next stands.0 0 < length gates = subst (λ (p : ℕ). p < length gates) (sym stands.2) inside in
      let is = are.standing stands.0 stands.1 in_gates in
      record {
        same = λ other slots alike.
            alike.same place (get_or cursors.wires stands.0 0) behind near (is.0, marks.marked stands.0 stands.1 in_gates)
            (inl (subst (λ (p : ℕ). Touches (gate_at gates p) (get_or cursors.wires stands.0 0)) stands.2 (is.1.uses in_gates)));
      }

-- before a gate is chosen no cursor stands anywhere
pub no_cursors : {gates pattern : List Gate} {places : List ℕ} {from : ℕ} {cursors : Cursors} → AreAhead far cursors → length gates < far → AreCursors gates pattern places 0 from cursors
no_cursors {gates} {pattern} {places} {from} {cursors} ahead few = record {
  taken = λ s below. absurd (omega arith);
  leads = λ s one below. absurd (omega arith);
  next = λ s one below. absurd (omega arith);
  standing = λ v below stands. absurd (let past : far ≤ get_or cursors.next v 0 = ahead v below in omega arith);
}

pub none_marked : {gates : List Gate} {looked : Looked} {cursors : Cursors} → AreAhead far cursors → length gates < far → AreMarked gates looked cursors
none_marked {gates} {looked} {cursors} ahead few = record {
  marked = λ v below stands. absurd (let past : far ≤ get_or cursors.next v 0 = ahead v below in omega arith);
}

pub marked_more : {gates : List Gate} {less more : Looked} {cursors : Cursors} → LooksAtMore less more → AreMarked gates less cursors → AreMarked gates more cursors
marked_more {gates} {less} {more} {cursors} looks marks = record { marked = λ v below stands. looks.marks (get_or cursors.wires v 0) (marks.marked v below stands) }

-- the gate at a place is chosen for the next gate of the pattern
pub cursors_led : {gates pattern : List Gate} {places : List ℕ} {count place : ℕ} {old new : Cursors} → AreCursors gates pattern places count (place + 1) old →
    IsTaken (gate_at gates place) → AreLedTo gates (gate_at pattern count) place old new → IsFitting gates pattern (set places count place) count → AreEight places count → count < 8 →
    AreCursors gates pattern (set places count place) (count + 1) (place + 1) new
cursors_led {gates} {pattern} {places} {count} {place} {old} {new} are is_taken led fits eight room = record {
  taken = λ s below. taken_at s below (cases_order s count);
  leads = λ s one below. (at s one below (cases_order s count)).0;
  next = λ s one below. (at s one below (cases_order s count)).1;
  standing = λ v below stands. standing_at v below stands (cases_order v (wire_of false (gate_at pattern count))) (cases_order v (wire_of true (gate_at pattern count)));
}
  where
    here : get_or (set places count place) count 0 ≡ place
    here = put_at places count place eight.eight room

    before : (s : ℕ) → s < count → get_or (set places count place) s 0 ≡ get_or places s 0
    before s below = put_before places count place eight.eight room s below

    taken_at : (s : ℕ) → s < count + 1 → (s ≡ count) ⊎ ((s < count) ⊎ (count < s)) → IsTaken (gate_at gates (get_or (set places count place) s 0))
    taken_at s below (inl same) =
        subst (λ (p : ℕ). IsTaken (gate_at gates p)) (sym (ap (λ (k : ℕ). get_or (set places count place) k 0) same ∙ here)) is_taken
    taken_at s below (inr (inl less)) = subst (λ (p : ℕ). IsTaken (gate_at gates p)) (sym (before s less)) (are.taken s less)
    taken_at s below (inr (inr more)) = absurd (omega arith)

    alike : (s : ℕ) → s < count → AreAlike (gate_at pattern s) (gate_at pattern count) (gate_at gates (get_or places s 0)) (gate_at gates place)
    alike s below =
        subst (λ (p : ℕ). AreAlike (gate_at pattern s) (gate_at pattern count) (gate_at gates p) (gate_at gates place)) (before s below)
        (subst (λ (p : ℕ). AreAlike (gate_at pattern s) (gate_at pattern count) (gate_at gates (get_or (set places count place) s 0)) (gate_at gates p)) here (fits.wires s (omega arith)))

    own : wire_of false (gate_at pattern count) ≡ wire_of true (gate_at pattern count) → wire_of false (gate_at gates place) ≡ wire_of true (gate_at gates place)
    own same =
        (subst (λ (p : ℕ). AreAlike (gate_at pattern count) (gate_at pattern count) (gate_at gates p) (gate_at gates p)) here (fits.wires count (omega arith)) false true).1 same

    shared : (s : ℕ) (one other : Bool) → s < count → wire_of one (gate_at pattern s) ≡ wire_of other (gate_at pattern count) →
        (get_or new.wires (wire_of one (gate_at pattern s)) 0 ≡ wire_of one (gate_at gates (get_or places s 0))) ×
        IsNextOn gates (wire_of one (gate_at gates (get_or places s 0))) (place + 1) (get_or new.next (wire_of one (gate_at pattern s)) 0)
    shared s one other below same =
        let wires : wire_of one (gate_at gates (get_or places s 0)) ≡ wire_of other (gate_at gates place) = (alike s below one other).1 same in (
          ap (λ (v : ℕ). get_or new.wires v 0) same ∙ (led.leads other own ∙ sym wires),
          subst (λ (v : ℕ). IsNextOn gates (wire_of one (gate_at gates (get_or places s 0))) (place + 1) (get_or new.next v 0)) (sym same)
              (subst (λ (w : ℕ). IsNextOn gates w (place + 1) (get_or new.next (wire_of other (gate_at pattern count)) 0)) (sym wires) (led.next other own)),
        )

    apart : {a b : ℕ} → (a < b) ⊎ (b < a) → a ≢ b
    apart (inl less) same = omega arith
    apart (inr more) same = omega arith

    old_wire : (s : ℕ) (one : Bool) → s < count →
        (wire_of one (gate_at pattern s) ≡ wire_of false (gate_at pattern count)) ⊎ ((wire_of one (gate_at pattern s) < wire_of false (gate_at pattern count)) ⊎ (wire_of false (gate_at pattern count) < wire_of one (gate_at pattern s))) →
        (wire_of one (gate_at pattern s) ≡ wire_of true (gate_at pattern count)) ⊎ ((wire_of one (gate_at pattern s) < wire_of true (gate_at pattern count)) ⊎ (wire_of true (gate_at pattern count) < wire_of one (gate_at pattern s))) →
        (get_or new.wires (wire_of one (gate_at pattern s)) 0 ≡ wire_of one (gate_at gates (get_or places s 0))) ×
        IsNextOn gates (wire_of one (gate_at gates (get_or places s 0))) (place + 1) (get_or new.next (wire_of one (gate_at pattern s)) 0)
    old_wire s one below (inl first) _ = shared s one false below first
    old_wire s one below (inr not_first) (inl second) = shared s one true below second
    old_wire s one below (inr not_first) (inr not_second) = (
      led.wires (wire_of one (gate_at pattern s)) (apart not_first) (apart not_second) ∙ are.leads s one below,
      subst (λ (c : ℕ). IsNextOn gates (wire_of one (gate_at gates (get_or places s 0))) (place + 1) c) (sym (led.others (wire_of one (gate_at pattern s)) (apart not_first) (apart not_second))) (are.next s one below),
    )

    on_own : (v : ℕ) (one : Bool) → v ≡ wire_of one (gate_at pattern count) → (get_or new.wires v 0 ≢ no_wire) × IsNextOn gates (get_or new.wires v 0) (place + 1) (get_or new.next v 0)
    on_own v one same =
        let wire : get_or new.wires v 0 ≡ wire_of one (gate_at gates place) = ap (λ (k : ℕ). get_or new.wires k 0) same ∙ led.leads one own in
        subst (λ (w : ℕ). (w ≢ no_wire) × IsNextOn gates w (place + 1) (get_or new.next v 0)) (sym wire)
        (is_taken one, subst (λ (k : ℕ). IsNextOn gates (wire_of one (gate_at gates place)) (place + 1) (get_or new.next k 0)) (sym same) (led.next one own))

    standing_at : (v : ℕ) → v < 3 → get_or new.next v 0 < length gates →
        (v ≡ wire_of false (gate_at pattern count)) ⊎ ((v < wire_of false (gate_at pattern count)) ⊎ (wire_of false (gate_at pattern count) < v)) →
        (v ≡ wire_of true (gate_at pattern count)) ⊎ ((v < wire_of true (gate_at pattern count)) ⊎ (wire_of true (gate_at pattern count) < v)) →
        (get_or new.wires v 0 ≢ no_wire) × IsNextOn gates (get_or new.wires v 0) (place + 1) (get_or new.next v 0)
    standing_at v below stands (inl first) _ = on_own v false first
    standing_at v below stands (inr not_first) (inl second) = on_own v true second
    standing_at v below stands (inr not_first) (inr not_second) =
        let e : get_or new.next v 0 ≡ get_or old.next v 0 = led.others v (apart not_first) (apart not_second) in
        let w : get_or new.wires v 0 ≡ get_or old.wires v 0 = led.wires v (apart not_first) (apart not_second) in
        let is = are.standing v below (omega arith) in
        subst (λ (w : ℕ). (w ≢ no_wire) × IsNextOn gates w (place + 1) (get_or new.next v 0)) (sym w)
        (is.0, subst (λ (c : ℕ). IsNextOn gates (get_or old.wires v 0) (place + 1) c) (sym e) is.1)

    at : (s : ℕ) (one : Bool) → s < count + 1 → (s ≡ count) ⊎ ((s < count) ⊎ (count < s)) →
        (get_or new.wires (wire_of one (gate_at pattern s)) 0 ≡ wire_of one (gate_at gates (get_or (set places count place) s 0))) ×
        IsNextOn gates (wire_of one (gate_at gates (get_or (set places count place) s 0))) (place + 1) (get_or new.next (wire_of one (gate_at pattern s)) 0)
    at s one below (inl same) =
        let there : get_or (set places count place) s 0 ≡ place = ap (λ (k : ℕ). get_or (set places count place) k 0) same ∙ here in (
          ap (λ (k : ℕ). get_or new.wires (wire_of one (gate_at pattern k)) 0) same ∙ (led.leads one own ∙ ap (λ (p : ℕ). wire_of one (gate_at gates p)) (sym there)),
          subst (λ (p : ℕ). IsNextOn gates (wire_of one (gate_at gates p)) (place + 1) (get_or new.next (wire_of one (gate_at pattern s)) 0)) (sym there)
              (subst (λ (k : ℕ). IsNextOn gates (wire_of one (gate_at gates place)) (place + 1) (get_or new.next (wire_of one (gate_at pattern k)) 0)) (sym same) (led.next one own)),
        )
    at s one below (inr (inl less)) =
        let both = old_wire s one less (cases_order (wire_of one (gate_at pattern s)) (wire_of false (gate_at pattern count))) (cases_order (wire_of one (gate_at pattern s)) (wire_of true (gate_at pattern count))) in (
          both.0 ∙ ap (λ (p : ℕ). wire_of one (gate_at gates p)) (sym (before s less)),
          subst (λ (p : ℕ). IsNextOn gates (wire_of one (gate_at gates p)) (place + 1) (get_or new.next (wire_of one (gate_at pattern s)) 0)) (sym (before s less)) both.1,
        )
    at s one below (inr (inr more)) = absurd (omega arith)

-- the marks of cursors that are led to a gate whose wires are marked
pub marked_led : {gates : List Gate} {of_gate : Gate} {place : ℕ} {looked : Looked} {old new : Cursors} →
    (wire_of false of_gate ≡ wire_of true of_gate → wire_of false (gate_at gates place) ≡ wire_of true (gate_at gates place)) → AreLedTo gates of_gate place old new →
    ((one : Bool) → HasBit looked.mask (wire_of one (gate_at gates place))) → AreMarked gates looked old → AreMarked gates looked new
marked_led {gates} {of_gate} {place} {looked} {old} {new} own led own_marks marks = record {
  marked = λ v below stands. at v below stands (cases_order v (wire_of false of_gate)) (cases_order v (wire_of true of_gate));
}
  where
    apart : {a b : ℕ} → (a < b) ⊎ (b < a) → a ≢ b
    apart (inl less) same = omega arith
    apart (inr more) same = omega arith

    on_own : (v : ℕ) (one : Bool) → v ≡ wire_of one of_gate → HasBit looked.mask (get_or new.wires v 0)
    on_own v one same = subst (HasBit looked.mask) (sym (ap (λ (k : ℕ). get_or new.wires k 0) same ∙ led.leads one own)) (own_marks one)

    at : (v : ℕ) → v < 3 → get_or new.next v 0 < length gates →
        (v ≡ wire_of false of_gate) ⊎ ((v < wire_of false of_gate) ⊎ (wire_of false of_gate < v)) →
        (v ≡ wire_of true of_gate) ⊎ ((v < wire_of true of_gate) ⊎ (wire_of true of_gate < v)) → HasBit looked.mask (get_or new.wires v 0)
    at v below stands (inl first) _ = on_own v false first
    at v below stands (inr not_first) (inl second) = on_own v true second
    at v below stands (inr not_first) (inr not_second) =
        let e : get_or new.next v 0 ≡ get_or old.next v 0 = led.others v (apart not_first) (apart not_second) in
        subst (HasBit looked.mask) (sym (led.wires v (apart not_first) (apart not_second))) (marks.marked v below (omega arith))

-- a gate that fits has one wire twice where the pattern's has
pub own_wires : {gates pattern : List Gate} {places : List ℕ} {count : ℕ} (place : ℕ) → IsFitting gates pattern (set places count place) count → AreEight places count → count < 8 →
    wire_of false (gate_at pattern count) ≡ wire_of true (gate_at pattern count) → wire_of false (gate_at gates place) ≡ wire_of true (gate_at gates place)
own_wires {gates} {pattern} {places} {count} place fits eight room same =
    (subst (λ (p : ℕ). AreAlike (gate_at pattern count) (gate_at pattern count) (gate_at gates p) (gate_at gates p)) (put_at places count place eight.eight room) (fits.wires count (omega arith)) false true).1 same

-- the place that was put in last
pub last_is : {places : List ℕ} {count : ℕ} (place : ℕ) → AreEight places count → count < 8 → get_or (set places count place) (count + 1 - 1) 0 ≡ place
last_is {places} {count} place eight room =
    let e : count + 1 - 1 ≡ count = omega arith in
    ap (λ (k : ℕ). get_or (set places count place) k 0) e ∙ put_at places count place eight.eight room

-- the least of three places is that of one of them
pub least_stands : (cursors : Cursors) (place : ℕ) → place ≡ min (min (get_or cursors.next 0 0) (get_or cursors.next 1 0)) (get_or cursors.next 2 0) → IsAtCursor place cursors
least_stands cursors place at =
    by (cases_order (get_or cursors.next 0 0) (get_or cursors.next 1 0)) (cases_order (min (get_or cursors.next 0 0) (get_or cursors.next 1 0)) (get_or cursors.next 2 0))
  where
    by : (get_or cursors.next 0 0 ≡ get_or cursors.next 1 0) ⊎ ((get_or cursors.next 0 0 < get_or cursors.next 1 0) ⊎ (get_or cursors.next 1 0 < get_or cursors.next 0 0)) →
        (min (get_or cursors.next 0 0) (get_or cursors.next 1 0) ≡ get_or cursors.next 2 0) ⊎
        ((min (get_or cursors.next 0 0) (get_or cursors.next 1 0) < get_or cursors.next 2 0) ⊎ (get_or cursors.next 2 0 < min (get_or cursors.next 0 0) (get_or cursors.next 1 0))) →
        IsAtCursor place cursors
    by _ (inl same) = (2, omega arith, omega arith)
    by _ (inr (inr more)) = (2, omega arith, omega arith)
    by (inl same) (inr (inl less)) = (0, omega arith, omega arith)
    by (inr (inl lower)) (inr (inl less)) = (0, omega arith, omega arith)
    by (inr (inr higher)) (inr (inl less)) = (1, omega arith, omega arith)

-- a cursor that is led to a wire of its own, on which none of the chosen gates' wires is
module _ (old : Cursors) (y to next_to : ℕ) (wires_long : y < length old.wires) (next_long : y < length old.next) where
  pub bound_wire : get_or (set old.wires y to) y 0 ≡ to
  bound_wire = get_or-set_at old.wires y y to 0 refl wires_long

  pub bound_place : get_or (set old.next y next_to) y 0 ≡ next_to
  bound_place = get_or-set_at old.next y y next_to 0 refl next_long

  -- what holds of both, and of what stood at another cursor, holds of each
  bound_each : (P : ℕ → ℕ → Type 0) (v : ℕ) → P to next_to → (v ≢ y → P (get_or old.wires v 0) (get_or old.next v 0)) → P (get_or (set old.wires y to) v 0) (get_or (set old.next y next_to) v 0)
  bound_each P v here there = by (cases_order v y)
    where
      elsewhere : v ≢ y → P (get_or (set old.wires y to) v 0) (get_or (set old.next y next_to) v 0)
      elsewhere differs =
          subst (λ (n : ℕ). P (get_or (set old.wires y to) v 0) n) (sym (get_or-set_other old.next y v next_to 0 differs))
          (subst (λ (w : ℕ). P w (get_or old.next v 0)) (sym (get_or-set_other old.wires y v to 0 differs)) (there differs))

      by : (v ≡ y) ⊎ ((v < y) ⊎ (y < v)) → P (get_or (set old.wires y to) v 0) (get_or (set old.next y next_to) v 0)
      by (inl same) =
          subst (λ (k : ℕ). P (get_or (set old.wires y to) k 0) (get_or (set old.next y next_to) k 0)) (sym same)
          (subst (λ (n : ℕ). P (get_or (set old.wires y to) y 0) n) (sym bound_place) (subst (λ (w : ℕ). P w next_to) (sym bound_wire) here))
      by (inr (inl less)) = elsewhere (λ same. omega arith)
      by (inr (inr more)) = elsewhere (λ same. omega arith)

  pub bound_cursors : {gates pattern : List Gate} {places : List ℕ} {count from : ℕ} → AreCursors gates pattern places count from old → ((s : ℕ) (one : Bool) → s < count → wire_of one (gate_at pattern s) ≢ y) → to ≢ no_wire → IsNextOn gates to from next_to →
      AreCursors gates pattern places count from (record { wires = set old.wires y to; next = set old.next y next_to })
  bound_cursors {gates} {pattern} {places} {count} {from} are unused taken next = record {
    taken = are.taken;
    leads = λ s one below. get_or-set_other old.wires y (wire_of one (gate_at pattern s)) to 0 (unused s one below) ∙ are.leads s one below;
    next = λ s one below.
        subst (λ (n : ℕ). IsNextOn gates (wire_of one (gate_at gates (get_or places s 0))) from n) (sym (get_or-set_other old.next y (wire_of one (gate_at pattern s)) next_to 0 (unused s one below)))
        (are.next s one below);
    standing = λ v below.
        bound_each (λ (w n : ℕ). n < length gates → (w ≢ no_wire) × IsNextOn gates w from n) v (λ stands. (taken, next)) (λ differs stands. are.standing v below stands);
  }

  pub bound_ahead : {from : ℕ} → AreAhead from old → from ≤ next_to → AreAhead from (record { wires = set old.wires y to; next = set old.next y next_to })
  bound_ahead {from} ahead upto v below = bound_each (λ (w n : ℕ). from ≤ n) v upto (λ differs. ahead v below)

  pub bound_marked : {gates : List Gate} {looked : Looked} → AreMarked gates looked old → HasBit looked.mask to → AreMarked gates looked (record { wires = set old.wires y to; next = set old.next y next_to })
  bound_marked {gates} {looked} marks marked = record {
    marked = λ v below. bound_each (λ (w n : ℕ). n < length gates → HasBit looked.mask w) v (λ stands. marked) (λ differs stands. marks.marked v below stands);
  }
