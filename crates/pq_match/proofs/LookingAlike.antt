-- What lists of slots share that look alike to a search.
use Rattle.std.proofs.Common.{◌≡◌, ◌≢◌, ℕ, ◌+◌, ◌<◌, ◌≤◌, ◌==◌, Bool, true, false, List, length, get_or, set, min, refl, sym, ap, subst, ◌∙◌, arith, inl, inr, ◌⊎◌, eq-eqb}
use Rattle.std.specs.Prelude.{◌↔◌}
use Rattle.std.proofs.lemmas.Bool.{cases_lt, cases_order, eqb-true}
use Rattle.std.proofs.lemmas.List.{get_or_past}
use Rattle.pq_gate.specs.declared.gate.Gate.{Gate}
use Rattle.pq_gate.specs.declared.gate.Gate.TheVariants.{H}
use Rattle.pq_gate.specs.Commuting.{Touches, Agree, Commutes}
use Rattle.pq_gate.specs.Ports.{first_wire}
use Rattle.pq_links.specs.Links.{far}
use Rattle.pq_links.specs.Wires.{wire_of}
use Rattle.pq_links.specs.Slots.{no_wire, AreSlots}
use Rattle.pq_rules.specs.Row.{RowView}
use Rattle.pq_match.specs.declared.looked.Looked.{Looked}
use Rattle.pq_match.specs.Redex.{gate_at}
use Rattle.pq_match.specs.Search.{AreApart, IsGrown, AreEight}
use Rattle.pq_match.specs.Seek.{IsMarked, MarksAll, LooksAtMore, LookAlike, HasFailed, IsKnownAt, AreLookedAt}
use Rattle.pq_match.proofs.Growing.{put_at, put_before}
use Rattle.pq_match.proofs.SearchTouches.{touched, touching}

-- a list looks like itself
pub looks_alike : {start : ℕ} {looked : Looked} {gates : List Gate} → LookAlike start looked gates gates
looks_alike = record { long = λ p near. (λ below. below, λ below. below); first = refl; same = λ p w behind near marked uses. refl }

-- what looks alike does so to a search that looked at less
pub alike_less : {start : ℕ} {gates other : List Gate} {less more : Looked} → LooksAtMore less more → LookAlike start more gates other → LookAlike start less gates other
alike_less {start} {gates} {other} {less} {more} looks alike = record {
  long = λ p near. (let r : less.reach ≤ more.reach = looks.reach in alike.long p (omega arith));
  first = alike.first;
  same = λ p w behind near marked uses.
      (let r : less.reach ≤ more.reach = looks.reach in alike.same p w behind (omega arith) (marked.0, looks.marks w marked.1) uses);
}

-- and to one that looked at more places only where none of them holds a gate
alike_within : {start : ℕ} {gates other : List Gate} {less more : Looked} → length gates < far → less.reach ≡ min more.reach far → less.mask ≡ more.mask →
    LookAlike start less gates other → LookAlike start more gates other
alike_within {start} {gates} {other} {less} {more} few reach mask alike = record {
  long = λ p near. long p near (cases_lt p far);
  first = alike.first;
  same = λ p w behind near marked uses. same p w behind near marked uses (cases_lt p far);
}
  where
    short : (p : ℕ) → p < more.reach → far ≤ p → length other < far
    short p near out = elim (cases_lt 65534 (length other)) [
      | inl over ↦ (let inside : 65534 < length gates = (alike.long 65534 (omega arith)).1 over in absurd (omega arith))
      | inr upto ↦ omega arith
    ]

    long : (p : ℕ) → p < more.reach → (p < far) ⊎ (far ≤ p) → (p < length gates) ↔ (p < length other)
    long p near (inl below) = alike.long p (omega arith)
    long p near (inr out) = (λ inside. absurd (omega arith), λ inside. (let less_long : length other < far = short p near out in absurd (omega arith)))

    same : (p w : ℕ) → start < p → p < more.reach → IsMarked more.mask w → Touches (gate_at gates p) w ⊎ Touches (gate_at other p) w → (p < far) ⊎ (far ≤ p) → gate_at gates p ≡ gate_at other p
    same p w behind near marked uses (inl below) = alike.same p w behind (omega arith) (subst (λ (m : ℕ). IsMarked m w) (sym mask) marked) uses
    same p w behind near marked uses (inr out) =
        (let less_long : length other < far = short p near out in get_or_past gates p (H 0) (omega arith) ∙ sym (get_or_past other p (H 0) (omega arith)))

-- so it failed whatever stands there
pub failed_within : {rules : List RowView} {slots : List Gate} {start : ℕ} {less more : Looked} → length slots < far → start < length slots → less.reach ≡ min more.reach far →
    less.mask ≡ more.mask → HasFailed rules slots start more → HasFailed rules slots start less
failed_within {rules} {slots} {start} {less} {more} few inside reach mask failed = record {
  near = (let near : start < more.reach = failed.near in omega arith);
  none = record { none = λ other are alike. failed.none.none other are (alike_within few reach mask alike) };
}

-- and so does what looks like a list that looks alike
pub alike_through : {start : ℕ} {looked : Looked} {gates between other : List Gate} → LookAlike start looked gates between → LookAlike start looked between other →
    LookAlike start looked gates other
alike_through {start} {looked} {gates} {between} {other} near_by far_off = record {
  long = λ p near.
      (λ below. (far_off.long p near).0 ((near_by.long p near).0 below), λ below. (near_by.long p near).1 ((far_off.long p near).1 below));
  first = near_by.first ∙ far_off.first;
  same = same;
}
  where
    same : (p w : ℕ) → start < p → p < looked.reach → IsMarked looked.mask w → Touches (gate_at gates p) w ⊎ Touches (gate_at other p) w → gate_at gates p ≡ gate_at other p
    same p w behind near marked (inl uses) =
        let e = near_by.same p w behind near marked (inl uses) in
        e ∙ far_off.same p w behind near marked (inl (subst (λ (g : Gate). Touches g w) e uses))
    same p w behind near marked (inr uses) =
        let e = far_off.same p w behind near marked (inr uses) in
        near_by.same p w behind near marked (inr (subst (λ (g : Gate). Touches g w) (sym e) uses)) ∙ e

-- whether a gate stands on the wire of free slots
first_wire_cases : (gate : Gate) → (first_wire gate ≢ no_wire) ⊎ Touches gate no_wire
first_wire_cases gate = by (first_wire gate == no_wire) refl
  where
    by : (b : Bool) → (first_wire gate == no_wire) ≡ b → (first_wire gate ≢ no_wire) ⊎ Touches gate no_wire
    by true is = inr (subst (Touches gate) (eqb-true (first_wire gate) no_wire is) (touching gate false))
    by false is = inl (λ same. (let yes : (first_wire gate == no_wire) ≡ true = eq-eqb (first_wire gate) no_wire same in let clash : true ≡ false = sym yes ∙ is in cc))

module _ {gates other : List Gate} {start : ℕ} {looked : Looked} (alike : LookAlike start looked gates other) where
  -- where one list ends below the reach, both are equally long
  pub as_long : length gates < looked.reach → length gates ≡ length other
  as_long whole = by (cases_order (length gates) (length other))
    where
      by : (length gates ≡ length other) ⊎ ((length gates < length other) ⊎ (length other < length gates)) → length gates ≡ length other
      by (inl same) = same
      by (inr (inl less)) = (let below : length gates < length gates = (alike.long (length gates) whole).1 less in absurd (omega arith))
      by (inr (inr more)) = (let below : length other < length other = (alike.long (length other) (omega arith)).0 more in absurd (omega arith))

  pub same_past : (p : ℕ) → length gates < looked.reach → length gates ≤ p → gate_at gates p ≡ gate_at other p
  same_past p whole past = (let l = as_long whole in get_or_past gates p (H 0) past ∙ sym (get_or_past other p (H 0) (omega arith)))

  -- where all wires are marked, all gates behind the start are the same
  pub same_anywhere : AreSlots gates → AreSlots other → MarksAll looked.mask → (p : ℕ) → start < p → p < looked.reach → p < length gates → gate_at gates p ≡ gate_at other p
  same_anywhere slots slots_other marks p behind near inside = by (first_wire_cases (gate_at gates p)) (first_wire_cases (gate_at other p))
    where
      by : (first_wire (gate_at gates p) ≢ no_wire) ⊎ Touches (gate_at gates p) no_wire → (first_wire (gate_at other p) ≢ no_wire) ⊎ Touches (gate_at other p) no_wire →
          gate_at gates p ≡ gate_at other p
      by (inl taken) _ = alike.same p (first_wire (gate_at gates p)) behind near (taken, marks.all (first_wire (gate_at gates p))) (inl (touching (gate_at gates p) false))
      by (inr free) (inl taken) = alike.same p (first_wire (gate_at other p)) behind near (taken, marks.all (first_wire (gate_at other p))) (inr (touching (gate_at other p) false))
      by (inr free) (inr other_free) = slots p inside free ∙ sym (slots_other p ((alike.long p near).0 inside) other_free)

  -- the chosen gates are the same
  module _ {pattern : List Gate} {places : List ℕ} {end count : ℕ} (at : get_or places 0 0 ≡ start) (grown : IsGrown gates pattern end places count) (are : AreLookedAt gates looked places count) where
    pub not_before : (s : ℕ) → s < count → start ≤ get_or places s 0
    not_before s below = by (cases_order s 0)
      where
        by : (s ≡ 0) ⊎ ((s < 0) ⊎ (0 < s)) → start ≤ get_or places s 0
        by (inl same) = (let e : get_or places s 0 ≡ start = ap (λ (k : ℕ). get_or places k 0) same ∙ at in omega arith)
        by (inr (inl less)) = absurd (omega arith)
        by (inr (inr more)) = (let rise : get_or places 0 0 < get_or places s 0 = grown.rising 0 s more below in omega arith)

    pub chosen_same : (s : ℕ) → s < count → gate_at gates (get_or places s 0) ≡ gate_at other (get_or places s 0)
    chosen_same s below = by (cases_order (get_or places s 0) start)
      where
        by : (get_or places s 0 ≡ start) ⊎ ((get_or places s 0 < start) ⊎ (start < get_or places s 0)) → gate_at gates (get_or places s 0) ≡ gate_at other (get_or places s 0)
        by (inl same) = subst (λ (p : ℕ). gate_at gates p ≡ gate_at other p) (sym same) alike.first
        by (inr (inl less)) = (let upto : start ≤ get_or places s 0 = not_before s below in absurd (omega arith))
        by (inr (inr more)) =
            alike.same (get_or places s 0) (wire_of false (gate_at gates (get_or places s 0))) more (are.near s below) (are.marked s false below)
            (inl (touching (gate_at gates (get_or places s 0)) false))

    -- so is a gate that shares a wire with one of them
    pub sharing_same : (s p w : ℕ) → s < count → start < p → p < looked.reach → Touches (gate_at gates (get_or places s 0)) w →
        Touches (gate_at gates p) w ⊎ Touches (gate_at other p) w → gate_at gates p ≡ gate_at other p
    sharing_same s p w below behind near uses_chosen uses =
        let side = touched (gate_at gates (get_or places s 0)) w uses_chosen in
        alike.same p w behind near (subst (IsMarked looked.mask) (sym side.1) (are.marked s side.0 below)) uses

    pub apart_on : (s p : ℕ) → s < count → start < p → p < looked.reach → AreApart (gate_at gates (get_or places s 0)) (gate_at gates p) →
        AreApart (gate_at other (get_or places s 0)) (gate_at other p)
    apart_on s p below behind near apart =
        subst (λ (g : Gate). AreApart g (gate_at other p)) (chosen_same s below)
        (λ w uses_chosen uses.
        apart w uses_chosen (subst (λ (g : Gate). Touches g w) (sym (sharing_same s p w below behind near uses_chosen (inr uses))) uses))

    pub commutes_on : (s p : ℕ) → s < count → start < p → p < looked.reach → Commutes (gate_at gates (get_or places s 0)) (gate_at gates p) →
        Commutes (gate_at other (get_or places s 0)) (gate_at other p)
    commutes_on s p below behind near commute =
        subst (λ (g : Gate). Commutes g (gate_at other p)) (chosen_same s below)
        (λ w uses_chosen uses.
        subst (λ (g : Gate). Agree (gate_at gates (get_or places s 0)) g w) (sharing_same s p w below behind near uses_chosen (inr uses)) (commute w) uses_chosen uses)

    pub commutes_back : (s p : ℕ) → s < count → start < p → p < looked.reach → Commutes (gate_at other (get_or places s 0)) (gate_at other p) →
        Commutes (gate_at gates (get_or places s 0)) (gate_at gates p)
    commutes_back s p below behind near commute w uses_chosen uses =
        subst (λ (g : Gate). Agree (gate_at gates (get_or places s 0)) g w) (sym (sharing_same s p w below behind near uses_chosen (inl uses)))
        (subst (λ (g : Gate). Commutes g (gate_at other p)) (sym (chosen_same s below)) commute w) uses_chosen uses

-- what is known of a place stays so where more is looked at
pub known_more : {gates : List Gate} {start place : ℕ} {less more : Looked} → LooksAtMore less more → IsKnownAt gates start less place → IsKnownAt gates start more place
known_more looks known = record { same = λ other slots alike. known.same other slots (alike_less looks alike) }

pub known_first : (gates : List Gate) (start : ℕ) (looked : Looked) → IsKnownAt gates start looked start
known_first gates start looked = record { same = λ other slots alike. alike.first }

-- and what was looked at stays so
pub looked_more : {gates : List Gate} {places : List ℕ} {count : ℕ} {less more : Looked} → LooksAtMore less more → AreLookedAt gates less places count → AreLookedAt gates more places count
looked_more {gates} {places} {count} {less} {more} looks are = record {
  near = λ s below. (let near : get_or places s 0 < less.reach = are.near s below in let r : less.reach ≤ more.reach = looks.reach in omega arith);
  marked = λ s one below. ((are.marked s one below).0, looks.marks (wire_of one (gate_at gates (get_or places s 0))) (are.marked s one below).1);
}

-- a place more
pub looked_at_more : {gates : List Gate} {places : List ℕ} {count place : ℕ} {looked : Looked} → AreLookedAt gates looked places count → place < looked.reach →
    ((one : Bool) → IsMarked looked.mask (wire_of one (gate_at gates place))) → AreEight places count → count < 8 → AreLookedAt gates looked (set places count place) (count + 1)
looked_at_more {gates} {places} {count} {place} {looked} are near marked eight room = record {
  near = λ s below. near_at s below (cases_order s count);
  marked = λ s one below. marked_at s one below (cases_order s count);
}
  where
    here : (s : ℕ) → s ≡ count → get_or (set places count place) s 0 ≡ place
    here s same = ap (λ (k : ℕ). get_or (set places count place) k 0) same ∙ put_at places count place eight.eight room

    before : (s : ℕ) → s < count → get_or (set places count place) s 0 ≡ get_or places s 0
    before s below = put_before places count place eight.eight room s below

    near_at : (s : ℕ) → s < count + 1 → (s ≡ count) ⊎ ((s < count) ⊎ (count < s)) → get_or (set places count place) s 0 < looked.reach
    near_at s below (inl same) = subst (λ (p : ℕ). p < looked.reach) (sym (here s same)) near
    near_at s below (inr (inl less)) = subst (λ (p : ℕ). p < looked.reach) (sym (before s less)) (are.near s less)
    near_at s below (inr (inr more)) = absurd (omega arith)

    marked_at : (s : ℕ) (one : Bool) → s < count + 1 → (s ≡ count) ⊎ ((s < count) ⊎ (count < s)) → IsMarked looked.mask (wire_of one (gate_at gates (get_or (set places count place) s 0)))
    marked_at s one below (inl same) = subst (λ (p : ℕ). IsMarked looked.mask (wire_of one (gate_at gates p))) (sym (here s same)) (marked one)
    marked_at s one below (inr (inl less)) = subst (λ (p : ℕ). IsMarked looked.mask (wire_of one (gate_at gates p))) (sym (before s less)) (are.marked s one less)
    marked_at s one below (inr (inr more)) = absurd (omega arith)
