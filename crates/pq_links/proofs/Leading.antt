-- Sides that are led on for both wires of a gate.
use Rattle.std.proofs.Common.{◌≡◌, ℕ, ◌<◌, ◌==◌, Bool, true, false, List, length, refl, sym, ap, subst, ◌∙◌, arith, inl, inr, ◌⊎◌}
use Rattle.std.proofs.lemmas.Bool.{cases_order, eqb-true, eq-eqb}
use Rattle.pq_gate.specs.declared.gate.Gate.{Gate}
use Rattle.pq_links.specs.declared.links.Sides.{Sides}
use Rattle.pq_links.specs.Wires.{wire_of}
use Rattle.pq_links.specs.Places.{gate_at}
use Rattle.pq_links.specs.declared.links.Head.{Head}
use Rattle.pq_links.specs.Links.{side, side_at, is_on, IsEndOn}
use Rattle.pq_links.specs.Leading.{IsHeadOf, IsLedAt, AreLed}

-- the last gate on a wire is led on to a place
pub record IsLed (gates : List Gate) (old new : List Sides) (last wire place : ℕ) : Type 0 where
  pub led : (one : Bool) → last < length gates → wire_of one (gate_at gates last) ≡ wire → side_at one new last ≡ place
  pub others : (p : ℕ) (one : Bool) → (p ≡ last → wire_of one (gate_at gates p) ≡ wire → ⊥) → side_at one new p ≡ side_at one old p

-- one number is another or isn't
same_or_not : (a b : ℕ) → (a ≡ b) ⊎ (a ≡ b → ⊥)
same_or_not a b = elim (cases_order a b) [ inl same ↦ inl same | inr apart ↦ elim apart [ inl less ↦ inr (λ same. omega arith) | inr more ↦ inr (λ same. omega arith) ] ]

each_led : (slots : List Gate) (gate : Gate) (at to : Sides) (old mid new : List Sides) → IsLed slots old mid at.first (wire_of false gate) to.first →
    IsLed slots mid new at.second (wire_of true gate) to.second →
    (p : ℕ) (one : Bool) → p < length slots → ((w : Bool) × IsLedAt slots gate at one p w × (side_at one new p ≡ side w to)) ⊎ (((w : Bool) → ¬ IsLedAt slots gate at one p w) × (side_at one new p ≡ side_at one old p))
each_led slots gate at to old mid new first second p one below =
    by (same_or_not p at.second) (same_or_not (wire_of one (gate_at slots p)) (wire_of true gate)) (same_or_not p at.first) (same_or_not (wire_of one (gate_at slots p)) (wire_of false gate))
  where
    by_first : side_at one new p ≡ side_at one mid p → (¬ IsLedAt slots gate at one p true) → (p ≡ at.first) ⊎ (p ≡ at.first → ⊥) →
        (wire_of one (gate_at slots p) ≡ wire_of false gate) ⊎ (wire_of one (gate_at slots p) ≡ wire_of false gate → ⊥) →
        ((w : Bool) × IsLedAt slots gate at one p w × (side_at one new p ≡ side w to)) ⊎ (((w : Bool) → ¬ IsLedAt slots gate at one p w) × (side_at one new p ≡ side_at one old p))
    by_first kept not_last (inl here) (inl on) =
        inl (
          false,
          record { here = here; on = on },
          kept ∙ (ap (λ (q : ℕ). side_at one mid q) here
              ∙ first.led one (subst (λ (q : ℕ). q < length slots) here below) (ap (λ (q : ℕ). wire_of one (gate_at slots q)) (sym here) ∙ on)),
        )
    by_first kept not_last (inr other) _ = inr (neither, kept ∙ first.others p one (λ here _. other here))
      where
        neither : (w : Bool) → ¬ IsLedAt slots gate at one p w
        neither true led = not_last led
        neither false led = other led.here
    by_first kept not_last _ (inr other) = inr (neither, kept ∙ first.others p one (λ _ on. other on))
      where
        neither : (w : Bool) → ¬ IsLedAt slots gate at one p w
        neither true led = not_last led
        neither false led = other led.on

    by : (p ≡ at.second) ⊎ (p ≡ at.second → ⊥) → (wire_of one (gate_at slots p) ≡ wire_of true gate) ⊎ (wire_of one (gate_at slots p) ≡ wire_of true gate → ⊥) →
        (p ≡ at.first) ⊎ (p ≡ at.first → ⊥) → (wire_of one (gate_at slots p) ≡ wire_of false gate) ⊎ (wire_of one (gate_at slots p) ≡ wire_of false gate → ⊥) →
        ((w : Bool) × IsLedAt slots gate at one p w × (side_at one new p ≡ side w to)) ⊎ (((w : Bool) → ¬ IsLedAt slots gate at one p w) × (side_at one new p ≡ side_at one old p))
    by (inl here) (inl on) _ _ =
        inl (
          true,
          record { here = here; on = on },
          ap (λ (q : ℕ). side_at one new q) here ∙ second.led one (subst (λ (q : ℕ). q < length slots) here below) (ap (λ (q : ℕ). wire_of one (gate_at slots q)) (sym here) ∙ on),
        )
    by (inr other) _ at_first on_first = by_first (second.others p one (λ here _. other here)) (λ led. other led.here) at_first on_first
    by _ (inr other) at_first on_first = by_first (second.others p one (λ _ on. other on)) (λ led. other led.on) at_first on_first

pub led_twice : (slots : List Gate) (gate : Gate) (at to : Sides) (old mid new : List Sides) (first last : ℕ) → first ≡ wire_of false gate → last ≡ wire_of true gate →
    IsLed slots old mid at.first first to.first → IsLed slots mid new at.second last to.second → length new ≡ length old → AreLed slots gate at to old new
led_twice slots gate at to old mid new first last first_is last_is one other long = record {
  long = long;
  each = each_led slots gate at to old mid new (subst (λ (w : ℕ). IsLed slots old mid at.first w to.first) first_is one) (subst (λ (w : ℕ). IsLed slots mid new at.second w to.second) last_is other);
}

-- the same for a gate with one wire, which is led on once
pub led_once : (slots : List Gate) (gate : Gate) (at to : Sides) (old new : List Sides) (first last : ℕ) → first ≡ wire_of false gate → last ≡ wire_of true gate → first ≡ last →
    at.first ≡ at.second → to.first ≡ to.second → IsLed slots old new at.first first to.first → length new ≡ length old → AreLed slots gate at to old new
led_once slots gate at to old new first last first_is last_is same_wire same_at same_to one long =
    led_twice slots gate at to old new new first last first_is last_is one (record { led = led; others = λ p side other. refl }) long
  where
    led : (side : Bool) → at.second < length slots → wire_of side (gate_at slots at.second) ≡ last → side_at side new at.second ≡ to.second
    led side below on =
        ap (λ (q : ℕ). side_at side new q) (sym same_at)
        ∙ (one.led side (subst (λ (q : ℕ). q < length slots) (sym same_at) below) (ap (λ (q : ℕ). wire_of side (gate_at slots q)) same_at ∙ (on ∙ sym same_wire)) ∙ same_to)

-- the end of a wire is led on, by what it says of its sides
pub led_end : (gates : List Gate) (old new : List Sides) (end : Head) (wire place : ℕ) → place ≡ length gates → IsEndOn gates wire end →
    ((one : Bool) → end.place < place → is_on one end ≡ true → side_at one new end.place ≡ place) →
    ((p : ℕ) (one : Bool) → (p ≡ end.place → p < place → is_on one end ≡ true → ⊥) → side_at one new p ≡ side_at one old p) → IsLed gates old new end.place wire place
led_end gates old new end wire place long is led others = record {
  led = λ one below on. led one (omega arith) (is.sides one below ∙ eq-eqb (wire_of one (gate_at gates end.place)) wire on);
  others = λ p one other. others p one (λ here below set.
      other here (ap (λ (q : ℕ). wire_of one (gate_at gates q)) here
      ∙ eqb-true (wire_of one (gate_at gates end.place)) wire (sym (is.sides one (let h : p ≡ end.place = here in omega arith)) ∙ set)));
}

-- the ends of both wires of a gate are led on to one place
pub led_ends : (gates : List Gate) (gate : Gate) (first last : Head) (place : ℕ) (old mid new : List Sides) (one other : ℕ) → one ≡ wire_of false gate → other ≡ wire_of true gate →
    IsEndOn gates one first → IsEndOn gates other last → place ≡ length gates → length mid ≡ length old → length new ≡ length mid →
    ((side : Bool) → first.place < place → is_on side first ≡ true → side_at side mid first.place ≡ place) →
    ((p : ℕ) (side : Bool) → (p ≡ first.place → p < place → is_on side first ≡ true → ⊥) → side_at side mid p ≡ side_at side old p) →
    ((side : Bool) → last.place < place → is_on side last ≡ true → side_at side new last.place ≡ place) →
    ((p : ℕ) (side : Bool) → (p ≡ last.place → p < place → is_on side last ≡ true → ⊥) → side_at side new p ≡ side_at side mid p) →
    AreLed gates gate (record { first = first.place; second = last.place }) (record { first = place; second = place }) old new
led_ends gates gate first last place old mid new one other one_is other_is first_end last_end long mid_long new_long led_first others_first led_last others_last =
    led_twice gates gate (record { first = first.place; second = last.place }) (record { first = place; second = place }) old mid new one other one_is other_is
    (led_end gates old mid first one place long first_end led_first others_first) (led_end gates mid new last other place long last_end led_last others_last) (new_long ∙ mid_long)

-- a head of a gate, by which of the gate's wires it is on
pub head_by : (gate : Gate) (place wire : ℕ) (first last : Bool) → (wire_of false gate == wire) ≡ first → (wire_of true gate == wire) ≡ last →
    IsHeadOf gate place wire (record { wire = wire; place = place; first = first; last = last })
head_by gate place wire first last on_first on_last = record { at = refl; on = refl; sides = sides }
  where
    sides : (one : Bool) → is_on one (record { wire = wire; place = place; first = first; last = last }) ≡ (wire_of one gate == wire)
    sides true = sym on_last
    sides false = sym on_first
