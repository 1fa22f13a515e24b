-- Slots where each gate has a free one behind it.
use Rattle.std.proofs.Common.{◌≡◌, ◌≢◌, ℕ, ◌+◌, ◌*◌, ◌<◌, ◌≤◌, Bool, List, [], ◌∷◌, zero, suc, length, refl, sym, ap, subst, ◌∙◌, arith, inl, inr, ◌⊎◌}
use Rattle.std.proofs.lemmas.Bool.{cases_lt}
use Rattle.std.proofs.lemmas.Bool.Decides.{nat_tests}
use Rattle.pq_gate.specs.declared.gate.Gate.{Gate}
use Rattle.pq_gate.specs.Commuting.{Touches}
use Rattle.pq_links.specs.declared.links.Sides.{Sides}
use Rattle.pq_links.specs.Wires.{wire_of}
use Rattle.pq_links.specs.Places.{gate_at}
use Rattle.pq_links.specs.Links.{side_at, far, IsNextOn, IsLastOn, LinksView, AreLinked}
use Rattle.pq_links.specs.Slots.{no_wire, free_slot, spread, AreNext, ArePrevious, AreChained}
use Rattle.pq_links.specs.Leading.{doubled, AreSpread}
use Rattle.pq_links.proofs.Changing.{free_uses, free_wire}

-- there are twice as many slots
pub length_spread : (gates : List Gate) → length (spread gates) ≡ 2 * length gates
length_spread [] = refl
length_spread (gate ∷ gates) = (let h : length (spread gates) ≡ 2 * length gates = length_spread gates in omega arith)

-- each gate stands in the slot of twice its place
pub own_slot : (gates : List Gate) (p : ℕ) → p < length gates → gate_at (spread gates) (2 * p) ≡ gate_at gates p
own_slot [] p below = absurd (omega arith)
own_slot (gate ∷ gates) zero below = refl
own_slot (gate ∷ gates) (suc p) below =
    let e : 2 * suc p ≡ suc (suc (2 * p)) = omega arith in
    ap (λ (q : ℕ). gate_at (gate ∷ free_slot ∷ spread gates) q) e ∙ own_slot gates p (omega arith)

-- and each other slot is free
pub every_slot : (gates : List Gate) (q : ℕ) → q < length (spread gates) →
    ((p : ℕ) × (q ≡ 2 * p) × (p < length gates) × (gate_at (spread gates) q ≡ gate_at gates p)) ⊎ (gate_at (spread gates) q ≡ free_slot)
every_slot [] q below = absurd (omega arith)
every_slot (gate ∷ gates) zero below = inl (0, refl, omega arith, refl)
every_slot (gate ∷ gates) (suc zero) below = inr refl
every_slot (gate ∷ gates) (suc (suc q)) below = elim (every_slot gates q (omega arith)) [ inl at ↦ inl (suc at.0, (let e : q ≡ 2 * at.0 = at.1 in omega arith), (let l : at.0 < length gates = at.2 in omega arith), at.3) | inr free ↦ inr free ]

pub doubled_in : (count n : ℕ) → n < count → doubled count n ≡ 2 * n
doubled_in count n below = grind (arith, nat_tests)

pub doubled_past : (count n : ℕ) → count ≤ n → doubled count n ≡ far
doubled_past count n past = grind (arith, nat_tests)

-- the next place, in slots
pub doubled_next : (gates : List Gate) (wire p n : ℕ) → wire ≢ no_wire → 2 * length gates < far → p < length gates → IsNextOn gates wire (p + 1) n →
    IsNextOn (spread gates) wire (2 * p + 1) (doubled (length gates) n)
doubled_next gates wire p n valid few inside next = by (cases_lt n (length gates))
  where
    none : (q : ℕ) → 2 * p + 1 ≤ q → (q < 2 * n) → q < length (spread gates) → ¬ Touches (gate_at (spread gates) q) wire
    none q above below in_list = elim (every_slot gates q in_list) [
      | inl at ↦ subst (λ (g : Gate). ¬ Touches g wire) (sym at.3) (let e : q ≡ 2 * at.0 = at.1 in next.none at.0 (omega arith) (omega arith) at.2)
      | inr free ↦ free_uses wire (gate_at (spread gates) q) free valid
    ]

    by : (n < length gates) ⊎ (length gates ≤ n) → IsNextOn (spread gates) wire (2 * p + 1) (doubled (length gates) n)
    by (inl below) = subst (λ (m : ℕ). IsNextOn (spread gates) wire (2 * p + 1) m) (sym (doubled_in (length gates) n below)) (let l : length (spread gates) ≡ 2 * length gates = length_spread gates in record {
      ahead = (let a : p + 1 ≤ n = next.ahead in omega arith);
      uses = λ _. subst (λ (g : Gate). Touches g wire) (sym (own_slot gates n below)) (next.uses below);
      none = none;
      past = λ past. absurd (omega arith);
    })
    by (inr past) = subst (λ (m : ℕ). IsNextOn (spread gates) wire (2 * p + 1) m) (sym (doubled_past (length gates) n past)) (let l : length (spread gates) ≡ 2 * length gates = length_spread gates in record {
      ahead = omega arith;
      uses = λ low. absurd (omega arith);
      none = λ q above low in_list. none q above (omega arith) in_list;
      past = λ _. refl;
    })

spread_next_is : (gates : List Gate) (sides next : List Sides) → 2 * length gates < far →
    ((p : ℕ) (one : Bool) → p < length gates → IsNextOn gates (wire_of one (gate_at gates p)) (p + 1) (side_at one sides p)) →
    AreSpread (length gates) (length gates) sides next → AreNext (spread gates) next
spread_next_is gates sides next few linked spread_sides q one below valid = by (every_slot gates q below)
  where
    at_slot : (p : ℕ) → p < length gates → wire_of one (gate_at gates p) ≢ no_wire → IsNextOn (spread gates) (wire_of one (gate_at gates p)) (2 * p + 1) (side_at one next (2 * p))
    at_slot p inside on =
        subst (λ (n : ℕ). IsNextOn (spread gates) (wire_of one (gate_at gates p)) (2 * p + 1) n) (sym (spread_sides.each p one inside))
        (doubled_next gates (wire_of one (gate_at gates p)) p (side_at one sides p) on few inside (linked p one inside))

    by : ((p : ℕ) × (q ≡ 2 * p) × (p < length gates) × (gate_at (spread gates) q ≡ gate_at gates p)) ⊎ (gate_at (spread gates) q ≡ free_slot) →
        IsNextOn (spread gates) (wire_of one (gate_at (spread gates) q)) (q + 1) (side_at one next q)
    by (inr free) = absurd (valid (free_wire one (gate_at (spread gates) q) free))
    by (inl (p, at, inside, same)) =
        subst (λ (g : Gate). IsNextOn (spread gates) (wire_of one g) (q + 1) (side_at one next q)) (sym same)
        (subst (λ (r : ℕ). IsNextOn (spread gates) (wire_of one (gate_at gates p)) (r + 1) (side_at one next r)) (sym at)
        (at_slot p inside (subst (λ (g : Gate). wire_of one g ≢ no_wire) same valid)))

-- the previous place, in slots
doubled_last : (gates : List Gate) (wire p n : ℕ) → wire ≢ no_wire → 2 * length gates < far → p < length gates → IsLastOn gates wire p n →
    IsLastOn (spread gates) wire (2 * p) (doubled (length gates) n)
doubled_last gates wire p n valid few inside last = by (cases_lt n p)
  where
    none : (q : ℕ) → q < 2 * p → (n < p → 2 * n < q) → q < length (spread gates) → ¬ Touches (gate_at (spread gates) q) wire
    none q below behind in_list = elim (every_slot gates q in_list) [
      | inl at ↦ subst (λ (g : Gate). ¬ Touches g wire) (sym at.3) (let e : q ≡ 2 * at.0 = at.1 in last.none at.0 (omega arith) (λ low. let b : 2 * n < q = behind low in omega arith))
      | inr free ↦ free_uses wire (gate_at (spread gates) q) free valid
    ]

    by : (n < p) ⊎ (p ≤ n) → IsLastOn (spread gates) wire (2 * p) (doubled (length gates) n)
    by (inl below) = subst (λ (m : ℕ). IsLastOn (spread gates) wire (2 * p) m) (sym (doubled_in (length gates) n (omega arith))) (let l : length (spread gates) ≡ 2 * length gates = length_spread gates in record {
      uses = λ _. subst (λ (g : Gate). Touches g wire) (sym (own_slot gates n (omega arith))) (last.uses below);
      none = λ q low behind. none q low (λ _. behind (omega arith)) (omega arith);
      past = λ past. absurd (omega arith);
    })
    by (inr past) =
        let far_is : n ≡ far = last.past past in
        subst (λ (m : ℕ). IsLastOn (spread gates) wire (2 * p) m) (sym (doubled_past (length gates) n (omega arith))) (let l : length (spread gates) ≡ 2 * length gates = length_spread gates in record {
          uses = λ low. absurd (omega arith);
          none = λ q low _. none q low (λ before. absurd (omega arith)) (omega arith);
          past = λ _. refl;
        })

spread_previous_is : (gates : List Gate) (sides previous : List Sides) → 2 * length gates < far →
    ((p : ℕ) (one : Bool) → p < length gates → IsLastOn gates (wire_of one (gate_at gates p)) p (side_at one sides p)) →
    AreSpread (length gates) (length gates) sides previous → ArePrevious (spread gates) previous
spread_previous_is gates sides previous few linked spread_sides q one below valid = by (every_slot gates q below)
  where
    at_slot : (p : ℕ) → p < length gates → wire_of one (gate_at gates p) ≢ no_wire → IsLastOn (spread gates) (wire_of one (gate_at gates p)) (2 * p) (side_at one previous (2 * p))
    at_slot p inside on =
        subst (λ (n : ℕ). IsLastOn (spread gates) (wire_of one (gate_at gates p)) (2 * p) n) (sym (spread_sides.each p one inside))
        (doubled_last gates (wire_of one (gate_at gates p)) p (side_at one sides p) on few inside (linked p one inside))

    by : ((p : ℕ) × (q ≡ 2 * p) × (p < length gates) × (gate_at (spread gates) q ≡ gate_at gates p)) ⊎ (gate_at (spread gates) q ≡ free_slot) →
        IsLastOn (spread gates) (wire_of one (gate_at (spread gates) q)) q (side_at one previous q)
    by (inr free) = absurd (valid (free_wire one (gate_at (spread gates) q) free))
    by (inl (p, at, inside, same)) =
        subst (λ (g : Gate). IsLastOn (spread gates) (wire_of one g) q (side_at one previous q)) (sym same)
        (subst (λ (r : ℕ). IsLastOn (spread gates) (wire_of one (gate_at gates p)) r (side_at one previous r)) (sym at)
        (at_slot p inside (subst (λ (g : Gate). wire_of one g ≢ no_wire) same valid)))

-- the chains of slots where each gate has a free one behind it
pub spread_chained : (gates slots : List Gate) (links : LinksView) (next previous : List Sides) → slots ≡ spread gates → 2 * length gates < far → AreLinked gates links →
    AreSpread (length links.next) (length links.next) links.next next → AreSpread (length links.previous) (length links.previous) links.previous previous → AreChained slots next previous
spread_chained gates slots links next previous same few linked nexts previouses =
    let twice : length slots ≡ 2 * length gates = ap (λ (xs : List Gate). length xs) same ∙ length_spread gates in
    let ahead : AreSpread (length gates) (length gates) links.next next = subst (λ (n : ℕ). AreSpread n n links.next next) linked.nexts nexts in
    let behind : AreSpread (length gates) (length gates) links.previous previous = subst (λ (n : ℕ). AreSpread n n links.previous previous) linked.previouses previouses in
    record {
      nexts = ahead.long ∙ sym twice;
      previouses = behind.long ∙ sym twice;
      next = subst (λ (xs : List Gate). AreNext xs next) (sym same) (spread_next_is gates links.next next few linked.next ahead);
      previous = subst (λ (xs : List Gate). ArePrevious xs previous) (sym same) (spread_previous_is gates links.previous previous few linked.previous behind);
    }
