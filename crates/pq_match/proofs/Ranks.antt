-- The rank of a slot is how many gates stand before it: the place of its gate among the gates in the slots.
use Rattle.std.proofs.Common.{◌≡◌, ℕ, zero, suc, ◌<◌, ◌≤◌, Bool, true, false, cond, List, [], ◌∷◌, length, take, drop, refl, ap, sym, subst, ◌∙◌, arith}
use Rattle.pq_gate.specs.declared.gate.Gate.{Gate}
use Rattle.pq_links.specs.Slots.{is_free, gates_in}
use Rattle.pq_match.specs.Redex.{gate_at}

-- how many gates stand before the slot
abbrev pub rank : List Gate → ℕ → ℕ
rank [] place = 0
rank (gate ∷ slots) zero = 0
rank (gate ∷ slots) (suc place) = cond (is_free gate) (rank slots place) (suc (rank slots place))

-- the slot of the gate that stands at this place among the gates
abbrev pub slot_of : List Gate → ℕ → ℕ
slot_of [] place = 0
slot_of (gate ∷ slots) zero = cond (is_free gate) (suc (slot_of slots zero)) zero
slot_of (gate ∷ slots) (suc place) = suc (slot_of slots (cond (is_free gate) (suc place) place))

-- a gate stands in the slot
pub record IsTaken (slots : List Gate) (place : ℕ) : Type 0 where
  pub inside : place < length slots
  pub taken : is_free (gate_at slots place) ≡ false

-- The slots that are taken are in order the places of a list of gates.
pub record AreRanked (slots gates : List Gate) (up down : ℕ → ℕ) : Type 0 where
  pub rises : (p q : ℕ) → p ≤ q → up p ≤ up q
  pub less : (p q : ℕ) → IsTaken slots p → p < q → up p < up q
  pub gate : (p : ℕ) → IsTaken slots p → gate_at gates (up p) ≡ gate_at slots p
  pub inside : (p : ℕ) → IsTaken slots p → up p < length gates
  pub taken : (k : ℕ) → k < length gates → IsTaken slots (down k)
  pub back : (k : ℕ) → k < length gates → up (down k) ≡ k

rank_zero : (slots : List Gate) → rank slots 0 ≡ 0
rank_zero [] = refl
rank_zero (gate ∷ slots) = refl

rises_here : (b : Bool) (m n : ℕ) → m ≤ n → cond b m (suc m) ≤ cond b n (suc n)
rises_here true m n upto = upto
rises_here false m n upto = omega arith

pub rank_rises : (slots : List Gate) (p q : ℕ) → p ≤ q → rank slots p ≤ rank slots q
rank_rises [] p q upto = omega arith
rank_rises (gate ∷ slots) zero q upto = omega arith
rank_rises (gate ∷ slots) (suc p) zero upto = absurd (omega arith)
rank_rises (gate ∷ slots) (suc p) (suc q) upto = rises_here (is_free gate) (rank slots p) (rank slots q) (rank_rises slots p q (omega arith))

-- behind a slot that is taken the rank is one more
pub rank_taken : (slots : List Gate) (p : ℕ) → IsTaken slots p → rank slots (suc p) ≡ suc (rank slots p)
rank_taken [] p is = absurd (omega (arith, is.inside))
rank_taken (gate ∷ slots) zero is = ap (λ (b : Bool). cond b (rank slots 0) (suc (rank slots 0))) is.taken ∙ ap suc (rank_zero slots)
rank_taken (gate ∷ slots) (suc p) is =
    let rest : rank slots (suc p) ≡ suc (rank slots p) = rank_taken slots p (record { inside = omega (arith, is.inside); taken = is.taken }) in
    ap (λ (n : ℕ). cond (is_free gate) n (suc n)) rest ∙ one_more (is_free gate) (rank slots p)
  where
    one_more : (b : Bool) (n : ℕ) → cond b (suc n) (suc (suc n)) ≡ suc (cond b n (suc n))
    one_more true n = refl
    one_more false n = refl

pub rank_less : (slots : List Gate) (p q : ℕ) → IsTaken slots p → p < q → rank slots p < rank slots q
rank_less slots p q is below = omega (arith, rank_taken slots p is, rank_rises slots (suc p) q (omega arith))

gate_here : (gate : Gate) (rest : List Gate) (n : ℕ) (b : Bool) → gate_at (cond b rest (gate ∷ rest)) (cond b n (suc n)) ≡ gate_at rest n
gate_here gate rest n true = refl
gate_here gate rest n false = refl

pub rank_gate : (slots : List Gate) (p : ℕ) → IsTaken slots p → gate_at (gates_in slots) (rank slots p) ≡ gate_at slots p
rank_gate [] p is = absurd (omega (arith, is.inside))
rank_gate (gate ∷ slots) zero is = ap (λ (b : Bool). gate_at (cond b (gates_in slots) (gate ∷ gates_in slots)) 0) is.taken
rank_gate (gate ∷ slots) (suc p) is =
    gate_here gate (gates_in slots) (rank slots p) (is_free gate) ∙ rank_gate slots p (record { inside = omega (arith, is.inside); taken = is.taken })

inside_here : (gate : Gate) (rest : List Gate) (n : ℕ) (b : Bool) → n < length rest → cond b n (suc n) < length (cond b rest (gate ∷ rest))
inside_here gate rest n true below = below
inside_here gate rest n false below = omega arith

pub rank_inside : (slots : List Gate) (p : ℕ) → IsTaken slots p → rank slots p < length (gates_in slots)
rank_inside [] p is = absurd (omega (arith, is.inside))
rank_inside (gate ∷ slots) zero is =
    subst (λ (b : Bool). 0 < length (cond b (gates_in slots) (gate ∷ gates_in slots))) (sym is.taken) (omega arith)
rank_inside (gate ∷ slots) (suc p) is =
    inside_here gate (gates_in slots) (rank slots p) (is_free gate) (rank_inside slots p (record { inside = omega (arith, is.inside); taken = is.taken }))

-- what the slot of a gate is
record IsSlotOf (slots : List Gate) (k place : ℕ) : Type 0 where
  taken : IsTaken slots place
  back : rank slots place ≡ k

later_free : (gate : Gate) (slots : List Gate) (k place : ℕ) → is_free gate ≡ true → IsSlotOf slots k place → IsSlotOf (gate ∷ slots) k (suc place)
later_free gate slots k place free is = record {
  taken = record { inside = omega (arith, is.taken.inside); taken = is.taken.taken };
  back = ap (λ (b : Bool). cond b (rank slots place) (suc (rank slots place))) free ∙ is.back;
}

later_taken : (gate : Gate) (slots : List Gate) (k place : ℕ) → is_free gate ≡ false → IsSlotOf slots k place → IsSlotOf (gate ∷ slots) (suc k) (suc place)
later_taken gate slots k place taken is = record {
  taken = record { inside = omega (arith, is.taken.inside); taken = is.taken.taken };
  back = ap (λ (b : Bool). cond b (rank slots place) (suc (rank slots place))) taken ∙ ap suc is.back;
}

slot_is : (slots : List Gate) (k : ℕ) → k < length (gates_in slots) → IsSlotOf slots k (slot_of slots k)
slot_is [] k below = absurd (omega arith)
slot_is (gate ∷ slots) zero below = by (is_free gate) refl (λ some. slot_is slots zero some) below
  where
    by : (b : Bool) → is_free gate ≡ b → (0 < length (gates_in slots) → IsSlotOf slots zero (slot_of slots zero)) →
        0 < length (cond b (gates_in slots) (gate ∷ gates_in slots)) → IsSlotOf (gate ∷ slots) zero (cond b (suc (slot_of slots zero)) zero)
    by true is rest some = later_free gate slots zero (slot_of slots zero) is (rest some)
    by false is rest some = record { taken = record { inside = omega arith; taken = is }; back = refl }
slot_is (gate ∷ slots) (suc k) below = by (is_free gate) refl (λ n some. slot_is slots n some) below
  where
    by : (b : Bool) → is_free gate ≡ b → ((n : ℕ) → n < length (gates_in slots) → IsSlotOf slots n (slot_of slots n)) →
        suc k < length (cond b (gates_in slots) (gate ∷ gates_in slots)) → IsSlotOf (gate ∷ slots) (suc k) (suc (slot_of slots (cond b (suc k) k)))
    by true is rest some = later_free gate slots (suc k) (slot_of slots (suc k)) is (rest (suc k) some)
    by false is rest some = later_taken gate slots k (slot_of slots k) is (rest k (omega arith))

pub are_ranked : (slots : List Gate) → AreRanked slots (gates_in slots) (rank slots) (slot_of slots)
are_ranked slots = record {
  rises = rank_rises slots;
  less = rank_less slots;
  gate = rank_gate slots;
  inside = rank_inside slots;
  taken = λ k below. (slot_is slots k below).taken;
  back = λ k below. (slot_is slots k below).back;
}

front_here : (gate : Gate) (rest : List Gate) (n : ℕ) (b : Bool) → take (cond b n (suc n)) (cond b rest (gate ∷ rest)) ≡ cond b (take n rest) (gate ∷ take n rest)
front_here gate rest n true = refl
front_here gate rest n false = refl

back_here : (gate : Gate) (rest : List Gate) (n : ℕ) (b : Bool) → drop (cond b n (suc n)) (cond b rest (gate ∷ rest)) ≡ drop n rest
back_here gate rest n true = refl
back_here gate rest n false = refl

-- the gates in the slots before a place are as many as its rank
pub front_gates : (slots : List Gate) (p : ℕ) → gates_in (take p slots) ≡ take (rank slots p) (gates_in slots)
front_gates [] zero = refl
front_gates [] (suc p) = refl
front_gates (gate ∷ slots) zero = refl
front_gates (gate ∷ slots) (suc p) =
    ap (λ (gates : List Gate). cond (is_free gate) gates (gate ∷ gates)) (front_gates slots p) ∙ sym (front_here gate (gates_in slots) (rank slots p) (is_free gate))

-- and the others are behind them
pub back_gates : (slots : List Gate) (p : ℕ) → gates_in (drop p slots) ≡ drop (rank slots p) (gates_in slots)
back_gates [] zero = refl
back_gates [] (suc p) = refl
back_gates (gate ∷ slots) zero = refl
back_gates (gate ∷ slots) (suc p) =
    back_gates slots p ∙ sym (back_here gate (gates_in slots) (rank slots p) (is_free gate))
