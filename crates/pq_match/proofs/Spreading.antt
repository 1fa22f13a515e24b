-- Gates spread over slots, and written back.
use Rattle.std.proofs.Common.{◌≡◌, ℕ, zero, suc, ◌+◌, ◌-◌, ◌*◌, ◌<◌, ◌≤◌, Bool, true, false, cond, List, [], ◌∷◌, ◌++◌, length, get_or, set, take, drop, refl, ap, sym, subst, ◌∙◌, arith, inl, inr, ◌⊎◌}
use Rattle.std.proofs.lemmas.Bool.{cases_lt, ne_eqb}
use Rattle.std.proofs.Math.ListN.{get_or-append}
use Rattle.std.proofs.Math.Seq.{get_or-append_right}
use Rattle.std.proofs.lemmas.Grind.{take-set_at}
use Rattle.std.proofs.lemmas.List.{take_more, append-nil, length-append, length-set, take-append-drop}
use Rattle.pq_gate.specs.declared.gate.Gate.{Gate}
use Rattle.pq_gate.specs.declared.gate.Gate.TheVariants.{H}
use Rattle.pq_gate.specs.Commuting.{Touches}
use Rattle.pq_gate.specs.Ports.{first_wire}
use Rattle.pq_gate.proofs.WireLaws.{touches_first}
use Rattle.pq_links.specs.Places.{gate_at}
use Rattle.pq_links.specs.Slots.{no_wire, free_slot, is_free, AreSlots, gates_in, spread}
use Rattle.pq_match.specs.Work.{AreTaken}
use Rattle.pq_match.proofs.RankedRewriting.{gates_in-append}

taken_gate : (gate : Gate) → ¬ Touches gate no_wire → is_free gate ≡ false
taken_gate gate apart = ne_eqb (first_wire gate) no_wire (λ same. apart (subst (Touches gate) same (touches_first gate)))

-- gates of which none is free stand in slots
pub taken_slots : (gates : List Gate) → AreTaken gates → AreSlots gates
taken_slots gates taken p below touches = absurd (taken p below touches)

-- more gates behind them
pub taken_all : (gates more : List Gate) → AreTaken gates → AreTaken more → AreTaken (gates ++ more)
taken_all gates more taken more_taken p below = by (cases_lt p (length gates))
  where
    by : (p < length gates) ⊎ (length gates ≤ p) → ¬ Touches (gate_at (gates ++ more) p) no_wire
    by (inl less) = subst (λ (g : Gate). ¬ Touches g no_wire) (sym (get_or-append gates more (H 0) p less)) (taken p less)
    by (inr from) =
        subst (λ (g : Gate). ¬ Touches g no_wire) (sym (get_or-append_right gates more p (H 0) from))
        (more_taken (p - length gates) (omega (arith, length-append gates more)))

pub taken_more : (gates : List Gate) (gate : Gate) → AreTaken gates → ¬ Touches gate no_wire → AreTaken (gates ++ gate ∷ [])
taken_more gates gate taken apart = taken_all gates (gate ∷ []) taken one
  where
    one : AreTaken (gate ∷ [])
    one zero below = apart
    one (suc p) below = absurd (omega arith)

-- what was spread is held
pub spread_gates : (gates : List Gate) → AreTaken gates → gates_in (spread gates) ≡ gates
spread_gates [] taken = refl
spread_gates (gate ∷ gates) taken =
    ap (λ (b : Bool). cond b (gates_in (spread gates)) (gate ∷ gates_in (spread gates))) (taken_gate gate (taken 0 (omega arith)))
    ∙ ap (λ (rest : List Gate). gate ∷ rest) (spread_gates gates (λ p below. taken (suc p) (omega arith)))

pub spread_slots : (gates : List Gate) → AreTaken gates → AreSlots (spread gates)
spread_slots [] taken p below touches = absurd (omega arith)
spread_slots (gate ∷ gates) taken zero below touches = absurd (taken 0 (omega arith) touches)
spread_slots (gate ∷ gates) taken (suc zero) below touches = refl
spread_slots (gate ∷ gates) taken (suc (suc p)) below touches = spread_slots gates (λ q q_below. taken (suc q) (omega arith)) p (omega arith) touches

pub spread_long : (gates : List Gate) → length (spread gates) ≡ 2 * length gates
spread_long [] = refl
spread_long (gate ∷ gates) = omega (arith, spread_long gates)

pub spread_few : (gates : List Gate) → AreTaken gates → length (gates_in (spread gates)) ≡ length gates
spread_few gates taken = ap (λ (xs : List Gate). length xs) (spread_gates gates taken)

spread-append : (xs ys : List Gate) → spread (xs ++ ys) ≡ spread xs ++ spread ys
spread-append [] ys = refl
spread-append (gate ∷ xs) ys = ap (λ (rest : List Gate). gate ∷ free_slot ∷ rest) (spread-append xs ys)

-- one gate more
spread_more : (gates : List Gate) (i : ℕ) (d : Gate) → i < length gates → spread (take (i + 1) gates) ≡ (spread (take i gates) ++ get_or gates i d ∷ []) ++ free_slot ∷ []
spread_more gates i d inside =
    ap spread (take_more gates i d inside) ∙ spread-append (take i gates) (get_or gates i d ∷ []) ∙ split (spread (take i gates)) (get_or gates i d)
  where
    split : (xs : List Gate) (gate : Gate) → xs ++ gate ∷ free_slot ∷ [] ≡ (xs ++ gate ∷ []) ++ free_slot ∷ []
    split [] gate = refl
    split (x ∷ xs) gate = ap (λ (rest : List Gate). x ∷ rest) (split xs gate)

-- and its two slots are written
pub spread_written : (slots gates : List Gate) (i : ℕ) (free d : Gate) → i < length gates → length slots ≡ 2 * length gates → take (2 * i) slots ≡ spread (take i gates) →
    free ≡ free_slot → take (2 * (i + 1)) (set (set slots (2 * i) (get_or gates i d)) (2 * i + 1) free) ≡ spread (take (i + 1) gates)
spread_written slots gates i free d inside long old is_free =
    take-set_at (set slots (2 * i) (get_or gates i d)) (2 * i + 1) (2 * (i + 1)) free (omega arith) (omega (arith, length-set slots (2 * i) (get_or gates i d)))
    ∙ ap (λ (xs : List Gate). xs ++ free ∷ []) (take-set_at slots (2 * i) (2 * i + 1) (get_or gates i d) refl (omega arith))
    ∙ ap (λ (xs : List Gate). (xs ++ get_or gates i d ∷ []) ++ free ∷ []) old
    ∙ ap (λ (slot : Gate). (spread (take i gates) ++ get_or gates i d ∷ []) ++ slot ∷ []) is_free
    ∙ sym (spread_more gates i d inside)

-- one slot more is written
pub written_more : (slots : List Gate) (i : ℕ) (d : Gate) → i < length slots → gates_in (take (i + 1) slots) ≡ gates_in (take i slots) ++ cond (is_free (get_or slots i d)) [] (get_or slots i d ∷ [])
written_more slots i d inside = ap gates_in (take_more slots i d inside) ∙ gates_in-append (take i slots) (get_or slots i d ∷ [])

pub written_free : (slots : List Gate) (i : ℕ) (d : Gate) → i < length slots → is_free (get_or slots i d) ≡ true → gates_in (take (i + 1) slots) ≡ gates_in (take i slots)
written_free slots i d inside free =
    written_more slots i d inside ∙ ap (λ (b : Bool). gates_in (take i slots) ++ cond b [] (get_or slots i d ∷ [])) free ∙ append-nil (gates_in (take i slots))

pub written_taken : (slots : List Gate) (i : ℕ) (d : Gate) → i < length slots → is_free (get_or slots i d) ≡ false → gates_in (take (i + 1) slots) ≡ gates_in (take i slots) ++ get_or slots i d ∷ []
written_taken slots i d inside taken =
    written_more slots i d inside ∙ ap (λ (b : Bool). gates_in (take i slots) ++ cond b [] (get_or slots i d ∷ [])) taken

-- a prefix holds no more than the whole
pub written_few : (slots : List Gate) (i : ℕ) → length (gates_in (take i slots)) ≤ length (gates_in slots)
written_few slots i =
    let whole : gates_in slots ≡ gates_in (take i slots) ++ gates_in (drop i slots) =
    ap gates_in (sym (take-append-drop i slots)) ∙ gates_in-append (take i slots) (drop i slots) in
    omega (arith, length-append (gates_in (take i slots)) (gates_in (drop i slots)), ap (λ (xs : List Gate). length xs) whole)

pub written_room : (slots : List Gate) (i : ℕ) (d : Gate) → i < length slots → is_free (get_or slots i d) ≡ false → length (gates_in (take i slots)) < length (gates_in slots)
written_room slots i d inside taken =
    omega (arith, written_few slots (i + 1), ap (λ (xs : List Gate). length xs) (written_taken slots i d inside taken), length-append (gates_in (take i slots)) (get_or slots i d ∷ []))
