-- Cursors that are led to the wires of a gate.
use Rattle.std.proofs.Common.{◌≡◌, ◌≢◌, ℕ, ◌+◌, ◌<◌, ◌≤◌, Bool, true, false, List, length, get_or, set, refl, sym, ap, subst, ◌∙◌, arith, inl, inr, ◌⊎◌}
use Rattle.std.proofs.lemmas.Bool.{cases_order}
use Rattle.std.proofs.lemmas.Grind.{get_or-set_at}
use Rattle.std.proofs.lemmas.List.{length-set, get_or-set_other}
use Rattle.pq_gate.specs.declared.gate.Gate.{Gate}
use Rattle.pq_links.specs.Wires.{wire_of}
use Rattle.pq_links.specs.Links.{IsNextOn}
use Rattle.pq_match.specs.declared.cursors.Cursors.{Cursors}
use Rattle.pq_match.specs.Redex.{gate_at}
use Rattle.pq_match.specs.Seek.{AreLedTo}

-- two values put at two places of a list
module _ (xs : List ℕ) (i j a b : ℕ) (i_in : i < length xs) (j_in : j < length xs) where
  put_second : get_or (set (set xs i a) j b) j 0 ≡ b
  put_second = get_or-set_at (set xs i a) j j b 0 refl (omega (arith, length-set xs i a))

  put_first : i ≢ j → get_or (set (set xs i a) j b) i 0 ≡ a
  put_first apart = get_or-set_other (set xs i a) j i b 0 apart ∙ get_or-set_at xs i i a 0 refl i_in

  put_other : (v : ℕ) → v ≢ i → v ≢ j → get_or (set (set xs i a) j b) v 0 ≡ get_or xs v 0
  put_other v not_i not_j = get_or-set_other (set xs i a) j v b 0 not_j ∙ get_or-set_other xs i v a 0 not_i

  -- What is true of both values is true of what stands at both places; and of each, where the places differ.
  put_each : (P : Bool → ℕ → Type 0) → P false a → P true b → (i ≡ j → P false b) → P false (get_or (set (set xs i a) j b) i 0) × P true (get_or (set (set xs i a) j b) j 0)
  put_each P at_first at_second both = (first (cases_order i j), subst (P true) (sym put_second) at_second)
    where
      first : (i ≡ j) ⊎ ((i < j) ⊎ (j < i)) → P false (get_or (set (set xs i a) j b) i 0)
      first (inl same) = subst (P false) (sym (ap (λ (k : ℕ). get_or (set (set xs i a) j b) k 0) same ∙ put_second)) (both same)
      first (inr (inl less)) = subst (P false) (sym (put_first (λ same. omega arith))) at_first
      first (inr (inr more)) = subst (P false) (sym (put_first (λ same. omega arith))) at_first

  put_least : (least : ℕ) → least ≤ a → least ≤ b → ((v : ℕ) → v < 3 → least ≤ get_or xs v 0) → (v : ℕ) → v < 3 → least ≤ get_or (set (set xs i a) j b) v 0
  put_least least one other all v below = by (cases_order v i) (cases_order v j)
    where
      by : (v ≡ i) ⊎ ((v < i) ⊎ (i < v)) → (v ≡ j) ⊎ ((v < j) ⊎ (j < v)) → least ≤ get_or (set (set xs i a) j b) v 0
      by _ (inl same) = subst (λ (n : ℕ). least ≤ n) (sym (ap (λ (k : ℕ). get_or (set (set xs i a) j b) k 0) same ∙ put_second)) other
      by (inl same) (inr differs) = subst (λ (n : ℕ). least ≤ n) (sym (ap (λ (k : ℕ). get_or (set (set xs i a) j b) k 0) same ∙ put_first (apart differs))) one
        where
          apart : (v < j) ⊎ (j < v) → i ≢ j
          apart (inl less) e = omega arith
          apart (inr more) e = omega arith
      by (inr not_i) (inr not_j) = subst (λ (n : ℕ). least ≤ n) (sym (put_other v (apart not_i) (apart not_j))) (all v below)
        where
          apart : {k : ℕ} → (v < k) ⊎ (k < v) → v ≢ k
          apart (inl less) e = omega arith
          apart (inr more) e = omega arith

pub put_pair : (xs : List ℕ) (i j a b : ℕ) → i < length xs → j < length xs → (P : Bool → ℕ → Type 0) → P false a → P true b → (i ≡ j → P false b) →
    P false (get_or (set (set xs i a) j b) i 0) × P true (get_or (set (set xs i a) j b) j 0)
put_pair xs i j a b i_in j_in P = put_each xs i j a b i_in j_in P

pub put_elsewhere : (xs : List ℕ) (i j a b v : ℕ) → v ≢ i → v ≢ j → get_or (set (set xs i a) j b) v 0 ≡ get_or xs v 0
put_elsewhere xs i j a b v not_i not_j = get_or-set_other (set xs i a) j v b 0 not_j ∙ get_or-set_other xs i v a 0 not_i

pub put_ahead : (xs : List ℕ) (i j a b least : ℕ) → i < length xs → j < length xs → least ≤ a → least ≤ b → ((v : ℕ) → v < 3 → least ≤ get_or xs v 0) →
    (v : ℕ) → v < 3 → least ≤ get_or (set (set xs i a) j b) v 0
put_ahead xs i j a b least i_in j_in = put_least xs i j a b i_in j_in least

-- the wires of a pattern's gate are led to those of a gate, and from there on
pub led_to : (gates : List Gate) (of_gate : Gate) (place : ℕ) (old : Cursors) (i j to_first to_second next_first next_second : ℕ) →
    i ≡ wire_of false of_gate → j ≡ wire_of true of_gate → to_first ≡ wire_of false (gate_at gates place) → to_second ≡ wire_of true (gate_at gates place) →
    i < length old.wires → j < length old.wires → i < length old.next → j < length old.next →
    IsNextOn gates (wire_of false (gate_at gates place)) (place + 1) next_first → IsNextOn gates (wire_of true (gate_at gates place)) (place + 1) next_second →
    AreLedTo gates of_gate place old (record { wires = set (set old.wires i to_first) j to_second; next = set (set old.next i next_first) j next_second })
led_to gates of_gate place old i j to_first to_second next_first next_second i_is j_is first_is second_is i_wires j_wires i_next j_next is_first is_second = record {
  leads = λ one alike. leads one alike;
  next = λ one alike. next one alike;
  wires = λ v not_i not_j. put_elsewhere old.wires i j to_first to_second v (λ same. not_i (same ∙ i_is)) (λ same. not_j (same ∙ j_is));
  others = λ v not_i not_j. put_elsewhere old.next i j next_first next_second v (λ same. not_i (same ∙ i_is)) (λ same. not_j (same ∙ j_is));
}
  where
    leads : (one : Bool) → (wire_of false of_gate ≡ wire_of true of_gate → wire_of false (gate_at gates place) ≡ wire_of true (gate_at gates place)) →
        get_or (set (set old.wires i to_first) j to_second) (wire_of one of_gate) 0 ≡ wire_of one (gate_at gates place)
    leads one alike = by one
      where
        both : (get_or (set (set old.wires i to_first) j to_second) i 0 ≡ wire_of false (gate_at gates place)) × (get_or (set (set old.wires i to_first) j to_second) j 0 ≡ wire_of true (gate_at gates place))
        both = put_pair old.wires i j to_first to_second i_wires j_wires (λ (b : Bool) (n : ℕ). n ≡ wire_of b (gate_at gates place)) first_is second_is
            (λ same. second_is ∙ sym (alike (sym i_is ∙ (same ∙ j_is))))

        by : (one : Bool) → get_or (set (set old.wires i to_first) j to_second) (wire_of one of_gate) 0 ≡ wire_of one (gate_at gates place)
        by false = ap (λ (k : ℕ). get_or (set (set old.wires i to_first) j to_second) k 0) (sym i_is) ∙ both.0
        by true = ap (λ (k : ℕ). get_or (set (set old.wires i to_first) j to_second) k 0) (sym j_is) ∙ both.1

    next : (one : Bool) → (wire_of false of_gate ≡ wire_of true of_gate → wire_of false (gate_at gates place) ≡ wire_of true (gate_at gates place)) →
        IsNextOn gates (wire_of one (gate_at gates place)) (place + 1) (get_or (set (set old.next i next_first) j next_second) (wire_of one of_gate) 0)
    next one alike = by one
      where
        both : IsNextOn gates (wire_of false (gate_at gates place)) (place + 1) (get_or (set (set old.next i next_first) j next_second) i 0) ×
            IsNextOn gates (wire_of true (gate_at gates place)) (place + 1) (get_or (set (set old.next i next_first) j next_second) j 0)
        both = put_pair old.next i j next_first next_second i_next j_next (λ (b : Bool) (n : ℕ). IsNextOn gates (wire_of b (gate_at gates place)) (place + 1) n) is_first is_second
            (λ same. subst (λ (w : ℕ). IsNextOn gates w (place + 1) next_second) (sym (alike (sym i_is ∙ (same ∙ j_is)))) is_second)

        by : (one : Bool) → IsNextOn gates (wire_of one (gate_at gates place)) (place + 1) (get_or (set (set old.next i next_first) j next_second) (wire_of one of_gate) 0)
        by false = subst (λ (k : ℕ). IsNextOn gates (wire_of false (gate_at gates place)) (place + 1) (get_or (set (set old.next i next_first) j next_second) k 0)) i_is both.0
        by true = subst (λ (k : ℕ). IsNextOn gates (wire_of true (gate_at gates place)) (place + 1) (get_or (set (set old.next i next_first) j next_second) k 0)) j_is both.1
