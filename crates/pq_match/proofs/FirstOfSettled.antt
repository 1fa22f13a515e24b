-- Facts of which it is settled whether they hold: what a redex is made of.
use Rattle.std.proofs.Common.{◌≡◌, ◌≢◌, ℕ, zero, suc, ◌+◌, ◌<◌, Bool, true, false, List, [], ◌∷◌, length, map, get_or, ◌⊎◌, inl, inr, refl, sym, ap, subst, ◌∙◌, arith}
use Rattle.std.specs.Prelude.{All, AllPairs, Option, Some, None}
use Rattle.std.proofs.lemmas.Bool.{cases_eq, cases_lt}
use Rattle.std.proofs.lemmas.List.{get_or_default}
use Rattle.std.proofs.lemmas.List.Elements.{All-from_get_or}
use Rattle.pq_gate.specs.declared.gate.Gate.{Gate}
use Rattle.pq_gate.specs.declared.role.Axis.{Axis}
use Rattle.pq_gate.specs.declared.role.Axis.TheVariants as axes
use Rattle.pq_gate.specs.Commuting.{Touches, Along, wires_along, Agree, Commutes}
use Rattle.pq_gate.specs.Kind.{kind_of, gate_on, number_of}
use Rattle.pq_gate.specs.Ports.{ports_of, wires_of, first_wire, last_wire, IsAmong}
use Rattle.pq_gate.proofs.KindLaws.{kind_on_wires, same_kind}
use Rattle.pq_gate.proofs.WireLaws.{lists_used, uses_listed, touched}
use Rattle.pq_rules.specs.Row.{RowView, IsSound}
use Rattle.pq_rules.specs.Renaming.{renamed}
use Rattle.pq_rules.specs.Kinds.{row_numbered}
use Rattle.pq_match.specs.Redex.{RedexView, IsRedex, IsMatch, AreWires, AreFree, IsWithin, gate_at, is_chosen, last_place}
use Rattle.pq_match.proofs.OneFirst.{some_place}

-- the fact holds, or it doesn't
abbrev pub Settled : Type 0 → Type 0
Settled P = P ⊎ ¬ P

both : {P Q : Type 0} → Settled P → Settled Q → Settled (P × Q)
both (inl p) (inl q) = inl (p, q)
both (inl p) (inr q) = inr (λ h. q h.1)
both (inr p) q = inr (λ h. p h.0)

either : {P Q : Type 0} → Settled P → Settled Q → Settled (P ⊎ Q)
either (inl p) q = inl (inl p)
either (inr p) (inl q) = inl (inr q)
either (inr p) (inr q) = inr (λ h. elim h [ inl a ↦ p a | inr b ↦ q b ])

implied : {P Q : Type 0} → Settled P → Settled Q → Settled (P → Q)
implied p (inl q) = inl (λ h. q)
implied (inl p) (inr q) = inr (λ h. q (h p))
implied (inr p) (inr q) = inl (λ h. absurd (p h))

like : {P Q : Type 0} → (P → Q) → (Q → P) → Settled P → Settled Q
like there back (inl p) = inl (there p)
like there back (inr p) = inr (λ q. p (back q))

-- a fact of each number below n
below : (n : ℕ) (P : ℕ → Type 0) → ((k : ℕ) → Settled (P k)) → Settled ((k : ℕ) → k < n → P k)
below zero P each = inl (λ k k_below. absurd (omega arith))
below (suc n) P each =
    like
    (λ h k k_below. elim (cases_eq k n) [ inl same ↦ subst P (sym same) h.1 | inr differ ↦ h.0 k (omega arith) ])
    (λ h. ((λ k k_below. h k (omega arith)), h n (omega arith)))
    (both (below n P each) (each n))

all : (P : ℕ → Type 0) (xs : List ℕ) → ((x : ℕ) → Settled (P x)) → Settled (All P xs)
all P xs each =
    like (All-from_get_or P xs 0) (λ h k inside. h k 0 inside) (below (length xs) (λ k. P (get_or xs k 0)) (λ k. each (get_or xs k 0)))

all_pairs : (R : ℕ → ℕ → Type 0) (xs : List ℕ) → ((x y : ℕ) → Settled (R x y)) → Settled (AllPairs R xs)
all_pairs R xs each =
    like
    (λ h i j d less inside.
    subst (λ (v : ℕ). R v (get_or xs j d)) (get_or_default xs i 0 d (omega arith))
    (subst (λ (v : ℕ). R (get_or xs i 0) v) (get_or_default xs j 0 d inside) (h j inside i less)))
    (λ h j inside i less. h i j 0 less inside)
    (below (length xs) (λ j. (i : ℕ) → i < j → R (get_or xs i 0) (get_or xs j 0))
    (λ j. below j (λ i. R (get_or xs i 0) (get_or xs j 0)) (λ i. each (get_or xs i 0) (get_or xs j 0))))

less : (a b : ℕ) → Settled (a < b)
less a b = elim (cases_lt a b) [ inl here ↦ inl here | inr there ↦ inr (λ h. omega arith) ]

differ : (a b : ℕ) → Settled (a ≢ b)
differ a b = elim (cases_eq a b) [ inl same ↦ inr (λ h. h same) | inr other ↦ inl other ]

same_truth : (a b : Bool) → Settled (a ≡ b)
same_truth true true = inl refl
same_truth false false = inl refl
same_truth a b = inr (λ e. cc)

same_gate : (g h : Gate) → Settled (g ≡ h)
same_gate g h =
    like {P = (number_of (kind_of g) ≡ number_of (kind_of h)) × ((first_wire g ≡ first_wire h) × (last_wire g ≡ last_wire h))}
    (λ e. sym (kind_on_wires g) ∙ ((λ i. gate_on (same_kind (kind_of g) (kind_of h) e.0 i) (e.1.0 i) (e.1.1 i)) ∙ kind_on_wires h))
    (λ e. (ap (λ (x : Gate). number_of (kind_of x)) e, (ap first_wire e, ap last_wire e)))
    (both (cases_eq (number_of (kind_of g)) (number_of (kind_of h)))
    (both (cases_eq (first_wire g) (first_wire h)) (cases_eq (last_wire g) (last_wire h))))

same_gates : (c d : List Gate) → Settled (c ≡ d)
same_gates [] [] = inl refl
same_gates (g ∷ c) (h ∷ d) = like {P = (g ≡ h) × (c ≡ d)} (λ e. cc) (λ e. ((cc), (cc))) (both (same_gate g h) (same_gates c d))
same_gates c d = inr (λ e. cc)

-- a number above each wire of the gate
abbrev pub above_wires : Gate → ℕ
above_wires g = suc (first_wire g + last_wire g)

pub touched_below : (g : Gate) (w : ℕ) → Touches g w → w < above_wires g
touched_below g w here = elim (touched g w here) [ inl first ↦ omega arith | inr last ↦ omega arith ]

among : (w : ℕ) (wires : List ℕ) → Settled (IsAmong w wires)
among w [] = inr (λ h. h)
among w (v ∷ []) = cases_eq w v
among w (v ∷ u ∷ wires) = either (cases_eq w v) (among w (u ∷ wires))

touches : (g : Gate) (w : ℕ) → Settled (Touches g w)
touches g w = like (uses_listed g w) (lists_used g w) (among w (wires_of g))

along : (axis : Axis) (g : Gate) (w : ℕ) → Settled (Along axis g w)
along axis g w = among w (wires_along axis (ports_of g))

agree : (g h : Gate) (w : ℕ) → Settled (Agree g h w)
agree g h w =
    implied (touches g w)
    (implied (touches h w) (either (both (along axes.Z g w) (along axes.Z h w)) (both (along axes.X g w) (along axes.X h w))))

commute : (g h : Gate) → Settled (Commutes g h)
commute g h =
    like (λ here w left right. here w (touched_below g w left) left right) (λ here w w_below. here w)
    (below (above_wires g) (Agree g h) (agree g h))

-- the gates at two places commute where the first is chosen and the second isn't
abbrev Passes : List Gate → List ℕ → ℕ → ℕ → Type 0
Passes gates places i j = is_chosen places i ≡ true → is_chosen places j ≡ false → Commutes (gate_at gates i) (gate_at gates j)

passes : (gates : List Gate) (places : List ℕ) (i j : ℕ) → Settled (Passes gates places i j)
passes gates places i j =
    implied (same_truth (is_chosen places i) true)
    (implied (same_truth (is_chosen places j) false) (commute (gate_at gates i) (gate_at gates j)))

free : (gates : List Gate) (places : List ℕ) → Settled (AreFree gates places)
free gates places =
    like (λ h i j yes_i no_j before inside. h j inside i before yes_i no_j) (λ h j inside i before yes_i no_j. h i j yes_i no_j before inside)
    (below (last_place places) (λ j. (i : ℕ) → i < j → Passes gates places i j)
    (λ j. below j (λ i. Passes gates places i j) (λ i. passes gates places i j)))

are_wires : (count : ℕ) (wires : List ℕ) → Settled (AreWires count wires)
are_wires count wires =
    like (λ h. record { whole = h.0; apart = h.1 }) (λ h. (h.whole, h.apart))
    (both (cases_eq (length wires) count) (all_pairs (λ v w. v ≢ w) wires differ))

matching : (gates pattern : List Gate) (wires places : List ℕ) → Settled (IsMatch gates pattern wires places)
matching gates pattern wires places =
    like (λ h. record { rising = h.0; inside = h.1.0; chosen = h.1.1 }) (λ h. (h.rising, (h.inside, h.chosen)))
    (both (all_pairs (λ i j. i < j) places less)
    (both (all (λ i. i < length gates) places (λ i. less i (length gates)))
    (same_gates (map (gate_at gates) places) (map (renamed wires) pattern))))

-- the parts of a redex
redex_from : (rules : List RowView) (gates : List Gate) (redex : RedexView) (row : RowView) → row_numbered rules redex.row ≡ Some row →
    0 < length redex.places → AreWires row.wires redex.wires → IsMatch gates row.pattern redex.wires redex.places →
    AreFree gates redex.places → IsRedex rules gates redex
redex_from rules gates redex row numbered some wires matches frees = search arith

redex_of : (rules : List RowView) (gates : List Gate) (redex : RedexView) (found : Option RowView) → All IsSound rules →
    row_numbered rules redex.row ≡ found → Settled (IsRedex rules gates redex)
redex_of rules gates redex None sound is = inr (λ h. cc (h.numbered, is))
redex_of rules gates redex (Some row) sound is =
    like (λ h. redex_from rules gates redex row is h.0 h.1.0 h.1.1.0 h.1.1.1)
    (λ h. let same : h.row ≡ row = cc (h.numbered, is) in (
      some_place rules gates redex sound h,
      (
        subst (λ (r : RowView). AreWires r.wires redex.wires) same h.wires,
        (subst (λ (r : RowView). IsMatch gates r.pattern redex.wires redex.places) same h.matches, h.free),
      ),
    ))
    (both (less 0 (length redex.places))
    (both (are_wires row.wires redex.wires) (both (matching gates row.pattern redex.wires redex.places) (free gates redex.places))))

-- a redex within a span
pub redex_within : (rules : List RowView) (gates : List Gate) (span : ℕ) → All IsSound rules → (redex : RedexView) →
    Settled (IsRedex rules gates redex × IsWithin span redex)
redex_within rules gates span sound redex =
    both (redex_of rules gates redex (row_numbered rules redex.row) sound refl) (less (last_place redex.places) (get_or redex.places 0 0 + span))
