use Rattle.std.proofs.Common.{◌≡◌, ℕ, zero, suc, ◌^◌, ◌<◌, Bool, true, false, ◌&&◌, ◌||◌, eqb, ltb, leb, not, ◌⊎◌, List, [], ◌∷◌, length, get_or, map, inl, inr, refl, ap, sym, subst, ◌∙◌, eq-eqb, arith}
use Rattle.std.specs.Prelude.{ℤ, pos, negsuc, All}
use Rattle.std.proofs.lemmas.List.{length-map, get_or-map}
use Rattle.std.proofs.lemmas.Bool.{ltb-true, leb-true, eqb-true}
use Rattle.pq_gate.specs.declared.gate.Gate.{Gate}
use Rattle.pq_gate.specs.declared.ring.Ring.{Ring}
use Rattle.pq_gate.specs.Circuit.{AreOn, IsCircuit}
use Rattle.pq_gate.specs.Commuting.{Touches}
use Rattle.pq_gate.specs.Matrix.{Entry, h_count, Same}
use Rattle.pq_gate.specs.Ports.{wires_of, IsAmong}
use Rattle.pq_gate.specs.Ring.{nought, one, plus, turn, root, turned, rooted}
use Rattle.pq_gate.proofs.RingLaws.{same_numbers}
use Rattle.pq_gate.proofs.WireLaws.{uses_listed}
use Rattle.pq_rules.specs.declared.rules.TheConstants.{BUILTIN_ROWS}
use Rattle.pq_rules.specs.declared.table.BuiltinRule.{BuiltinRule}
use Rattle.pq_rules.specs.Agreement.{AgreesAt}
use Rattle.pq_rules.specs.Row.{RowView, Uses, IsSound}
use Rattle.pq_rules.specs.Shapes.{rule_row}
use Rattle.pq_rules.specs.States.{state}
use Rattle.pq_rules.specs.Table.{builtin_rows}
use Rattle.pq_rules.proofs.PairLaws.{number, state-number, number-below}
use Rattle.pq_rules.proofs.StateLaws.{all_below, all_below-at, both}

abbrev all_true : {A : Type 0} → (A → Bool) → List A → Bool
all_true p [] = true
all_true p (x ∷ xs) = p x && all_true p xs

all_true-at : {A : Type 0} (p : A → Bool) (xs : List A) → all_true p xs ≡ true → (i : ℕ) (d : A) → i < length xs → p (get_or xs i d) ≡ true
all_true-at p [] all i d inside = absurd (omega arith)
all_true-at p (x ∷ xs) all zero d inside = (both (p x) _ all).0
all_true-at p (x ∷ xs) all (suc i) d inside = all_true-at p xs (both (p x) _ all).1 i d (omega arith)

abbrev same_number : ℤ → ℤ → Bool
same_number (pos m) (pos n) = eqb m n
same_number (negsuc m) (negsuc n) = eqb m n
same_number (pos m) (negsuc n) = false
same_number (negsuc m) (pos n) = false

same_number-true : (y z : ℤ) → same_number y z ≡ true → y ≡ z
same_number-true (pos m) (pos n) is = ap pos (eqb-true m n is)
same_number-true (negsuc m) (negsuc n) is = ap negsuc (eqb-true m n is)
same_number-true (pos m) (negsuc n) is = absurd (cc)
same_number-true (negsuc m) (pos n) is = absurd (cc)

abbrev same_ring : Ring → Ring → Bool
same_ring r s = same_number r.a s.a && (same_number r.b s.b && (same_number r.c s.c && same_number r.d s.d))

same_ring-true : (r s : Ring) → same_ring r s ≡ true → r ≡ s
same_ring-true r s is =
    let first = both _ _ is in
    let second = both _ _ first.1 in
    let third = both _ _ second.1 in
    same_numbers r s (same_number-true _ _ first.0) (same_number-true _ _ second.0) (same_number-true _ _ third.0) (same_number-true _ _ third.1)

abbrev are_on : ℕ → List ℕ → Bool
are_on n [] = true
are_on n (wire ∷ []) = ltb wire n
are_on n (first ∷ second ∷ rest) = ltb first n && (ltb second n && not (eqb first second))

differ : (c t : ℕ) → not (eqb c t) ≡ true → c ≡ t → ⊥
differ c t is same = (let e : not (eqb c c) ≡ true = subst (λ (u : ℕ). not (eqb c u) ≡ true) (sym same) is in let s : eqb c c ≡ true = eq-eqb c c refl in absurd (cc))

are_on-true : (n : ℕ) (wires : List ℕ) → are_on n wires ≡ true → AreOn n wires
are_on-true n [] is = tt
are_on-true n (wire ∷ []) is = ltb-true wire n is
are_on-true n (c ∷ t ∷ rest) is =
    let first = both _ _ is in
    let second = both _ _ first.1 in (ltb-true c n first.0, ltb-true t n second.0, differ c t second.1)

abbrev on_wires : ℕ → Gate → Bool
on_wires n gate = are_on n (wires_of gate)

circuit_true : (n : ℕ) (gates : List Gate) → all_true (on_wires n) gates ≡ true → IsCircuit n gates
circuit_true n [] is = tt
circuit_true n (g ∷ gates) is = (are_on-true n (wires_of g) (both _ _ is).0, circuit_true n gates (both _ _ is).1)

abbrev among : ℕ → List ℕ → Bool
among w [] = false
among w (wire ∷ []) = eqb w wire
among w (wire ∷ next ∷ rest) = eqb w wire || among w (next ∷ rest)

either : (p q : Bool) → p || q ≡ true → (p ≡ true) ⊎ (q ≡ true)
either true q is = inl refl
either false q is = inr is

among-true : (w : ℕ) (wires : List ℕ) → among w wires ≡ true → IsAmong w wires
among-true w [] is = absurd (cc)
among-true w (wire ∷ []) is = eqb-true w wire is
among-true w (wire ∷ next ∷ rest) is =
    elim (either _ _ is) [ inl here ↦ inl (eqb-true w wire here) | inr later ↦ inr (among-true w (next ∷ rest) later) ]

abbrev touching : ℕ → Gate → Bool
touching w gate = among w (wires_of gate)

touching-true : (w : ℕ) (g : Gate) → touching w g ≡ true → Touches g w
touching-true w g is = uses_listed g w (among-true w (wires_of g) is)

abbrev any_touching : ℕ → List Gate → Bool
any_touching w [] = false
any_touching w (g ∷ gates) = touching w g || any_touching w gates

uses_later : (w : ℕ) (g : Gate) (gates : List Gate) → Uses gates w → Uses (g ∷ gates) w
uses_later w g gates uses = (suc uses.0, uses.1, omega (arith, uses.2), uses.3, uses.4)

uses_true : (w : ℕ) (gates : List Gate) → any_touching w gates ≡ true → Uses gates w
uses_true w [] is = absurd (cc)
uses_true w (g ∷ gates) is = elim (either (touching w g) _ is) [
  | inl here ↦ (0, g, omega arith, refl, touching-true w g here)
  | inr later ↦ uses_later w g gates (uses_true w gates later)
]

-- the entries agree from one state to another
abbrev agree_test : RowView → ℕ → ℕ → Bool
agree_test row f t = same_ring
    (rooted (h_count row.replacement) (Entry row.pattern (state row.wires f) (state row.wires t)))
    (turned row.phase (rooted (h_count row.pattern) (Entry row.replacement (state row.wires f) (state row.wires t))))

-- all that makes a row sound, as a test
abbrev row_test : RowView → Bool
row_test row = leb 1 row.wires && (leb row.wires 3 && (leb (length row.pattern) 8 && (ltb (length row.replacement) (length row.pattern) &&
    (leb row.phase 7 && (all_true (on_wires row.wires) row.pattern && (all_true (on_wires row.wires) row.replacement &&
    (all_below row.wires (λ w. any_touching w row.pattern) &&
    all_below (2 ^ row.wires) (λ f. all_below (2 ^ row.wires) (λ t. agree_test row f t)))))))))

same_of_agrees : (row : RowView) → IsCircuit row.wires row.pattern → IsCircuit row.wires row.replacement →
    ((f t : ℕ) → f < 2 ^ row.wires → t < 2 ^ row.wires → AgreesAt row row.phase f t) →
    Same row.wires row.pattern row.replacement row.phase
same_of_agrees row left right agree = record {
  left = left;
  right = right;
  entries = λ x y x_is y_is.
      let x_in : number x < 2 ^ row.wires = subst (λ (n : ℕ). number x < 2 ^ n) x_is (number-below x) in
      let y_in : number y < 2 ^ row.wires = subst (λ (n : ℕ). number y < 2 ^ n) y_is (number-below y) in
      let x_at : state row.wires (number x) ≡ x = subst (λ (n : ℕ). state n (number x) ≡ x) x_is (state-number x) in
      let y_at : state row.wires (number y) ≡ y = subst (λ (n : ℕ). state n (number y) ≡ y) y_is (state-number y) in
      subst (λ (z : List Bool). rooted (h_count row.replacement) (Entry row.pattern x z) ≡ turned row.phase (rooted (h_count row.pattern) (Entry row.replacement x z))) y_at
      (subst (λ (z : List Bool). rooted (h_count row.replacement) (Entry row.pattern z (state row.wires (number y))) ≡ turned row.phase (rooted (h_count row.pattern) (Entry row.replacement z (state row.wires (number y))))) x_at
      (agree (number x) (number y) x_in y_in));
}

sound_of_test : (row : RowView) → row_test row ≡ true → IsSound row
sound_of_test row is =
    let a = both _ _ is in
    let b = both _ _ a.1 in
    let c = both _ _ b.1 in
    let d = both _ _ c.1 in
    let e = both _ _ d.1 in
    let f = both _ _ e.1 in
    let g = both _ _ f.1 in
    let h = both _ _ g.1 in
    let left = circuit_true row.wires row.pattern f.0 in
    let right = circuit_true row.wires row.replacement g.0 in
    record {
      wires = record {
        some = leb-true _ _ a.0;
        few = leb-true _ _ b.0;
        left = left;
        right = right;
        used = λ w below. uses_true w row.pattern (all_below-at row.wires (λ w. any_touching w row.pattern) h.0 w below);
      };
      shortens = record { short = leb-true _ _ c.0; shorter = ltb-true _ _ d.0 };
      turn = leb-true _ _ e.0;
      same = same_of_agrees row left right (λ f t f_in t_in. same_ring-true _ _
          (all_below-at (2 ^ row.wires) (λ t. agree_test row f t)
          (all_below-at (2 ^ row.wires) (λ f. all_below (2 ^ row.wires) (λ t. agree_test row f t)) h.1 f f_in) t t_in));
    }

rows_pass : all_true row_test builtin_rows ≡ true
unfolding builtin_rows nought one plus turn root
rows_pass = refl

-- the built-in rows are sound
pub builtin_rows_sound : All IsSound builtin_rows
builtin_rows_sound i d inside = sound_of_test (get_or builtin_rows i d) (all_true-at row_test builtin_rows rows_pass i d inside)

-- so are the rules of a table that has these rows
pub sound_rules : (rules : List BuiltinRule) → map rule_row rules ≡ builtin_rows → All (λ rule. IsSound (rule_row rule)) rules
sound_rules rules are i d inside =
    let long : length (map rule_row rules) ≡ length rules = length-map rules rule_row in
    let within : i < length builtin_rows = subst (λ (rows : List RowView). i < length rows) are (omega arith) in
    subst IsSound (ap (λ (rows : List RowView). get_or rows i (rule_row d)) (sym are) ∙ get_or-map rule_row rules i d (rule_row d) inside)
    (builtin_rows_sound i (rule_row d) within)

count_rows : length builtin_rows ≡ BUILTIN_ROWS
unfolding builtin_rows
count_rows = refl

pub count_rules : (rules : List BuiltinRule) → map rule_row rules ≡ builtin_rows → length rules ≡ BUILTIN_ROWS
count_rules rules are = sym (length-map rules rule_row) ∙ (ap length are ∙ count_rows)
