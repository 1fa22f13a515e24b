-- Redexes of lists that are written out.
use Rattle.std.proofs.Common.{◌≡◌, ◌≢◌, ℕ, zero, suc, ◌<◌, ◌≤◌, Bool, true, false, ◌&&◌, ltb, List, [], ◌∷◌, length, map, take, get_or, Some, refl, inl, arith, lit<, lit≤}
use Rattle.std.specs.List.{All, AllPairs, list_all}
use Rattle.std.proofs.lemmas.Bool.{ltb-true, true≢false}
use Rattle.std.proofs.lemmas.List.Kept.{AllPairs-cons}
use Rattle.std.proofs.lemmas.List.Sums.{AllPass-from_list_all}
use Rattle.pq_gate.specs.declared.gate.Eighths.TheVariants.{T, S, Tdg}
use Rattle.pq_gate.specs.declared.gate.Gate.{Gate}
use Rattle.pq_gate.specs.declared.gate.Gate.TheVariants.{H, X, Phase, Cx}
use Rattle.pq_rules.specs.Kinds.{row_numbered}
use Rattle.pq_rules.specs.Renaming.{renamed}
use Rattle.pq_rules.specs.Row.{RowView}
use Rattle.pq_rules.specs.Table.{builtin_rows, row}
use Rattle.pq_match.specs.declared.redex.Redex.{Redex}
use Rattle.pq_match.specs.Redex.{AreFree, gate_at, is_chosen, last_place}
use Rattle.pq_match.specs.Found.{IsRedexOf}

abbrev rises : List ℕ → Bool
rises [] = true
rises (p ∷ places) = list_all (ltb p) places && rises places

both_true : (a b : Bool) → (a && b) ≡ true → (a ≡ true) × (b ≡ true)
both_true true b e = (refl, e)
both_true false b e = absurd (cc)

all_above : (p : ℕ) (places : List ℕ) → list_all (ltb p) places ≡ true → All (λ q. p < q) places
all_above p places all k d inside = ltb-true p (get_or places k d) (AllPass-from_list_all (ltb p) places all k d inside)

rising_of : (places : List ℕ) → rises places ≡ true → AllPairs (λ i j. i < j) places
rising_of [] up = λ i j d below inside. absurd (omega arith)
rising_of (p ∷ places) up =
    let parts = both_true (list_all (ltb p) places) (rises places) up in
    AllPairs-cons (λ i j. i < j) p places (all_above p places parts.0) (rising_of places parts.1)

apart_of : (wires : List ℕ) → rises wires ≡ true → AllPairs (λ v w. v ≢ w) wires
apart_of wires up i j d below inside same =
    let lt : get_or wires i d < get_or wires j d = rising_of wires up i j d below inside in absurd (omega arith)

inside_of : (n : ℕ) (places : List ℕ) → list_all (λ p. ltb p n) places ≡ true → All (λ p. p < n) places
inside_of n places all k d inside = ltb-true (get_or places k d) n (AllPass-from_list_all (λ p. ltb p n) places all k d inside)

-- a redex on rising wires, by computing
pub redex_of : (rules : List RowView) (gates : List Gate) (redex : Redex) (row : RowView) (wires : List ℕ) → row_numbered rules redex.row ≡ Some row
    → length wires ≡ row.wires → rises wires ≡ true → 0 < length (take redex.count redex.places) → rises (take redex.count redex.places) ≡ true
    → list_all (λ p. ltb p (length gates)) (take redex.count redex.places) ≡ true
    → map (gate_at gates) (take redex.count redex.places) ≡ map (renamed wires) row.pattern
    → AreFree gates (take redex.count redex.places) → redex.count ≤ 8 → IsRedexOf rules gates redex
redex_of rules gates redex row wires numbered whole apart some up inside chosen free few = record {
  wires = wires;
  is = record {
    row = row;
    numbered = numbered;
    wires = record { whole = whole; apart = apart_of wires apart };
    some = some;
    matches = record { rising = rising_of (take redex.count redex.places) up; inside = inside_of (length gates) (take redex.count redex.places) inside; chosen = chosen };
    free = free;
  };
  few = few;
}

-- where no gate is passed all are free
pub none_passed : (gates : List Gate) (places : List ℕ) → ((j : ℕ) → j < last_place places → is_chosen places j ≡ false → ⊥) → AreFree gates places
none_passed gates places none i j chosen other below before = absurd (none j before other)

abbrev redex_at : ℕ → ℕ → List ℕ → Redex
redex_at number count places = record { row = number; count = count; places = places }

free_past_cx : AreFree (Phase T 0 ∷ Cx 0 1 ∷ Phase T 0 ∷ []) (0 ∷ 2 ∷ [])
free_past_cx zero zero = λ chosen other below before. absurd (omega arith)
free_past_cx zero (suc zero) = λ chosen other below before w first second. inl (first, first)
free_past_cx zero (suc (suc j)) = λ chosen other below before. absurd (omega arith)
free_past_cx (suc i) zero = λ chosen other below before. absurd (omega arith)
free_past_cx (suc i) (suc j) = λ chosen other below before. absurd (omega arith)

-- a pair of T with a CX on its control in between
pub pair_past_cx : IsRedexOf builtin_rows (Phase T 0 ∷ Cx 0 1 ∷ Phase T 0 ∷ []) (redex_at 4 2 (0 ∷ 2 ∷ 0 ∷ 0 ∷ 0 ∷ 0 ∷ 0 ∷ 0 ∷ []))
unfolding builtin_rows
pair_past_cx =
    redex_of builtin_rows (Phase T 0 ∷ Cx 0 1 ∷ Phase T 0 ∷ []) (redex_at 4 2 (0 ∷ 2 ∷ 0 ∷ 0 ∷ 0 ∷ 0 ∷ 0 ∷ 0 ∷ []))
    (row 1 (Phase T 0 ∷ Phase T 0 ∷ []) (Phase S 0 ∷ []) 0) (0 ∷ []) refl refl refl (lit< tt) refl refl refl free_past_cx (lit≤ tt)

none_of_five : (j : ℕ) → j < 4 → is_chosen (0 ∷ 1 ∷ 2 ∷ 3 ∷ 4 ∷ []) j ≡ false → ⊥
none_of_five zero before other = true≢false other
none_of_five (suc zero) before other = true≢false other
none_of_five (suc (suc zero)) before other = true≢false other
none_of_five (suc (suc (suc zero))) before other = true≢false other
none_of_five (suc (suc (suc (suc j)))) before other = absurd (omega arith)

-- CX between H on both wires
pub cx_between_h : IsRedexOf builtin_rows (H 0 ∷ H 1 ∷ Cx 0 1 ∷ H 1 ∷ H 0 ∷ []) (redex_at 47 5 (0 ∷ 1 ∷ 2 ∷ 3 ∷ 4 ∷ 0 ∷ 0 ∷ 0 ∷ []))
unfolding builtin_rows
cx_between_h =
    redex_of builtin_rows (H 0 ∷ H 1 ∷ Cx 0 1 ∷ H 1 ∷ H 0 ∷ []) (redex_at 47 5 (0 ∷ 1 ∷ 2 ∷ 3 ∷ 4 ∷ 0 ∷ 0 ∷ 0 ∷ []))
    (row 2 (H 0 ∷ H 1 ∷ Cx 0 1 ∷ H 1 ∷ H 0 ∷ []) (Cx 1 0 ∷ []) 0) (0 ∷ 1 ∷ []) refl refl refl (lit< tt) refl refl refl
    (none_passed (H 0 ∷ H 1 ∷ Cx 0 1 ∷ H 1 ∷ H 0 ∷ []) (0 ∷ 1 ∷ 2 ∷ 3 ∷ 4 ∷ []) none_of_five) (lit≤ tt)

none_of_three : (j : ℕ) → j < 2 → is_chosen (0 ∷ 1 ∷ 2 ∷ []) j ≡ false → ⊥
none_of_three zero before other = true≢false other
none_of_three (suc zero) before other = true≢false other
none_of_three (suc (suc j)) before other = absurd (omega arith)

-- CX past CX on three wires
pub three_cx : IsRedexOf builtin_rows (Cx 0 1 ∷ Cx 1 2 ∷ Cx 0 1 ∷ []) (redex_at 50 3 (0 ∷ 1 ∷ 2 ∷ 0 ∷ 0 ∷ 0 ∷ 0 ∷ 0 ∷ []))
unfolding builtin_rows
three_cx =
    redex_of builtin_rows (Cx 0 1 ∷ Cx 1 2 ∷ Cx 0 1 ∷ []) (redex_at 50 3 (0 ∷ 1 ∷ 2 ∷ 0 ∷ 0 ∷ 0 ∷ 0 ∷ 0 ∷ []))
    (row 3 (Cx 0 1 ∷ Cx 1 2 ∷ Cx 0 1 ∷ []) (Cx 1 2 ∷ Cx 0 2 ∷ []) 0) (0 ∷ 1 ∷ 2 ∷ []) refl refl refl (lit< tt) refl refl refl
    (none_passed (Cx 0 1 ∷ Cx 1 2 ∷ Cx 0 1 ∷ []) (0 ∷ 1 ∷ 2 ∷ []) none_of_three) (lit≤ tt)

-- T between X
pub t_between_x : IsRedexOf builtin_rows (X 0 ∷ Phase T 0 ∷ X 0 ∷ []) (redex_at 23 3 (0 ∷ 1 ∷ 2 ∷ 0 ∷ 0 ∷ 0 ∷ 0 ∷ 0 ∷ []))
unfolding builtin_rows
t_between_x =
    redex_of builtin_rows (X 0 ∷ Phase T 0 ∷ X 0 ∷ []) (redex_at 23 3 (0 ∷ 1 ∷ 2 ∷ 0 ∷ 0 ∷ 0 ∷ 0 ∷ 0 ∷ []))
    (row 1 (X 0 ∷ Phase T 0 ∷ X 0 ∷ []) (Phase Tdg 0 ∷ []) 1) (0 ∷ []) refl refl refl (lit< tt) refl refl refl
    (none_passed (X 0 ∷ Phase T 0 ∷ X 0 ∷ []) (0 ∷ 1 ∷ 2 ∷ []) none_of_three) (lit≤ tt)

free_inside : AreFree (X 1 ∷ H 0 ∷ H 0 ∷ Cx 0 1 ∷ []) (1 ∷ 2 ∷ [])
free_inside i zero = λ chosen other below before. absurd (omega arith)
free_inside i (suc zero) = λ chosen other below before. absurd (true≢false other)
free_inside i (suc (suc j)) = λ chosen other below before. absurd (omega arith)

-- a pair of H between other gates
pub pair_inside : IsRedexOf builtin_rows (X 1 ∷ H 0 ∷ H 0 ∷ Cx 0 1 ∷ []) (redex_at 1 2 (1 ∷ 2 ∷ 0 ∷ 0 ∷ 0 ∷ 0 ∷ 0 ∷ 0 ∷ []))
unfolding builtin_rows
pair_inside =
    redex_of builtin_rows (X 1 ∷ H 0 ∷ H 0 ∷ Cx 0 1 ∷ []) (redex_at 1 2 (1 ∷ 2 ∷ 0 ∷ 0 ∷ 0 ∷ 0 ∷ 0 ∷ 0 ∷ []))
    (row 1 (H 0 ∷ H 0 ∷ []) [] 0) (0 ∷ []) refl refl refl (lit< tt) refl refl refl free_inside (lit≤ tt)

none_of_two : (j : ℕ) → j < 1 → is_chosen (0 ∷ 1 ∷ []) j ≡ false → ⊥
none_of_two zero before other = true≢false other
none_of_two (suc j) before other = absurd (omega arith)

-- a pair of T on a later wire
pub pair_on_wire_3 : IsRedexOf builtin_rows (Phase T 3 ∷ Phase T 3 ∷ []) (redex_at 4 2 (0 ∷ 1 ∷ 0 ∷ 0 ∷ 0 ∷ 0 ∷ 0 ∷ 0 ∷ []))
unfolding builtin_rows
pair_on_wire_3 =
    redex_of builtin_rows (Phase T 3 ∷ Phase T 3 ∷ []) (redex_at 4 2 (0 ∷ 1 ∷ 0 ∷ 0 ∷ 0 ∷ 0 ∷ 0 ∷ 0 ∷ []))
    (row 1 (Phase T 0 ∷ Phase T 0 ∷ []) (Phase S 0 ∷ []) 0) (3 ∷ []) refl refl refl (lit< tt) refl refl refl
    (none_passed (Phase T 3 ∷ Phase T 3 ∷ []) (0 ∷ 1 ∷ []) none_of_two) (lit≤ tt)
