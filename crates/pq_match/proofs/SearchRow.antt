use Rattle.std.proofs.Common.{◌≡◌, ℕ, zero, suc, ◌+◌, ◌-◌, ◌<◌, ◌≤◌, inl, inr, List, ◌∷◌, length, get_or, take, drop, Some, refl, sym, ap, subst, ◌∙◌, arith, length-take}
use Rattle.std.specs.List.{All}
use Rattle.std.proofs.lemmas.List.{get_or-take, get_or-drop}
use Rattle.std.proofs.lemmas.Grind.{get_or_default_zero}
use Rattle.pq_gate.specs.declared.gate.Gate.{Gate}
use Rattle.pq_rules.specs.Kinds.{row_numbered}
use Rattle.pq_rules.specs.Row.{RowView, IsSound}
use Rattle.pq_match.specs.Redex.{RedexView, IsRedex, IsMatch, AreWires, last_place}
use Rattle.pq_match.specs.First.{Precedes, key, HasNoneAmong}
use Rattle.pq_match.specs.Found.{IsFoundAmong}
use Rattle.pq_match.specs.Search.{IsFull, Begins, IsFirstFull, HasNoFull, IsOfRow}
use Rattle.pq_match.proofs.Growing.{grown_same}
use Rattle.pq_match.proofs.RewritingWires.{places_long}
use Rattle.pq_match.proofs.SearchChoice.{IsChoice}
use Rattle.pq_match.proofs.SearchMatch.{GoesWith, match_full, full_choice, full_apart, full_matches, full_free}
use Rattle.pq_match.proofs.SearchPlaces.{last_place_at, before_at, before_in_front}

-- The redexes of one row that begin at a place are the full places of its pattern.
module _ (rules : List RowView) (gates : List Gate) (number start end : ℕ) (row : RowView) (numbered : row_numbered rules number ≡ Some row) (sound : IsSound row) where
  same_row : (other : RedexView) → (is : IsRedex rules gates other) → other.row ≡ number → is.row ≡ row
  same_row other is same = (let e : Some is.row ≡ Some row = sym is.numbered ∙ (ap (row_numbered rules) same ∙ numbered) in cc)

  other_wires : (other : RedexView) → (is : IsRedex rules gates other) → other.row ≡ number → AreWires row.wires other.wires
  other_wires other is same = subst (λ (r : RowView). AreWires r.wires other.wires) (same_row other is same) is.wires

  other_matches : (other : RedexView) → (is : IsRedex rules gates other) → other.row ≡ number → IsMatch gates row.pattern other.wires other.places
  other_matches other is same = subst (λ (r : RowView). IsMatch gates r.pattern other.wires other.places) (same_row other is same) is.matches

  other_whole : (other : RedexView) → IsRedex rules gates other → other.row ≡ number → length other.places ≡ length row.pattern
  other_whole other is same =
      places_long gates row.pattern other.wires other.places (other_matches other is same).chosen

  other_full : (other : RedexView) → IsRedex rules gates other → IsOfRow number start end other → IsFull gates row.pattern end other.places
  other_full other is of =
      match_full row.wires gates row.pattern other.wires other.places sound.same.left (other_wires other is of.0) (other_matches other is of.0) is.free end of.2

  begins_at_start : (front : List ℕ) → get_or front 0 0 ≡ start → (other : RedexView) → IsOfRow number start end other → Begins front 1 other.places
  begins_at_start front at other of zero below = of.1 ∙ sym at
  begins_at_start front at other of (suc s) below = absurd (omega arith)

  pub none_of_row : (front : List ℕ) → get_or front 0 0 ≡ start → HasNoFull gates row.pattern end front 1 → HasNoneAmong (IsOfRow number start end) rules gates
  none_of_row front at none = record { none = λ other is of. none.none other.places (other_full other is of) (begins_at_start front at other of) }

  pub first_of_row : (front : List ℕ) → get_or front 0 0 ≡ start → end ≤ length gates → (places : List ℕ) → IsFirstFull gates row.pattern end front 1 places →
      IsFoundAmong (IsOfRow number start end) rules gates (record { row = number; count = length row.pattern; places = places })
  first_of_row front at ends places first = record {
    wires = chosen.choice;
    first = record {
      is = record {
        row = row;
        numbered = numbered;
        wires = full_apart row.wires gates row.pattern end (take (length row.pattern) places) sound.same.left sound.wires.used full chosen;
        some = (let w : length (take (length row.pattern) places) ≡ length row.pattern = whole in let s : 0 < length row.pattern = some in omega arith);
        matches = full_matches row.wires gates row.pattern end (take (length row.pattern) places) sound.same.left sound.wires.used full chosen whole ends;
        free = full_free row.wires gates row.pattern end (take (length row.pattern) places) sound.same.left sound.wires.used full whole;
      };
      among = (refl, first_place, ended);
      first = λ other is of before. by other is of before;
    };
    padded = record { few = sound.shortens.short; rest = rest };
  }
    where
      some : 0 < length row.pattern
      some = (let s : length row.replacement < length row.pattern = sound.shortens.shorter in omega arith)

      whole : length (take (length row.pattern) places) ≡ length row.pattern
      whole =
          let e : length places ≡ 8 = first.eight.eight in
          let s : length row.pattern ≤ 8 = sound.shortens.short in
          omega (arith, length-take (length row.pattern) places)

      full : IsFull gates row.pattern end (take (length row.pattern) places)
      full = grown_same gates row.pattern places (take (length row.pattern) places) end (length row.pattern)
          (λ s below. sym (get_or-take (length row.pattern) places s 0 below)) first.full

      chosen : IsChoice (GoesWith gates row.pattern (take (length row.pattern) places)) row.wires
      chosen = full_choice row.wires gates row.pattern end (take (length row.pattern) places) sound.same.left sound.wires.used full

      first_place : get_or (take (length row.pattern) places) 0 0 ≡ start
      first_place = get_or-take (length row.pattern) places 0 0 some ∙ (first.begins 0 (omega arith) ∙ at)

      ended : last_place (take (length row.pattern) places) < end
      ended =
          let e : last_place (take (length row.pattern) places) ≡ get_or (take (length row.pattern) places) (length (take (length row.pattern) places) - 1) 0 =
          last_place_at (take (length row.pattern) places) in
          let w : length (take (length row.pattern) places) ≡ length row.pattern = whole in
          let s : 0 < length row.pattern = some in
          let i : get_or (take (length row.pattern) places) (length (take (length row.pattern) places) - 1) 0 < end = full.inside (length (take (length row.pattern) places) - 1) (omega arith) in
          omega arith

      by : (other : RedexView) → IsRedex rules gates other → IsOfRow number start end other →
          Precedes (key other) (get_or (take (length row.pattern) places) 0 0 ∷ number ∷ take (length row.pattern) places) → ⊥
      by other is of (inl less) =
          let f : get_or (take (length row.pattern) places) 0 0 ≡ start = first_place in
          let g : get_or other.places 0 0 ≡ start = of.1 in
          omega arith
      by other is of (inr (same, inl less)) = (let r : other.row ≡ number = of.0 in omega arith)
      by other is of (inr (same, inr (row_same, before))) =
          first.first other.places (other_full other is of) (begins_at_start front at other of)
          (before_in_front (length row.pattern) other.places places
          (before_at (length row.pattern) other.places (take (length row.pattern) places) (other_whole other is of.0) whole before))

      rest : All (λ place. place ≡ 0) (drop (length row.pattern) places)
      rest k d below =
          get_or_default_zero (drop (length row.pattern) places) k d below ∙
          (get_or-drop (length row.pattern) places k 0 ∙ first.eight.rest (length row.pattern + k) (omega arith))
