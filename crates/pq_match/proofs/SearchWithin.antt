use Rattle.std.proofs.Common.{◌≡◌, ℕ, ◌+◌, ◌-◌, ◌<◌, ◌≤◌, ◌⊎◌, inl, inr, List, length, get_or, arith}
use Rattle.std.proofs.lemmas.Bool.{cases_order}
use Rattle.pq_gate.specs.declared.gate.Gate.{Gate}
use Rattle.pq_rules.specs.Row.{RowView}
use Rattle.pq_match.specs.declared.redex.Redex.{Redex}
use Rattle.pq_match.specs.Redex.{RedexView, IsRedex, IsWithin, last_place}
use Rattle.pq_match.specs.First.{Precedes, key, HasNoneAmong, HasNoneWithin}
use Rattle.pq_match.specs.Found.{seen, IsFoundAmong, IsFirstFound}
use Rattle.pq_match.specs.Search.{IsFrom}
use Rattle.pq_match.proofs.SearchPlaces.{last_place_at, place_upto_last}

-- no redex within the span begins before this place
pub record NoneBefore (rules : List RowView) (gates : List Gate) (span start : ℕ) : Type 0 where
  pub none : (other : RedexView) → IsRedex rules gates other → IsWithin span other → start ≤ get_or other.places 0 0

-- all places before the end lie in the list and within the span from the start, and all such places lie before the end
pub record IsEnd (gates : List Gate) (span start end : ℕ) : Type 0 where
  pub within : end ≤ start + span
  pub far : (p : ℕ) → p < length gates → p < start + span → p < end

pub none_in_no_span : (rules : List RowView) (gates : List Gate) → HasNoneWithin rules gates 0
none_in_no_span rules gates = record {
  none = λ other is within.
      (let upto : get_or other.places 0 0 ≤ last_place other.places = place_upto_last other.places is.matches.rising 0 is.some in
      let less : last_place other.places < get_or other.places 0 0 + 0 = within in
      omega arith);
}

module _ (rules : List RowView) (gates : List Gate) (span start end : ℕ) where
  last_inside : (other : RedexView) → IsRedex rules gates other → last_place other.places < length gates
  last_inside other is =
      let some : 0 < length other.places = is.some in
      let e : last_place other.places ≡ get_or other.places (length other.places - 1) 0 = last_place_at other.places in
      let i : get_or other.places (length other.places - 1) 0 < length gates = is.matches.inside (length other.places - 1) 0 (omega arith) in
      omega arith

  from_within : IsEnd gates span start end → (other : RedexView) → IsRedex rules gates other → IsWithin span other → get_or other.places 0 0 ≡ start → IsFrom start end other
  from_within ends other is within at =
      let less : last_place other.places < get_or other.places 0 0 + span = within in
      (at, ends.far (last_place other.places) (last_inside other is) (omega arith))

-- of this start there is none either
pub none_before_more : {rules : List RowView} {gates : List Gate} {span start : ℕ} (end : ℕ) → IsEnd gates span start end → NoneBefore rules gates span start →
    HasNoneAmong (IsFrom start end) rules gates → NoneBefore rules gates span (start + 1)
none_before_more {rules} {gates} {span} {start} end ends before none = record {
  none = λ other is within. by other is within (before.none other is within) (cases_order (get_or other.places 0 0) start);
}
  where
    by : (other : RedexView) → IsRedex rules gates other → IsWithin span other → start ≤ get_or other.places 0 0 →
        (get_or other.places 0 0 ≡ start) ⊎ ((get_or other.places 0 0 < start) ⊎ (start < get_or other.places 0 0)) → start + 1 ≤ get_or other.places 0 0
    by other is within upto (inl same) = absurd (none.none other is (from_within rules gates span start end ends other is within same))
    by other is within upto (inr (inl less)) = absurd (omega arith)
    by other is within upto (inr (inr more)) = omega arith

pub none_before_first : (rules : List RowView) (gates : List Gate) (span : ℕ) → NoneBefore rules gates span 0
none_before_first rules gates span = record { none = λ other is within. omega arith }

pub none_at_all : {rules : List RowView} {gates : List Gate} {span start : ℕ} → NoneBefore rules gates span start → length gates ≤ start → HasNoneWithin rules gates span
none_at_all {rules} {gates} {span} {start} before all = record {
  none = λ other is within.
      (let upto : start ≤ get_or other.places 0 0 = before.none other is within in
      let inside : get_or other.places 0 0 < length gates = is.matches.inside 0 0 is.some in
      omega arith);
}

pub first_from_here : {rules : List RowView} {gates : List Gate} {span start : ℕ} {redex : Redex} (end : ℕ) → IsEnd gates span start end → NoneBefore rules gates span start →
    IsFoundAmong (IsFrom start end) rules gates redex → IsFirstFound rules gates span redex
first_from_here {rules} {gates} {span} {start} {redex} end ends before first = record {
  wires = first.wires;
  first = record {
    is = first.first.is;
    among = within;
    first = λ other is other_within precedes. by other is other_within precedes (cases_order (get_or other.places 0 0) start);
  };
  padded = first.padded;
}
  where
    at : get_or (seen redex first.wires).places 0 0 ≡ start
    at = first.first.among.0

    within : IsWithin span (seen redex first.wires)
    within =
        let a : get_or (seen redex first.wires).places 0 0 ≡ start = first.first.among.0 in
        let l : last_place (seen redex first.wires).places < end = first.first.among.1 in
        let w : end ≤ start + span = ends.within in
        omega arith

    after : (other : RedexView) → start < get_or other.places 0 0 → Precedes (key other) (key (seen redex first.wires)) → ⊥
    after other more (inl less) = (let a : get_or (seen redex first.wires).places 0 0 ≡ start = first.first.among.0 in omega arith)
    after other more (inr (same, later)) = (let a : get_or (seen redex first.wires).places 0 0 ≡ start = first.first.among.0 in omega arith)

    by : (other : RedexView) → IsRedex rules gates other → IsWithin span other → Precedes (key other) (key (seen redex first.wires)) →
        (get_or other.places 0 0 ≡ start) ⊎ ((get_or other.places 0 0 < start) ⊎ (start < get_or other.places 0 0)) → ⊥
    by other is other_within precedes (inl same) = first.first.first other is (from_within rules gates span start end ends other is other_within same) precedes
    by other is other_within precedes (inr (inl less)) =
        let upto : start ≤ get_or other.places 0 0 = before.none other is other_within in omega arith
    by other is other_within precedes (inr (inr more)) = after other more precedes
