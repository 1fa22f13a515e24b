-- The first redex of a list, start by start.
use Rattle.std.proofs.Common.{◌≡◌, ℕ, ◌+◌, ◌<◌, ◌≤◌, ◌⊎◌, inl, inr, List, length, get_or, arith}
use Rattle.std.proofs.lemmas.Bool.{cases_order}
use Rattle.pq_gate.specs.declared.gate.Gate.{Gate}
use Rattle.pq_rules.specs.Row.{RowView}
use Rattle.pq_match.specs.declared.redex.Redex.{Redex}
use Rattle.pq_match.specs.Redex.{RedexView, IsRedex, HasNoRedex}
use Rattle.pq_match.specs.First.{Precedes, key, HasNoneAmong, HasNoneWithin}
use Rattle.pq_match.specs.Found.{seen, IsFoundAmong, IsFirstFound}
use Rattle.pq_links.specs.Slots.{AreSlots}
use Rattle.pq_match.specs.declared.looked.Looked.{Looked}
use Rattle.pq_match.specs.Seek.{LookAlike, StartsAt, HasFailed}
use Rattle.pq_match.proofs.LookingAlike.{looks_alike, alike_through}
use Rattle.pq_match.proofs.OneFirst.{redex_within_all}

-- no redex begins before this place
pub record NoneBelow (rules : List RowView) (gates : List Gate) (start : ℕ) : Type 0 where
  pub none : (redex : RedexView) → IsRedex rules gates redex → start ≤ get_or redex.places 0 0

pub below_none : (rules : List RowView) (gates : List Gate) → NoneBelow rules gates 0
below_none rules gates = record { none = λ redex is. omega arith }

pub below_none_at : {rules : List RowView} {gates : List Gate} {start : ℕ} → NoneBelow rules gates start → HasNoneAmong (StartsAt start) rules gates → NoneBelow rules gates (start + 1)
below_none_at {rules} {gates} {start} before none = record { none = λ redex is. by redex is (before.none redex is) (cases_order (get_or redex.places 0 0) start) }
  where
    by : (redex : RedexView) → IsRedex rules gates redex → start ≤ get_or redex.places 0 0 →
        (get_or redex.places 0 0 ≡ start) ⊎ ((get_or redex.places 0 0 < start) ⊎ (start < get_or redex.places 0 0)) → start + 1 ≤ get_or redex.places 0 0
    by redex is upto (inl same) = absurd (none.none redex is same)
    by redex is upto (inr (inl less)) = absurd (omega arith)
    by redex is upto (inr (inr more)) = omega arith

pub below_more : {rules : List RowView} {gates : List Gate} {start : ℕ} {looked : Looked} → AreSlots gates → NoneBelow rules gates start → HasFailed rules gates start looked →
    NoneBelow rules gates (start + 1)
below_more {rules} {gates} slots before failed = below_none_at before (failed.none.none gates slots looks_alike)

pub below_first : {rules : List RowView} {gates : List Gate} {start : ℕ} {redex : Redex} → NoneBelow rules gates start → IsFoundAmong (StartsAt start) rules gates redex →
    IsFirstFound rules gates (length gates) redex
below_first {rules} {gates} {start} {redex} before found = record {
  wires = found.wires;
  first = record {
    is = found.first.is;
    among = redex_within_all rules gates (seen redex found.wires) found.first.is;
    first = λ other is within precedes. by other is precedes (before.none other is) (cases_order (get_or other.places 0 0) start);
  };
  padded = found.padded;
}
  where
    at : get_or (seen redex found.wires).places 0 0 ≡ start
    at = found.first.among

    later : (other : RedexView) → start < get_or other.places 0 0 → Precedes (key other) (key (seen redex found.wires)) → ⊥
    later other more (inl less) = (let a : get_or (seen redex found.wires).places 0 0 ≡ start = at in omega arith)
    later other more (inr (same, _)) = (let a : get_or (seen redex found.wires).places 0 0 ≡ start = at in omega arith)

    by : (other : RedexView) → IsRedex rules gates other → Precedes (key other) (key (seen redex found.wires)) → start ≤ get_or other.places 0 0 →
        (get_or other.places 0 0 ≡ start) ⊎ ((get_or other.places 0 0 < start) ⊎ (start < get_or other.places 0 0)) → ⊥
    by other is precedes upto (inl same) = found.first.first other is same precedes
    by other is precedes upto (inr (inl less)) = omega arith
    by other is precedes upto (inr (inr more)) = later other more precedes

pub below_all : {rules : List RowView} {gates : List Gate} {start : ℕ} → NoneBelow rules gates start → length gates ≤ start → HasNoneWithin rules gates (length gates)
below_all {rules} {gates} {start} before all = record {
  none = λ redex is within.
      (let upto : start ≤ get_or redex.places 0 0 = before.none redex is in
      let inside : get_or redex.places 0 0 < length gates = is.matches.inside 0 0 is.some in
      omega arith);
}

pub below_all_none : {rules : List RowView} {gates : List Gate} {start : ℕ} → NoneBelow rules gates start → length gates ≤ start → HasNoRedex rules gates
below_all_none {rules} {gates} {start} before all redex is =
    let upto : start ≤ get_or redex.places 0 0 = before.none redex is in
    let inside : get_or redex.places 0 0 < length gates = is.matches.inside 0 0 is.some in
    omega arith

-- A start that failed stays so where the gates look alike that its search looked at.
pub failed_alike : {rules : List RowView} {old new : List Gate} {start : ℕ} {looked : Looked} → LookAlike start looked old new → HasFailed rules old start looked → HasFailed rules new start looked
failed_alike alike failed = record {
  near = failed.near;
  none = record { none = λ other slots then_alike. failed.none.none other slots (alike_through alike then_alike) };
}
