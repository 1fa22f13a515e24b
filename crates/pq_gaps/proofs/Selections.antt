use Rattle.std.proofs.Common.{◌≡◌, ℕ, ◌+◌, ◌*◌, ◌<◌, ◌≤◌, true, false, ◌||◌, eqb, leb, List, [], ◌∷◌, ◌++◌, refl, sym, ap, subst, ◌∙◌, arith, inl, inr, ◌⊎◌}
use Rattle.std.specs.List.{All, AllPairs, Contains}
use Rattle.std.proofs.lemmas.Bool.{cases_lt, le-leb, lt-leb, or_cases, or_left, or_right}
use Rattle.std.proofs.lemmas.List.Elements.{All-nil, All-cons, All-head, All-tail}
use Rattle.std.proofs.lemmas.List.Kept.{AllPairs-cons}
use Rattle.pq_gaps.specs.Gaps.{selected, selected_from, IsSelection, none, next, BeginsFrom, segment_from, segment_to}
use Rattle.pq_gaps.proofs.Ascending.{member}
use Rattle.pq_gaps.proofs.Rising.{contains_from_member, member_from_contains}

-- what is passed until a gap may be taken, and the selection of the rest
record Split (omega_ least : ℕ) (gaps : List ℕ) : Type 0 where
  passed : List ℕ
  rest : List ℕ
  whole : gaps ≡ passed ++ rest
  below : All (λ other. other < least) passed
  begins : BeginsFrom least rest
  selection : IsSelection omega_ rest (selected_from omega_ least gaps)

split_at : (omega_ least : ℕ) (gaps : List ℕ) → Split omega_ least gaps
split_at w least [] = record {
  passed = [];
  rest = [];
  whole = refl;
  below = All-nil (λ other. other < least);
  begins = tt;
  selection = none;
}
split_at w least (gap ∷ gaps) = by (split_at w least gaps) (split_at w (gap + 2 * w) gaps) (cases_lt gap least)
  where
    by : Split w least gaps → Split w (gap + 2 * w) gaps → (gap < least) ⊎ (least ≤ gap) → Split w least (gap ∷ gaps)
    by same after (inl lt) = record {
      passed = gap ∷ same.passed;
      rest = same.rest;
      whole = ap (λ (r : List ℕ). gap ∷ r) same.whole;
      below = All-cons (λ other. other < least) gap same.passed lt same.below;
      begins = same.begins;
      selection = let may_not : leb least gap ≡ false = lt-leb least gap lt in rw may_not same.selection;
    }
    by same after (inr ge) = record {
      passed = [];
      rest = gap ∷ gaps;
      whole = refl;
      below = All-nil (λ other. other < least);
      begins = ge;
      selection =
          let may : leb least gap ≡ true = le-leb least gap ge in
          let P : List ℕ → Type 0 = λ r. IsSelection w (gap ∷ r) (gap ∷ selected_from w (gap + 2 * w) gaps) in
          rw may (subst P (sym after.whole) (next gap after.passed after.rest (selected_from w (gap + 2 * w) gaps) after.below after.begins after.selection));
    }

-- from 0 on nothing is passed
pub selection_some : (omega_ : ℕ) (gaps : List ℕ) → IsSelection omega_ gaps (selected omega_ gaps)
selection_some w [] = none
selection_some w (gap ∷ gaps) = by (split_at w (gap + 2 * w) gaps)
  where
    by : Split w (gap + 2 * w) gaps → IsSelection w (gap ∷ gaps) (selected w (gap ∷ gaps))
    by after =
        let may : leb 0 gap ≡ true = le-leb 0 gap (omega arith) in
        let P : List ℕ → Type 0 = λ r. IsSelection w (gap ∷ r) (gap ∷ selected_from w (gap + 2 * w) gaps) in
        rw may (subst P (sym after.whole) (next gap after.passed after.rest (selected_from w (gap + 2 * w) gaps) after.below after.begins after.selection))

-- gaps below the least are passed
selected_from-append : (omega_ least : ℕ) (passed rest : List ℕ) → All (λ other. other < least) passed →
    selected_from omega_ least (passed ++ rest) ≡ selected_from omega_ least rest
selected_from-append w least [] rest below = refl
selected_from-append w least (gap ∷ passed) rest below =
    let may_not : leb least gap ≡ false = lt-leb least gap (All-head (λ other. other < least) gap passed below) in
    rw may_not (selected_from-append w least passed rest (All-tail (λ other. other < least) gap passed below))

-- the least doesn't matter where the list begins from it
selected_from-begins : (omega_ least : ℕ) (rest : List ℕ) → BeginsFrom least rest → selected_from omega_ least rest ≡ selected omega_ rest
selected_from-begins w least [] begins = refl
selected_from-begins w least (gap ∷ rest) begins =
    let may : leb least gap ≡ true = le-leb least gap begins in
    let at_once : leb 0 gap ≡ true = le-leb 0 gap (omega arith) in
    rw (may, at_once) refl

-- there is no other selection
pub selection_only : (omega_ : ℕ) (gaps taken : List ℕ) → IsSelection omega_ gaps taken → taken ≡ selected omega_ gaps
selection_only w gaps taken none = refl
selection_only w gaps taken (next gap passed rest more below begins selection) =
    let at_once : leb 0 gap ≡ true = le-leb 0 gap (omega arith) in
    let others : selected_from w (gap + 2 * w) (passed ++ rest) ≡ more =
    selected_from-append w (gap + 2 * w) passed rest below ∙ (selected_from-begins w (gap + 2 * w) rest begins ∙ sym (selection_only w rest more selection)) in
    rw at_once (ap (λ (r : List ℕ). gap ∷ r) (sym others))

-- the selected gaps are among the gaps
member_selected_from : (omega_ least z : ℕ) (gaps : List ℕ) → member z (selected_from omega_ least gaps) ≡ true → member z gaps ≡ true
member_selected_from w least z [] is = is
member_selected_from w least z (gap ∷ gaps) is =
    by (member_selected_from w least z gaps) (member_selected_from w (gap + 2 * w) z gaps) (cases_lt gap least)
  where
    by : (member z (selected_from w least gaps) ≡ true → member z gaps ≡ true) →
        (member z (selected_from w (gap + 2 * w) gaps) ≡ true → member z gaps ≡ true) → (gap < least) ⊎ (least ≤ gap) → member z (gap ∷ gaps) ≡ true
    by same after (inl lt) =
        let may_not : leb least gap ≡ false = lt-leb least gap lt in
        or_right (eqb z gap) (member z gaps) (same (rw may_not at is))
    by same after (inr ge) = which (or_cases (eqb z gap) (member z (selected_from w (gap + 2 * w) gaps)) taken)
      where
        taken : (eqb z gap || member z (selected_from w (gap + 2 * w) gaps)) ≡ true
        taken = let may : leb least gap ≡ true = le-leb least gap ge in rw may at is

        which : (eqb z gap ≡ true) ⊎ (member z (selected_from w (gap + 2 * w) gaps) ≡ true) → member z (gap ∷ gaps) ≡ true
        which (inl here) = or_left (eqb z gap) (member z gaps) here
        which (inr later) = or_right (eqb z gap) (member z gaps) (after later)

pub selected_contained : (omega_ gap : ℕ) (gaps : List ℕ) → Contains (selected omega_ gaps) gap → Contains gaps gap
selected_contained w gap gaps found =
    contains_from_member gap gaps (member_selected_from w 0 gap gaps (member_from_contains gap (selected w gaps) found))

-- none of them is below the least
selected_from_least : (omega_ least : ℕ) (gaps : List ℕ) → All (λ gap. least ≤ gap) (selected_from omega_ least gaps)
selected_from_least w least [] = All-nil (λ gap. least ≤ gap)
selected_from_least w least (gap ∷ gaps) =
    by (selected_from_least w least gaps) (selected_from_least w (gap + 2 * w) gaps) (cases_lt gap least)
  where
    by : All (λ other. least ≤ other) (selected_from w least gaps) → All (λ other. gap + 2 * w ≤ other) (selected_from w (gap + 2 * w) gaps) →
        (gap < least) ⊎ (least ≤ gap) → All (λ other. least ≤ other) (selected_from w least (gap ∷ gaps))
    by same after (inl lt) = let may_not : leb least gap ≡ false = lt-leb least gap lt in rw may_not same
    by same after (inr ge) =
        let may : leb least gap ≡ true = le-leb least gap ge in
        rw may (All-cons (λ other. least ≤ other) gap (selected_from w (gap + 2 * w) gaps) ge (λ k d lt. omega (arith, after k d lt)))

selected_from_far : (omega_ least : ℕ) (gaps : List ℕ) → AllPairs (λ gap later. gap + 2 * omega_ ≤ later) (selected_from omega_ least gaps)
selected_from_far w least [] = λ i j d lt in'. absurd (omega arith)
selected_from_far w least (gap ∷ gaps) =
    by (selected_from_far w least gaps) (selected_from_far w (gap + 2 * w) gaps) (cases_lt gap least)
  where
    by : AllPairs (λ a b. a + 2 * w ≤ b) (selected_from w least gaps) → AllPairs (λ a b. a + 2 * w ≤ b) (selected_from w (gap + 2 * w) gaps) →
        (gap < least) ⊎ (least ≤ gap) → AllPairs (λ a b. a + 2 * w ≤ b) (selected_from w least (gap ∷ gaps))
    by same after (inl lt) = let may_not : leb least gap ≡ false = lt-leb least gap lt in rw may_not same
    by same after (inr ge) =
        let may : leb least gap ≡ true = le-leb least gap ge in
        rw may (AllPairs-cons (λ a b. a + 2 * w ≤ b) gap (selected_from w (gap + 2 * w) gaps) (selected_from_least w (gap + 2 * w) gaps) after)

-- selected gaps stand far apart
pub selected_far : (omega_ : ℕ) (gaps : List ℕ) → AllPairs (λ gap later. gap + 2 * omega_ ≤ later) (selected omega_ gaps)
selected_far w gaps = selected_from_far w 0 gaps

-- so their segments don't overlap
pub segments_apart : (omega_ live : ℕ) (gaps : List ℕ) →
    AllPairs (λ gap later. segment_to omega_ live gap ≤ segment_from omega_ later) (selected omega_ gaps)
segments_apart w live gaps i j d lt in' = omega (arith, selected_far w gaps i j d lt in')
