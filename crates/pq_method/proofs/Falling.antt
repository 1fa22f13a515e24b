-- Each round makes the fingers and twice the gates fall by the selected fingers at least.
use Rattle.std.proofs.Common.{◌≡◌, ℕ, suc, ◌+◌, ◌-◌, ◌*◌, ◌<◌, ◌≤◌, min, Bool, true, false, not, eqb, ltb, leb, List, [], ◌∷◌, ◌++◌, length, map, take, drop, inl, inr, ◌⊎◌, refl, ap, sym, subst, arith}
use Rattle.std.specs.Prelude.{All, if◌then◌else◌}
use Rattle.std.specs.List.{filter, flat_map, list_any}
use Rattle.std.proofs.lemmas.Bool.{cases_lt, cases_Bool, le-leb, lt-leb, or_cases, or_right}
use Rattle.std.proofs.lemmas.List.{length-append, length-map, length-take, length-drop}
use Rattle.std.proofs.lemmas.List.Elements.{All-head, All-tail}
use Rattle.pq_gate.specs.declared.gate.Gate.{Gate}
use Rattle.pq_rules.specs.Row.{RowView, IsSound}
use Rattle.pq_gaps.specs.Gaps.{GapCut, selected, selected_from, with_number, ascending, inner_edges, is_dropped_gap, new_gaps, kept_gaps, moved_gap, new_fingers}
use Rattle.pq_gaps.proofs.Ascending.{member}
use Rattle.pq_gaps.proofs.Rising.{All-from_member}
use Rattle.pq_match.specs.Rewrite.{rewritten}
use Rattle.pq_oracle.specs.Ora.{Answer, Ora, ends, goes}
use Rattle.pq_match.proofs.Moving.{rewriting_shortens}
use Rattle.pq_oracle.proofs.Answering.{shorter, sound_row}
use Rattle.pq_method.specs.declared.step.Step.{Step}
use Rattle.pq_method.specs.Round.{State, Round, IsState, Work, IsWorkOf, run, cut_of, joined, improved_of}
use Rattle.pq_method.proofs.OneRound.{fingers_of}

-- 1 where it holds
abbrev pub ones : Bool → ℕ
ones holds = if holds then 1 else 0

-- an improved answer is strictly shorter
pub strictly_shorter : (rules : List RowView) (gates : List Gate) (answer : Answer) → All IsSound rules → Ora rules gates answer →
    length answer.gates + ones answer.improved ≤ length gates
strictly_shorter rules _ _ sound (ends gates none) = omega arith
strictly_shorter rules _ _ sound (goes gates redex first answer rest) =
    omega (
      arith,
      rewriting_shortens rules gates redex first.is (sound_row rules gates redex first.is sound),
      shorter rules (rewritten gates first.is.row.replacement redex) answer sound rest,
    )

-- a list has at most as many numbers as the list that it comes from
with_number_long : (x : ℕ) (xs : List ℕ) → length (with_number x xs) ≤ suc (length xs)
with_number_long x [] = omega arith
with_number_long x (y ∷ ys) = by (ltb x y) (eqb x y) (with_number_long x ys)
  where
    by : (below same : Bool) → length (with_number x ys) ≤ suc (length ys) →
        length (if below then x ∷ y ∷ ys else (if same then y ∷ ys else y ∷ with_number x ys)) ≤ suc (suc (length ys))
    by true same more = omega arith
    by false true more = omega arith
    by false false more = omega (arith, more)

pub ascending_long : (xs : List ℕ) → length (ascending xs) ≤ length xs
ascending_long [] = omega arith
ascending_long (x ∷ xs) = omega (arith, with_number_long x (ascending xs), ascending_long xs)

-- where the selected gaps are dropped, they are left out
abbrev Leaves : (ℕ → Bool) → ℕ → ℕ → List ℕ → Type 0
Leaves drops window least gaps = All (λ gap. drops gap ≡ true) (selected_from window least gaps) →
    length (filter (λ gap. not (drops gap)) gaps) + length (selected_from window least gaps) ≤ length gaps

pub selected_leave : (drops : ℕ → Bool) (window least : ℕ) (gaps : List ℕ) → All (λ gap. drops gap ≡ true) (selected_from window least gaps) →
    length (filter (λ gap. not (drops gap)) gaps) + length (selected_from window least gaps) ≤ length gaps
selected_leave drops window least [] all = omega arith
selected_leave drops window least (gap ∷ gaps) all =
    by (λ later. selected_leave drops window (gap + 2 * window) gaps later) (λ later. selected_leave drops window least gaps later)
    (cases_Bool (leb least gap)) (cases_Bool (drops gap))
  where
    taken : leb least gap ≡ true → All (λ other. drops other ≡ true) (gap ∷ selected_from window (gap + 2 * window) gaps)
    taken may = subst (λ (b : Bool). All (λ other. drops other ≡ true)
        (if b then gap ∷ selected_from window (gap + 2 * window) gaps else selected_from window least gaps)) may all

    passed : leb least gap ≡ false → All (λ other. drops other ≡ true) (selected_from window least gaps)
    passed may = subst (λ (b : Bool). All (λ other. drops other ≡ true)
        (if b then gap ∷ selected_from window (gap + 2 * window) gaps else selected_from window least gaps)) may all

    by : Leaves drops window (gap + 2 * window) gaps → Leaves drops window least gaps → (leb least gap ≡ true) ⊎ (leb least gap ≡ false) → (drops gap ≡ true) ⊎ (drops gap ≡ false) →
        length (filter (λ other. not (drops other)) (gap ∷ gaps)) + length (selected_from window least (gap ∷ gaps)) ≤ length (gap ∷ gaps)
    by after same (inl may) is =
        let here : drops gap ≡ true = All-head (λ other. drops other ≡ true) gap (selected_from window (gap + 2 * window) gaps) (taken may) in
        let rest = after (All-tail (λ other. drops other ≡ true) gap (selected_from window (gap + 2 * window) gaps) (taken may)) in
        rw (may, here) (omega (arith, rest))
    by after same (inr may) (inl is) = rw (may, is) (omega (arith, same (passed may)))
    by after same (inr may) (inr is) = rw (may, is) (omega (arith, same (passed may)))

-- the finger of each work is dropped
pub finger_dropped : (works : List Work) (gap : ℕ) → member gap (fingers_of works) ≡ true →
    list_any (is_dropped_gap gap) (map cut_of works) ≡ true
finger_dropped [] gap is = absurd (cc)
finger_dropped (work ∷ works) gap is =
    by (λ there. finger_dropped works gap there) (or_cases (eqb gap work.finger) (member gap (fingers_of works)) is)
  where
    by : (member gap (fingers_of works) ≡ true → list_any (is_dropped_gap gap) (map cut_of works) ≡ true) → (eqb gap work.finger ≡ true) ⊎ (member gap (fingers_of works) ≡ true) → list_any (is_dropped_gap gap) (map cut_of (work ∷ works)) ≡ true
    by later (inl here) = rw here refl
    by later (inr there) =
        or_right (is_dropped_gap gap (cut_of work)) (list_any (is_dropped_gap gap) (map cut_of works)) (later there)

-- an improved segment has at most two new gaps, and another one none
new_gaps_few : (live : ℕ) (cut : GapCut) → length (new_gaps live cut) ≤ 2 * ones cut.improved
new_gaps_few live cut = by cut.improved (eqb cut.from 0) (eqb cut.to live)
  where
    by : (improved at_start at_end : Bool) → length (inner_edges improved at_start at_end cut.from cut.to) ≤ 2 * ones improved
    by true true true = omega arith
    by true true false = omega arith
    by true false true = omega arith
    by true false false = omega arith
    by false at_start at_end = omega arith

all_new_gaps_few : (live : ℕ) (works : List Work) → length (flat_map (new_gaps live) (map cut_of works)) ≤ 2 * improved_of works
all_new_gaps_few live [] = omega arith
all_new_gaps_few live (work ∷ works) =
    omega (
      arith,
      length-append (new_gaps live (cut_of work)) (flat_map (new_gaps live) (map cut_of works)),
      new_gaps_few live (cut_of work),
      all_new_gaps_few live works,
    )

-- the numbers are at least `least`, at most `live`, and stand twice the window apart
abbrev pub Spread : ℕ → ℕ → ℕ → List ℕ → Type 0
Spread window live least [] = Unit {0}
Spread window live least (gap ∷ gaps) = (least ≤ gap) × (gap ≤ live) × Spread window live (gap + 2 * window) gaps

pub selected_spread : (window live least : ℕ) (gaps : List ℕ) → All (λ gap. gap ≤ live) gaps → Spread window live least (selected_from window least gaps)
selected_spread window live least [] all = tt
selected_spread window live least (gap ∷ gaps) all =
    by (selected_spread window live least gaps rest) (selected_spread window live (gap + 2 * window) gaps rest) (cases_lt gap least)
  where
    rest : All (λ other. other ≤ live) gaps
    rest = All-tail (λ other. other ≤ live) gap gaps all

    by : Spread window live least (selected_from window least gaps) →
        Spread window live (gap + 2 * window) (selected_from window (gap + 2 * window) gaps) →
        (gap < least) ⊎ (least ≤ gap) → Spread window live least (selected_from window least (gap ∷ gaps))
    by same after (inl lt) = let may_not : leb least gap ≡ false = lt-leb least gap lt in rw may_not same
    by same after (inr ge) =
        let may : leb least gap ≡ true = le-leb least gap ge in
        rw may (ge, All-head (λ other. other ≤ live) gap gaps all, after)

-- the joined list is shorter by the improved segments at least, and reaches up to the first segment
record Shrinks (live least : ℕ) (new improved : ℕ) : Type 0 where
  short : new + improved ≤ live
  reaches : min live least ≤ new

module _ (rules : List RowView) (sound : All IsSound rules) (window : ℕ) (gates : List Gate) where
  joined_shrinks : (least : ℕ) (works : List Work) → Spread window (length gates) least (fingers_of works) →
      All (IsWorkOf rules window gates) works → Shrinks (length gates) (least - window) (length (joined gates works)) (improved_of works)
  joined_shrinks least [] spread each = record { short = omega arith; reaches = omega arith }
  joined_shrinks least (work ∷ works) spread each =
      let is : IsWorkOf rules window gates work = All-head (IsWorkOf rules window gates) work works each in
      let rest : Shrinks (length gates) (work.finger + 2 * window - window) (length (joined gates works)) (improved_of works) =
      joined_shrinks (work.finger + 2 * window) works spread.2 (All-tail (IsWorkOf rules window gates) work works each) in
      by is rest (strictly_shorter rules (run gates work.from work.to) work.answer sound is.oracle)
    where
      by : IsWorkOf rules window gates work →
          Shrinks (length gates) (work.finger + 2 * window - window) (length (joined gates works)) (improved_of works) →
          length work.answer.gates + ones work.answer.improved ≤ length (run gates work.from work.to) →
          Shrinks (length gates) (least - window) (length (joined gates (work ∷ works))) (improved_of (work ∷ works))
      by is rest less =
          let begins : work.from ≡ work.finger - window = is.begins in
          let ends : work.to ≡ min (length gates) (work.finger + window) = is.ends in
          let low : least ≤ work.finger = spread.0 in
          let high : work.finger ≤ length gates = spread.1 in
          let upto : work.to ≤ length (joined gates works) = omega (arith, ends, rest.reaches) in
          let ordered : work.from ≤ work.to = omega (arith, begins, ends, high) in
          let segment : length (run gates work.from work.to) ≡ work.to - work.from =
          omega (arith, length-take (work.to - work.from) (drop work.from gates), length-drop work.from gates, ends) in
          let new : length (joined gates (work ∷ works)) ≡ work.from + (length work.answer.gates + (length (joined gates works) - work.to)) =
          omega (
            arith,
            ordered,
            upto,
            length-append (take work.from (joined gates works)) (work.answer.gates ++ drop work.to (joined gates works)),
            length-append work.answer.gates (drop work.to (joined gates works)),
            length-take work.from (joined gates works),
            length-drop work.to (joined gates works),
          ) in
          record {
            short = omega (arith, new, segment, less, rest.short, ordered, upto);
            reaches = omega (arith, new, begins, low, high);
          }

-- the new fingers are few
new_fingers_few : (live window : ℕ) (works : List Work) (fingers : List ℕ) → fingers_of works ≡ selected window fingers →
    length (new_fingers live (map cut_of works) fingers) + length works ≤ length fingers + 2 * improved_of works
unfolding kept_gaps
new_fingers_few live window works fingers selects =
    let drops : ℕ → Bool = λ gap. list_any (is_dropped_gap gap) (map cut_of works) in
    let stay : List ℕ = filter (λ gap. not (drops gap)) fingers in
    let edges : List ℕ = flat_map (new_gaps live) (map cut_of works) in
    let each : All (λ gap. drops gap ≡ true) (selected window fingers) =
    subst (λ (gaps : List ℕ). All (λ gap. drops gap ≡ true) gaps) selects
    (All-from_member (λ gap. drops gap ≡ true) (fingers_of works) (finger_dropped works)) in
    omega (
      arith,
      ascending_long (map (moved_gap (map cut_of works)) (ascending (stay ++ edges))),
      length-map (ascending (stay ++ edges)) (moved_gap (map cut_of works)),
      ascending_long (stay ++ edges),
      length-append stay edges,
      all_new_gaps_few live works,
      selected_leave drops window 0 fingers each,
      ap (λ (l : List ℕ). length l) selects,
      length-map works (λ (work : Work). work.finger),
    )

-- the fingers and twice the gates fall
pub round_falls : (rules : List RowView) (window : ℕ) (before after : State) (step : Step) → 0 < window → All IsSound rules → IsState before →
    Round rules window before after step →
    length after.fingers + 2 * length after.gates + step.selected ≤ length before.fingers + 2 * length before.gates
round_falls rules window before after step positive sound state is =
    let spread : Spread window (length before.gates) 0 (fingers_of is.works) =
    subst (Spread window (length before.gates) 0) (sym is.selects) (selected_spread window (length before.gates) 0 before.fingers state.inside) in
    let shrinks : Shrinks (length before.gates) (0 - window) (length (joined before.gates is.works)) (improved_of is.works) =
    joined_shrinks rules sound window before.gates 0 is.works spread is.each in
    omega (
      arith,
      shrinks.short,
      ap (λ (g : List Gate). length g) is.gates,
      ap (λ (l : List ℕ). length l) is.fingers,
      new_fingers_few (length before.gates) window is.works before.fingers is.selects,
      is.selected_is,
    )

-- some finger is selected where there is one
selected_some : (window : ℕ) (gaps : List ℕ) → 0 < length gaps → 0 < length (selected window gaps)
selected_some window [] some = absurd (omega arith)
selected_some window (gap ∷ gaps) some =
    let may : leb 0 gap ≡ true = le-leb 0 gap (omega arith) in
    rw may (omega arith)

pub round_selects : (rules : List RowView) (window : ℕ) (before after : State) (step : Step) → Round rules window before after step →
    0 < length before.fingers → 0 < step.selected
round_selects rules window before after step is some =
    omega (
      arith,
      is.selected_is,
      length-map is.works (λ (work : Work). work.finger),
      ap (λ (l : List ℕ). length l) is.selects,
      selected_some window before.fingers some,
    )
