use Rattle.std.proofs.Common.{◌≡◌, ◌≢◌, ℕ, ◌+◌, ◌-◌, ◌<◌, ◌≤◌, true, false, List, [], ◌∷◌, ◌++◌, length, map, take, drop, refl, ap, sym, subst, ◌∙◌, arith, inl, inr, ◌⊎◌}
use Rattle.std.specs.Prelude.{All, Contains}
use Rattle.std.specs.List.Sorted.{IsStrictlyIncreasing}
use Rattle.std.proofs.lemmas.Bool.{cases_lt, cases_order, cases_Bool, true≢false}
use Rattle.std.proofs.lemmas.List.{drop-drop, take-take, take-append-le, length-take-le}
use Rattle.std.proofs.Math.Seq.{drop-append_seam, take-append_seam, drop-append-add}
use Rattle.pq_gate.specs.declared.gate.Gate.{Gate}
use Rattle.pq_rules.specs.Row.{RowView, IsSound}
use Rattle.pq_match.specs.Redex.{IsRedex, HasNoRedex}
use Rattle.pq_gaps.specs.Gaps.{DropsGap, segment_from, segment_to, kept_gaps, lost_before, moved_gap, new_fingers}
use Rattle.pq_gaps.proofs.Putting.{increasing-ascending}
use Rattle.pq_gaps.proofs.Rising.{All-from_member, contains_from_member}
use Rattle.pq_oracle.proofs.Answering.{clean, improved as better_where}
use Rattle.pq_method.specs.declared.step.Step.{Step}
use Rattle.pq_method.specs.Round.{State, IsState, Work, cut_of, Round, joined, run}
use Rattle.pq_method.specs.Opt.{Cover}
use Rattle.pq_method.proofs.Joining.{Fit, round_fits, oracle_later, run_front}
use Rattle.pq_method.proofs.Keeping.{Sizes, sizes, joined_short, joined_as_before, Kept, kept_edge, kept_more, kept_from_new, new_from_kept, moved_inside, lost_none, lost_fits, none_lost, all_lost}
use Rattle.pq_method.proofs.Redexes.{redex_in_run, redex_run_long}

-- a round leads a state to a state
pub state_after : (rules : List RowView) (w : ℕ) (before after : State) (step : Step) → 0 < w → All IsSound rules → IsState before →
    Round rules w before after step → IsState after
state_after rules w before after step some sound is round =
    let live : ℕ = length before.gates in
    let news : List ℕ = new_fingers live (map cut_of round.works) before.fingers in
    let P : ℕ → Type 0 = λ finger. finger ≤ length (joined before.gates round.works) in
    let each : All P news =
    All-from_member P news (λ x has.
    (let found = kept_from_new live (map cut_of round.works) before.fingers x (contains_from_member x news has) in
    let most : moved_gap (map cut_of round.works) found.0 ≤ length (joined before.gates round.works) =
    moved_inside rules w before.gates 0 round.works before.fingers found.0 sound is.inside (round_fits rules w before after step is round) found.1 in
    omega (arith, most, found.2))) in
    let Q : List Gate → Type 0 = λ c. All (λ finger. finger ≤ length c) news in
    let R : List ℕ → Type 0 = λ fs. All (λ finger. finger ≤ length after.gates) fs in
    record {
      rising = subst IsStrictlyIncreasing (sym round.fingers) (increasing-ascending (map (moved_gap (map cut_of round.works)) (kept_gaps live (map cut_of round.works) before.fingers)));
      inside = subst R (sym round.fingers) (subst Q (sym round.gates) each);
    }

-- a finger whose segment has the run
abbrev Covered : ℕ → ℕ → List ℕ → ℕ → ℕ → Type 0
Covered w live fingers a b = (finger : ℕ) × Contains fingers finger × (segment_from w finger ≤ a) × (b ≤ segment_to w live finger)

-- the fingers after these works
abbrev fingers_after : List Gate → List ℕ → List Work → List ℕ
fingers_after gates fingers works = new_fingers (length gates) (map cut_of works) fingers

-- the state after these works
abbrev state_of : List Gate → List ℕ → List Work → State
state_of gates fingers works = record { gates = joined gates works; fingers = fingers_after gates fingers works }

-- what stands where after an answer is put in the place of a run
spliced_front : (now answer : List Gate) (from to a b : ℕ) → from ≤ length now → a ≤ b → b ≤ from →
    run (take from now ++ (answer ++ drop to now)) a b ≡ run now a b
spliced_front now answer from to a b long up before =
    let here : length (take from now) ≡ from = length-take-le from now long in
    run_front (take from now ++ (answer ++ drop to now)) now a b up
    (take-append-le b (take from now) (answer ++ drop to now) (omega (arith, here)) ∙ take-take b from now before)

spliced_inside : (now answer : List Gate) (from to : ℕ) → from ≤ length now →
    run (take from now ++ (answer ++ drop to now)) from (from + length answer) ≡ answer
spliced_inside now answer from to long =
    let here : length (take from now) ≡ from = length-take-le from now long in
    let e : from + length answer - from ≡ length answer = omega arith in
    let whole : List Gate = take from now ++ (answer ++ drop to now) in
    ap (λ n. take n (drop from whole)) e ∙
    (ap (take (length answer)) (ap (λ n. drop n whole) (sym here) ∙ drop-append_seam (take from now) (answer ++ drop to now)) ∙
    take-append_seam answer (drop to now))

spliced_back : (now answer : List Gate) (from to a b : ℕ) → from ≤ length now → length answer ≤ to - from → from ≤ to → from + length answer ≤ a → a ≤ b →
    run (take from now ++ (answer ++ drop to now)) a b ≡ run now (a + (to - from - length answer)) (b + (to - from - length answer))
spliced_back now answer from to a b long short order behind up =
    let here : length (take from now) ≡ from = length-take-le from now long in
    let whole : List Gate = take from now ++ (answer ++ drop to now) in
    let at : a ≡ length (take from now) + (length answer + (a - (from + length answer))) = omega (arith, here) in
    let moved : to + (a - (from + length answer)) ≡ a + (to - from - length answer) = omega arith in
    let size : b - a ≡ b + (to - from - length answer) - (a + (to - from - length answer)) = omega arith in
    ap (λ n. take n (drop a whole)) size ∙
    ap (take (b + (to - from - length answer) - (a + (to - from - length answer))))
    (ap (λ n. drop n whole) at ∙
    (drop-append-add (take from now) (answer ++ drop to now) (length answer + (a - (from + length answer))) ∙
    (drop-append-add answer (drop to now) (a - (from + length answer)) ∙
    (drop-drop (a - (from + length answer)) to now ∙ ap (λ n. drop n now) moved))))

module _ (rules : List RowView) (w : ℕ) (gates : List Gate) (fingers : List ℕ) (least : ℕ) (work : Work) (works : List Work)
    (sound : All IsSound rules) (fit : Fit rules w gates least (work ∷ works)) where
  size : Sizes gates work works
  size = sizes rules w gates least work works sound fit

  -- up to the segment's end the later works move nothing
  rest_none : (y : ℕ) → y ≤ work.to → lost_before (map cut_of works) y ≡ 0
  rest_none y le = lost_none rules w gates work.to y works fit.3 le

  -- and up to its start this one neither
  all_none : (y : ℕ) → y ≤ work.from → lost_before (map cut_of (work ∷ works)) y ≡ 0
  all_none y le = lost_none rules w gates work.from y (work ∷ works) (omega arith, fit.1, fit.2, fit.3) le

  not_dropped : (y : ℕ) → (y < work.from) ⊎ (work.to < y) → DropsGap y (cut_of work) → ⊥
  not_dropped y (inl lt) (inl own) = omega (arith, lt, own, size.before)
  not_dropped y (inl lt) (inr in') = omega (arith, lt, in'.1)
  not_dropped y (inr gt) (inl own) = omega (arith, gt, own, size.behind)
  not_dropped y (inr gt) (inr in') = omega (arith, gt, in'.2)

  new_at : (y : ℕ) → Kept (length gates) (map cut_of works) fingers y → (y < work.from) ⊎ (work.to < y) →
      Contains (fingers_after gates fingers (work ∷ works)) (moved_gap (map cut_of (work ∷ works)) y)
  new_at y kept side =
      new_from_kept (length gates) (map cut_of (work ∷ works)) fingers y
      (kept_more (length gates) (cut_of work) (map cut_of works) fingers y kept (not_dropped y side))

  edge_from : work.answer.improved ≡ true → work.from ≢ 0 → Contains (fingers_after gates fingers (work ∷ works)) work.from
  edge_from better inner =
      let new : Contains (fingers_after gates fingers (work ∷ works)) (moved_gap (map cut_of (work ∷ works)) work.from) =
      new_from_kept (length gates) (map cut_of (work ∷ works)) fingers work.from
      (kept_edge (length gates) (cut_of work) (map cut_of works) fingers work.from (better, inl (refl, inner))) in
      let at : moved_gap (map cut_of (work ∷ works)) work.from ≡ work.from = omega (arith, all_none work.from (omega arith)) in
      subst (Contains (fingers_after gates fingers (work ∷ works))) at new

  edge_to : work.answer.improved ≡ true → work.to ≢ length gates → Contains (fingers_after gates fingers (work ∷ works)) (work.from + length work.answer.gates)
  edge_to better inner =
      let new : Contains (fingers_after gates fingers (work ∷ works)) (moved_gap (map cut_of (work ∷ works)) work.to) =
      new_from_kept (length gates) (map cut_of (work ∷ works)) fingers work.to
      (kept_edge (length gates) (cut_of work) (map cut_of works) fingers work.to (better, inr (refl, inner))) in
      let at : moved_gap (map cut_of (work ∷ works)) work.to ≡ work.from + length work.answer.gates =
      omega (
        arith,
        rest_none work.to (omega arith),
        size.short,
        size.before,
        size.behind,
        all_lost work.answer.improved work.to work.to (work.to - work.from - length work.answer.gates) better (omega arith),
      ) in
      subst (Contains (fingers_after gates fingers (work ∷ works))) at new

  -- a run left of the segment
  left_of : (a b : ℕ) → work.answer.improved ≡ true → a < b → b ≤ work.from →
      Covered w (length (joined gates works)) (fingers_after gates fingers works) a b →
      Covered w (length (joined gates (work ∷ works))) (fingers_after gates fingers (work ∷ works)) a b
  left_of a b better some before old = by found.0 found.1 found.2 (cases_lt found.0 work.from) (cases_lt work.to found.0)
    where
      found : (y : ℕ) × Kept (length gates) (map cut_of works) fingers y × (old.0 ≡ moved_gap (map cut_of works) y)
      found = kept_from_new (length gates) (map cut_of works) fingers old.0 old.1

      by : (y : ℕ) → Kept (length gates) (map cut_of works) fingers y → old.0 ≡ moved_gap (map cut_of works) y →
          (y < work.from) ⊎ (work.from ≤ y) → (work.to < y) ⊎ (y ≤ work.to) →
          Covered w (length (joined gates (work ∷ works))) (fingers_after gates fingers (work ∷ works)) a b
      by y kept at (inl lt) side =
          let none = all_none y (omega (arith, lt)) in
          let rest = rest_none y (omega (arith, lt, size.before, size.behind)) in (
            moved_gap (map cut_of (work ∷ works)) y,
            new_at y kept (inl lt),
            omega (arith, none, rest, at, old.2),
            omega (arith, none, rest, at, old.3, size.size, before),
          )
      by y kept at (inr ge) (inr le) =
          let rest = rest_none y le in (
            work.from,
            edge_from better (λ zero_is. omega (arith, zero_is, some, before)),
            omega (arith, rest, at, old.2, ge),
            omega (arith, size.size, before),
          )
      by y kept at (inr ge) (inl gt) =
          let lost = all_lost work.answer.improved work.to y (work.to - work.from - length work.answer.gates) better (omega (arith, gt)) in
          let rest = lost_fits rules w gates work.to y works fit.3 (omega (arith, gt)) in (
            moved_gap (map cut_of (work ∷ works)) y,
            new_at y kept (inr gt),
            omega (arith, lost, at, old.2),
            omega (arith, lost, rest, size.size, size.short, size.before, size.behind, before),
          )

  -- a run right of it
  right_of : (a b : ℕ) → work.answer.improved ≡ true → a < b → work.from + length work.answer.gates ≤ a →
      b ≤ length (joined gates (work ∷ works)) →
      Covered w (length (joined gates works)) (fingers_after gates fingers works)
      (a + (work.to - work.from - length work.answer.gates)) (b + (work.to - work.from - length work.answer.gates)) →
      Covered w (length (joined gates (work ∷ works))) (fingers_after gates fingers (work ∷ works)) a b
  right_of a b better some behind in_list old = by found.0 found.1 found.2 (cases_lt found.0 work.from) (cases_lt work.to found.0)
    where
      found : (y : ℕ) × Kept (length gates) (map cut_of works) fingers y × (old.0 ≡ moved_gap (map cut_of works) y)
      found = kept_from_new (length gates) (map cut_of works) fingers old.0 old.1

      less : length (joined gates works) ≤ length gates
      less = joined_short rules w gates work.to works sound fit.3

      by : (y : ℕ) → Kept (length gates) (map cut_of works) fingers y → old.0 ≡ moved_gap (map cut_of works) y →
          (y < work.from) ⊎ (work.from ≤ y) → (work.to < y) ⊎ (y ≤ work.to) →
          Covered w (length (joined gates (work ∷ works))) (fingers_after gates fingers (work ∷ works)) a b
      by y kept at (inl lt) side =
          let none = all_none y (omega (arith, lt)) in
          let rest = rest_none y (omega (arith, lt, size.before, size.behind)) in (
            moved_gap (map cut_of (work ∷ works)) y,
            new_at y kept (inl lt),
            omega (arith, none, lt, behind),
            omega (arith, none, rest, at, old.3, in_list),
          )
      by y kept at (inr ge) (inr le) =
          let rest = rest_none y le in (
            work.from + length work.answer.gates,
            edge_to better (λ end. omega (arith, end, some, behind, in_list, size.size, less)),
            omega (arith, behind),
            omega (arith, rest, at, old.3, le, in_list, size.short, size.before, size.behind),
          )
      by y kept at (inr ge) (inl gt) =
          let lost = all_lost work.answer.improved work.to y (work.to - work.from - length work.answer.gates) better (omega (arith, gt)) in
          let rest = lost_fits rules w gates work.to y works fit.3 (omega (arith, gt)) in (
            moved_gap (map cut_of (work ∷ works)) y,
            new_at y kept (inr gt),
            omega (arith, lost, rest, at, old.2, size.short, size.before, size.behind),
            omega (arith, lost, rest, at, old.3, in_list, size.short, size.before, size.behind),
          )

  -- a better answer in the place of its segment
  cover_better : work.answer.improved ≡ true → Cover rules w (state_of gates fingers works) → Cover rules w (state_of gates fingers (work ∷ works))
  cover_better better old a b redex up in_list most is =
      by (cases_lt work.from b) (cases_lt a (work.from + length work.answer.gates)) (cases_lt a work.from) (cases_lt (work.from + length work.answer.gates) b)
    where
      some : a < b
      some = redex_run_long rules (joined gates (work ∷ works)) a b redex is

      long : work.from ≤ length (joined gates works)
      long = omega (arith, size.in_now, size.before, size.behind)

      by : (work.from < b) ⊎ (b ≤ work.from) → (a < work.from + length work.answer.gates) ⊎ (work.from + length work.answer.gates ≤ a) →
          (a < work.from) ⊎ (work.from ≤ a) → (work.from + length work.answer.gates < b) ⊎ (b ≤ work.from + length work.answer.gates) →
          Covered w (length (joined gates (work ∷ works))) (fingers_after gates fingers (work ∷ works)) a b
      by (inr before) x y z =
          left_of a b better some before
          (old a b redex up (omega (arith, before, long)) most
          (subst (λ (c : List Gate). IsRedex rules c redex) (spliced_front (joined gates works) work.answer.gates work.from work.to a b long up before) is))
      by (inl past) (inr behind) y z =
          right_of a b better some behind in_list
          (old (a + (work.to - work.from - length work.answer.gates)) (b + (work.to - work.from - length work.answer.gates)) redex (omega (arith, up))
          (omega (arith, in_list, size.size, size.short, size.in_now, size.before, size.behind)) (omega (arith, most))
          (subst (λ (c : List Gate). IsRedex rules c redex)
          (spliced_back (joined gates works) work.answer.gates work.from work.to a b long size.short (omega (arith, size.before, size.behind)) behind up) is))
      by (inl past) (inl early) (inl starts) z = (
        work.from,
        edge_from better (λ zero_is. omega (arith, zero_is, starts)),
        omega (arith, past, most),
        omega (arith, in_list, starts, most),
      )
      by (inl past) (inl early) (inr inner) (inl ends) =
          let less : length (joined gates works) ≤ length gates = joined_short rules w gates work.to works sound fit.3 in (
            work.from + length work.answer.gates,
            edge_to better (λ end. omega (arith, end, ends, in_list, size.size, less)),
            omega (arith, ends, most),
            omega (arith, in_list, early, most),
          )
      by (inl past) (inl early) (inr inner) (inr within) =
          let none : HasNoRedex rules work.answer.gates =
          clean rules (run (joined gates works) work.from work.to) work.answer (oracle_later rules w gates least work works fit) in
          let there : HasNoRedex rules (run (joined gates (work ∷ works)) work.from (work.from + length work.answer.gates)) =
          subst (HasNoRedex rules) (sym (spliced_inside (joined gates works) work.answer.gates work.from work.to long)) none in
          absurd (redex_in_run rules (joined gates (work ∷ works)) work.from a b (work.from + length work.answer.gates) redex inner up within is there)

  -- an answer that isn't better
  cover_same : work.answer.improved ≡ false → Cover rules w (state_of gates fingers works) → Cover rules w (state_of gates fingers (work ∷ works))
  cover_same same old a b redex up in_list most is = by found.0 found.1 found.2 (cases_order found.0 work.finger)
    where
      alike : joined gates (work ∷ works) ≡ joined gates works
      alike = joined_as_before rules w gates least work works fit same

      long : length (joined gates (work ∷ works)) ≡ length (joined gates works)
      long = ap (λ (c : List Gate). length c) alike

      is_old : IsRedex rules (run (joined gates works) a b) redex
      is_old = subst (λ (c : List Gate). IsRedex rules (run c a b) redex) alike is

      cover : Covered w (length (joined gates works)) (fingers_after gates fingers works) a b
      cover = old a b redex up (omega (arith, in_list, long)) most is_old

      found : (y : ℕ) × Kept (length gates) (map cut_of works) fingers y × (cover.0 ≡ moved_gap (map cut_of works) y)
      found = kept_from_new (length gates) (map cut_of works) fingers cover.0 cover.1

      not_own : (y : ℕ) → (y ≡ work.finger → ⊥) → DropsGap y (cut_of work) → ⊥
      not_own y other (inl own) = other own
      not_own y other (inr in') = true≢false (sym in'.0 ∙ same)

      other_finger : (y : ℕ) → Kept (length gates) (map cut_of works) fingers y → cover.0 ≡ moved_gap (map cut_of works) y → (y ≡ work.finger → ⊥) →
          Covered w (length (joined gates (work ∷ works))) (fingers_after gates fingers (work ∷ works)) a b
      other_finger y kept at other =
          let none = none_lost work.answer.improved work.to y (work.to - work.from - length work.answer.gates) same in (
            moved_gap (map cut_of (work ∷ works)) y,
            new_from_kept (length gates) (map cut_of (work ∷ works)) fingers y
                (kept_more (length gates) (cut_of work) (map cut_of works) fingers y kept (not_own y other)),
            omega (arith, none, at, cover.2),
            omega (arith, none, at, cover.3, long),
          )

      by : (y : ℕ) → Kept (length gates) (map cut_of works) fingers y → cover.0 ≡ moved_gap (map cut_of works) y →
          (y ≡ work.finger) ⊎ ((y < work.finger) ⊎ (work.finger < y)) →
          Covered w (length (joined gates (work ∷ works))) (fingers_after gates fingers (work ∷ works)) a b
      by y kept at (inl own) =
          let rest = rest_none y (omega (arith, own, size.behind)) in
          let less : length (joined gates works) ≤ length gates = joined_short rules w gates work.to works sound fit.3 in
          let none : HasNoRedex rules (run (joined gates works) work.from work.to) =
          (better_where rules (run (joined gates works) work.from work.to) work.answer (oracle_later rules w gates least work works fit)).0 same in
          absurd (redex_in_run rules (joined gates works) work.from a b work.to redex
          (omega (arith, rest, own, at, cover.2, fit.2.begins)) up
          (omega (arith, rest, own, at, cover.3, fit.2.ends, less)) is_old none)
      by y kept at (inr (inl below)) = other_finger y kept at (λ own. omega (arith, own, below))
      by y kept at (inr (inr above)) = other_finger y kept at (λ own. omega (arith, own, above))

  cover_step : Cover rules w (state_of gates fingers works) → Cover rules w (state_of gates fingers (work ∷ works))
  cover_step old = by (cases_Bool work.answer.improved)
    where
      by : (work.answer.improved ≡ true) ⊎ (work.answer.improved ≡ false) → Cover rules w (state_of gates fingers (work ∷ works))
      by (inl better) = cover_better better old
      by (inr same) = cover_same same old

-- before any work the fingers are the old ones
cover_none : (rules : List RowView) (w : ℕ) (gates : List Gate) (fingers : List ℕ) →
    Cover rules w (record { gates = gates; fingers = fingers }) → Cover rules w (state_of gates fingers [])
cover_none rules w gates fingers old a b redex up in_list most is =
    let cover = old a b redex up in_list most is in
    let new : Contains (fingers_after gates fingers []) (moved_gap [] cover.0) =
    new_from_kept (length gates) [] fingers cover.0 (inl (cover.1, λ none. omega (arith, none.2))) in
    (moved_gap [] cover.0, new, omega (arith, cover.2), omega (arith, cover.3))

-- all the works, the last one first
cover_all : (rules : List RowView) (w : ℕ) (gates : List Gate) (fingers : List ℕ) (least : ℕ) (works : List Work) → All IsSound rules →
    Fit rules w gates least works → Cover rules w (record { gates = gates; fingers = fingers }) → Cover rules w (state_of gates fingers works)
cover_all rules w gates fingers least [] sound fit old = cover_none rules w gates fingers old
cover_all rules w gates fingers least (work ∷ works) sound fit old =
    cover_step rules w gates fingers least work works sound fit (cover_all rules w gates fingers work.to works sound fit.3 old)

-- a round overlooks nothing
pub cover_after : (rules : List RowView) (w : ℕ) (before after : State) (step : Step) → 0 < w → All IsSound rules → IsState before →
    Round rules w before after step → Cover rules w before → Cover rules w after
cover_after rules w before after step some sound is round old =
    let new : Cover rules w (state_of before.gates before.fingers round.works) =
    cover_all rules w before.gates before.fingers 0 round.works sound (round_fits rules w before after step is round) old in
    let P : List Gate → Type 0 = λ c. Cover rules w (record { gates = c; fingers = fingers_after before.gates before.fingers round.works }) in
    let Q : List ℕ → Type 0 = λ fs. Cover rules w (record { gates = after.gates; fingers = fs }) in
    subst Q (sym round.fingers) (subst P (sym round.gates) new)
