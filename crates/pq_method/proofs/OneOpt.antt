-- Rounds end in exactly one way.
use Rattle.std.proofs.Common.{◌≡◌, ℕ, zero, suc, ◌+◌, ◌*◌, ◌<◌, ◌≤◌, List, [], ◌∷◌, length, get_or, sym, subst, arith, refl}
use Rattle.std.specs.Prelude.{All}
use Rattle.std.proofs.lemmas.List.{get_or_default}
use Rattle.pq_gate.specs.declared.gate.Gate.{Gate}
use Rattle.pq_rules.specs.Row.{RowView, IsSound}
use Rattle.pq_gaps.specs.Gaps.{first_fingers}
use Rattle.pq_gaps.proofs.Multiples.{first_rises, first_contained}
use Rattle.pq_method.specs.declared.step.Step.{Step}
use Rattle.pq_method.specs.Round.{State, Round, IsState}
use Rattle.pq_method.specs.Opt.{Total, no_rounds, numbers_of, after_round, Rounds, Opt, done, round, first_state}
use Rattle.pq_method.proofs.OneRound.{round_some, round_only}
use Rattle.pq_method.proofs.Falling.{round_falls, round_selects}
use Rattle.pq_method.proofs.Covering.{state_after}

module _ (rules : List RowView) (sound : All IsSound rules) (window : ℕ) where
  one_at_end : {state : State} {other : Total} → length state.fingers ≡ 0 → Rounds rules window state other → no_rounds state.gates ≡ other
  one_at_end none (done gates) = refl
  one_at_end none (round before after step total some is rest) = absurd (omega (arith, some, none))

  one_step : {state : State} {other : Total} (after : State) (step : Step) (total : Total) → 0 < length state.fingers →
      Round rules window state after step → ((next : Total) → Rounds rules window after next → total ≡ next) →
      Rounds rules window state other → after_round (numbers_of state after step) total ≡ other
  one_step after step total some is same (done gates) = absurd (omega (arith, some))
  one_step after step total some is same (round before found found_step next found_some found_is rest) =
      let one = round_only rules window before after found step found_step sound is found_is in
      let totals : total ≡ next = same next (subst (λ (s : State). Rounds rules window s next) (sym one.0) rest) in
      λ i. after_round (numbers_of before (one.0 i) (one.1 i)) (totals i)

  pub one_total : {state : State} {total other : Total} → Rounds rules window state total → Rounds rules window state other → total ≡ other
  one_total (done gates) right = one_at_end refl right
  one_total (round before after step total some is rest) right = one_step after step total some is (λ next other. one_total rest other) right

-- the optimiser has one result
pub opt_only : (rules : List RowView) (window : ℕ) (gates : List Gate) (total other : Total) → All IsSound rules →
    Opt rules window gates total → Opt rules window gates other → total ≡ other
opt_only rules window gates total other sound left right = one_total rules sound window left right

-- the first fingers are gaps
pub first_is_state : (window : ℕ) (gates : List Gate) → 0 < window → IsState (first_state window gates)
first_is_state window gates some = record {
  rising = first_rises (length gates) window some;
  inside = λ k d inside. by k d inside;
}
  where
    by : (k d : ℕ) → k < length (first_fingers (length gates) window) → get_or (first_fingers (length gates) window) k d ≤ length gates
    by k d inside =
        let below = first_contained (length gates) window (get_or (first_fingers (length gates) window) k d) some (k, inside, get_or_default (first_fingers (length gates) window) k (get_or (first_fingers (length gates) window) k d) d inside) in
        omega (arith, below.0)

-- Rounds end, since the fingers and twice the gates fall.
module _ (rules : List RowView) (sound : All IsSound rules) (window : ℕ) (positive : 0 < window) where
  total_below : (n : ℕ) (gates : List Gate) (fingers : List ℕ) → IsState (record { gates = gates; fingers = fingers }) →
      length fingers + 2 * length gates < n → (total : Total) × Rounds rules window (record { gates = gates; fingers = fingers }) total
  total_below zero gates fingers state few = absurd (omega arith)
  total_below (suc n) gates [] state few = (no_rounds gates, done gates)
  total_below (suc n) gates (finger ∷ fingers) state few =
      let before : State = record { gates = gates; fingers = finger ∷ fingers } in
      let next = round_some rules window before sound in
      let falls = round_falls rules window before next.0 next.1 positive sound state next.2 in
      let selects = round_selects rules window before next.0 next.1 next.2 (omega arith) in
      let rest = total_below n next.0.gates next.0.fingers (state_after rules window before next.0 next.1 positive sound state next.2) (omega (arith, falls, selects, few)) in
      (after_round (numbers_of before next.0 next.1) rest.0, round before next.0 next.1 rest.0 (omega arith) next.2 rest.1)

  some_total : (gates : List Gate) → (total : Total) × Opt rules window gates total
  some_total gates =
      let state : State = first_state window gates in
      total_below (suc (length state.fingers + 2 * length gates)) gates state.fingers (first_is_state window gates positive) (omega arith)

-- the optimiser has a result
pub opt_some : (rules : List RowView) (window : ℕ) (gates : List Gate) → 0 < window → All IsSound rules → (total : Total) × Opt rules window gates total
opt_some rules window gates positive sound = some_total rules sound window positive gates
