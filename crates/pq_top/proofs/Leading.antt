-- Rounds that were made, and those that are still to come.
use Rattle.std.proofs.Common.{◌≡◌, ℕ, ◌+◌, ◌%◌, ◌<◌, Bool, true, false, List, [], ◌∷◌, ◌++◌, length, refl, sym, ◌∙◌, subst, arith, append_assoc, ap, map}
use Rattle.std.specs.Prelude.{IsTrue}
use Rattle.std.proofs.lemmas.List.{append-nil, length-append, map-append}
use Rattle.std.proofs.lemmas.List.Sums.{sum_by-append}
use Rattle.pq_gate.specs.declared.gate.Gate.{Gate}
use Rattle.pq_rules.specs.Row.{RowView}
use Rattle.pq_method.specs.declared.step.Step.{Step}
use Rattle.pq_loop.specs.Opt.{Total, RoundNumbers, numbers_of, calls_of, phase_of, no_rounds, after_round, Rounds, done, round, first_state, Opt}
use Rattle.pq_loop.specs.declared.looping.Finished.{Finished}
use Rattle.pq_loop.specs.Gaps.{first_fingers}
use Rattle.pq_board.specs.Steps.{Numbers}
use Rattle.pq_loop.specs.Receipts.{receipt_of}
use Rattle.pq_loop.specs.Loops.{LoopView}
use Rattle.pq_loop.specs.Round.{State, Round}
use Rattle.pq_loop.specs.Counted.{IsEndOf}

-- what rounds leave, with these rounds in front
abbrev pub with_rounds : List RoundNumbers → Total → Total
with_rounds made total = record { gates = total.gates; rounds = made ++ total.rounds }

-- Whatever rounds make of the state, with these rounds in front it is what the optimiser makes of the gates.
abbrev pub LeadsTo : List RowView → ℕ → List Gate → State → List RoundNumbers → Type 0
LeadsTo rules w gates state made = (total : Total) → Rounds rules w state total → Opt rules w gates (with_rounds made total)

-- The loop is on its way from the first fingers of the gates, and counted the rounds that it made; the log has their
-- receipts more.
pub record IsOnItsWay (rules : List RowView) (w : ℕ) (gates : List Gate) (old : List Numbers) (loop : LoopView) (log : List Numbers) : Type 0 where
  pub made : List RoundNumbers
  pub leads : LeadsTo rules w gates loop.state made
  pub rounds : loop.rounds ≡ length made
  pub calls : loop.calls ≡ calls_of made
  pub phase : loop.phase ≡ phase_of made
  pub window_is : loop.omega ≡ w
  pub rules_are : loop.rules ≡ rules
  pub first_fingers_are : loop.first_fingers ≡ length (first_fingers (length gates) w)
  pub logged : log ≡ old ++ map receipt_of made

-- before the first round
pub first_on_its_way : (rules : List RowView) (w : ℕ) (gates : List Gate) (log : List Numbers) (loop : LoopView) → loop.state ≡ first_state w gates →
    loop.omega ≡ w → loop.rules ≡ rules → (loop.rounds ≡ 0) × (loop.calls ≡ 0) × (loop.phase ≡ 0) →
    loop.first_fingers ≡ length (first_fingers (length gates) w) → IsOnItsWay rules w gates log loop log
first_on_its_way rules w gates log loop state window_is rules_are counts first_are = record {
  made = [];
  leads = λ total rest. subst (λ (s : State). Rounds rules w s total) state rest;
  rounds = counts.0;
  calls = counts.1;
  phase = counts.2;
  window_is = window_is;
  rules_are = rules_are;
  first_fingers_are = first_are;
  logged = sym (append-nil log);
}

-- after one round more
pub next_on_its_way : (rules : List RowView) (w : ℕ) (gates : List Gate) (before after : LoopView) (step : Step) (receipt : Numbers) (old log new : List Numbers) → IsOnItsWay rules w gates old before log →
    0 < length before.state.fingers → Round before.rules before.omega before.state after.state step →
    (after.omega ≡ before.omega) × (after.rules ≡ before.rules) × (after.first_fingers ≡ before.first_fingers) →
    after.rounds ≡ before.rounds + 1 → after.calls ≡ before.calls + step.selected → after.phase ≡ (before.phase + step.phase) % 8 →
    receipt ≡ receipt_of (numbers_of before.state after.state step) → new ≡ log ++ receipt ∷ [] → IsOnItsWay rules w gates old after new
next_on_its_way rules w gates before after step receipt old log new way some one settings rounds_are calls_are phase_is receipt_is pushed = record {
  made = way.made ++ numbers ∷ [];
  leads = λ total rest.
      subst (λ (rounds : List RoundNumbers). Opt rules w gates (record { gates = total.gates; rounds = rounds }))
      (sym (append_assoc way.made (numbers ∷ []) total.rounds))
      (way.leads (after_round numbers total) (round before.state after.state step total some here rest));
  rounds = omega (arith, rounds_are, way.rounds, length-append way.made (numbers ∷ []));
  calls = omega (arith, calls_are, way.calls, sum_by-append (λ (made : RoundNumbers). made.step.selected) way.made (numbers ∷ []));
  phase = omega (arith, phase_is, way.phase, sum_by-append (λ (made : RoundNumbers). made.step.phase) way.made (numbers ∷ []));
  window_is = settings.0 ∙ way.window_is;
  rules_are = settings.1 ∙ way.rules_are;
  first_fingers_are = settings.2 ∙ way.first_fingers_are;
  logged = pushed ∙ (ap (λ (l : List Numbers). l ++ receipt ∷ []) way.logged
      ∙ (append_assoc old (map receipt_of way.made) (receipt ∷ [])
      ∙ ap (λ (l : List Numbers). old ++ l) (ap (λ (r : Numbers). map receipt_of way.made ++ r ∷ []) receipt_is
      ∙ sym (map-append receipt_of way.made (numbers ∷ [])))));
}
  where
    numbers : RoundNumbers
    numbers = numbers_of before.state after.state step

    here : Round rules w before.state after.state step
    here = subst (λ (rs : List RowView). Round rs w before.state after.state step) way.rules_are
        (subst (λ (n : ℕ). Round before.rules n before.state after.state step) way.window_is one)

-- when there is no finger any more
pub led_to_end : (rules : List RowView) (w : ℕ) (gates : List Gate) (old log : List Numbers) (loop : LoopView) (finished : Finished) → IsOnItsWay rules w gates old loop log →
    loop.state.fingers ≡ [] → finished.gates.items ≡ loop.state.gates →
    (finished.rounds ≡ loop.rounds) × (finished.calls ≡ loop.calls) × (finished.phase ≡ loop.phase) × (finished.first_fingers ≡ loop.first_fingers) →
    IsEndOf rules w gates finished
led_to_end rules w gates old log loop finished way none gates_are counts = record {
  total = record { gates = loop.state.gates; rounds = way.made };
  opt = subst (λ (rounds : List RoundNumbers). Opt rules w gates (record { gates = loop.state.gates; rounds = rounds }))
      (append-nil way.made) (way.leads (no_rounds loop.state.gates) ends);
  counted = record {
    gates = gates_are;
    rounds = counts.0 ∙ way.rounds;
    calls = counts.1 ∙ way.calls;
    phase = counts.2 ∙ way.phase;
  };
}
  where
    ends : Rounds rules w loop.state (no_rounds loop.state.gates)
    ends = subst (λ (fingers : List ℕ). Rounds rules w (record { gates = loop.state.gates; fingers = fingers }) (no_rounds loop.state.gates)) (sym none)
        (done loop.state.gates)

-- where the loop isn't done there is a finger
pub some_finger : (fingers : List ℕ) (is_done : Bool) → is_done ≡ false → (fingers ≡ [] → IsTrue is_done) → 0 < length fingers
some_finger [] is_done goes_on ends = let stops : is_done ≡ true = ends refl in absurd (cc)
some_finger (finger ∷ fingers) is_done goes_on ends = omega arith
