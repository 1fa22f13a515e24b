-- A round has one result.
use Rattle.std.proofs.Common.{◌≡◌, ℕ, ◌-◌, ◌%◌, List, [], ◌∷◌, length, map, drop, get_or, refl, ap, sym, subst, ◌∙◌}
use Rattle.std.specs.Prelude.{All}
use Rattle.std.proofs.lemmas.List.Elements.{All-nil, All-cons, All-head, All-tail}
use Rattle.pq_gate.specs.declared.gate.Gate.{Gate}
use Rattle.pq_rules.specs.Row.{RowView, IsSound}
use Rattle.pq_gaps.specs.Gaps.{segment_from, segment_to, selected, new_fingers}
use Rattle.pq_oracle.specs.Ora.{Ora}
use Rattle.pq_oracle.proofs.OneAnswer.{some_answer, one_answer}
use Rattle.pq_method.specs.declared.step.Step.{Step}
use Rattle.pq_method.specs.Round.{State, Round, Work, IsWorkOf, run, cut_of, joined, improved_of, phases_of}

-- the fingers of the works
abbrev pub fingers_of : List Work → List ℕ
fingers_of works = map (λ (work : Work). work.finger) works

-- the works at these fingers
pub record Works (rules : List RowView) (window : ℕ) (gates : List Gate) (fingers : List ℕ) : Type 0 where
  pub works : List Work
  pub at : fingers_of works ≡ fingers
  pub each : All (IsWorkOf rules window gates) works

module _ (rules : List RowView) (sound : All IsSound rules) (window : ℕ) (gates : List Gate) where
  one_work : (work other : Work) → work.finger ≡ other.finger → IsWorkOf rules window gates work → IsWorkOf rules window gates other → work ≡ other
  one_work work other same left right =
      let begins : work.from ≡ other.from = left.begins ∙ (ap (segment_from window) same ∙ sym right.begins) in
      let ends : work.to ≡ other.to = left.ends ∙ (ap (segment_to window (length gates)) same ∙ sym right.ends) in
      let segment : run gates other.from other.to ≡ run gates work.from work.to = sym (λ i. run gates (begins i) (ends i)) in
      let answers : work.answer ≡ other.answer =
      one_answer rules sound left.oracle (subst (λ (g : List Gate). Ora rules g other.answer) segment right.oracle) in
      λ i. record { finger = same i; from = begins i; to = ends i; answer = answers i }

  pub one_list : (works others : List Work) → fingers_of works ≡ fingers_of others → All (IsWorkOf rules window gates) works →
      All (IsWorkOf rules window gates) others → works ≡ others
  one_list [] [] same left right = refl
  one_list [] (other ∷ others) same left right = absurd (cc)
  one_list (work ∷ works) [] same left right = absurd (cc)
  one_list (work ∷ works) (other ∷ others) same left right =
      let first : work ≡ other =
      one_work work other (ap (λ (l : List ℕ). get_or l 0 0) same) (All-head (IsWorkOf rules window gates) work works left)
      (All-head (IsWorkOf rules window gates) other others right) in
      let rest : works ≡ others =
      one_list works others (ap (λ (l : List ℕ). drop 1 l) same) (All-tail (IsWorkOf rules window gates) work works left)
      (All-tail (IsWorkOf rules window gates) other others right) in
      λ i. first i ∷ rest i

  work_at : (finger : ℕ) → (work : Work) × (work.finger ≡ finger) × IsWorkOf rules window gates work
  work_at finger =
      let begins : ℕ = segment_from window finger in
      let ends : ℕ = segment_to window (length gates) finger in
      let found = some_answer rules sound (run gates begins ends) in
      (record { finger = finger; from = begins; to = ends; answer = found.0 }, refl, record { begins = refl; ends = refl; oracle = found.1 })

  pub some_works : (fingers : List ℕ) → Works rules window gates fingers
  some_works [] = record { works = []; at = refl; each = All-nil (IsWorkOf rules window gates) }
  some_works (finger ∷ fingers) =
      let first = work_at finger in
      let rest = some_works fingers in
      record {
        works = first.0 ∷ rest.works;
        at = λ i. first.1 i ∷ rest.at i;
        each = All-cons (IsWorkOf rules window gates) first.0 rest.works first.2 rest.each;
      }

-- each state has a round
pub round_some : (rules : List RowView) (window : ℕ) (before : State) → All IsSound rules →
    (after : State) × (step : Step) × Round rules window before after step
round_some rules window before sound =
    let found : Works rules window before.gates (selected window before.fingers) =
    some_works rules sound window before.gates (selected window before.fingers) in
    let gates : List Gate = joined before.gates found.works in (
      record { gates = gates; fingers = new_fingers (length before.gates) (map cut_of found.works) before.fingers },
      record {
        selected = length found.works;
        improved = improved_of found.works;
        removed = length before.gates - length gates;
        phase = phases_of found.works % 8;
      },
      record {
        works = found.works;
        selects = found.at;
        each = found.each;
        gates = refl;
        fingers = refl;
        selected_is = refl;
        improved_is = refl;
        removed_is = refl;
        phase_is = refl;
      },
    )

-- and it has one result
pub round_only : (rules : List RowView) (window : ℕ) (before after other : State) (step another : Step) → All IsSound rules →
    Round rules window before after step → Round rules window before other another → (after ≡ other) × (step ≡ another)
round_only rules window before after other step another sound left right =
    let works : left.works ≡ right.works =
    one_list rules sound window before.gates left.works right.works (left.selects ∙ sym right.selects) left.each right.each in
    let gates : after.gates ≡ other.gates = left.gates ∙ (ap (joined before.gates) works ∙ sym right.gates) in
    let fingers : after.fingers ≡ other.fingers =
    left.fingers ∙ (ap (λ (ws : List Work). new_fingers (length before.gates) (map cut_of ws) before.fingers) works ∙ sym right.fingers) in
    let chosen : step.selected ≡ another.selected = left.selected_is ∙ (ap (λ (ws : List Work). length ws) works ∙ sym right.selected_is) in
    let improved : step.improved ≡ another.improved = left.improved_is ∙ (ap improved_of works ∙ sym right.improved_is) in
    let removed : step.removed ≡ another.removed =
    left.removed_is ∙ (ap (λ (g : List Gate). length before.gates - length g) gates ∙ sym right.removed_is) in
    let phase : step.phase ≡ another.phase = left.phase_is ∙ (ap (λ (ws : List Work). phases_of ws % 8) works ∙ sym right.phase_is) in (
      λ i. record { gates = gates i; fingers = fingers i },
      λ i. record { selected = chosen i; improved = improved i; removed = removed i; phase = phase i },
    )
