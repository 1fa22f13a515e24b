use Rattle.std.proofs.Common.{◌≡◌, ℕ, suc, ◌+◌, ◌-◌, ◌%◌, ◌<◌, ◌≤◌, List, [], ◌∷◌, ◌++◌, length, map, take, drop, refl, ap, sym, subst, ◌∙◌, arith}
use Rattle.std.specs.Prelude.{All, AllPairs}
use Rattle.std.proofs.lemmas.List.{drop-drop, drop-take, take-take, take-append-le, take-append-drop, length-take, length-take-le}
use Rattle.std.proofs.lemmas.List.Elements.{All-head, All-tail}
use Rattle.pq_gate.specs.declared.gate.Gate.{Gate}
use Rattle.pq_gate.specs.Circuit.{IsCircuit}
use Rattle.pq_gate.specs.Matrix.{Same}
use Rattle.pq_gate.proofs.CircuitLaws.{IsCircuit-front, IsCircuit-back}
use Rattle.pq_gate.proofs.SameLaws.{same_reflexive, same_transitive, same_congruent}
use Rattle.pq_rules.specs.Row.{RowView, IsSound}
use Rattle.pq_gaps.specs.Gaps.{segment_from, segment_to, selected}
use Rattle.pq_gaps.proofs.Rising.{all_member, All-from_member, contains_from_member, member_from_contains}
use Rattle.pq_gaps.proofs.Selections.{selected_contained, segments_apart}
use Rattle.pq_oracle.specs.Ora.{Ora}
use Rattle.pq_oracle.proofs.Answering.{same}
use Rattle.pq_method.specs.declared.step.Step.{Step}
use Rattle.pq_method.specs.Round.{State, IsState, Work, IsWorkOf, Round, run, joined, phases_of}

-- The works are of segments of these gates, in order and apart, the first from the gap `least` on.
abbrev pub Fit : List RowView → ℕ → List Gate → ℕ → List Work → Type 0
Fit rules w gates least [] = Unit {0}
Fit rules w gates least (work ∷ works) =
    (least ≤ work.from) × (work.finger ≤ length gates) × IsWorkOf rules w gates work × Fit rules w gates work.to works

-- the finger stands in its segment, and the segment in the list
pub work_up : (rules : List RowView) (w : ℕ) (gates : List Gate) (work : Work) → IsWorkOf rules w gates work → work.finger ≤ length gates →
    (work.from ≤ work.finger) × (work.finger ≤ work.to) × (work.to ≤ length gates)
work_up rules w gates work is in' = (omega (arith, is.begins), omega (arith, is.ends), omega (arith, is.ends))

-- what is left of the first segment doesn't move
pub joined_front : (rules : List RowView) (w : ℕ) (gates : List Gate) (least p : ℕ) (works : List Work) → Fit rules w gates least works →
    p ≤ least → take p (joined gates works) ≡ take p gates
joined_front rules w gates least p [] fit le = refl
joined_front rules w gates least p (work ∷ works) fit le =
    let now : List Gate = joined gates works in
    let up = work_up rules w gates work fit.2 fit.1 in
    let rest : take work.from now ≡ take work.from gates = joined_front rules w gates work.to work.from works fit.3 (omega (arith, up.0, up.1)) in
    let long : length (take work.from gates) ≡ work.from = length-take-le work.from gates (omega (arith, up.0, up.1, up.2)) in
    let here : length (take work.from now) ≡ work.from = ap (λ (c : List Gate). length c) rest ∙ long in
    take-append-le p (take work.from now) (work.answer.gates ++ drop work.to now) (omega (arith, here, fit.0)) ∙
    take-take p work.from now (omega (arith, fit.0)) ∙
    joined_front rules w gates work.to p works fit.3 (omega (arith, fit.0, up.0, up.1))

pub joined_long : (rules : List RowView) (w : ℕ) (gates : List Gate) (least : ℕ) (works : List Work) → Fit rules w gates least works →
    least ≤ length gates → least ≤ length (joined gates works)
joined_long rules w gates least works fit in' =
    let front : take least (joined gates works) ≡ take least gates = joined_front rules w gates least least works fit (omega arith) in
    let long : length (take least gates) ≡ least = length-take-le least gates in' in
    let here : length (take least (joined gates works)) ≡ least = ap (λ (c : List Gate). length c) front ∙ long in
    omega (arith, here, length-take least (joined gates works))

-- a run of the prefix of a list
pub run_front : (g h : List Gate) (from to : ℕ) → from ≤ to → take to g ≡ take to h → run g from to ≡ run h from to
run_front g h from to up alike =
    let e : from + (to - from) ≡ to = omega arith in
    sym (drop-take from (to - from) g) ∙
    ap (drop from) (ap (λ k. take k g) e ∙ (alike ∙ ap (λ k. take k h) (sym e))) ∙
    drop-take from (to - from) h

-- a list by a run of it
pub run_rest : (g : List Gate) (from to : ℕ) → from ≤ to → run g from to ++ drop to g ≡ drop from g
run_rest g from to up =
    let e : from + (to - from) ≡ to = omega arith in
    ap (λ (c : List Gate). run g from to ++ c) (ap (λ k. drop k g) (sym e) ∙ sym (drop-drop (to - from) from g)) ∙
    take-append-drop (to - from) (drop from g)

pub run_parts : (g : List Gate) (from to : ℕ) → from ≤ to → take from g ++ (run g from to ++ drop to g) ≡ g
run_parts g from to up = ap (λ (c : List Gate). take from g ++ c) (run_rest g from to up) ∙ take-append-drop from g

-- each work is still one of the list with all later answers in place
pub oracle_later : (rules : List RowView) (w : ℕ) (gates : List Gate) (least : ℕ) (work : Work) (works : List Work) →
    Fit rules w gates least (work ∷ works) → Ora rules (run (joined gates works) work.from work.to) work.answer
oracle_later rules w gates least work works fit =
    let up = work_up rules w gates work fit.2 fit.1 in
    let alike : take work.to (joined gates works) ≡ take work.to gates = joined_front rules w gates work.to work.to works fit.3 (omega arith) in
    let P : List Gate → Type 0 = λ c. Ora rules c work.answer in
    subst P (sym (run_front (joined gates works) gates work.from work.to (omega (arith, up.0, up.1)) alike)) fit.2.oracle

-- the answers in place of the segments keep the matrix up to their phases
pub joined_same : (rules : List RowView) (w : ℕ) (gates : List Gate) (least : ℕ) (works : List Work) (n : ℕ) → All IsSound rules →
    Fit rules w gates least works → IsCircuit n gates → Same n gates (joined gates works) (phases_of works % 8)
joined_same rules w gates least [] n sound fit circuit = same_reflexive n gates circuit
joined_same rules w gates least (work ∷ works) n sound fit circuit =
    let now : List Gate = joined gates works in
    let up = work_up rules w gates work fit.2 fit.1 in
    let front : List Gate = take work.from now in
    let segment : List Gate = run now work.from work.to in
    let back : List Gate = drop work.to now in
    let answer : List Gate = work.answer.gates in
    let whole : front ++ (segment ++ back) ≡ now = run_parts now work.from work.to (omega (arith, up.0, up.1)) in
    let so_far : Same n gates now (phases_of works % 8) = joined_same rules w gates work.to works n sound fit.3 circuit in
    let circuit_is : IsCircuit n (front ++ (segment ++ back)) = subst (IsCircuit n) (sym whole) so_far.right in
    let rest : IsCircuit n (segment ++ back) = IsCircuit-back n front (segment ++ back) circuit_is in
    let one : Same n segment answer work.answer.phase =
    same rules segment work.answer n sound (oracle_later rules w gates least work works fit) (IsCircuit-front n segment back rest) in
    let step : Same n (front ++ (segment ++ back)) (front ++ (answer ++ back)) work.answer.phase =
    same_congruent n work.answer.phase front back segment answer
    (IsCircuit-front n front (segment ++ back) circuit_is) (IsCircuit-back n segment back rest) one in
    let P : List Gate → Type 0 = λ c. Same n c (front ++ (answer ++ back)) work.answer.phase in
    let both : Same n gates (front ++ (answer ++ back)) ((phases_of works % 8 + work.answer.phase) % 8) =
    same_transitive n (phases_of works % 8) work.answer.phase gates now (front ++ (answer ++ back)) so_far (subst P whole step) in
    let e : (phases_of works % 8 + work.answer.phase) % 8 ≡ (work.answer.phase + phases_of works) % 8 = omega arith in
    let Q : ℕ → Type 0 = λ k. Same n gates (front ++ (answer ++ back)) k in
    subst Q e both

-- the works of the selected fingers fit
pub fit_from : (rules : List RowView) (w : ℕ) (gates : List Gate) (least : ℕ) (works : List Work) → All (IsWorkOf rules w gates) works →
    All (λ finger. finger ≤ length gates) (map (λ (work : Work). work.finger) works) →
    All (λ later. least ≤ segment_from w later) (map (λ (work : Work). work.finger) works) →
    AllPairs (λ gap later. segment_to w (length gates) gap ≤ segment_from w later) (map (λ (work : Work). work.finger) works) →
    Fit rules w gates least works
fit_from rules w gates least [] each inside low apart = tt
fit_from rules w gates least (work ∷ works) each inside low apart =
    let fingers : List ℕ = map (λ (one : Work). one.finger) works in
    let is : IsWorkOf rules w gates work = All-head (IsWorkOf rules w gates) work works each in
    let least_is : least ≤ segment_from w work.finger = low 0 0 (omega arith) in
    let next : All (λ later. work.to ≤ segment_from w later) fingers =
    λ k d lt. (let step : segment_to w (length gates) work.finger ≤ segment_from w _ = apart 0 (suc k) d (omega arith) (omega arith) in omega (arith, step, is.ends)) in (
      omega (arith, is.begins, least_is),
      inside 0 0 (omega arith),
      is,
      fit_from rules w gates work.to works (All-tail (IsWorkOf rules w gates) work works each)
          (λ k d lt. inside (suc k) d (omega arith)) next
          (λ i j d lt in'. apart (suc i) (suc j) d (omega arith) (omega arith)),
    )

pub round_fits : (rules : List RowView) (w : ℕ) (before after : State) (step : Step) → IsState before →
    (round : Round rules w before after step) → Fit rules w before.gates 0 round.works
round_fits rules w before after step is round =
    let P : ℕ → Type 0 = λ finger. finger ≤ length before.gates in
    let inside : All P (selected w before.fingers) =
    All-from_member P (selected w before.fingers) (λ x in'.
    all_member P before.fingers is.inside x (member_from_contains x before.fingers
    (selected_contained w x before.fingers (contains_from_member x (selected w before.fingers) in')))) in
    let R : ℕ → ℕ → Type 0 = λ gap later. segment_to w (length before.gates) gap ≤ segment_from w later in
    fit_from rules w before.gates 0 round.works round.each
    (subst (All P) (sym round.selects) inside)
    (λ k d lt. omega arith)
    (subst (AllPairs R) (sym round.selects) (segments_apart w (length before.gates) before.fingers))

pub round_same : (rules : List RowView) (w : ℕ) (before after : State) (step : Step) (n : ℕ) → 0 < w → All IsSound rules → IsState before →
    Round rules w before after step → IsCircuit n before.gates → Same n before.gates after.gates step.phase
round_same rules w before after step n some sound is round circuit =
    let both : Same n before.gates (joined before.gates round.works) (phases_of round.works % 8) =
    joined_same rules w before.gates 0 round.works n sound (round_fits rules w before after step is round) circuit in
    let P : List Gate → Type 0 = λ c. Same n before.gates c (phases_of round.works % 8) in
    let Q : ℕ → Type 0 = λ k. Same n before.gates after.gates k in
    subst Q (sym round.phase_is) (subst P (sym round.gates) both)
