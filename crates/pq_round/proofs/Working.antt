-- What workers that claim tickets have done, step by step and together.
use Rattle.std.proofs.Common.{arith, ◌≡◌, ℕ, zero, suc, ◌+◌, ◌<◌, ◌≤◌, ⊎_elim, Bool, true, false, cond, ltb, Option, Some, None, List, [], ◌∷◌, ◌++◌, map, filter, length, take, drop, get_or, refl, sym, ap, ap₂, ◌∙◌, subst, append_assoc}
use Rattle.std.specs.Prelude.{All, Contains}
use Rattle.std.specs.List.{concat, cons_option}
use Rattle.std.specs.List.Sorted.{IsStrictlyIncreasing}
use Rattle.std.proofs.lemmas.Bool.Decides.{nat_tests}
use Rattle.std.proofs.lemmas.Grind.{flat_map-append}
use Rattle.std.proofs.lemmas.List.{append-nil, map-append, get_or-take, get_or_default, length-take-le}
use Rattle.std.proofs.lemmas.List.Kept.{AllPairs-from_increasing}
use Rattle.std.proofs.lemmas.List.Elements.{filter-append, All-append, All-push, All-contains, All-take, All-drop, All-filter, Contains-get_or, Contains-append_cases}
use Rattle.pq_gate.specs.declared.gate.Gate.{Gate}
use Rattle.pq_rules.specs.Row.{RowView, IsSound}
use Rattle.pq_oracle.proofs.Answering.{shorter}
use Rattle.pq_oracle.specs.Outcomes.{WorkedView}
use Rattle.pq_board.specs.Sums.{times, one_if_same}
use Rattle.pq_board.specs.Law.{job}
use Rattle.pq_board.specs.Steps.{unused, with_both, lowered_places}
use Rattle.pq_board.specs.declared.plan.Plan.{Plan}
use Rattle.pq_board.specs.declared.plan.Lowering.{Lowering}
use Rattle.pq_board.specs.declared.plan.View.{View}
use Rattle.pq_board.proofs.Sums.{weigh_append, times_contains}
use Rattle.pq_board.proofs.Bounds.{times_rising}
use Rattle.pq_board.proofs.Climbing.{contains_concat}
use Rattle.pq_board.proofs.Whole.{lowered_both}
use Rattle.pq_board.proofs.Claiming.{Drawn, DrawnLate}
use Rattle.pq_round.specs.Results.{gates_at, IsResultOf, given_up, all_given_up}
use Rattle.pq_round.specs.Workers.{IsOfItsJob, HasDone, HasLowered, HasDrawnOne, next_of}

-- a number that stands in the jobs at most once stands in a job at most once
once_in_job : (p : ℕ) (jobs : List (List ℕ)) (t : ℕ) → times p (concat jobs) ≤ 1 → times p (get_or jobs t []) ≤ 1
once_in_job p [] t few = omega arith
once_in_job p (j ∷ js) zero few = omega (arith, weigh_append (λ y. one_if_same y p) j (concat js))
once_in_job p (j ∷ js) (suc t) few = once_in_job p js t (omega (arith, weigh_append (λ y. one_if_same y p) j (concat js)))

-- and in no two of them
pub jobs_apart : (p : ℕ) (jobs : List (List ℕ)) (t u : ℕ) → times p (concat jobs) ≤ 1 → t < u → u < length jobs
    → Contains (get_or jobs t []) p → Contains (get_or jobs u []) p → ⊥
jobs_apart p [] t u few less below one other = omega arith
jobs_apart p (j ∷ js) t zero few less below one other = omega arith
jobs_apart p (j ∷ js) zero (suc u) few less below one other =
    omega (
      arith,
      few,
      weigh_append (λ y. one_if_same y p) j (concat js),
      times_contains p j one,
      times_contains p (concat js) (contains_concat js u p (omega (arith, below)) other),
    )
jobs_apart p (j ∷ js) (suc t) (suc u) few less below one other =
    jobs_apart p js t u (omega (arith, few, weigh_append (λ y. one_if_same y p) j (concat js))) (omega (arith, less)) (omega (arith, below)) one other

-- what stands in the last part of a list stands in the list
pub in_drop : (k : ℕ) (xs : List ℕ) (x : ℕ) → Contains (drop k xs) x → Contains xs x
in_drop zero xs x at = at
in_drop (suc k) [] x at = at
in_drop (suc k) (y ∷ ys) x at = by (in_drop k ys x at)
  where
    by : Contains ys x → Contains (y ∷ ys) x
    by (i, lt, is) = (suc i, omega (arith, lt), is)

-- a place that a segment gives up is one of its job
given_in_job : (jobs : List (List ℕ)) (w : WorkedView) (p : ℕ) → Contains (given_up jobs w) p → Contains (get_or jobs w.ticket []) p
given_in_job jobs w p at = by w.answer.improved at
  where
    by : (b : Bool) → Contains (cond b (drop (length w.answer.gates) (get_or jobs w.ticket [])) []) p → Contains (get_or jobs w.ticket []) p
    by true at = in_drop (length w.answer.gates) (get_or jobs w.ticket []) p at
    by false (i, lt, is) = absurd (omega (arith, lt))

-- the results of earlier tickets gave up none of the places of a job
none_given : (jobs : List (List ℕ)) (results : List WorkedView) (t p : ℕ) → times p (concat jobs) ≤ 1 → t < length jobs → All (λ earlier. earlier < t) (map (λ (w : WorkedView). w.ticket) results)
    → Contains (get_or jobs t []) p → Contains (all_given_up jobs results) p → ⊥
none_given jobs [] t p few below earlier one (i, lt, is) = omega (arith, lt)
none_given jobs (w ∷ ws) t p few below earlier one at =
    ⊎_elim
    (λ here. jobs_apart p jobs w.ticket t few (earlier 0 0 (omega arith)) below (given_in_job jobs w p here) one)
    (λ there. none_given jobs ws t p few below (λ i d lt. earlier (suc i) d (omega (arith, lt))) one there)
    (Contains-append_cases (given_up jobs w) (all_given_up jobs ws) p at)

-- so the places of the job of a new ticket weren't lowered
pub fresh_job : (cells : List (Option Gate)) (rules : List RowView) (view : View) (results : List WorkedView) (ticket : ℕ) → HasDone cells rules view results
    → IsStrictlyIncreasing (concat view.plan.jobs) → ticket < length view.plan.jobs → All (λ before. before < ticket) view.tickets
    → (p : ℕ) → Contains (job view.plan ticket) p → Contains (lowered_places view.lowered) p → ⊥
fresh_job cells rules view results ticket done rising below greatest p one at =
    none_given view.plan.jobs results ticket p (times_rising p (concat view.plan.jobs) rising) below
    (subst (All (λ before. before < ticket)) done.tickets (All-filter (λ t. ltb t (length view.plan.jobs)) (λ before. before < ticket) view.tickets greatest))
    one (subst (λ (l : List ℕ). Contains l p) done.lowered at)

-- a pass that has drawn nothing
pub done_none : (cells : List (Option Gate)) (rules : List RowView) (plan : Plan) (rights : ℕ) (view : View) (xs : List WorkedView) → view ≡ unused plan rights → xs ≡ [] → HasDone cells rules view xs
done_none cells rules plan rights view xs is none =
    subst (HasDone cells rules view) (sym none) (subst (λ (v : View). HasDone cells rules v []) (sym is) (record { tickets = refl; each = λ i d lt. absurd (omega (arith, lt)); lowered = refl }))

-- the tickets with a job, with one more
early_more : (n t : ℕ) (ts : List ℕ) → t < n → filter (λ u. ltb u n) (ts ++ t ∷ []) ≡ filter (λ u. ltb u n) ts ++ t ∷ []
early_more n t ts lt =
    let is : ltb t n ≡ true = grind (arith, nat_tests) in
    filter-append (λ u. ltb u n) ts (t ∷ []) ∙ ap (λ (b : Bool). filter (λ (u : ℕ). ltb u n) ts ++ cond b (t ∷ []) []) is

late_more : (n t : ℕ) (ts : List ℕ) → n ≤ t → filter (λ u. ltb u n) (ts ++ t ∷ []) ≡ filter (λ u. ltb u n) ts
late_more n t ts le =
    let is : ltb t n ≡ false = grind (arith, nat_tests) in
    filter-append (λ u. ltb u n) ts (t ∷ []) ∙ (ap (λ (b : Bool). filter (λ (u : ℕ). ltb u n) ts ++ cond b (t ∷ []) []) is ∙ append-nil (filter (λ (u : ℕ). ltb u n) ts))

-- a job more
pub done_more : (cells : List (Option Gate)) (rules : List RowView) (old drawn new : View) (results : List WorkedView) (w : WorkedView) (ticket : ℕ) → HasDone cells rules old results
    → Drawn old drawn ticket → HasLowered drawn new (given_up old.plan.jobs w) → w.ticket ≡ ticket → IsOfItsJob cells old.plan.jobs rules w → HasDone cells rules new (results ++ w ∷ [])
done_more cells rules old drawn new results w ticket done d lowers is of_job =
    let plan : new.plan ≡ old.plan = lowers.plan ∙ d.plan in
    let tickets : new.tickets ≡ old.tickets ++ ticket ∷ [] = lowers.tickets ∙ d.tickets in
    let lowered : lowered_places new.lowered ≡ lowered_places old.lowered ++ given_up old.plan.jobs w = lowers.lowered ∙ ap (λ (l : List Lowering). lowered_places l ++ given_up old.plan.jobs w) d.lowered in
    record {
      tickets =
          ap₂ (λ (p : Plan) (ts : List ℕ). filter (λ (u : ℕ). ltb u (length p.jobs)) ts) plan tickets
          ∙ (early_more (length old.plan.jobs) ticket old.tickets d.early
          ∙ (ap₂ (λ (ts : List ℕ) (t : ℕ). ts ++ t ∷ []) done.tickets (sym is)
          ∙ sym (map-append (λ (x : WorkedView). x.ticket) results (w ∷ []))));
      each = subst (λ (p : Plan). All (IsOfItsJob cells p.jobs rules) (results ++ w ∷ [])) (sym plan) (All-push (IsOfItsJob cells old.plan.jobs rules) results w done.each of_job);
      lowered =
          lowered
          ∙ (ap (λ (l : List ℕ). l ++ given_up old.plan.jobs w) done.lowered
          ∙ (ap (λ (l : List ℕ). all_given_up old.plan.jobs results ++ l) (sym (append-nil (given_up old.plan.jobs w)))
          ∙ (sym (flat_map-append (given_up old.plan.jobs) results (w ∷ []))
          ∙ ap (λ (p : Plan). all_given_up p.jobs (results ++ w ∷ [])) (sym plan))));
    }

-- a late ticket more
pub done_late : (cells : List (Option Gate)) (rules : List RowView) (old new : View) (results : List WorkedView) → HasDone cells rules old results → DrawnLate old new → HasDone cells rules new results
done_late cells rules old new results done d = record {
  tickets =
      ap₂ (λ (p : Plan) (ts : List ℕ). filter (λ (u : ℕ). ltb u (length p.jobs)) ts) d.plan d.tickets
      ∙ (late_more (length old.plan.jobs) d.ticket old.tickets d.late ∙ done.tickets);
  each = subst (λ (p : Plan). All (IsOfItsJob cells p.jobs rules) results) (sym d.plan) done.each;
  lowered = ap (λ (l : List Lowering). lowered_places l) d.lowered ∙ (done.lowered ∙ ap (λ (p : Plan). all_given_up p.jobs results) (sym d.plan));
}

-- two passes that are joined
pub done_both : (cells : List (Option Gate)) (rules : List RowView) (view other : View) (xs ys : List WorkedView) → other.plan ≡ view.plan → HasDone cells rules view xs → HasDone cells rules other ys
    → HasDone cells rules (with_both view other) (xs ++ ys)
done_both cells rules view other xs ys same one two =
    let theirs : filter (λ (t : ℕ). ltb t (length view.plan.jobs)) other.tickets ≡ map (λ (w : WorkedView). w.ticket) ys =
    subst (λ (p : Plan). filter (λ (t : ℕ). ltb t (length p.jobs)) other.tickets ≡ map (λ (w : WorkedView). w.ticket) ys) same two.tickets in
    let given : lowered_places other.lowered ≡ all_given_up view.plan.jobs ys = subst (λ (p : Plan). lowered_places other.lowered ≡ all_given_up p.jobs ys) same two.lowered in
    record {
      tickets =
          filter-append (λ t. ltb t (length view.plan.jobs)) view.tickets other.tickets
          ∙ (ap₂ (λ (a : List ℕ) (b : List ℕ). a ++ b) one.tickets theirs ∙ sym (map-append (λ (w : WorkedView). w.ticket) xs ys));
      each = All-append (IsOfItsJob cells view.plan.jobs rules) xs ys one.each (subst (λ (p : Plan). All (IsOfItsJob cells p.jobs rules) ys) same two.each);
      lowered =
          lowered_both view.lowered other.lowered ∙ (ap₂ (λ (a : List ℕ) (b : List ℕ). a ++ b) one.lowered given ∙ sym (flat_map-append (given_up view.plan.jobs) xs ys));
    }

-- a number that is greater than all of a list
next_most : (t : ℕ) (ts : List ℕ) → All (λ before. before < t) ts → next_of ts ≤ t
next_most t [] less = omega arith
next_most t (x ∷ xs) less = omega (arith, less 0 0 (omega arith), next_most t xs (λ i d lt. less (suc i) d (omega (arith, lt))))

next_more : (t : ℕ) (ts : List ℕ) → All (λ before. before < t) ts → next_of (ts ++ t ∷ []) ≡ t + 1
next_more t [] less = omega arith
next_more t (x ∷ xs) less = omega (arith, less 0 0 (omega arith), next_more t xs (λ i d lt. less (suc i) d (omega (arith, lt))))

-- a worker comes nearer to the end
pub drawn_on : (old drawn new : View) (ticket : ℕ) (places : List ℕ) → Drawn old drawn ticket → HasLowered drawn new places → HasDrawnOne old new
drawn_on old drawn new ticket places d lowers =
    let after : next_of new.tickets ≡ ticket + 1 = ap (λ (ts : List ℕ). next_of ts) (lowers.tickets ∙ d.tickets) ∙ next_more ticket old.tickets d.greatest in
    record {
      rights = lowers.rights ∙ d.rights;
      later = omega (arith, after, next_most ticket old.tickets d.greatest);
      below = omega (arith, after, d.early);
    }

-- a place more is lowered
pub lowered_on : (old now new : View) (places : List ℕ) (place : ℕ) → HasLowered old now places → new.plan ≡ now.plan → new.rights ≡ now.rights → new.tickets ≡ now.tickets
    → lowered_places new.lowered ≡ lowered_places now.lowered ++ place ∷ [] → HasLowered old new (places ++ place ∷ [])
lowered_on old now new places place has plan rights tickets more = record {
  plan = plan ∙ has.plan;
  rights = rights ∙ has.rights;
  tickets = tickets ∙ has.tickets;
  lowered = more ∙ (ap (λ (l : List ℕ). l ++ place ∷ []) has.lowered ∙ append_assoc (lowered_places old.lowered) places (place ∷ []));
}

pub lowered_none : (old : View) → HasLowered old old []
lowered_none old = record { plan = refl; rights = refl; tickets = refl; lowered = sym (append-nil (lowered_places old.lowered)) }

-- of places that rise, those before one are less
below_next : (places : List ℕ) (i : ℕ) → IsStrictlyIncreasing places → i < length places → All (λ q. q < get_or places i 0) (take i places)
below_next places i rising below j d lt =
    let before : j < i = omega (arith, lt, length-take-le i places (omega (arith, below))) in
    subst (λ (q : ℕ). q < get_or places i 0) (sym (get_or-take i places j d before))
    (subst (λ (q : ℕ). get_or places j d < q) (get_or_default places i d 0 below) (AllPairs-from_increasing places rising j i d before below))

-- of places that rise, the next one isn't among those before it
pub next_fresh : (old places : List ℕ) (i p : ℕ) → IsStrictlyIncreasing places → All (λ place. Contains old place → ⊥) places → i < length places → p ≡ get_or places i 0
    → Contains (old ++ take i places) p → ⊥
next_fresh old places i p rising fresh below is at =
    ⊎_elim (λ earlier. fresh i 0 below (subst (Contains old) is earlier)) before (Contains-append_cases old (take i places) p at)
  where
    before : Contains (take i places) p → ⊥
    before at = omega (arith, ahead)
      where
        ahead : p < get_or places i 0
        ahead = All-contains (λ q. q < get_or places i 0) (take i places) p (below_next places i rising below) at

-- a part of a job has its places alone
pub part_in : (l places : List ℕ) (count from : ℕ) → l ≡ places → All (Contains places) (take count (drop from l))
part_in l places count from is =
    All-take (Contains places) count (drop from l) (All-drop (Contains places) from l (subst (λ (m : List ℕ). All (Contains m) l) is (λ k d lt. Contains-get_or l k d lt)))

-- the oracle answers no more gates than there are places
gates_few : (cells : List (Option Gate)) (places : List ℕ) → length (gates_at cells places) ≤ length places
gates_few cells [] = omega arith
gates_few cells (p ∷ ps) = by (get_or cells p None) (gates_at cells ps) (length ps) (gates_few cells ps)
  where
    by : (o : Option Gate) (l : List Gate) (n : ℕ) → length l ≤ n → length (cons_option o l) ≤ suc n
    by None l n le = omega (arith, le)
    by (Some g) l n le = omega (arith, le)

pub given_few : (cells : List (Option Gate)) (places : List ℕ) (rules : List RowView) (ticket : ℕ) (w : WorkedView) → All IsSound rules → IsResultOf cells places rules ticket w
    → length w.answer.gates ≤ length places
given_few cells places rules ticket w sound is = omega (arith, shorter rules (gates_at cells places) w.answer sound is.oracle, gates_few cells places)

-- the places of the job of a ticket that was drawn weren't lowered
pub fresh_all : (cells : List (Option Gate)) (rules : List RowView) (plan : Plan) (old drawn : View) (results : List WorkedView) (ticket : ℕ) → old.plan ≡ plan → HasDone cells rules old results
    → IsStrictlyIncreasing (concat plan.jobs) → Drawn old drawn ticket → All (λ place. Contains (lowered_places drawn.lowered) place → ⊥) (job plan ticket)
fresh_all cells rules plan old drawn results ticket is done rising d =
    subst (λ (p : Plan). All (λ place. Contains (lowered_places drawn.lowered) place → ⊥) (job p ticket)) is own
  where
    rises : IsStrictlyIncreasing (concat old.plan.jobs)
    rises = subst (λ (p : Plan). IsStrictlyIncreasing (concat p.jobs)) (sym is) rising

    own : All (λ place. Contains (lowered_places drawn.lowered) place → ⊥) (job old.plan ticket)
    own k e lt at =
        fresh_job cells rules old results ticket done rises d.early d.greatest (get_or (job old.plan ticket) k e) (Contains-get_or (job old.plan ticket) k e lt)
        (subst (λ (l : List Lowering). Contains (lowered_places l) (get_or (job old.plan ticket) k e)) d.lowered at)

-- a job more, told with the board's plan
pub worked_on : (cells : List (Option Gate)) (rules : List RowView) (plan : Plan) (old drawn new : View) (results : List WorkedView) (w : WorkedView) (ticket : ℕ) → old.plan ≡ plan → HasDone cells rules old results
    → Drawn old drawn ticket → HasLowered drawn new (given_up plan.jobs w) → w.ticket ≡ ticket → IsOfItsJob cells plan.jobs rules w → HasDone cells rules new (results ++ w ∷ [])
worked_on cells rules plan old drawn new results w ticket plan_is done d lowers is of_job =
    done_more cells rules old drawn new results w ticket done d (subst (λ (p : Plan). HasLowered drawn new (given_up p.jobs w)) (sym plan_is) lowers) is
    (subst (λ (p : Plan). IsOfItsJob cells p.jobs rules w) (sym plan_is) of_job)
