-- What the one pass that is left and the results of all workers say.
use Rattle.std.proofs.Common.{arith, ◌≡◌, ℕ, ◌+◌, ◌==◌, ⊎_elim, Bool, true, false, cond, ltb, List, [], ◌∷◌, map, filter, length, refl, sym, ap, ◌∙◌, subst, Option}
use Rattle.std.specs.Prelude.{All}
use Rattle.std.specs.List.{count_by, sum_by}
use Rattle.std.specs.List.Sorted.{IsPermutation}
use Rattle.std.proofs.lemmas.Bool.{cases_lt, cases_eq}
use Rattle.std.proofs.lemmas.Bool.Decides.{nat_tests}
use Rattle.std.proofs.lemmas.List.Sums.{sum_by-cons}
use Rattle.std.proofs.lemmas.List.Sorted.{sum_by-IsPermutation}
use Rattle.pq_gate.specs.declared.gate.Gate.{Gate}
use Rattle.pq_rules.specs.Row.{RowView}
use Rattle.pq_oracle.specs.Outcomes.{WorkedView}
use Rattle.pq_board.specs.Sums.{weigh, times, one_if_same}
use Rattle.pq_board.specs.Steps.{HoldAll, lowered_places}
use Rattle.pq_board.specs.declared.plan.Plan.{Plan}
use Rattle.pq_board.specs.declared.plan.View.{View}
use Rattle.pq_board.proofs.Bounds.{weigh_flat}
use Rattle.pq_round.specs.Results.{given_up, all_given_up, AreSameNumbers}
use Rattle.pq_round.specs.Workers.{IsOfItsJob, HasDone}
use Rattle.pq_round.proofs.InOrder.{AreResultsOfAll}

-- std's sums are weights too
weigh_sum : {A : Type 0} (f : A → ℕ) (xs : List A) → sum_by f xs ≡ weigh f xs
weigh_sum f [] = refl
weigh_sum f (x ∷ xs) = sum_by-cons f x xs ∙ ap (λ (k : ℕ). f x + k) (weigh_sum f xs)

one_same_test : (x n : ℕ) → cond (x == n) 1 0 ≡ one_if_same x n
one_same_test x n = grind (arith, nat_tests)

count_times : (n : ℕ) (xs : List ℕ) → count_by (λ x. x == n) xs ≡ times n xs
count_times n [] = refl
count_times n (x ∷ xs) = sum_by-cons (λ (y : ℕ). cond (y == n) 1 0) x xs ∙ (λ i. one_same_test x n i + count_times n xs i)

-- how often a number is among the tickets with a job
times_kept : (n k x : ℕ) (xs : List ℕ) → times n (cond (ltb x k) (x ∷ xs) xs) ≡ cond (ltb x k) (one_if_same x n) 0 + times n xs
times_kept n k x xs = by (ltb x k)
  where
    by : (b : Bool) → times n (cond b (x ∷ xs) xs) ≡ cond b (one_if_same x n) 0 + times n xs
    by true = refl
    by false = omega arith

times_early : (n k : ℕ) (xs : List ℕ) → times n (filter (λ x. ltb x k) xs) ≡ cond (ltb n k) (times n xs) 0
times_early n k [] = grind (arith, nat_tests)
times_early n k (x ∷ xs) = times_kept n k x (filter (λ (y : ℕ). ltb y k) xs) ∙ (ap (λ (m : ℕ). cond (ltb x k) (one_if_same x n) 0 + m) (times_early n k xs) ∙ add (times n xs))
  where
    add : (m : ℕ) → cond (ltb x k) (one_if_same x n) 0 + cond (ltb n k) m 0 ≡ cond (ltb n k) (one_if_same x n + m) 0
    add m = ⊎_elim (λ same. subst (λ (z : ℕ). cond (ltb z k) (one_if_same z n) 0 + cond (ltb n k) m 0 ≡ cond (ltb n k) (one_if_same z n + m) 0) (sym same) (own m)) (λ other. grind (arith, nat_tests)) (cases_eq x n)
      where
        own : (m : ℕ) → cond (ltb n k) (one_if_same n n) 0 + cond (ltb n k) m 0 ≡ cond (ltb n k) (one_if_same n n + m) 0
        own m = ⊎_elim (λ lt. grind (arith, nat_tests)) (λ le. grind (arith, nat_tests)) (cases_lt n k)

-- where each ticket with a job was drawn once, there is one result for each job
pub all_worked : (cells : List (Option Gate)) (rules : List RowView) (plan : Plan) (view : View) (results : List WorkedView) → view.plan ≡ plan → HoldAll plan view.tickets → HasDone cells rules view results
    → AreResultsOfAll cells plan.jobs rules results
all_worked cells rules plan view results is all done = record {
  once = λ n. ap (λ (ts : List ℕ). count_by (λ (t : ℕ). t == n) ts) tickets ∙ (count_times n (filter (λ (t : ℕ). ltb t (length plan.jobs)) view.tickets) ∙ (times_early n (length plan.jobs) view.tickets ∙ once n));
  each = subst (λ (p : Plan). All (IsOfItsJob cells p.jobs rules) results) is done.each;
}
  where
    tickets : map (λ (w : WorkedView). w.ticket) results ≡ filter (λ (t : ℕ). ltb t (length plan.jobs)) view.tickets
    tickets = sym done.tickets ∙ ap (λ (p : Plan). filter (λ (t : ℕ). ltb t (length p.jobs)) view.tickets) is

    once : (n : ℕ) → cond (ltb n (length plan.jobs)) (times n view.tickets) 0 ≡ cond (ltb n (length plan.jobs)) 1 0
    once n =
        ⊎_elim (λ lt. ap (λ (m : ℕ). cond (ltb n (length plan.jobs)) m 0) (all n lt))
        (λ le. let is : ltb n (length plan.jobs) ≡ false = grind (arith, nat_tests) in
        ap (λ (b : Bool). cond b (times n view.tickets) 0) is ∙ sym (ap (λ (b : Bool). cond b 1 0) is)) (cases_lt n (length plan.jobs))

-- results in another order give up the same places
pub given_same : (jobs : List (List ℕ)) (xs ys : List WorkedView) → IsPermutation xs ys → AreSameNumbers (all_given_up jobs xs) (all_given_up jobs ys)
given_same jobs xs ys moved h =
    weigh_flat h (given_up jobs) xs
    ∙ (sym (weigh_sum (λ w. weigh h (given_up jobs w)) xs)
    ∙ (sym (sum_by-IsPermutation (λ w. weigh h (given_up jobs w)) xs ys moved)
    ∙ (weigh_sum (λ w. weigh h (given_up jobs w)) ys ∙ sym (weigh_flat h (given_up jobs) ys))))

pub lowered_same : (cells : List (Option Gate)) (rules : List RowView) (plan : Plan) (view : View) (xs ys : List WorkedView) → view.plan ≡ plan → HasDone cells rules view xs → IsPermutation xs ys
    → AreSameNumbers (lowered_places view.lowered) (all_given_up plan.jobs ys)
lowered_same cells rules plan view xs ys is done moved h =
    ap (λ (l : List ℕ). weigh h l) (done.lowered ∙ ap (λ (p : Plan). all_given_up p.jobs xs) is) ∙ given_same plan.jobs xs ys moved h
