-- The results of all workers in the order of their tickets.
use Rattle.std.proofs.Common.{arith, ◌≡◌, ℕ, zero, suc, ◌+◌, ◌-◌, ◌<◌, ◌≤◌, ◌==◌, ◌&&◌, Bool, true, false, cond, nat_lt, nat_le, All, List, [], ◌∷◌, map, length, get_or, Option, refl, sym, ap, ap₂, ◌∙◌, subst, ⊎_elim}
use Rattle.std.specs.List.{count_by}
use Rattle.std.specs.List.Sorted.{IsPermutation, IsNonDecreasing, IsNonDecreasingBy}
use Rattle.std.proofs.lemmas.Bool.{cases_lt, lt-ltb, le-leb}
use Rattle.std.proofs.lemmas.List.{get_or-map, length-map}
use Rattle.std.proofs.lemmas.List.Sums.{sum_by-cons}
use Rattle.std.proofs.lemmas.List.Sorted.{IsPermutation-map, sum_by-IsPermutation, All-permutation}
use Rattle.pq_gate.specs.declared.gate.Gate.{Gate}
use Rattle.pq_rules.specs.Row.{RowView}
use Rattle.pq_oracle.specs.Outcomes.{WorkedView}
use Rattle.pq_round.specs.Results.{IsResultOf, AreResults}
use Rattle.pq_round.specs.Workers.{IsOfItsJob}

-- the results of all jobs, one of each, in whatever order
pub record AreResultsOfAll (cells : List (Option Gate)) (jobs : List (List ℕ)) (rules : List RowView) (results : List WorkedView) : Type 0 where
  pub once : (n : ℕ) → count_by (λ ticket. ticket == n) (map (λ worked. worked.ticket) results) ≡ cond (nat_lt n (length jobs)) 1 0
  pub each : All (IsOfItsJob cells jobs rules) results

abbrev tickets : List WorkedView → List ℕ
tickets = map (λ (worked : WorkedView). worked.ticket)

length_tickets : (xs : List WorkedView) → length (tickets xs) ≡ length xs
length_tickets xs = length-map xs (λ (worked : WorkedView). worked.ticket)

-- what a sort keeps
pub results_permuted : (cells : List (Option Gate)) (jobs : List (List ℕ)) (rules : List RowView) (xs ys : List WorkedView)
    → IsPermutation xs ys → AreResultsOfAll cells jobs rules xs → AreResultsOfAll cells jobs rules ys
results_permuted cells jobs rules xs ys moved results = record {
  once = λ n. sum_by-IsPermutation (λ (ticket : ℕ). cond (ticket == n) 1 0) (tickets xs) (tickets ys) (IsPermutation-map (λ (worked : WorkedView). worked.ticket) xs ys moved) ∙ results.once n;
  each = All-permutation (IsOfItsJob cells jobs rules) xs ys moved results.each;
}

-- a number less than all of a list isn't in it
none_less : (n : ℕ) (xs : List ℕ) → ((i : ℕ) → i < length xs → n < get_or xs i 0) → count_by (λ x. x == n) xs ≡ 0
none_less n [] more = refl
none_less n (x ∷ xs) more =
    let first : n < x = more 0 (omega arith) in
    let other : (x == n) ≡ false = grind arith in
    let rest : count_by (λ (y : ℕ). y == n) xs ≡ 0 = none_less n xs (λ i lt. more (suc i) (omega (arith, lt))) in
    sum_by-cons (λ (y : ℕ). cond (y == n) 1 0) x xs ∙ ap₂ ◌+◌ (ap (λ (b : Bool). cond b 1 0) other) rest

-- the first number of those that don't fall, of which each from one number on is there once
first_is : (count from x : ℕ) (xs : List ℕ) → IsNonDecreasing (x ∷ xs)
    → ((n : ℕ) → count_by (λ y. y == n) (x ∷ xs) ≡ cond (nat_le from n && nat_lt n count) 1 0) → (x ≡ from) × (from < count)
first_is count from x xs up once = by (within (count_by (λ (y : ℕ). y == x) xs) (sym (sum_by-cons (λ (y : ℕ). cond (y == x) 1 0) x xs) ∙ once x))
  where
    within : (k : ℕ) → cond (x == x) 1 0 + k ≡ cond (nat_le from x && nat_lt x count) 1 0 → (from ≤ x) × (x < count)
    within k is = grind arith

    by : (from ≤ x) × (x < count) → (x ≡ from) × (from < count)
    by in' = ⊎_elim
        (λ less.
        let none : count_by (λ (y : ℕ). y == from) (x ∷ xs) ≡ 0 = none_less from (x ∷ xs) (λ i lt. omega (arith, less, up 0 i 0 (omega arith) lt)) in
        let le : nat_le from from ≡ true = le-leb from from (omega arith) in
        let lt : nat_lt from count ≡ true = lt-ltb from count (omega (arith, in'.0, in'.1)) in
        let one : count_by (λ (y : ℕ). y == from) (x ∷ xs) ≡ 1 = once from ∙ (rw (le, lt) refl) in
        absurd (omega (arith, none, one)))
        (λ le. (omega (arith, le, in'.0), omega (arith, in'.0, in'.1)))
        (cases_lt from x)

-- what is left behind the first
one_less : (k from count n : ℕ) → from < count → cond (from == n) 1 0 + k ≡ cond (nat_le from n && nat_lt n count) 1 0
    → k ≡ cond (nat_le (from + 1) n && nat_lt n count) 1 0
one_less k from count n lt is = grind arith

-- numbers that don't fall, of which each from one to another is there once, stand in their places
in_place : (count from : ℕ) (xs : List ℕ) → IsNonDecreasing xs → ((n : ℕ) → count_by (λ x. x == n) xs ≡ cond (nat_le from n && nat_lt n count) 1 0)
    → (length xs ≡ count - from) × ((i : ℕ) → i < length xs → get_or xs i 0 ≡ from + i)
in_place count from [] up once = (
  ⊎_elim (λ lt. let one : 0 ≡ cond (nat_le from from && nat_lt from count) 1 0 = once from in grind arith) (λ le. omega (arith, le)) (cases_lt from count),
  λ i lt. absurd (omega (arith, lt)),
)
in_place count from (x ∷ xs) up once = by (in_place count (from + 1) xs) (first_is count from x xs up once)
  where
    by : (IsNonDecreasing xs → ((n : ℕ) → count_by (λ y. y == n) xs ≡ cond (nat_le (from + 1) n && nat_lt n count) 1 0) → (length xs ≡ count - (from + 1)) × ((i : ℕ) → i < length xs → get_or xs i 0 ≡ from + 1 + i))
        → (x ≡ from) × (from < count) → (length (x ∷ xs) ≡ count - from) × ((i : ℕ) → i < length (x ∷ xs) → get_or (x ∷ xs) i 0 ≡ from + i)
    by others first =
        let rest : (length xs ≡ count - (from + 1)) × ((i : ℕ) → i < length xs → get_or xs i 0 ≡ from + 1 + i) =
        others (λ i j d le lt. up (suc i) (suc j) d (omega (arith, le)) (omega (arith, lt)))
        (λ n. one_less (count_by (λ (y : ℕ). y == n) xs) from count n first.1
        (subst (λ (y : ℕ). cond (y == n) 1 0 + count_by (λ (z : ℕ). z == n) xs ≡ cond (nat_le from n && nat_lt n count) 1 0) first.0
        (sym (sum_by-cons (λ (y : ℕ). cond (y == n) 1 0) x xs) ∙ once n))) in
        (omega (arith, rest.0, first.1), at rest.1)
      where
        at : ((i : ℕ) → i < length xs → get_or xs i 0 ≡ from + 1 + i) → (i : ℕ) → i < length (x ∷ xs) → get_or (x ∷ xs) i 0 ≡ from + i
        at rest zero lt = omega (arith, first.0)
        at rest (suc i) lt = omega (arith, rest i (omega (arith, lt)))

-- the tickets don't fall in the list of those results
tickets_up : (xs : List WorkedView) → IsNonDecreasingBy (λ worked. worked.ticket) xs → IsNonDecreasing (tickets xs)
tickets_up [] up i j d le lt = absurd (omega (arith, lt))
tickets_up (x ∷ xs) up i j d le lt =
    let below : j < length (x ∷ xs) = omega (arith, lt, length_tickets (x ∷ xs)) in
    rw (get_or-map (λ (worked : WorkedView). worked.ticket) (x ∷ xs) i x d (omega (arith, le, below)), get_or-map (λ (worked : WorkedView). worked.ticket) (x ∷ xs) j x d below) (up i j x le below)

-- the results of all jobs, sorted by their tickets, are those of a round
pub results_in_order : (cells : List (Option Gate)) (jobs : List (List ℕ)) (rules : List RowView) (ys xs : List WorkedView)
    → AreResultsOfAll cells jobs rules ys → IsPermutation ys xs → IsNonDecreasingBy (λ worked. worked.ticket) xs
    → AreResults cells jobs rules xs
results_in_order cells jobs rules ys xs some moved up = by (results_permuted cells jobs rules ys xs moved some)
  where
    all_once : AreResultsOfAll cells jobs rules xs → (n : ℕ) → count_by (λ ticket. ticket == n) (tickets xs) ≡ cond (nat_le 0 n && nat_lt n (length jobs)) 1 0
    all_once results n = results.once n ∙ sym (ap (λ (b : Bool). cond (b && nat_lt n (length jobs)) 1 0) (le-leb 0 n (omega arith)))

    at : AreResultsOfAll cells jobs rules xs → (length (tickets xs) ≡ length jobs - 0) × ((i : ℕ) → i < length (tickets xs) → get_or (tickets xs) i 0 ≡ 0 + i)
        → AreResults cells jobs rules xs
    at results places = record {
      count = omega (arith, places.0, length_tickets xs);
      each = λ ticket d lt.
          let below : ticket < length xs = omega (arith, lt, places.0, length_tickets xs) in
          let from_0 : 0 + ticket ≡ ticket = omega arith in
          let is : (get_or xs ticket d).ticket ≡ ticket =
          sym (get_or-map (λ (worked : WorkedView). worked.ticket) xs ticket d 0 below) ∙ places.1 ticket (omega (arith, below, length_tickets xs)) ∙ from_0 in
          subst (λ (k : ℕ). IsResultOf cells (get_or jobs k []) rules k (get_or xs ticket d)) is (results.each ticket d below).result;
    }

    by : AreResultsOfAll cells jobs rules xs → AreResults cells jobs rules xs
    by results = at results (in_place (length jobs) 0 (tickets xs) (tickets_up xs up) (all_once results))
