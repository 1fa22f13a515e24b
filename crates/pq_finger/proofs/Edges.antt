-- Boundaries that are put where they are wanted.
use Rattle.std.proofs.Common.{◌≡◌, ℕ, ◌≤◌, Bool, true, false, cond, ◌||◌, ◌&&◌, not, eqb, List, [], ◌∷◌, ◌++◌, sym, ap, ◌∙◌, arith, inl, inr, ◌⊎◌, append_assoc, refl}
use Rattle.std.specs.List.Sorted.{IsStrictlyIncreasing}
use Rattle.std.specs.List.{All}
use Rattle.std.proofs.lemmas.Bool.{cases_Bool, eqb-true}
use Rattle.std.proofs.lemmas.List.{append-nil}
use Rattle.pq_gaps.specs.Gaps.{with_number, ascending}
use Rattle.pq_gaps.proofs.Ascending.{member, member-with_number}
use Rattle.pq_gaps.proofs.Rising.{all_member, All-from_member}
use Rattle.pq_gaps.proofs.Putting.{ascending-push, ascending_increasing, increasing-with_number}
use Rattle.pq_finger.specs.declared.cut.Cut.{Cut}
use Rattle.pq_finger.specs.Settling.{first_edge}

-- two places, each put where it is wanted
pub put_edges : (left right : Bool) (from to : ℕ) (xs : List ℕ) → IsStrictlyIncreasing xs →
    cond right (with_number to (cond left (with_number from xs) xs)) (cond left (with_number from xs) xs) ≡
    ascending (xs ++ (cond left (from ∷ []) [] ++ cond right (to ∷ []) []))
put_edges true true from to xs up =
    let one : ascending (xs ++ from ∷ []) ≡ with_number from xs = ascending-push from xs ∙ ap (with_number from) (ascending_increasing xs up) in
    let two : ascending ((xs ++ from ∷ []) ++ to ∷ []) ≡ with_number to (ascending (xs ++ from ∷ [])) = ascending-push to (xs ++ from ∷ []) in
    ap (with_number to) (sym one) ∙ (sym two ∙ ap ascending (append_assoc xs (from ∷ []) (to ∷ [])))
put_edges true false from to xs up = sym (ascending-push from xs ∙ ap (with_number from) (ascending_increasing xs up))
put_edges false true from to xs up = sym (ascending-push to xs ∙ ap (with_number to) (ascending_increasing xs up))
put_edges false false from to xs up = sym (ap ascending (append-nil xs) ∙ ascending_increasing xs up)

-- what reaches up to a cut reaches up to where its segment begins, where that is to be put
pub up_to_from : (cut : Cut) (xs : List ℕ) → All (λ y. y ≤ first_edge cut) xs → (cut.improved && not cut.at_start) ≡ true → All (λ y. y ≤ cut.from) xs
up_to_from cut xs up wanted = by cut.improved refl
  where
    by : (b : Bool) → cut.improved ≡ b → All (λ y. y ≤ cut.from) xs
    by true is = rw is at up
    by false is = let none : false ≡ true = rw is at wanted in absurd (cc)

-- and to where it ends
pub up_to_to : (cut : Cut) (xs : List ℕ) → cut.from ≤ cut.to → All (λ y. y ≤ first_edge cut) xs → All (λ y. y ≤ cut.to) xs
up_to_to cut xs le up = by cut.improved refl
  where
    by : (b : Bool) → cut.improved ≡ b → All (λ y. y ≤ cut.to) xs
    by true is = let below : All (λ y. y ≤ cut.from) xs = rw is at up in (λ k d lt. omega (arith, below k d lt))
    by false is = rw is at up

-- also after the place where it begins was put
pub up_to_to_then : (wanted : Bool) (cut : Cut) (xs : List ℕ) → cut.from ≤ cut.to → All (λ y. y ≤ first_edge cut) xs →
    All (λ y. y ≤ cut.to) (cond wanted (with_number cut.from xs) xs)
up_to_to_then true cut xs le up =
    All-from_member (λ y. y ≤ cut.to) (with_number cut.from xs) (λ y is. by y (cases_Bool (eqb y cut.from)) (sym (member-with_number y cut.from xs) ∙ is))
  where
    by : (y : ℕ) → (eqb y cut.from ≡ true) ⊎ (eqb y cut.from ≡ false) → (eqb y cut.from || member y xs) ≡ true → y ≤ cut.to
    by y (inl same) has = omega (arith, eqb-true y cut.from same)
    by y (inr other) has = all_member (λ z. z ≤ cut.to) xs (up_to_to cut xs le up) y (rw other at has)
up_to_to_then false cut xs le up = up_to_to cut xs le up

-- with a number more where it is wanted, a strictly increasing list still is
pub increasing_then : (wanted : Bool) (x : ℕ) (xs : List ℕ) → IsStrictlyIncreasing xs → IsStrictlyIncreasing (cond wanted (with_number x xs) xs)
increasing_then true x xs up = increasing-with_number x xs up
increasing_then false x xs up = up
