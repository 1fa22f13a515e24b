use Rattle.std.proofs.Common.{◌≡◌, ℕ, ◌+◌, ◌<◌, ◌≤◌, Bool, true, false, cond, ◌||◌, ◌&&◌, not, eqb, List, [], ◌∷◌, ◌++◌, length, take, get_or, sym, ap, ◌∙◌, arith, inl, inr, ◌⊎◌, append_assoc}
use Rattle.std.specs.List.Sorted.{IsStrictlyIncreasing}
use Rattle.std.specs.List.{All, flat_map}
use Rattle.std.proofs.lemmas.Bool.{eqb-true, or_cases, false≢true}
use Rattle.std.proofs.lemmas.List.{append-nil, take_more, flat_map_more}
use Rattle.pq_finger.specs.declared.cut.Cut.{Cut}
use Rattle.pq_gaps.specs.Gaps.{ascending}
use Rattle.pq_finger.specs.Settled.{new_places}
use Rattle.pq_finger.specs.Settling.{first_edge}
use Rattle.pq_gaps.proofs.Ascending.{member, member-append, member-ascending}
use Rattle.pq_gaps.proofs.Rising.{all_member, All-from_member}
use Rattle.pq_gaps.proofs.Putting.{ascending-front, ascending_increasing}
use Rattle.pq_finger.proofs.Edges.{up_to_to}

-- what is put behind a list, in two parts
pub ascending_parts : (start front back list : List ℕ) → list ≡ ascending (start ++ front) →
    ascending (list ++ back) ≡ ascending (start ++ (front ++ back))
ascending_parts start front back list is =
    ap (λ (r : List ℕ). ascending (r ++ back)) is ∙ (ascending-front (start ++ front) back ∙ ap ascending (append_assoc start front back))

-- the new places of one cut more
pub new_places_more : (cuts : List Cut) (i : ℕ) (d : Cut) → i < length cuts →
    flat_map new_places (take (i + 1) cuts) ≡ flat_map new_places (take i cuts) ++ new_places (get_or cuts i d)
new_places_more cuts i d lt =
    ap (flat_map new_places) (take_more cuts i d lt) ∙ sym (flat_map_more new_places [] (take i cuts) (get_or cuts i d))

-- the boundaries of one cut more
pub boundaries_more : (start list : List ℕ) (cuts : List Cut) (i : ℕ) (d : Cut) → i < length cuts →
    list ≡ ascending (start ++ flat_map new_places (take i cuts)) →
    ascending (list ++ new_places (get_or cuts i d)) ≡ ascending (start ++ flat_map new_places (take (i + 1) cuts))
boundaries_more start list cuts i d lt is =
    ascending_parts start (flat_map new_places (take i cuts)) (new_places (get_or cuts i d)) list is ∙
    ap (λ (r : List ℕ). ascending (start ++ r)) (sym (new_places_more cuts i d lt))

-- the boundaries of no cut
pub boundaries_none : (start : List ℕ) → IsStrictlyIncreasing start → start ≡ ascending (start ++ [])
boundaries_none start up = sym (ap ascending (append-nil start) ∙ ascending_increasing start up)

-- a place of a cut's boundaries isn't behind its end
edge_up_to : (left right : Bool) (from to y : ℕ) → from ≤ to → member y (cond left (from ∷ []) [] ++ cond right (to ∷ []) []) ≡ true → y ≤ to
edge_up_to true true from to y le is = by (or_cases (eqb y from) (eqb y to || false) is)
  where
    by : (eqb y from ≡ true) ⊎ ((eqb y to || false) ≡ true) → y ≤ to
    by (inl left) = omega (arith, eqb-true y from left)
    by (inr right) = at (or_cases (eqb y to) false right)
      where
        at : (eqb y to ≡ true) ⊎ (false ≡ true) → y ≤ to
        at (inl same) = omega (arith, eqb-true y to same)
        at (inr none) = absurd (false≢true none)
edge_up_to true false from to y le is = by (or_cases (eqb y from) false is)
  where
    by : (eqb y from ≡ true) ⊎ (false ≡ true) → y ≤ to
    by (inl left) = omega (arith, eqb-true y from left)
    by (inr none) = absurd (false≢true none)
edge_up_to false true from to y le is = by (or_cases (eqb y to) false is)
  where
    by : (eqb y to ≡ true) ⊎ (false ≡ true) → y ≤ to
    by (inl same) = omega (arith, eqb-true y to same)
    by (inr none) = absurd (false≢true none)
edge_up_to false false from to y le is = absurd (false≢true is)

-- after the boundaries of a cut were put, the list reaches up to where its segment ends
pub reaches_to : (cut : Cut) (xs : List ℕ) → cut.from ≤ cut.to → All (λ y. y ≤ first_edge cut) xs →
    All (λ y. y ≤ cut.to) (ascending (xs ++ new_places cut))
reaches_to cut xs le up =
    All-from_member (λ y. y ≤ cut.to) (ascending (xs ++ new_places cut))
    (λ y is. by y (or_cases (member y xs) (member y (new_places cut)) (sym (member-append y xs (new_places cut)) ∙ (sym (member-ascending y (xs ++ new_places cut)) ∙ is))))
  where
    by : (y : ℕ) → (member y xs ≡ true) ⊎ (member y (new_places cut) ≡ true) → y ≤ cut.to
    by y (inl old) = all_member (λ z. z ≤ cut.to) xs (up_to_to cut xs le up) y old
    by y (inr new) = edge_up_to (cut.improved && not cut.at_start) (cut.improved && not cut.at_end) cut.from cut.to y le new

-- no first boundary is before where the segment begins
pub first_edge_after : (cut : Cut) → cut.from ≤ cut.to → cut.from ≤ first_edge cut
first_edge_after cut le = by cut.improved
  where
    by : (b : Bool) → cut.from ≤ cond b cut.from cut.to
    by true = omega arith
    by false = le

-- so the list stays ahead of the next cut
pub ahead_next : (cut next : Cut) (xs : List ℕ) → cut.from ≤ cut.to → cut.to ≤ next.from → next.from ≤ next.to →
    All (λ y. y ≤ first_edge cut) xs → All (λ y. y ≤ first_edge next) (ascending (xs ++ new_places cut))
ahead_next cut next xs le apart next_le up k d lt =
    omega (arith, reaches_to cut xs le up k d lt, first_edge_after next next_le)
