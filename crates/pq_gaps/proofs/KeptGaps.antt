-- What is kept of a list, and the kept gaps.
use Rattle.std.proofs.Common.{◌≡◌, ℕ, ◌<◌, Bool, true, false, cond, ◌||◌, ◌&&◌, not, eqb, ltb, List, [], ◌∷◌, ◌++◌, refl, sym, ap, ◌∙◌, inl, inr, ◌⊎◌}
use Rattle.std.specs.Prelude.{◌↔◌, ◌≢◌}
use Rattle.std.specs.List.{Any, Contains, flat_map, filter, list_any}
use Rattle.std.specs.List.Sorted.{IsStrictlyIncreasing}
use Rattle.std.proofs.lemmas.Bool.{cases_Bool, eqb-true, eqb-false, eq-eqb, ne_eqb, or_cases, or_left, or_right, and_parts, and_from, ltb-true, lt-ltb, false≢true, not-true, not_from_false, false_from_ne_true}
use Rattle.std.proofs.lemmas.List.Folds.{Any-from_list_any, list_any-from_Any}
use Rattle.pq_gaps.specs.Gaps.{ascending, kept_gaps, new_gaps, is_dropped_gap, is_inside, inner_edges, GapCut, DropsGap, MakesGap}
use Rattle.pq_gaps.proofs.Ascending.{member, member-append, member-ascending}
use Rattle.pq_gaps.proofs.Rising.{contains_from_member, member_from_contains}
use Rattle.pq_gaps.proofs.Putting.{increasing-ascending}

-- what is left of a list by a test
pub member-filter : (p : ℕ → Bool) (z : ℕ) (xs : List ℕ) → member z (filter p xs) ≡ (member z xs && p z)
member-filter p z [] = refl
member-filter p z (x ∷ xs) = by (member-filter p z xs) (cases_Bool (p x)) (cases_Bool (eqb z x))
  where
    by : member z (filter p xs) ≡ (member z xs && p z) → (p x ≡ true) ⊎ (p x ≡ false) → (eqb z x ≡ true) ⊎ (eqb z x ≡ false) →
        member z (filter p (x ∷ xs)) ≡ ((eqb z x || member z xs) && p z)
    by rest (inl passes) (inl here) =
        let at : p z ≡ true = ap p (eqb-true z x here) ∙ passes in
        rw (passes, here, at) refl
    by rest (inl passes) (inr other) = rw (passes, other) rest
    by rest (inr fails) (inl here) =
        let at : p z ≡ false = ap p (eqb-true z x here) ∙ fails in
        rw (fails, here, rest, at) (none (member z xs))
      where
        none : (b : Bool) → (b && false) ≡ false
        none true = refl
        none false = refl
    by rest (inr fails) (inr other) = rw (fails, other) rest

-- what several lists have
pub member-flat_map : {C : Type 0} (f : C → List ℕ) (z : ℕ) (cs : List C) → member z (flat_map f cs) ≡ list_any (λ c. member z (f c)) cs
member-flat_map f z [] = refl
member-flat_map f z (c ∷ cs) =
    member-append z (f c) (flat_map f cs) ∙ ap (λ (b : Bool). member z (f c) || b) (member-flat_map f z cs)

-- some element has what it has by way of another fact
any_by : {C : Type 0} (P Q : C → Type 0) (cs : List C) → ((c : C) → P c → Q c) → Any P cs → Any Q cs
any_by P Q cs by some = (some.0, some.1, some.2, some.3, by some.1 some.4)

-- The numbers that no element takes away, and those that some element adds.
pub member_kept : {C : Type 0} (t : ℕ → C → Bool) (f : C → List ℕ) (z : ℕ) (xs : List ℕ) (cs : List C) →
    member z (ascending (filter (λ x. not (list_any (t x) cs)) xs ++ flat_map f cs)) ≡
    ((member z xs && not (list_any (t z) cs)) || list_any (λ c. member z (f c)) cs)
member_kept t f z xs cs =
    member-ascending z (filter (λ x. not (list_any (t x) cs)) xs ++ flat_map f cs) ∙
    (member-append z (filter (λ x. not (list_any (t x) cs)) xs) (flat_map f cs) ∙
    (ap (λ (b : Bool). b || member z (flat_map f cs)) (member-filter (λ x. not (list_any (t x) cs)) z xs) ∙
    ap (λ (b : Bool). (member z xs && not (list_any (t z) cs)) || b) (member-flat_map f z cs)))

pub kept_exactly : {C : Type 0} (t : ℕ → C → Bool) (f : C → List ℕ) (P Q : C → Type 0) (z : ℕ) (xs : List ℕ) (cs : List C) →
    ((c : C) → (t z c ≡ true) ↔ P c) → ((c : C) → (member z (f c) ≡ true) ↔ Q c) →
    Contains (ascending (filter (λ x. not (list_any (t x) cs)) xs ++ flat_map f cs)) z ↔ ((Contains xs z × (Any P cs → ⊥)) ⊎ Any Q cs)
kept_exactly {C} t f P Q z xs cs drops makes = (there, back)
  where
    whole : List ℕ
    whole = ascending (filter (λ x. not (list_any (t x) cs)) xs ++ flat_map f cs)

    is : member z whole ≡ ((member z xs && not (list_any (t z) cs)) || list_any (λ c. member z (f c)) cs)
    is = member_kept t f z xs cs

    left : ((member z xs && not (list_any (t z) cs)) ≡ true) ⊎ (list_any (λ c. member z (f c)) cs ≡ true) → (Contains xs z × (Any P cs → ⊥)) ⊎ Any Q cs
    left (inl stays) =
        let parts = and_parts (member z xs) (not (list_any (t z) cs)) stays in
        inl (
          contains_from_member z xs parts.0,
          (λ some. false≢true (sym (not-true (list_any (t z) cs) parts.1) ∙ list_any-from_Any (t z) cs (any_by P (λ c. t z c ≡ true) cs (λ c p. (drops c).1 p) some))),
        )
    left (inr new) =
        inr (any_by (λ c. member z (f c) ≡ true) Q cs (λ c m. (makes c).0 m) (Any-from_list_any (λ c. member z (f c)) cs new))

    there : Contains whole z → (Contains xs z × (Any P cs → ⊥)) ⊎ Any Q cs
    there found = left (or_cases (member z xs && not (list_any (t z) cs)) (list_any (λ c. member z (f c)) cs) (sym is ∙ member_from_contains z whole found))

    right : (Contains xs z × (Any P cs → ⊥)) ⊎ Any Q cs → ((member z xs && not (list_any (t z) cs)) || list_any (λ c. member z (f c)) cs) ≡ true
    right (inl stays) =
        or_left (member z xs && not (list_any (t z) cs)) (list_any (λ c. member z (f c)) cs)
        (and_from (member z xs) (not (list_any (t z) cs)) (member_from_contains z xs stays.0)
        (not_from_false (list_any (t z) cs) (false_from_ne_true (list_any (t z) cs)
        (λ any. stays.1 (any_by (λ c. t z c ≡ true) P cs (λ c d. (drops c).0 d) (Any-from_list_any (t z) cs any))))))
    right (inr new) =
        or_right (member z xs && not (list_any (t z) cs)) (list_any (λ c. member z (f c)) cs)
        (list_any-from_Any (λ c. member z (f c)) cs (any_by Q (λ c. member z (f c) ≡ true) cs (λ c q. (makes c).1 q) new))

    back : (Contains xs z × (Any P cs → ⊥)) ⊎ Any Q cs → Contains whole z
    back facts = contains_from_member z whole (is ∙ right facts)

-- the test of a finger that is dropped, as a fact
pub drops_exactly : (improved : Bool) (finger from to z : ℕ) →
    ((eqb z finger || is_inside improved from to z) ≡ true) ↔ ((z ≡ finger) ⊎ ((improved ≡ true) × (from < z) × (z < to)))
drops_exactly improved finger from to z = (there, back)
  where
    inside : is_inside improved from to z ≡ true → (improved ≡ true) × (from < z) × (z < to)
    inside is =
        let parts = and_parts improved (ltb from z && ltb z to) is in
        let sides = and_parts (ltb from z) (ltb z to) parts.1 in
        (parts.0, ltb-true from z sides.0, ltb-true z to sides.1)

    which : (eqb z finger ≡ true) ⊎ (is_inside improved from to z ≡ true) → (z ≡ finger) ⊎ ((improved ≡ true) × (from < z) × (z < to))
    which (inl own) = inl (eqb-true z finger own)
    which (inr is) = inr (inside is)

    there : (eqb z finger || is_inside improved from to z) ≡ true → (z ≡ finger) ⊎ ((improved ≡ true) × (from < z) × (z < to))
    there is = which (or_cases (eqb z finger) (is_inside improved from to z) is)

    back : (z ≡ finger) ⊎ ((improved ≡ true) × (from < z) × (z < to)) → (eqb z finger || is_inside improved from to z) ≡ true
    back (inl same) = or_left (eqb z finger) (is_inside improved from to z) (eq-eqb z finger same)
    back (inr in') =
        or_right (eqb z finger) (is_inside improved from to z)
        (and_from improved (ltb from z && ltb z to) in'.0 (and_from (ltb from z) (ltb z to) (lt-ltb from z in'.1) (lt-ltb z to in'.2)))

-- one place, where it is wanted
member_wanted : (wanted : Bool) (x z : ℕ) → (member z (cond wanted (x ∷ []) []) ≡ true) ↔ ((wanted ≡ true) × (z ≡ x))
member_wanted true x z = ((λ is. (refl, eqb-true z x (just (eqb z x) is))), (λ same. or_left (eqb z x) false (eq-eqb z x same.1)))
  where
    just : (b : Bool) → (b || false) ≡ true → b ≡ true
    just true is = refl
    just false is = is
member_wanted false x z = ((λ is. absurd (false≢true is)), (λ same. absurd (false≢true same.0)))

-- the boundaries that become fingers
pub edges_exactly : (improved at_start at_end : Bool) (from to z : ℕ) →
    (member z (inner_edges improved at_start at_end from to) ≡ true) ↔
    ((improved ≡ true) × (((z ≡ from) × (at_start ≡ false)) ⊎ ((z ≡ to) × (at_end ≡ false))))
edges_exactly improved at_start at_end from to z = (there, back)
  where
    left : List ℕ
    left = cond (improved && not at_start) (from ∷ []) []

    right : List ℕ
    right = cond (improved && not at_end) (to ∷ []) []

    which : (member z left ≡ true) ⊎ (member z right ≡ true) → (improved ≡ true) × (((z ≡ from) × (at_start ≡ false)) ⊎ ((z ≡ to) × (at_end ≡ false)))
    which (inl is) =
        let at = (member_wanted (improved && not at_start) from z).0 is in
        let parts = and_parts improved (not at_start) at.0 in
        (parts.0, inl (at.1, not-true at_start parts.1))
    which (inr is) =
        let at = (member_wanted (improved && not at_end) to z).0 is in
        let parts = and_parts improved (not at_end) at.0 in
        (parts.0, inr (at.1, not-true at_end parts.1))

    there : member z (left ++ right) ≡ true → (improved ≡ true) × (((z ≡ from) × (at_start ≡ false)) ⊎ ((z ≡ to) × (at_end ≡ false)))
    there is = which (or_cases (member z left) (member z right) (sym (member-append z left right) ∙ is))

    one : improved ≡ true → ((z ≡ from) × (at_start ≡ false)) ⊎ ((z ≡ to) × (at_end ≡ false)) → (member z left || member z right) ≡ true
    one better (inl at) =
        or_left (member z left) (member z right)
        ((member_wanted (improved && not at_start) from z).1 (and_from improved (not at_start) better (not_from_false at_start at.1), at.0))
    one better (inr at) =
        or_right (member z left) (member z right)
        ((member_wanted (improved && not at_end) to z).1 (and_from improved (not at_end) better (not_from_false at_end at.1), at.0))

    back : (improved ≡ true) × (((z ≡ from) × (at_start ≡ false)) ⊎ ((z ≡ to) × (at_end ≡ false))) → member z (left ++ right) ≡ true
    back edge = member-append z left right ∙ one edge.0 edge.1

-- an edge that is neither the start nor the end, by what the gaps are
makes_exactly : (live z : ℕ) (cut : GapCut) → (member z (new_gaps live cut) ≡ true) ↔ MakesGap live z cut
makes_exactly live z cut = (there, back)
  where
    edges : (member z (new_gaps live cut) ≡ true) ↔
        ((cut.improved ≡ true) × (((z ≡ cut.from) × (eqb cut.from 0 ≡ false)) ⊎ ((z ≡ cut.to) × (eqb cut.to live ≡ false))))
    edges = edges_exactly cut.improved (eqb cut.from 0) (eqb cut.to live) cut.from cut.to z

    which : ((z ≡ cut.from) × (eqb cut.from 0 ≡ false)) ⊎ ((z ≡ cut.to) × (eqb cut.to live ≡ false)) →
        ((z ≡ cut.from) × (cut.from ≢ 0)) ⊎ ((z ≡ cut.to) × (cut.to ≢ live))
    which (inl at) = inl (at.0, eqb-false cut.from 0 at.1)
    which (inr at) = inr (at.0, eqb-false cut.to live at.1)

    there : member z (new_gaps live cut) ≡ true → MakesGap live z cut
    there is = let edge = edges.0 is in (edge.0, which edge.1)

    turned : ((z ≡ cut.from) × (cut.from ≢ 0)) ⊎ ((z ≡ cut.to) × (cut.to ≢ live)) →
        ((z ≡ cut.from) × (eqb cut.from 0 ≡ false)) ⊎ ((z ≡ cut.to) × (eqb cut.to live ≡ false))
    turned (inl at) = inl (at.0, ne_eqb cut.from 0 at.1)
    turned (inr at) = inr (at.0, ne_eqb cut.to live at.1)

    back : MakesGap live z cut → member z (new_gaps live cut) ≡ true
    back edge = edges.1 (edge.0, turned edge.1)

-- the kept gaps, and their order
pub kept_gaps_exactly : (live : ℕ) (cuts : List GapCut) (fingers : List ℕ) (gap : ℕ) →
    Contains (kept_gaps live cuts fingers) gap ↔ ((Contains fingers gap × (Any (DropsGap gap) cuts → ⊥)) ⊎ Any (MakesGap live gap) cuts)
unfolding kept_gaps
kept_gaps_exactly live cuts fingers gap =
    kept_exactly is_dropped_gap (new_gaps live) (DropsGap gap) (MakesGap live gap) gap fingers cuts
    (λ cut. drops_exactly cut.improved cut.finger cut.from cut.to gap) (makes_exactly live gap)

pub kept_gaps_rising : (live : ℕ) (cuts : List GapCut) (fingers : List ℕ) → IsStrictlyIncreasing (kept_gaps live cuts fingers)
unfolding kept_gaps
kept_gaps_rising live cuts fingers =
    increasing-ascending (filter (λ gap. not (list_any (is_dropped_gap gap) cuts)) fingers ++ flat_map (new_gaps live) cuts)
