-- The array and the fingers after the live gates are moved to the first cells.
use Rattle.std.proofs.Common.{arith, ◌≡◌, ℕ, ◌≤◌, ⊎_elim, Option, Some, List, length, get_or, map, sym, ap, ◌∙◌, subst}
use Rattle.std.specs.Prelude.{All, IsTrue}
use Rattle.std.specs.List.Sorted.{IsStrictlyIncreasing, IsNonDecreasing}
use Rattle.std.proofs.lemmas.Bool.{cases_lt}
use Rattle.std.proofs.lemmas.Bool.Decides.{nat_tests}
use Rattle.std.proofs.lemmas.List.Kept.{AllPairs-from_increasing}
use Rattle.std.proofs.lemmas.List.Elements.{All-map}
use Rattle.pq_gate.specs.declared.gate.Gate.{Gate}
use Rattle.pq_array.specs.Cells.{live, rank}
use Rattle.pq_array.proofs.Ranks.{live-map_some, rank-le-live}
use Rattle.pq_gaps.specs.Gaps.{ascending}
use Rattle.pq_gaps.proofs.Ascending.{ascending_rising}
use Rattle.pq_gaps.proofs.Rising.{Rises-from_increasing}
use Rattle.pq_loop.specs.Loops.{cells_left}
use Rattle.pq_loop.specs.Segments.{stands, state_of}
use Rattle.pq_loop.proofs.Kept.{number_stands, same_ranks}

-- numbers that rise don't fall
pub rising_not_falling : (xs : List ℕ) → IsStrictlyIncreasing xs → IsNonDecreasing xs
rising_not_falling xs up i j d le lt =
    ⊎_elim (λ less. omega (arith, AllPairs-from_increasing xs up i j d less lt)) (λ same. let is : i ≡ j = omega (arith, same, le) in omega (arith, ap (λ (k : ℕ). get_or xs k d) is)) (cases_lt i j)

-- there are no more cells than before
pub cells_left_le : (cells gates : ℕ) → cells_left cells gates ≤ cells
cells_left_le cells gates = grind (arith, nat_tests)

-- what the fingers at their gaps are in the new cells
pub record AreCompacted (old new : List (Option Gate)) (places moved : List ℕ) : Type 0 where
  pub state : state_of new moved ≡ state_of old places
  pub stand : All (λ place. IsTrue (stands new place)) moved

pub compacted : {old new : List (Option Gate)} {places gaps moved : List ℕ} → new ≡ map Some (live old) → gaps ≡ map (rank old) places → IsStrictlyIncreasing gaps → moved ≡ ascending gaps →
    AreCompacted old new places moved
compacted {old} {new} {places} {gaps} {moved} new_is gaps_are up moved_is = record {
  state =
      let gates : live new ≡ live old = ap (λ (c : List (Option Gate)). live c) new_is ∙ live-map_some (live old) in
      let fingers : map (rank new) moved ≡ map (rank old) places =
      (λ i. map (rank (new_is i)) (moved_gaps i)) ∙ (same_ranks (live old) gaps inside ∙ gaps_are) in
      λ i. record { gates = gates i; fingers = fingers i };
  stand = subst (λ (c : List (Option Gate)). All (λ place. IsTrue (stands c place)) moved) (sym new_is)
      (subst (All (λ place. IsTrue (stands (map Some (live old)) place))) (sym moved_gaps) (λ k d lt. number_stands (live old) (get_or gaps k d) (inside k d lt)));
}
  where
    moved_gaps : moved ≡ gaps
    moved_gaps = moved_is ∙ ascending_rising 0 gaps (Rises-from_increasing gaps up)

    inside : All (λ place. place ≤ length (live old)) gaps
    inside = subst (All (λ place. place ≤ length (live old))) (sym gaps_are) (All-map (λ (place : ℕ). place ≤ length (live old)) (rank old) places (λ k d lt. rank-le-live old (get_or places k d)))

-- the two facts apart
pub compacted_state : (old new : List (Option Gate)) (places gaps moved : List ℕ) → new ≡ map Some (live old) → gaps ≡ map (rank old) places → IsStrictlyIncreasing gaps → moved ≡ ascending gaps →
    state_of new moved ≡ state_of old places
compacted_state old new places gaps moved new_is gaps_are up moved_is = (compacted new_is gaps_are up moved_is).state

pub compacted_stand : (old new : List (Option Gate)) (places gaps moved : List ℕ) → new ≡ map Some (live old) → gaps ≡ map (rank old) places → IsStrictlyIncreasing gaps → moved ≡ ascending gaps →
    All (λ place. IsTrue (stands new place)) moved
compacted_stand old new places gaps moved new_is gaps_are up moved_is = (compacted new_is gaps_are up moved_is).stand
