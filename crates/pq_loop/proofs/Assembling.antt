-- From what is done at places to a round over gates and gaps.
use Rattle.std.proofs.Common.{◌≡◌, ℕ, suc, ◌+◌, ◌-◌, ◌*◌, ◌<◌, ◌≤◌, Bool, Option, List, [], ◌∷◌, length, map, get_or, refl, ap, sym, subst, ◌∙◌, arith, inl, inr, ◌⊎◌}
use Rattle.std.specs.Prelude.{All, AllPairs, Any, Contains, IsTrue}
use Rattle.std.specs.List.{AllZip}
use Rattle.std.specs.List.Sorted.{IsStrictlyIncreasing}
use Rattle.std.proofs.lemmas.Bool.{cases_lt}
use Rattle.std.proofs.lemmas.List.Elements.{All-nil, All-cons, All-map, All-contains}
use Rattle.pq_gate.specs.declared.gate.Gate.{Gate}
use Rattle.pq_limits.specs.declared.TheConstants.{MAX_GATES}
use Rattle.pq_rules.specs.Row.{RowView}
use Rattle.pq_array.specs.Cells.{live, rank}
use Rattle.pq_array.proofs.Ranks.{rank-le-live, length-live-le}
use Rattle.pq_finger.specs.declared.cut.Cut.{Cut}
use Rattle.pq_gaps.specs.Gaps.{GapCut, segment_from, segment_to, selected, ascending}
use Rattle.pq_finger.specs.Settled.{settled, AreInOrder, MakesPlace}
use Rattle.pq_finger.specs.Ranks.{IsAtPlaces, AreCutsOf, LosesGates}
use Rattle.pq_gaps.proofs.Ascending.{member-ascending}
use Rattle.pq_gaps.proofs.Rising.{contains_from_member, all_member, All-from_member}
use Rattle.pq_finger.proofs.Exactly.{settled_exactly}
use Rattle.pq_finger.proofs.RankLaws.{round_in_order}
use Rattle.pq_finger.proofs.RoundRanks.{moved_round}
use Rattle.pq_oracle.specs.Outcomes.{WorkedView}
use Rattle.pq_round.specs.Results.{AreResults}
use Rattle.pq_method.specs.declared.step.Step.{Step}
use Rattle.pq_loop.specs.declared.segments.Segments.{Segments}
use Rattle.pq_method.specs.Round.{Round, Work, IsWorkOf, cut_of, joined}
use Rattle.pq_loop.specs.Segments.{stands, state_of, AreSegments, AreOfFingers, told, works_in, AreNumbersOf, AreMoved}
use Rattle.pq_loop.proofs.Standing.{standing_rises, standing_inside}
use Rattle.pq_loop.proofs.Gathered.{works_fit, works_gaps, works_count, results_count}

-- what was found of a round before the gates are put: the fingers stand in order, the segments are theirs,
-- their gates were worked, and the cuts are told at places
pub record IsFound (old : List (Option Gate)) (places : List ℕ) (segments : Segments) (rules : List RowView) (results : List WorkedView) (cuts : List Cut) : Type 0 where
  pub stand : All (λ place. IsTrue (stands old place)) places
  pub rising : IsStrictlyIncreasing places
  pub segments_are : AreSegments old segments
  pub of_fingers : AreOfFingers old places segments
  pub got : AreResults old segments.jobs rules results
  pub at_places : AllZip (IsAtPlaces (rank old) (stands old) (length (live old)) places) (map cut_of (works_in old segments results)) cuts

-- the results of the round are these, and so are the cuts
pub found_of : {old : List (Option Gate)} {places : List ℕ} {segments : Segments} {rules : List RowView} {results list : List WorkedView} {cuts made : List Cut} →
    All (λ place. IsTrue (stands old place)) places → IsStrictlyIncreasing places → AreSegments old segments → AreOfFingers old places segments →
    results ≡ list → AreResults old segments.jobs rules list → cuts ≡ made →
    ((any : List ℕ) → AreOfFingers old any segments →
    AllZip (IsAtPlaces (rank old) (stands old) (length (live old)) any) (map cut_of (works_in old segments results)) made) →
    IsFound old places segments rules results cuts
found_of {old} {places} {segments} {rules} {results} {list} {cuts} {made} stand rising are of same got shown at = record {
  stand = stand;
  rising = rising;
  segments_are = are;
  of_fingers = of;
  got = subst (AreResults old segments.jobs rules) (sym same) got;
  at_places = subst (AllZip (IsAtPlaces (rank old) (stands old) (length (live old)) places) (map cut_of (works_in old segments results))) (sym shown) (at places of);
}

-- there is one result for each segment
pub count_found : {old : List (Option Gate)} {segments : Segments} {rules : List RowView} {results list : List WorkedView} →
    AreSegments old segments → results ≡ list → AreResults old segments.jobs rules list → length results ≡ length segments.gaps.items
count_found {old} {segments} {rules} {results} {list} are same got = ap (λ (l : List WorkedView). length l) same ∙ sym (results_count old segments rules list are got)

-- the same with cuts that are ends with the words of the results
pub found_told : {old : List (Option Gate)} {places : List ℕ} {segments : Segments} {rules : List RowView} {results list : List WorkedView} {cuts made : List Cut} → (ends : List Cut) →
    All (λ place. IsTrue (stands old place)) places → IsStrictlyIncreasing places → AreSegments old segments → AreOfFingers old places segments →
    results ≡ list → AreResults old segments.jobs rules list → cuts ≡ made → made ≡ told ends results →
    ((any : List ℕ) (others : List WorkedView) → AreOfFingers old any segments → length others ≡ length segments.gaps.items →
    AllZip (IsAtPlaces (rank old) (stands old) (length (live old)) any) (map cut_of (works_in old segments others)) (told ends others)) →
    IsFound old places segments rules results cuts
found_told {results = results} ends stand rising are of same got shown made_is at =
    found_of stand rising are of same got (shown ∙ made_is) (λ any of_any. at any results of_any (count_found are same got))

-- the fingers of the cuts of works are those of the works
cut_fingers : (works : List Work) → map (λ (cut : GapCut). cut.finger) (map cut_of works) ≡ map (λ (work : Work). work.finger) works
cut_fingers [] = refl
cut_fingers (work ∷ works) = ap (λ (gaps : List ℕ). work.finger ∷ gaps) (cut_fingers works)

-- the works are at the selected gaps
works_selected : {old : List (Option Gate)} {places : List ℕ} {segments : Segments} {rules : List RowView} {results : List WorkedView} {cuts : List Cut} →
    IsFound old places segments rules results cuts →
    map (λ (work : Work). work.finger) (works_in old segments results) ≡ selected segments.omega (map (rank old) places)
works_selected {old} {places} {segments} {rules} {results} is =
    works_gaps old segments rules results is.segments_are is.got ∙ is.of_fingers.gaps

-- the cuts are those of the fingers
cuts_are : {old : List (Option Gate)} {places : List ℕ} {segments : Segments} {rules : List RowView} {results : List WorkedView} {cuts : List Cut} →
    IsFound old places segments rules results cuts →
    AreCutsOf (rank old) (stands old) segments.omega (length (live old)) places (map cut_of (works_in old segments results)) cuts
cuts_are {old} {places} {segments} {rules} {results} {cuts} is =
    let works : List Work = works_in old segments results in
    let fit : All (IsWorkOf rules segments.omega (live old)) works = works_fit old segments rules results is.segments_are is.got in
    record {
      all_stand = is.stand;
      up_to_live = λ k d lt. rank-le-live old (get_or places k d);
      at_places = is.at_places;
      fingers = cut_fingers works ∙ works_selected is;
      begin = All-map (λ (cut : GapCut). cut.from ≡ segment_from segments.omega cut.finger) cut_of works (λ k d lt. (fit k d lt).begins);
      end = All-map (λ (cut : GapCut). cut.to ≡ segment_to segments.omega (length (live old)) cut.finger) cut_of works (λ k d lt. (fit k d lt).ends);
    }

-- so they are in order
pub cuts_in_order : {old : List (Option Gate)} {places : List ℕ} {segments : Segments} {rules : List RowView} {results : List WorkedView} {cuts : List Cut} {w : ℕ} →
    segments.omega ≡ w → 0 < w → IsFound old places segments rules results cuts → AreInOrder places cuts
cuts_in_order {old} {places} {segments} {rules} {results} {cuts} window some is =
    round_in_order (rank old) (stands old) segments.omega (length (live old)) places (map cut_of (works_in old segments results)) cuts
    (omega (arith, window)) (standing_rises old) is.rising (cuts_are is)

-- the ends of each cut stand
ends_stand : (rank : ℕ → ℕ) (stood : ℕ → Bool) (live : ℕ) (places : List ℕ) (gaps : List GapCut) (cuts : List Cut) →
    AllZip (IsAtPlaces rank stood live places) gaps cuts → All (λ (cut : Cut). IsTrue (stood cut.from) × IsTrue (stood cut.to)) cuts
ends_stand rank stood live places [] [] at = All-nil (λ (cut : Cut). IsTrue (stood cut.from) × IsTrue (stood cut.to))
ends_stand rank stood live places [] (cut ∷ cuts) at = absurd at
ends_stand rank stood live places (gap ∷ gaps) [] at = absurd at
ends_stand rank stood live places (gap ∷ gaps) (cut ∷ cuts) at =
    All-cons (λ (cut : Cut). IsTrue (stood cut.from) × IsTrue (stood cut.to)) cut cuts (at.0.from_stands, at.0.to_stands)
    (ends_stand rank stood live places gaps cuts at.1)

-- the settled places stand
pub settled_stands : {old : List (Option Gate)} {places : List ℕ} {segments : Segments} {rules : List RowView} {results : List WorkedView} {cuts : List Cut} →
    IsFound old places segments rules results cuts → All (λ place. IsTrue (stands old place)) (settled places cuts)
settled_stands {old} {places} {segments} {rules} {results} {cuts} is =
    All-from_member (λ place. IsTrue (stands old place)) (settled places cuts)
    (λ place has. by place ((settled_exactly places cuts place).0 (contains_from_member place (settled places cuts) has)))
  where
    ends : All (λ (cut : Cut). IsTrue (stands old cut.from) × IsTrue (stands old cut.to)) cuts
    ends = ends_stand (rank old) (stands old) (length (live old)) places (map cut_of (works_in old segments results)) cuts is.at_places

    edge : (place : ℕ) (cut : Cut) → IsTrue (stands old cut.from) × IsTrue (stands old cut.to) → MakesPlace place cut → IsTrue (stands old place)
    edge place cut stand makes = at makes.1
      where
        at : {P Q : Type 0} → ((place ≡ cut.from) × P) ⊎ ((place ≡ cut.to) × Q) → IsTrue (stands old place)
        at (inl same) = ap (stands old) same.0 ∙ stand.0
        at (inr same) = ap (stands old) same.0 ∙ stand.1

    by : {P : Type 0} (place : ℕ) → (Contains places place × P) ⊎ Any (MakesPlace place) cuts → IsTrue (stands old place)
    by place (inl stays) = All-contains (λ p. IsTrue (stands old p)) places place is.stand stays.0
    by place (inr makes) =
        edge place makes.1 (All-contains (λ (cut : Cut). IsTrue (stands old cut.from) × IsTrue (stands old cut.to)) cuts makes.1 ends (makes.0, makes.2, makes.3)) makes.4

-- so they are not behind the end, which stays where it is
pub settled_inside : {old : List (Option Gate)} {places : List ℕ} {segments : Segments} {rules : List RowView} {results : List WorkedView} {cuts : List Cut} →
    IsFound old places segments rules results cuts → (new : List (Option Gate)) {kept : List ℕ} → length new ≡ length old → kept ≡ settled places cuts →
    All (λ place. place ≤ length new) kept
settled_inside {old} {places} {segments} {rules} {results} {cuts} is new {kept} same kept_is =
    subst (All (λ place. place ≤ length new)) (sym kept_is)
    (λ k d lt. omega (arith, same, standing_inside old (get_or (settled places cuts) k d) (settled_stands is k d lt)))

-- What was done in a round: the gates were put, and the settled fingers moved.
pub record IsDone (old new : List (Option Gate)) (places moved : List ℕ) (segments : Segments) (results : List WorkedView) (cuts : List Cut) (step : Step) : Type 0 where
  pub gates : live new ≡ joined (live old) (works_in old segments results)
  pub loses : (any : List ℕ) (others : List Cut) →
      AllZip (IsAtPlaces (rank old) (stands old) (length (live old)) any) (map cut_of (works_in old segments results)) others →
      LosesGates (rank old) (rank new) (map cut_of (works_in old segments results)) others
  pub numbers : AreNumbersOf results step
  pub removed : step.removed ≡ length (live old) - length (live new)
  pub kept : List ℕ
  pub kept_is : kept ≡ settled places cuts
  pub moves : AreMoved new kept moved

-- then that was a round
pub round_is : {old new : List (Option Gate)} {places moved : List ℕ} {segments : Segments} {rules : List RowView} {results : List WorkedView} {cuts : List Cut} {step : Step} {w : ℕ} →
    segments.omega ≡ w → 0 < w → IsFound old places segments rules results cuts → IsDone old new places moved segments results cuts step →
    Round rules w (state_of old places) (state_of new moved) step
round_is {old} {new} {places} {moved} {segments} {rules} {results} {cuts} {step} {w} window some found done =
    let works : List Work = works_in old segments results in
    let count : length segments.gaps.items ≡ length results = results_count old segments rules results found.segments_are found.got in
    let P : ℕ → Type 0 = λ v. Round rules v (state_of old places) (state_of new moved) step in
    subst P window (record {
      works = works;
      selects = works_selected found;
      each = works_fit old segments rules results found.segments_are found.got;
      gates = done.gates;
      fingers = ap (map (rank new)) done.moves.moved_is ∙
          moved_round (rank old) (rank new) (stands old) (stands new) (length (live old)) places done.moves.to (map cut_of works) cuts
          (standing_rises old) found.stand found.at_places (cuts_in_order window some found) (done.loses places cuts found.at_places)
          (standing_rises new) done.moves.stand (done.moves.ranks ∙ ap (map (rank new)) done.kept_is);
      selected_is = done.numbers.selected_is ∙ (sym count ∙ sym (works_count segments.omega (length (live old)) segments.gaps.items results count));
      improved_is = done.numbers.improved_is segments.omega (length (live old)) segments.gaps.items count;
      removed_is = done.removed;
      phase_is = done.numbers.phase_is segments.omega (length (live old)) segments.gaps.items count;
    })

-- the moved places stand
pub moved_stand : {new : List (Option Gate)} {places moved : List ℕ} → AreMoved new places moved → All (λ place. IsTrue (stands new place)) moved
moved_stand {new} {places} {moved} moves =
    let P : ℕ → Type 0 = λ place. IsTrue (stands new place) in
    subst (All P) (sym moves.moved_is)
    (All-from_member P (ascending moves.to)
    (λ place has. all_member P moves.to moves.stand place (sym (member-ascending place moves.to) ∙ has)))

-- gaps that are apart are few
apart_few : (w n least : ℕ) (gaps : List ℕ) → 0 < w → AllPairs (λ gap later. gap + 2 * w ≤ later) gaps → All (λ gap. least ≤ gap) gaps → All (λ gap. gap ≤ n) gaps →
    0 < length gaps → least + 2 * length gaps ≤ n + 2
apart_few w n least [] some apart low high has = absurd (omega arith)
apart_few w n least (gap ∷ []) some apart low high has = omega (arith, low 0 0 (omega arith), high 0 0 (omega arith))
apart_few w n least (gap ∷ next ∷ gaps) some apart low high has =
    let rest : gap + 2 + 2 * length (next ∷ gaps) ≤ n + 2 =
    apart_few w n (gap + 2) (next ∷ gaps) some (λ i j d lt in'. apart (suc i) (suc j) d (omega arith) (omega arith))
    (λ k d lt. omega (arith, apart 0 (suc k) d (omega arith) (omega arith)))
    (λ k d lt. high (suc k) d (omega arith)) (omega arith) in
    omega (arith, rest, low 0 0 (omega arith))

-- so there are no more results than cells may be
pub results_few : {old : List (Option Gate)} {segments : Segments} {rules : List RowView} {results list : List WorkedView} {w : ℕ} →
    segments.omega ≡ w → 0 < w → length old ≤ MAX_GATES → AreSegments old segments → results ≡ list → AreResults old segments.jobs rules list → length results ≤ MAX_GATES
results_few {old} {segments} {rules} {results} {list} window some few are same got =
    let count : length segments.gaps.items ≡ length list = results_count old segments rules list are got in
    let long : length results ≡ length list = ap (λ (l : List WorkedView). length l) same in
    by (cases_lt 0 (length segments.gaps.items)) count long
  where
    by : (0 < length segments.gaps.items) ⊎ (length segments.gaps.items ≤ 0) → length segments.gaps.items ≡ length list → length results ≡ length list → length results ≤ MAX_GATES
    by (inl has) count long =
        let most : 0 + 2 * length segments.gaps.items ≤ length (live old) + 2 =
        apart_few segments.omega (length (live old)) 0 segments.gaps.items (omega (arith, window)) are.apart (λ k d lt. omega arith) are.inside has in
        omega (arith, most, count, long, few, length-live-le old)
    by (inr none) count long = omega arith
