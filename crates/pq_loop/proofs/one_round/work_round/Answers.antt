use Rattle.std.proofs.Common.{arith, ◌≡◌, ◌∙◌, Option, List, ℕ, length, map, sym, ap, ap₂, subst}
use Rattle.std.specs.List.{AllZip}
use Rattle.pq_gate.specs.declared.gate.Gate.{Gate}
use Rattle.pq_array.specs.Cells.{live, rank}
use Rattle.pq_finger.specs.declared.cut.Cut.{Cut}
use Rattle.pq_finger.specs.Ranks.{IsAtPlaces, LosesGates}
use Rattle.pq_oracle.specs.Outcomes.{WorkedView}
use Rattle.pq_method.specs.Round.{cut_of, joined}
use Rattle.pq_round.specs.Results.{AreResults, all_given_up}
use Rattle.pq_loop.specs.Segments.{stands, works_in}
use Rattle.pq_loop.proofs.Assembling.{found_told, count_found, cuts_in_order, settled_inside, round_is, moved_stand, results_few}
use Rattle.pq_loop.proofs.Rejoining.{tree_after, round_receipt}
use Rattle.pq_loop.proofs.one_round.work_round.Goals as goal

pub cuts_of-cuts-requires : goal.cuts_of-cuts-requires
cuts_of-cuts-requires g c =
    let got = subst (λ (cells : List (Option Gate)). AreResults cells c.in_ok-segments.segments.jobs c.args.rules.now c.in_ok-worked.worked.items) c.split_words-cells.ensures.cells c.in_ok-worked.ensures.results in
    omega (
      arith,
      c.in_ok-ends.ensures.count,
      count_found c.in_ok-segments.ensures.segments c.as_slice-results.ensures got,
    )

pub settle-requires : goal.settle-requires
settle-requires g c =
    let got = subst (λ (cells : List (Option Gate)). AreResults cells c.in_ok-segments.segments.jobs c.args.rules.now c.in_ok-worked.worked.items) c.split_words-cells.ensures.cells c.in_ok-worked.ensures.results in
    cuts_in_order c.in_ok-segments.ensures.omega (omega (arith, c.requires.omega.least))
    (found_told c.in_ok-ends.ends.items c.requires.stand c.places-places.ensures.rising c.in_ok-segments.ensures.segments c.in_ok-segments.ensures.fingers
    c.as_slice-results.ensures got c.as_slice.ensures.value c.cuts_of-cuts.ensures c.in_ok-ends.ensures.at_places)

pub rejoin-array-requires : goal.rejoin-array-requires
rejoin-array-requires g c =
    tree_after c.args.array c.split_words-cells.result.0 c.put.new.cells c.split_words-cells.result.1.items c.in_ok-worked.closed.words.items
    (all_given_up c.in_ok-segments.segments.jobs c.in_ok-worked.worked.items) (all_given_up c.in_ok-worked.closed.jobs c.as_slice-results.result.now)
    c.split_words-cells.ensures.words c.split_words-cells.ensures.cells c.put.ensures.size c.in_ok-worked.ensures.size
    (ap₂ (λ (j : List (List ℕ)) (r : List WorkedView). all_given_up j r) c.in_ok-worked.ensures.jobs c.as_slice-results.ensures)
    c.put.ensures.gone c.in_ok-worked.ensures.counts

pub step_of-step-requires : goal.step_of-step-requires
step_of-step-requires g c =
    let got = subst (λ (cells : List (Option Gate)). AreResults cells c.in_ok-segments.segments.jobs c.args.rules.now c.in_ok-worked.worked.items) c.split_words-cells.ensures.cells c.in_ok-worked.ensures.results in
    results_few c.in_ok-segments.ensures.omega (omega (arith, c.requires.omega.least)) c.requires.few c.in_ok-segments.ensures.segments
    c.as_slice-results.ensures got

pub moved_on-requires : goal.moved_on-requires
moved_on-requires g c =
    let got = subst (λ (cells : List (Option Gate)). AreResults cells c.in_ok-segments.segments.jobs c.args.rules.now c.in_ok-worked.worked.items) c.split_words-cells.ensures.cells c.in_ok-worked.ensures.results in
    settled_inside
    (found_told c.in_ok-ends.ends.items c.requires.stand c.places-places.ensures.rising c.in_ok-segments.ensures.segments c.in_ok-segments.ensures.fingers
    c.as_slice-results.ensures got c.as_slice.ensures.value c.cuts_of-cuts.ensures c.in_ok-ends.ensures.at_places)
    c.rejoin-array.result
    (ap (λ (l : List (Option Gate)). length l) c.rejoin-array.ensures ∙ (c.put.ensures.size ∙ ap (λ (l : List (Option Gate)). length l) c.split_words-cells.ensures.cells)) c.in_ok-settled.ensures

pub returns-clause-round : goal.returns-clause-round
returns-clause-round g c =
    let got = subst (λ (cells : List (Option Gate)). AreResults cells c.in_ok-segments.segments.jobs c.args.rules.now c.in_ok-worked.worked.items) c.split_words-cells.ensures.cells c.in_ok-worked.ensures.results in
    let segments = c.in_ok-segments.segments in
    let results = c.as_slice-results.result.now in
    round_is c.in_ok-segments.ensures.omega (omega (arith, c.requires.omega.least))
    (found_told c.in_ok-ends.ends.items c.requires.stand c.places-places.ensures.rising c.in_ok-segments.ensures.segments c.in_ok-segments.ensures.fingers
    c.as_slice-results.ensures got c.as_slice.ensures.value c.cuts_of-cuts.ensures c.in_ok-ends.ensures.at_places)
    (record {
      gates = ap (λ (l : List (Option Gate)). live l) c.rejoin-array.ensures
          ∙ subst (λ (o : List (Option Gate)). live c.put.new.cells ≡ joined (live o) (works_in o segments results)) c.split_words-cells.ensures.cells c.put.ensures.gates;
      loses = subst (λ (n : List (Option Gate)). (any : List ℕ) (others : List Cut) →
          AllZip (IsAtPlaces (rank c.args.array) (stands c.args.array) (length (live c.args.array)) any) (map cut_of (works_in c.args.array segments results)) others →
          LosesGates (rank c.args.array) (rank n) (map cut_of (works_in c.args.array segments results)) others) (sym c.rejoin-array.ensures)
          (subst (λ (o : List (Option Gate)). (any : List ℕ) (others : List Cut) →
          AllZip (IsAtPlaces (rank o) (stands o) (length (live o)) any) (map cut_of (works_in o segments results)) others →
          LosesGates (rank o) (rank c.put.new.cells) (map cut_of (works_in o segments results)) others) c.split_words-cells.ensures.cells c.put.ensures.loses);
      numbers = c.step_of-step.ensures.numbers;
      removed = omega (arith, c.step_of-step.ensures.removed, c.live-before.ensures, c.live.ensures);
      kept = c.in_ok-settled.settled;
      kept_is = c.in_ok-settled.ensures;
      moves = c.in_ok-fingers.ensures;
    })

pub returns-clause-stand : goal.returns-clause-stand
returns-clause-stand g c = moved_stand c.in_ok-fingers.ensures

pub returns-clause-receipt : goal.returns-clause-receipt
returns-clause-receipt g c =
    let got = subst (λ (cells : List (Option Gate)). AreResults cells c.in_ok-segments.segments.jobs c.args.rules.now c.in_ok-worked.worked.items) c.split_words-cells.ensures.cells c.in_ok-worked.ensures.results in
    round_receipt c.args.array c.put.new.cells c.rejoin-array.result c.split_words-cells.result.1.items c.in_ok-worked.closed.words.items
    c.in_ok-segments.segments.jobs c.split_words-cells.ensures.words (tree_after c.args.array c.split_words-cells.result.0 c.put.new.cells c.split_words-cells.result.1.items c.in_ok-worked.closed.words.items
    (all_given_up c.in_ok-segments.segments.jobs c.in_ok-worked.worked.items) (all_given_up c.in_ok-worked.closed.jobs c.as_slice-results.result.now)
    c.split_words-cells.ensures.words c.split_words-cells.ensures.cells c.put.ensures.size c.in_ok-worked.ensures.size
    (ap₂ (λ (j : List (List ℕ)) (r : List WorkedView). all_given_up j r) c.in_ok-worked.ensures.jobs c.as_slice-results.ensures)
    c.put.ensures.gone c.in_ok-worked.ensures.counts)
    c.rejoin-array.ensures
    (omega (
      arith,
      c.step_of-step.ensures.numbers.selected_is,
      count_found c.in_ok-segments.ensures.segments c.as_slice-results.ensures got,
      c.in_ok-segments.ensures.segments.jobs.count,
    ))
    c.in_ok-worked.ensures.receipt
