-- What a round whose answers are put in their places does to the ranks of places.
use Rattle.std.proofs.Common.{◌≡◌, ℕ, zero, suc, ◌+◌, ◌-◌, ◌<◌, ◌≤◌, true, false, inl, inr, ◌⊎◌, Option, List, [], ◌∷◌, length, map, get_or, refl, ap, sym, subst, ◌∙◌, arith}
use Rattle.std.specs.Prelude.{All}
use Rattle.std.specs.List.{AllZip}
use Rattle.std.proofs.lemmas.Bool.{cases_Bool}
use Rattle.std.proofs.lemmas.List.Elements.{All-nil, All-cons, All-head, All-tail}
use Rattle.pq_gate.specs.declared.gate.Gate.{Gate}
use Rattle.pq_rules.specs.Row.{RowView}
use Rattle.pq_array.specs.Cells.{live, rank}
use Rattle.pq_array.proofs.Ranks.{rank-le}
use Rattle.pq_finger.specs.declared.cut.Cut.{Cut}
use Rattle.pq_gaps.specs.Gaps.{GapCut, lost_before}
use Rattle.pq_finger.specs.Ranks.{IsAtPlaces, LosesGates}
use Rattle.pq_method.specs.Round.{Work, cut_of}
use Rattle.pq_loop.specs.Segments.{stands}
use Rattle.pq_method.proofs.Joining.{Fit, work_up}
use Rattle.pq_method.proofs.Keeping.{lost_none, all_lost, none_lost}
use Rattle.pq_loop.proofs.Placing.{IsApart, IsPut, apart_before}

-- the gates that the work's segment lost
abbrev lost_of : Work → ℕ
lost_of work = work.to - work.from - length work.answer.gates

-- Around the segment of one of the works.
record Edges (works : List Work) (work : Work) : Type 0 where
  from_apart : All (IsApart work.from work.from) works
  to_apart : All (IsApart work.to work.to) works
  loses : work.answer.improved ≡ true → lost_before (map cut_of works) work.to ≡ lost_of work + lost_before (map cut_of works) work.from

-- the segments stand in order
fit_low : (rules : List RowView) (w : ℕ) (gates : List Gate) (least : ℕ) (works : List Work) → Fit rules w gates least works →
    (k : ℕ) (d : Work) → k < length works → (least ≤ (get_or works k d).from) × ((get_or works k d).from ≤ (get_or works k d).to)
fit_low rules w gates least [] fit k d lt = absurd (omega arith)
fit_low rules w gates least (work ∷ works) fit zero d lt =
    let up = work_up rules w gates work fit.2 fit.1 in
    (fit.0, omega (arith, up.0, up.1))
fit_low rules w gates least (work ∷ works) fit (suc k) d lt =
    let up = work_up rules w gates work fit.2 fit.1 in
    let rest = fit_low rules w gates work.to works fit.3 k d (omega arith) in
    (omega (arith, fit.0, up.0, up.1, rest.0), rest.1)

-- a work that isn't between two gaps loses nothing between them
one_alike : (rules : List RowView) (w : ℕ) (gates : List Gate) (least : ℕ) (work : Work) (works : List Work) (a b : ℕ) →
    Fit rules w gates least (work ∷ works) → a ≤ b → IsApart a b work →
    lost_before (map cut_of works) a ≡ lost_before (map cut_of works) b →
    lost_before (map cut_of (work ∷ works)) a ≡ lost_before (map cut_of (work ∷ works)) b
one_alike rules w gates least work works a b fit le apart rest = by (cases_Bool work.answer.improved)
  where
    alone : Fit rules w gates work.from (work ∷ [])
    alone = (omega arith, fit.1, fit.2, tt)

    side : work.answer.improved ≡ true → (work.to ≤ a) ⊎ (b ≤ work.from) →
        lost_before (map cut_of (work ∷ works)) a ≡ lost_before (map cut_of (work ∷ works)) b
    side better (inl above) =
        omega (
          arith,
          rest,
          all_lost work.answer.improved work.to a (lost_of work) better above,
          all_lost work.answer.improved work.to b (lost_of work) better (omega arith),
        )
    side better (inr below) =
        omega (
          arith,
          rest,
          lost_none rules w gates work.from a (work ∷ []) alone (omega arith),
          lost_none rules w gates work.from b (work ∷ []) alone below,
        )

    by : (work.answer.improved ≡ true) ⊎ (work.answer.improved ≡ false) →
        lost_before (map cut_of (work ∷ works)) a ≡ lost_before (map cut_of (work ∷ works)) b
    by (inl better) = side better (apart better)
    by (inr same) =
        omega (
          arith,
          rest,
          none_lost work.answer.improved work.to a (lost_of work) same,
          none_lost work.answer.improved work.to b (lost_of work) same,
        )

-- between two gaps with no improved segment between them nothing is lost
lost_alike : (rules : List RowView) (w : ℕ) (gates : List Gate) (least : ℕ) (works : List Work) (a b : ℕ) → Fit rules w gates least works →
    a ≤ b → All (IsApart a b) works → lost_before (map cut_of works) a ≡ lost_before (map cut_of works) b
lost_alike rules w gates least [] a b fit le apart = refl
lost_alike rules w gates least (work ∷ works) a b fit le apart =
    one_alike rules w gates least work works a b fit le (All-head (IsApart a b) work works apart)
    (lost_alike rules w gates work.to works a b fit.3 le (All-tail (IsApart a b) work works apart))

-- and around each segment only its own gates are
edges : (rules : List RowView) (w : ℕ) (gates : List Gate) (least : ℕ) (works : List Work) → Fit rules w gates least works →
    (k : ℕ) (d : Work) → k < length works → Edges works (get_or works k d)
edges rules w gates least [] fit k d lt = absurd (omega arith)
edges rules w gates least (work ∷ works) fit zero d lt =
    let up = work_up rules w gates work fit.2 fit.1 in
    let here : Fit rules w gates work.from (work ∷ works) = (omega arith, fit.1, fit.2, fit.3) in
    record {
      from_apart = apart_before rules w gates work.from work.from (work ∷ works) here (omega arith);
      to_apart = All-cons (IsApart work.to work.to) work works (λ better. inl (omega arith)) (apart_before rules w gates work.to work.to works fit.3 (omega arith));
      loses = λ better. omega (
        arith,
        lost_none rules w gates work.from work.from (work ∷ works) here (omega arith),
        lost_none rules w gates work.to work.to works fit.3 (omega arith),
        all_lost work.answer.improved work.to work.to (lost_of work) better (omega arith),
      );
    }
edges rules w gates least (work ∷ works) fit (suc k) d lt = by (get_or works k d) (fit_low rules w gates work.to works fit.3 k d (omega arith)) (edges rules w gates work.to works fit.3 k d (omega arith))
  where
    by : (later : Work) → (work.to ≤ later.from) × (later.from ≤ later.to) → Edges works later → Edges (work ∷ works) later
    by later order rest = record {
      from_apart = All-cons (IsApart later.from later.from) work works (λ better. inl order.0) rest.from_apart;
      to_apart = All-cons (IsApart later.to later.to) work works (λ better. inl (omega (arith, order.0, order.1))) rest.to_apart;
      loses = λ better. loses better (cases_Bool work.answer.improved);
    }
      where
        loses : later.answer.improved ≡ true → (work.answer.improved ≡ true) ⊎ (work.answer.improved ≡ false) →
            lost_before (map cut_of (work ∷ works)) later.to ≡ lost_of later + lost_before (map cut_of (work ∷ works)) later.from
        loses better (inl also) =
            omega (
              arith,
              rest.loses better,
              all_lost work.answer.improved work.to later.to (lost_of work) also (omega (arith, order.0, order.1)),
              all_lost work.answer.improved work.to later.from (lost_of work) also order.0,
            )
        loses better (inr same) =
            omega (
              arith,
              rest.loses better,
              none_lost work.answer.improved work.to later.to (lost_of work) same,
              none_lost work.answer.improved work.to later.from (lost_of work) same,
            )

module _ (rules : List RowView) (w : ℕ) (old new : List (Option Gate)) (all : List Work) (places : List ℕ)
    (fit : Fit rules w (live old) 0 all) (put : IsPut old new all) where
  -- no improved segment between two places
  apart_from : (works : List Work) (cuts : List Cut) (place later : ℕ) → AllZip (IsAtPlaces (rank old) (stands old) (length (live old)) places) (map cut_of works) cuts →
      All (λ (cut : Cut). cut.improved ≡ true → (cut.to ≤ place) ⊎ (later ≤ cut.from)) cuts → All (IsApart (rank old place) (rank old later)) works
  apart_from [] cuts place later at apart = All-nil (IsApart (rank old place) (rank old later))
  apart_from (work ∷ works) [] place later at apart = absurd at
  apart_from (work ∷ works) (cut ∷ cuts) place later at apart =
      All-cons (IsApart (rank old place) (rank old later)) work works
      (λ better. by (All-head P cut cuts apart (at.0.improved ∙ better)))
      (apart_from works cuts place later at.1 (All-tail P cut cuts apart))
    where
      P : Cut → Type 0
      P cut = cut.improved ≡ true → (cut.to ≤ place) ⊎ (later ≤ cut.from)

      by : (cut.to ≤ place) ⊎ (later ≤ cut.from) → (work.to ≤ rank old place) ⊎ (rank old later ≤ work.from)
      by (inl le) = inl (omega (arith, at.0.to, rank-le old cut.to place le))
      by (inr le) = inr (omega (arith, at.0.from, rank-le old later cut.from le))

  -- where there is none between two gaps, neither gap stands inside one
  apart_left : (a b : ℕ) → a ≤ b → All (IsApart a b) all → All (IsApart a a) all
  apart_left a b le apart = λ k d lt better. by (get_or all k d) (apart k d lt better)
    where
      by : (work : Work) → (work.to ≤ a) ⊎ (b ≤ work.from) → (work.to ≤ a) ⊎ (a ≤ work.from)
      by work (inl above) = inl above
      by work (inr below) = inr (omega arith)

  apart_right : (a b : ℕ) → a ≤ b → All (IsApart a b) all → All (IsApart b b) all
  apart_right a b le apart = λ k d lt better. by (get_or all k d) (apart k d lt better)
    where
      by : (work : Work) → (work.to ≤ a) ⊎ (b ≤ work.from) → (work.to ≤ b) ⊎ (b ≤ work.from)
      by work (inl above) = inl (omega arith)
      by work (inr below) = inr below

  -- so there are as many live cells between them as before
  outside : (place later : ℕ) → place ≤ later → All (IsApart (rank old place) (rank old later)) all →
      rank new later + rank old place ≡ rank new place + rank old later
  outside place later le apart =
      let up : rank old place ≤ rank old later = rank-le old place later le in
      omega (
        arith,
        put.ranks place (apart_left (rank old place) (rank old later) up apart),
        put.ranks later (apart_right (rank old place) (rank old later) up apart),
        lost_alike rules w (live old) 0 all (rank old place) (rank old later) fit up apart,
      )

  -- and between the ends of a segment so many fewer as it lost
  inside : (from to : ℕ) (work : Work) → Edges all work → rank old from ≡ work.from → rank old to ≡ work.to → work.answer.improved ≡ true →
      rank new to + lost_of work + rank old from ≡ rank new from + rank old to
  inside from to work edge from_is to_is better =
      let P : ℕ → Type 0 = λ gap. All (IsApart gap gap) all in
      let low : rank new from + lost_before (map cut_of all) (rank old from) ≡ rank old from = put.ranks from (subst P (sym from_is) edge.from_apart) in
      let high : rank new to + lost_before (map cut_of all) (rank old to) ≡ rank old to = put.ranks to (subst P (sym to_is) edge.to_apart) in
      let low_is : lost_before (map cut_of all) (rank old from) ≡ lost_before (map cut_of all) work.from = ap (lost_before (map cut_of all)) from_is in
      let high_is : lost_before (map cut_of all) (rank old to) ≡ lost_before (map cut_of all) work.to = ap (lost_before (map cut_of all)) to_is in
      omega (arith, low, high, low_is, high_is, edge.loses better)

  -- around all segments, one after another
  all_inside : (works : List Work) (cuts : List Cut) → ((k : ℕ) (d : Work) → k < length works → Edges all (get_or works k d)) →
      AllZip (IsAtPlaces (rank old) (stands old) (length (live old)) places) (map cut_of works) cuts →
      AllZip (λ (gap : GapCut) (cut : Cut). cut.improved ≡ true → rank new cut.to + gap.lost + rank old cut.from ≡ rank new cut.from + rank old cut.to) (map cut_of works) cuts
  all_inside [] [] each at = tt
  all_inside [] (cut ∷ cuts) each at = absurd at
  all_inside (work ∷ works) [] each at = absurd at
  all_inside (work ∷ works) (cut ∷ cuts) each at = (
    λ better. inside cut.from cut.to work (each 0 work (omega arith)) at.0.from at.0.to (sym at.0.improved ∙ better),
    all_inside works cuts (λ k d lt. each (suc k) d (omega arith)) at.1,
  )

  -- what the round does to the ranks
  pub loses_gates : (cuts : List Cut) → AllZip (IsAtPlaces (rank old) (stands old) (length (live old)) places) (map cut_of all) cuts →
      LosesGates (rank old) (rank new) (map cut_of all) cuts
  loses_gates cuts at = record {
    start = refl;
    outside = λ place later le apart. outside place later le (apart_from all cuts place later at apart);
    inside = all_inside all cuts (edges rules w (live old) 0 all fit) at;
  }
