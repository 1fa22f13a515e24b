-- One answer of a round after another, the last one first.
use Rattle.std.proofs.Common.{◌≡◌, ℕ, zero, suc, ◌+◌, ◌-◌, ◌<◌, ◌≤◌, true, false, inl, inr, ◌⊎◌, Option, List, [], ◌∷◌, length, map, drop, get_or, ap, sym, subst, ◌∙◌, arith}
use Rattle.std.specs.Prelude.{All}
use Rattle.std.specs.List.{AllZip}
use Rattle.std.proofs.lemmas.Bool.{cases_Bool}
use Rattle.std.proofs.lemmas.List.{drop_all}
use Rattle.pq_gate.specs.declared.gate.Gate.{Gate}
use Rattle.pq_rules.specs.Row.{RowView, IsSound}
use Rattle.pq_array.specs.Cells.{live, rank, spliced, IsLiveRun, Replaces}
use Rattle.pq_array.proofs.Replacing.{run_from_ranks}
use Rattle.pq_finger.specs.declared.cut.Cut.{Cut}
use Rattle.pq_finger.specs.Ranks.{IsAtPlaces, LosesGates}
use Rattle.pq_oracle.specs.Outcomes.{WorkedView}
use Rattle.pq_round.specs.Results.{AreResults}
use Rattle.pq_method.specs.Round.{Work, cut_of}
use Rattle.pq_loop.specs.declared.segments.Segments.{Segments}
use Rattle.pq_loop.specs.Segments.{stands, work_at, works_of, works_in, AreOfRun, AreSegments}
use Rattle.pq_method.proofs.Joining.{Fit, work_up}
use Rattle.pq_loop.proofs.Gathered.{works_count, results_count, works_apart}
use Rattle.pq_method.proofs.Keeping.{sizes, joined_short}
use Rattle.pq_loop.proofs.Placing.{IsPut, put_none, put_same, put_better, run_still}
use Rattle.pq_loop.proofs.Lessening.{loses_gates}

-- sound rules under which the results are those of the segments
abbrev pub HasRules : List (Option Gate) → Segments → List WorkedView → Type 0
HasRules cells segments results = (rules : List RowView) × All IsSound rules × AreResults cells segments.jobs rules results

-- the answers from this ticket on are in their places
pub record IsPutFrom (old now : List (Option Gate)) (segments : Segments) (results : List WorkedView) (ticket : ℕ) : Type 0 where
  pub put : IsPut old now (drop ticket (works_in old segments results))

-- the work of a ticket, and those behind it
works_from : (w live : ℕ) (gaps : List ℕ) (results : List WorkedView) (t : ℕ) (worked : WorkedView) → t < length gaps → t < length results →
    worked ≡ get_or results t worked →
    drop t (works_of w live gaps results) ≡ work_at w live (get_or gaps t 0) worked ∷ drop (suc t) (works_of w live gaps results)
works_from w live [] results t worked lt in' is = absurd (omega arith)
works_from w live (gap ∷ gaps) [] t worked lt in' is = absurd (omega arith)
works_from w live (gap ∷ gaps) (first ∷ results) zero worked lt in' is =
    ap (λ (one : WorkedView). work_at w live gap one ∷ works_of w live gaps results) (sym is)
works_from w live (gap ∷ gaps) (first ∷ results) (suc t) worked lt in' is = works_from w live gaps results t worked (omega arith) (omega arith) is

-- what is left of works in order is in order
fit_drop : (rules : List RowView) (w : ℕ) (gates : List Gate) (least : ℕ) (works : List Work) (t : ℕ) → Fit rules w gates least works →
    (low : ℕ) × Fit rules w gates low (drop t works)
fit_drop rules w gates least works zero fit = (least, fit)
fit_drop rules w gates least [] (suc t) fit = (least, tt)
fit_drop rules w gates least (work ∷ works) (suc t) fit = fit_drop rules w gates work.to works t fit.3

-- before the first turn
pub turn_none : (cells : List (Option Gate)) (segments : Segments) (results : List WorkedView) → AreSegments cells segments →
    HasRules cells segments results → IsPutFrom cells cells segments results (length results)
turn_none cells segments results are got = record { put = subst (IsPut cells cells) (sym none) (put_none cells) }
  where
    count : length segments.gaps.items ≡ length results
    count = results_count cells segments got.0 results are got.2

    long : length (works_in cells segments results) ≡ length results
    long = works_count segments.omega (length (live cells)) segments.gaps.items results count ∙ count

    none : drop (length results) (works_in cells segments results) ≡ []
    none = drop_all (length results) (works_in cells segments results) (omega (arith, long))

module _ (old now : List (Option Gate)) (segments : Segments) (results : List WorkedView) (n : ℕ) (places : List ℕ)
    (are : AreSegments old segments) (got : HasRules old segments results) (so_far : IsPutFrom old now segments results n)
    (some : 0 < n) (most : n ≤ length results) (places_are : places ≡ get_or segments.jobs (n - 1) []) where
  count : length segments.gaps.items ≡ length results
  count = results_count old segments got.0 results are got.2

  abbrev rest : List Work
  rest = drop n (works_in old segments results)

  abbrev work : WorkedView → Work
  work worked = work_at segments.omega (length (live old)) (get_or segments.gaps.items (n - 1) 0) worked

  split : (worked : WorkedView) → worked ≡ get_or results (n - 1) worked → drop (n - 1) (works_in old segments results) ≡ work worked ∷ rest
  split worked is =
      let e : suc (n - 1) ≡ n = omega arith in
      works_from segments.omega (length (live old)) segments.gaps.items results (n - 1) worked (omega (arith, count)) (omega arith) is ∙
      ap (λ k. work worked ∷ drop k (works_in old segments results)) e

  fit : (worked : WorkedView) → worked ≡ get_or results (n - 1) worked → (low : ℕ) × Fit got.0 segments.omega (live old) low (work worked ∷ rest)
  fit worked is =
      let found = fit_drop got.0 segments.omega (live old) 0 (works_in old segments results) (n - 1) (works_apart old segments got.0 results are got.2) in
      (found.0, subst (Fit got.0 segments.omega (live old) found.0) (split worked is) found.1)

  run_of : (worked : WorkedView) → AreOfRun old (work worked).from (work worked).to places
  run_of worked = subst (AreOfRun old (work worked).from (work worked).to) (sym places_are) (are.jobs.each (n - 1) (omega (arith, count)))

  -- the places of the next ticket are those of a run
  pub turn_run : (worked : WorkedView) → worked ≡ get_or results (n - 1) worked → IsLiveRun now places
  turn_run worked is =
      let fits = fit worked is in
      run_from_ranks now (work worked).from places
      (run_still got.0 segments.omega old now fits.0 (work worked) rest fits.1 so_far.put places (run_of worked))

  -- and its gates are no more
  pub turn_short : (worked : WorkedView) → worked ≡ get_or results (n - 1) worked → length worked.answer.gates ≤ length places
  turn_short worked is =
      let fits = fit worked is in
      let up = work_up got.0 segments.omega (live old) (work worked) fits.1.2 fits.1.1 in
      omega (arith, (sizes got.0 segments.omega (live old) fits.0 (work worked) rest got.1 fits.1).short, (run_of worked).count)

  -- so they are put there where they are better
  pub turn_more : (worked : WorkedView) (new : List (Option Gate)) → worked ≡ get_or results (n - 1) worked →
      (worked.answer.improved ≡ false → new ≡ now) → (worked.answer.improved ≡ true → Replaces now new places worked.answer.gates) →
      (worked.answer.improved ≡ true →
      live new ≡ spliced (live now) (rank now (get_or places 0 0)) (rank now (get_or places 0 0) + length places) worked.answer.gates) →
      IsPutFrom old new segments results (n - 1)
  turn_more worked new is same done gates =
      record { put = subst (IsPut old new) (sym (split worked is)) (by (fit worked is) (cases_Bool worked.answer.improved)) }
    where
      by : (low : ℕ) × Fit got.0 segments.omega (live old) low (work worked ∷ rest) → (worked.answer.improved ≡ true) ⊎ (worked.answer.improved ≡ false) →
          IsPut old new (work worked ∷ rest)
      by fits (inl better) =
          put_better got.0 segments.omega old now fits.0 (work worked) rest fits.1 so_far.put places new got.1 (run_of worked) better (done better) (gates better)
      by fits (inr no_better) =
          subst (λ (cells : List (Option Gate)). IsPut old cells (work worked ∷ rest)) (sym (same no_better))
          (put_same got.0 segments.omega old now fits.0 (work worked) rest fits.1 so_far.put no_better)

module _ (old new : List (Option Gate)) (segments : Segments) (results : List WorkedView) (n : ℕ)
    (are : AreSegments old segments) (got : HasRules old segments results) (so_far : IsPutFrom old new segments results n) (none : n ≡ 0) where
  all_fit : Fit got.0 segments.omega (live old) 0 (works_in old segments results)
  all_fit = works_apart old segments got.0 results are got.2

  -- after the last turn all are put
  done : IsPut old new (works_in old segments results)
  done = subst (λ k. IsPut old new (drop k (works_in old segments results))) none so_far.put

  pub turn_shorter : length (live new) ≤ length (live old)
  turn_shorter =
      omega (
        arith,
        ap (λ (c : List Gate). length c) done.gates,
        joined_short got.0 segments.omega (live old) 0 (works_in old segments results) got.1 all_fit,
      )

  pub turn_loses : (places : List ℕ) (cuts : List Cut) →
      AllZip (IsAtPlaces (rank old) (stands old) (length (live old)) places) (map cut_of (works_in old segments results)) cuts →
      LosesGates (rank old) (rank new) (map cut_of (works_in old segments results)) cuts
  turn_loses places cuts at =
      loses_gates got.0 segments.omega old new (works_in old segments results) places all_fit done cuts at
