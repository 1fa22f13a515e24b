-- The gates at the places of a run, and the works of a round's segments.
use Rattle.std.proofs.Common.{◌≡◌, ℕ, suc, ◌<◌, ◌≤◌, Option, Some, None, List, [], ◌∷◌, length, map, take, drop, get_or, slice_get, refl, ap, sym, subst, ◌∙◌, arith}
use Rattle.std.specs.Prelude.{All, AllPairs}
use Rattle.std.proofs.Math.Seq.{drop-cons}
use Rattle.std.proofs.lemmas.Option.{slice_get-get_or, slice_get_within}
use Rattle.std.proofs.lemmas.List.Elements.{All-nil, All-cons}
use Rattle.pq_gate.specs.declared.gate.Gate.{Gate}
use Rattle.pq_rules.specs.Row.{RowView}
use Rattle.pq_array.specs.Cells.{live, rank, IsLive}
use Rattle.pq_array.proofs.Ranks.{get_live}
use Rattle.pq_array.proofs.Replacing.{RunAt}
use Rattle.pq_gaps.specs.Gaps.{segment_from, segment_to}
use Rattle.pq_oracle.specs.Ora.{Ora}
use Rattle.pq_oracle.specs.Outcomes.{WorkedView}
use Rattle.pq_round.specs.Results.{gates_at, AreResults}
use Rattle.pq_method.specs.Round.{Work, IsWorkOf, run}
use Rattle.pq_loop.specs.declared.segments.Segments.{Segments}
use Rattle.pq_loop.specs.Segments.{AreOfRun, AreSegments, works_of, works_in}
use Rattle.pq_method.proofs.Joining.{Fit, fit_from}

-- the places of a run are those of the live gates from its first number on
pub run_at : (cells : List (Option Gate)) (from to : ℕ) (places : List ℕ) → AreOfRun cells from to places → RunAt cells from places
run_at cells from to places are i lt = (are.live i lt, are.ranks i lt)

-- the gates at live places whose ranks follow one another
gates_from : (cells : List (Option Gate)) (first : ℕ) (places : List ℕ) → RunAt cells first places →
    gates_at cells places ≡ take (length places) (drop first (live cells))
gates_from cells first [] at = refl
gates_from cells first (place ∷ places) at =
    by (get_or cells place None) refl (gates_from cells (suc first) places (λ i lt. ((at (suc i) (omega arith)).0, omega (arith, (at (suc i) (omega arith)).1))))
  where
    here : IsLive cells place
    here = (at 0 (omega arith)).0

    number : rank cells place ≡ first
    number = omega (arith, (at 0 (omega arith)).1)

    by : (cell : Option Gate) → get_or cells place None ≡ cell → gates_at cells places ≡ take (length places) (drop (suc first) (live cells)) →
        gates_at cells (place ∷ places) ≡ take (length (place ∷ places)) (drop first (live cells))
    by None is rest = let none = rw is at here in cc
    by (Some gate) is rest =
        let got : slice_get (live cells) first ≡ Some gate = ap (slice_get (live cells)) (sym number) ∙ (get_live cells place here ∙ is) in
        let in' : first < length (live cells) = slice_get_within (live cells) first gate got in
        let item : get_or (live cells) first gate ≡ gate = cc (slice_get-get_or (live cells) first gate in') in
        rw (is, drop-cons (live cells) first gate in', item) (ap (λ (g : List Gate). gate ∷ g) rest)

-- the gates at the places of a run are the run
pub gates_of_run : (cells : List (Option Gate)) (from to : ℕ) (places : List ℕ) → AreOfRun cells from to places →
    gates_at cells places ≡ run (live cells) from to
gates_of_run cells from to places are =
    gates_from cells from places (run_at cells from to places are) ∙ ap (λ n. take n (drop from (live cells))) are.count

-- the fingers of works are their gaps
pub works_fingers : (w live : ℕ) (gaps : List ℕ) (results : List WorkedView) → length gaps ≡ length results →
    map (λ (work : Work). work.finger) (works_of w live gaps results) ≡ gaps
works_fingers w live [] results same = refl
works_fingers w live (gap ∷ gaps) [] same = absurd (omega arith)
works_fingers w live (gap ∷ gaps) (worked ∷ results) same =
    ap (λ (g : List ℕ). gap ∷ g) (works_fingers w live gaps results (omega arith))

-- there are as many works as gaps
pub works_count : (w live : ℕ) (gaps : List ℕ) (results : List WorkedView) → length gaps ≡ length results →
    length (works_of w live gaps results) ≡ length gaps
works_count w live [] results same = refl
works_count w live (gap ∷ gaps) [] same = absurd (omega arith)
works_count w live (gap ∷ gaps) (worked ∷ results) same = omega (arith, works_count w live gaps results (omega arith))

-- where each result is the oracle's answer to the segment of its gap
works_each : (rules : List RowView) (w : ℕ) (gates : List Gate) (gaps : List ℕ) (results : List WorkedView) →
    ((k : ℕ) (d : WorkedView) → k < length gaps → k < length results →
    Ora rules (run gates (segment_from w (get_or gaps k 0)) (segment_to w (length gates) (get_or gaps k 0))) (get_or results k d).answer) →
    All (IsWorkOf rules w gates) (works_of w (length gates) gaps results)
works_each rules w gates [] results each = All-nil (IsWorkOf rules w gates)
works_each rules w gates (gap ∷ gaps) [] each = All-nil (IsWorkOf rules w gates)
works_each rules w gates (gap ∷ gaps) (worked ∷ results) each =
    All-cons (IsWorkOf rules w gates) _ (works_of w (length gates) gaps results)
    (record { begins = refl; ends = refl; oracle = each 0 worked (omega arith) (omega arith) })
    (works_each rules w gates gaps results (λ k d lt in'. each (suc k) d (omega arith) (omega arith)))

-- one result for each gap
pub results_count : (cells : List (Option Gate)) (segments : Segments) (rules : List RowView) (results : List WorkedView) →
    AreSegments cells segments → AreResults cells segments.jobs rules results → length segments.gaps.items ≡ length results
results_count cells segments rules results are got = omega (arith, are.jobs.count, got.count)

-- the results of a round's jobs are those of its segments
pub works_fit : (cells : List (Option Gate)) (segments : Segments) (rules : List RowView) (results : List WorkedView) →
    AreSegments cells segments → AreResults cells segments.jobs rules results →
    All (IsWorkOf rules segments.omega (live cells)) (works_in cells segments results)
works_fit cells segments rules results are got =
    works_each rules segments.omega (live cells) segments.gaps.items results oracle
  where
    oracle : (k : ℕ) (d : WorkedView) → k < length segments.gaps.items → k < length results →
        Ora rules (run (live cells) (segment_from segments.omega (get_or segments.gaps.items k 0)) (segment_to segments.omega (length (live cells)) (get_or segments.gaps.items k 0))) (get_or results k d).answer
    oracle k d lt in' =
        let P : List Gate → Type 0 = λ g. Ora rules g (get_or results k d).answer in
        subst P (gates_of_run cells _ _ (get_or segments.jobs k []) (are.jobs.each k lt)) (got.each k d (omega (arith, are.jobs.count))).oracle

-- the fingers of the works of a round's segments are the segments' gaps
pub works_gaps : (cells : List (Option Gate)) (segments : Segments) (rules : List RowView) (results : List WorkedView) →
    AreSegments cells segments → AreResults cells segments.jobs rules results →
    map (λ (work : Work). work.finger) (works_in cells segments results) ≡ segments.gaps.items
works_gaps cells segments rules results are got =
    works_fingers segments.omega (length (live cells)) segments.gaps.items results (results_count cells segments rules results are got)

-- so the works stand in order and apart
pub works_apart : (cells : List (Option Gate)) (segments : Segments) (rules : List RowView) (results : List WorkedView) →
    AreSegments cells segments → AreResults cells segments.jobs rules results →
    Fit rules segments.omega (live cells) 0 (works_in cells segments results)
works_apart cells segments rules results are got =
    let fingers = works_gaps cells segments rules results are got in
    let R : ℕ → ℕ → Type 0 = λ gap later. segment_to segments.omega (length (live cells)) gap ≤ segment_from segments.omega later in
    let apart : AllPairs R segments.gaps.items = λ i j d lt in'. omega (arith, are.apart i j d lt in') in
    fit_from rules segments.omega (live cells) 0 (works_in cells segments results) (works_fit cells segments rules results are got)
    (subst (All (λ finger. finger ≤ length (live cells))) (sym fingers) are.inside)
    (λ k d lt. omega arith)
    (subst (AllPairs R) (sym fingers) apart)
