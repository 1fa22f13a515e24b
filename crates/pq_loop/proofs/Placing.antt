-- What is kept while the answers of a round are put in their places, the last one first.
use Rattle.std.proofs.Common.{◌≡◌, ℕ, zero, suc, ◌+◌, ◌-◌, ◌<◌, ◌≤◌, true, false, inl, inr, ◌⊎◌, Option, List, [], ◌∷◌, length, map, take, drop, get_or, refl, ap, sym, subst, ◌∙◌, arith}
use Rattle.std.specs.Prelude.{All}
use Rattle.std.proofs.lemmas.List.Elements.{All-nil, All-cons, All-head, All-tail}
use Rattle.pq_gate.specs.declared.gate.Gate.{Gate}
use Rattle.pq_rules.specs.Row.{RowView, IsSound}
use Rattle.pq_match.specs.Redex.{HasNoRedex}
use Rattle.pq_array.specs.Cells.{live, rank, spliced, IsLive, Replaces}
use Rattle.pq_array.proofs.Ranks.{live_or_not, rank-suc_live, rank-suc_dead}
use Rattle.pq_array.proofs.Replacing.{RunAt}
use Rattle.pq_gaps.specs.Gaps.{lost_before}
use Rattle.pq_oracle.proofs.Answering.{improved}
use Rattle.pq_method.specs.Round.{Work, cut_of, joined, run}
use Rattle.pq_loop.specs.Segments.{AreOfRun}
use Rattle.pq_method.proofs.Joining.{Fit, work_up}
use Rattle.pq_method.proofs.Keeping.{Sizes, sizes, joined_as_before, lost_none, lost_fits, all_lost, none_lost}
use Rattle.pq_loop.proofs.Ranking.{rank_before, rank_behind}
use Rattle.pq_method.proofs.Redexes.{none_of_none}

-- no improved segment of the work stands between these gaps
abbrev pub IsApart : ℕ → ℕ → Work → Type 0
IsApart gap later work = work.answer.improved ≡ true → (work.to ≤ gap) ⊎ (later ≤ work.from)

-- The answers of these works are in their places: the gates are joined, and the ranks of places that stand
-- strictly inside no improved segment fall by what was lost before them.
pub record IsPut (old now : List (Option Gate)) (works : List Work) : Type 0 where
  pub size : length now ≡ length old
  pub gates : live now ≡ joined (live old) works
  pub ranks : (p : ℕ) → All (IsApart (rank old p) (rank old p)) works → rank now p + lost_before (map cut_of works) (rank old p) ≡ rank old p

-- a gap up to the first segment stands inside none
pub apart_before : (rules : List RowView) (w : ℕ) (gates : List Gate) (least y : ℕ) (works : List Work) → Fit rules w gates least works →
    y ≤ least → All (IsApart y y) works
apart_before rules w gates least y [] fit le = All-nil (IsApart y y)
apart_before rules w gates least y (work ∷ works) fit le =
    let up = work_up rules w gates work fit.2 fit.1 in
    All-cons (IsApart y y) work works (λ better. inr (omega (arith, fit.0)))
    (apart_before rules w gates work.to y works fit.3 (omega (arith, up.0, up.1, fit.0)))

-- before the last answer nothing is put
pub put_none : (cells : List (Option Gate)) → IsPut cells cells []
put_none cells = record { size = refl; gates = refl; ranks = λ p apart. omega arith }

module _ (rules : List RowView) (w : ℕ) (old now : List (Option Gate)) (least : ℕ) (work : Work) (works : List Work)
    (fit : Fit rules w (live old) least (work ∷ works)) (put : IsPut old now works) where
  -- the finger stands in its segment
  up : (work.from ≤ work.finger) × (work.finger ≤ work.to) × (work.to ≤ length (live old))
  up = work_up rules w (live old) work fit.2 fit.1

  -- an answer that isn't better needs no put
  pub put_same : work.answer.improved ≡ false → IsPut old now (work ∷ works)
  put_same same = record {
    size = put.size;
    gates = put.gates ∙ sym (joined_as_before rules w (live old) least work works fit same);
    ranks = λ p apart. omega (
      arith,
      put.ranks p (All-tail (IsApart (rank old p) (rank old p)) work works apart),
      none_lost work.answer.improved work.to (rank old p) (work.to - work.from - length work.answer.gates) same,
    );
  }

  -- a place up to the segment's end has its old rank
  rank_still : (p : ℕ) → rank old p ≤ work.to → rank now p ≡ rank old p
  rank_still p le =
      omega (
        arith,
        put.ranks p (apart_before rules w (live old) work.to (rank old p) works fit.3 le),
        lost_none rules w (live old) work.to (rank old p) works fit.3 le,
      )

  -- and is live if it was
  live_still : (p : ℕ) → IsLive old p → rank old p < work.to → IsLive now p
  live_still p here lt = by (live_or_not now p)
    where
      by : IsLive now p ⊎ (IsLive now p → ⊥) → IsLive now p
      by (inl is) = is
      by (inr dead) =
          let more : rank old (suc p) ≡ rank old p + 1 = rank-suc_live old p here in
          absurd (omega (arith, more, rank_still p (omega arith), rank_still (suc p) (omega (arith, more)), rank-suc_dead now p dead))

  -- so the places of its run are still those of the run
  pub run_still : (places : List ℕ) → AreOfRun old work.from work.to places → RunAt now work.from places
  run_still places are i lt =
      let at : rank old (get_or places i 0) ≡ work.from + i = are.ranks i lt in (
        live_still (get_or places i 0) (are.live i lt) (omega (arith, at, are.count)),
        omega (arith, at, are.count, rank_still (get_or places i 0) (omega (arith, at, are.count))),
      )

  -- a segment with a better answer has gates
  pub run_some : (places : List ℕ) → AreOfRun old work.from work.to places → work.answer.improved ≡ true → 0 < length places
  run_some places are better = by (length places) refl
    where
      by : (n : ℕ) → length places ≡ n → 0 < length places
      by (suc n) is = omega (arith, is)
      by zero is =
          let none : work.to - work.from ≡ 0 = omega (arith, is, are.count) in
          let empty : run (live old) work.from work.to ≡ [] = ap (λ n. take n (drop work.from (live old))) none in
          let free : HasNoRedex rules (run (live old) work.from work.to) = subst (HasNoRedex rules) (sym empty) (none_of_none rules) in
          let same : work.answer.improved ≡ false = (improved rules (run (live old) work.from work.to) work.answer fit.2.oracle).1 free in
          cc

  -- a better answer in the places of its run
  pub put_better : (places : List ℕ) (new : List (Option Gate)) → All IsSound rules → AreOfRun old work.from work.to places →
      work.answer.improved ≡ true → Replaces now new places work.answer.gates →
      live new ≡ spliced (live now) (rank now (get_or places 0 0)) (rank now (get_or places 0 0) + length places) work.answer.gates →
      IsPut old new (work ∷ works)
  put_better places new sound are better done gates = record {
    size = done.size ∙ put.size;
    gates = gates ∙ (λ i. spliced (put.gates i) (first i) (end i) work.answer.gates);
    ranks = λ p apart. ranks p apart;
  }
    where
      size : Sizes (live old) work works
      size = sizes rules w (live old) least work works sound fit

      at : RunAt now work.from places
      at = run_still places are

      short : length work.answer.gates ≤ length places
      short = omega (arith, size.short, are.count)

      first : rank now (get_or places 0 0) ≡ work.from
      first = omega (arith, (at 0 (run_some places are better)).1)

      end : rank now (get_or places 0 0) + length places ≡ work.to
      end = omega (arith, first, are.count, up.0, up.1)

      ranks : (p : ℕ) → All (IsApart (rank old p) (rank old p)) (work ∷ works) →
          rank new p + lost_before (map cut_of (work ∷ works)) (rank old p) ≡ rank old p
      ranks p apart = by (All-head (IsApart (rank old p) (rank old p)) work works apart better)
        where
          by : (work.to ≤ rank old p) ⊎ (rank old p ≤ work.from) → rank new p + lost_before (map cut_of (work ∷ works)) (rank old p) ≡ rank old p
          by (inl high) =
              let rest : rank now p + lost_before (map cut_of works) (rank old p) ≡ rank old p =
              put.ranks p (All-tail (IsApart (rank old p) (rank old p)) work works apart) in
              let fits : lost_before (map cut_of works) (rank old p) + work.to ≤ rank old p = lost_fits rules w (live old) work.to (rank old p) works fit.3 high in
              omega (
                arith,
                rest,
                rank_behind now new work.from p places work.answer.gates at short done (omega (arith, rest, fits, end, first)),
                all_lost work.answer.improved work.to (rank old p) (work.to - work.from - length work.answer.gates) better high,
                are.count,
              )
          by (inr low) =
              let still : rank now p ≡ rank old p = rank_still p (omega (arith, low, up.0, up.1)) in
              omega (
                arith,
                still,
                rank_before now new work.from p places work.answer.gates at short done (omega (arith, still, low)),
                lost_none rules w (live old) work.from (rank old p) (work ∷ works) (omega arith, fit.1, fit.2, fit.3) low,
              )
