use Rattle.std.proofs.Common.{◌≡◌, ◌∙◌, ap, sym, List, ℕ, map}
use Rattle.std.specs.Prelude.{slice_index}
use Rattle.pq_array.specs.Cells.{rank}
use Rattle.pq_gaps.specs.Gaps.{selected}
use Rattle.pq_gaps.proofs.Selections.{selected_far}
use Rattle.pq_loop.proofs.Picking.{selected_inside, ranks_at, jobs_live}
use Rattle.pq_loop.proofs.segments.segments_of.Goals as goal
use Rattle.pq_loop.proofs.segments.segments_of.Goals.{After-as_slice-4}

-- the gaps of the selected fingers
record Picked (c : After-as_slice-4) : Type 0 where
  gaps : c.in_ok-gaps.gaps.items ≡ selected c.args.omega (map (rank c.args.array.now) c.args.fingers.now)
  same : c.as_slice-4.result.now ≡ c.in_ok-gaps.gaps.items
  at : map (slice_index (map (rank c.args.array.now) c.args.fingers.now)) c.in_ok-selected.selected.items ≡ c.in_ok-gaps.gaps.items

picked : (c : After-as_slice-4) → Picked c
picked c =
    let first : c.as_slice.result.now ≡ map (rank c.args.array.now) c.args.fingers.now = c.as_slice.ensures.value ∙ c.in_ok-all.ensures.gaps in
    let again : c.as_slice-2.result.now ≡ map (rank c.args.array.now) c.args.fingers.now = c.as_slice-2.ensures.value ∙ c.in_ok-all.ensures.gaps in
    let taken : c.in_ok-gaps.gaps.items ≡ map (slice_index (map (rank c.args.array.now) c.args.fingers.now)) c.in_ok-selected.selected.items =
    c.in_ok-gaps.ensures ∙
    (ap (λ (r : List ℕ). map (slice_index r) c.as_slice-3.result.now) again ∙
    ap (λ (l : List ℕ). map (slice_index (map (rank c.args.array.now) c.args.fingers.now)) l) c.as_slice-3.ensures) in
    record {
      gaps = taken ∙ rw first at c.in_ok-selected.ensures.selected;
      same = c.as_slice-4.ensures.value;
      at = sym taken;
    }

pub jobs_of-requires-clause-apart : goal.jobs_of-requires-clause-apart
jobs_of-requires-clause-apart c =
    let p = picked (goal.at.jobs_of-requires-clause-apart c).After-as_slice-4 in
    rw (p.same, p.gaps) (selected_far c.args.omega (map (rank c.args.array.now) c.args.fingers.now))

pub jobs_of-requires-clause-inside : goal.jobs_of-requires-clause-inside
jobs_of-requires-clause-inside c =
    let p = picked (goal.at.jobs_of-requires-clause-inside c).After-as_slice-4 in
    rw (p.same, p.gaps) (selected_inside c.args.array.now c.args.omega c.args.fingers.now)

pub returns-clause-segments : goal.returns-clause-segments
returns-clause-segments c =
    let p = picked (goal.at.returns-clause-segments c).After-as_slice-4 in
    record {
      apart = rw p.gaps (selected_far c.args.omega (map (rank c.args.array.now) c.args.fingers.now));
      inside = rw p.gaps (selected_inside c.args.array.now c.args.omega c.args.fingers.now);
      jobs = rw (sym p.same) c.in_ok-jobs.ensures;
    }

pub returns-clause-fingers : goal.returns-clause-fingers
returns-clause-fingers c =
    let p = picked (goal.at.returns-clause-fingers c).After-as_slice-4 in
    record {
      gaps = p.gaps;
      in_range = c.in_ok-selected.ensures.in_range;
      fingers = ranks_at c.args.array.now c.args.fingers.now c.in_ok-selected.selected.items c.in_ok-selected.ensures.in_range ∙ p.at;
    }

pub returns-clause-live : goal.returns-clause-live
returns-clause-live c = jobs_live c.args.array.now c.args.omega c.as_slice-4.result.now c.in_ok-jobs.jobs c.in_ok-jobs.ensures
