use Rattle.std.proofs.Common.{◌∙◌, arith, get_or, length}
use Rattle.std.specs.List.Sorted.{IsStrictlyIncreasing}
use Rattle.pq_array.specs.Cells.{live}
use Rattle.pq_array.proofs.Ranks.{length-live-le}
use Rattle.pq_gaps.specs.Gaps.{segment_from, segment_to}
use Rattle.pq_loop.specs.Segments.{AreOfRun}
use Rattle.pq_loop.proofs.Making.{behind_jobs, jobs_more, gaps_far}
use Rattle.pq_loop.proofs.segments.jobs_of.Goals as goal
use Rattle.pq_loop.proofs.segments.jobs_of.Goals.{After-as_slice}

pub segment-from-requires-clause-few : goal.segment-from-requires-clause-few
segment-from-requires-clause-few c = omega (arith, c.live.ensures, length-live-le c.args.array.now)

-- the places that were put are those of the gap's segment, and rise
record Put (c : After-as_slice) : Type 0 where
  are : AreOfRun c.args.array.now (segment_from c.args.omega (get_or c.args.gaps.now c.loop-gap.gap-index 0))
      (segment_to c.args.omega (length (live c.args.array.now)) (get_or c.args.gaps.now c.loop-gap.gap-index 0)) c.as_slice.result.now
  up : IsStrictlyIncreasing c.as_slice.result.now

put : (c : After-as_slice) → Put c
put c = record {
  are = rw (c.as_slice.ensures.value, ← c.segment-from.ensures.from, ← c.live.ensures, ← c.segment-from.ensures.to) c.put_places.ensures.places;
  up = rw c.as_slice.ensures.value c.put_places.ensures.rising;
}

pub add-requires-clause-rising : goal.add-requires-clause-rising
add-requires-clause-rising c = (put c).up

pub add-requires-clause-behind : goal.add-requires-clause-behind
add-requires-clause-behind c =
    behind_jobs c.args.array.now c.args.omega c.args.gaps.now c.loop-gap.gap-index _ c.loop-gap.jobs c.as_slice.result.now c.loop-gap-test.true
    c.loop-gap.invariant.jobs (put c).are

pub add-requires-clause-few : goal.add-requires-clause-few
add-requires-clause-few c =
    omega (
      arith,
      c.loop-gap.invariant.jobs.count,
      gaps_far c.args.omega c.args.gaps.now c.loop-gap.gap-index c.requires.omega.least c.requires.apart c.loop-gap-test.true,
      c.requires.inside c.loop-gap.gap-index 0 c.loop-gap-test.true,
      length-live-le c.args.array.now,
    )

pub loop-gap-preserved : goal.loop-gap-preserved
loop-gap-preserved c = record {
  jobs =
      let made = put (goal.at.loop-gap-preserved c).After-as_slice in
      rw c.in_ok-add.ensures.added
      (jobs_more c.args.array.now c.args.omega c.args.gaps.now c.loop-gap.gap-index c.loop-gap.jobs c.as_slice.result.now c.loop-gap-test.true
      c.requires.apart c.loop-gap.invariant.jobs made.are made.up);
  capacity = c.put_places.ensures.capacity ∙ c.loop-gap.invariant.capacity;
}
