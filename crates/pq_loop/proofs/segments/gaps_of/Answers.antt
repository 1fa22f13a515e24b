use Rattle.std.proofs.Common.{◌≡◌, map}
use Rattle.std.specs.List.Sorted.{IsStrictlyIncreasing}
use Rattle.std.proofs.lemmas.Result.{IfOk-weaker}
use Rattle.pq_array.specs.Cells.{rank}
use Rattle.pq_loop.proofs.Standing.{standing_inside, ranks_rise}
use Rattle.pq_loop.proofs.segments.gaps_of.Goals as goal

pub ranks_of-requires-clause-inside : goal.ranks_of-requires-clause-inside
ranks_of-requires-clause-inside c = rw c.places.ensures.places (λ k d lt. standing_inside c.args.array.now _ (c.requires k d lt))

pub returns-clause-rising : goal.returns-clause-rising
returns-clause-rising c =
    IfOk-weaker c.ranks_of.result (λ gaps. gaps.items ≡ map (rank c.args.array.now) c.places.result.now) (λ gaps. IsStrictlyIncreasing gaps.items)
    (λ gaps is. rw (is, c.places.ensures.places) (ranks_rise c.args.array.now c.args.fingers.now c.requires c.places.ensures.rising))
    c.ranks_of.ensures
