use Rattle.std.proofs.Common.{arith}
use Rattle.pq_array.proofs.Ranks.{length-live-le}
use Rattle.pq_loop.proofs.segments.cut_at.Goals as goal

pub segment-from-requires-clause-few : goal.segment-from-requires-clause-few
segment-from-requires-clause-few c = omega (arith, c.live-live.ensures, length-live-le c.args.array.now)
