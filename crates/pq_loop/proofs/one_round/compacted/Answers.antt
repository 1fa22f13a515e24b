use Rattle.std.proofs.Common.{arith}
use Rattle.pq_array.proofs.Ranks.{length-live-le}
use Rattle.pq_loop.proofs.one_round.compacted.Goals as goal

pub overflow_mul-live : goal.overflow_mul-live
overflow_mul-live c = omega (arith, c.live.ensures, length-live-le c.args.array, c.requires.few)
