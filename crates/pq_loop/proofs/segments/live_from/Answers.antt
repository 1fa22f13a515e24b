use Rattle.pq_loop.proofs.Nexts.{next_some, next_rank}
use Rattle.pq_loop.proofs.segments.live_from.Goals as goal

pub unwrap-requires : goal.unwrap-requires
unwrap-requires c = next_some c.args.array.now c.args.place c.next_live.result c.requires c.next_live.ensures.none

pub returns-clause-rank : goal.returns-clause-rank
returns-clause-rank c = next_rank c.args.array.now c.args.place c.unwrap.result (rw c.unwrap.ensures at c.next_live.ensures.after) (rw c.unwrap.ensures at c.next_live.ensures.least)
