use Rattle.std.proofs.Common.{arith}
use Rattle.pq_match.proofs.RankedRedexes.{last_is_at}
use Rattle.pq_match.proofs.RunsAround.{run_is}
use Rattle.pq_match.proofs.runs.run_around.Goals as goal

pub returns-then-count-end : goal.returns-then-count-end
returns-then-count-end c =
    run_is c.args.slots.now c.args.places.now c.args.count c.run_start-start.result c.run_end-end.result _ c.requires.some (last_is_at c.args.places.now c.requires.some)
    c.run_start-start.ensures.from c.run_start-start.ensures.upto c.run_end-end.ensures.behind c.run_end-end.ensures.inside (omega arith) c.run_end-end.ensures.free
    c.run_start-start.ensures.spare
