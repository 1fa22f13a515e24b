use Rattle.pq_finger.proofs.Edges.{put_edges, up_to_to_then, increasing_then}
use Rattle.pq_finger.proofs.settling.put_boundaries.Goals as goal

pub put_if-requires-2-clause-rising : goal.put_if-requires-2-clause-rising
put_if-requires-2-clause-rising c = rw c.put_if.ensures.put (increasing_then c.keeps_from.result _ _ c.requires.rising)

pub put_if-requires-2-clause-up_to : goal.put_if-requires-2-clause-up_to
put_if-requires-2-clause-up_to c wanted =
    rw c.put_if.ensures.put (up_to_to_then c.keeps_from.result c.args.cut.now _ c.requires.not_turned c.requires.ahead)

pub returns-clause-put : goal.returns-clause-put
returns-clause-put c =
    rw (c.put_if-2.ensures.put, c.put_if.ensures.put, ← c.keeps_from.ensures, ← c.keeps_to.ensures)
    (put_edges c.keeps_from.result c.keeps_to.result c.args.cut.now.from c.args.cut.now.to _ c.requires.rising)
