use Rattle.std.proofs.Common.{arith, ap}
use Rattle.pq_links.specs.Links.{LinksView}
use Rattle.pq_links.proofs.Buckets.{spot_known}
use Rattle.pq_links.proofs.links.Links.last_on.Goals as goal

pub returns-then-is_end : goal.returns-then-is_end
returns-then-is_end c =
    spot_known c.args.gates.now c.args.self.now c.args.spot c.requires.linked (omega (arith, ap (λ (v : LinksView). v.room) c.self.view_is)) c.requires.spot (c.is_end.ensures c.if-is_end.true)
