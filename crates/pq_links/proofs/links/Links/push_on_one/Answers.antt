use Rattle.std.proofs.Common.{◌≡◌, List, ap, ◌∙◌, arith, subst}
use Rattle.pq_links.specs.declared.links.Head.{Head}
use Rattle.pq_links.specs.Links.{LinksView}
use Rattle.pq_links.specs.Leading.{IsSpot}
use Rattle.pq_links.proofs.Buckets.{spot_known}
use Rattle.pq_links.proofs.links.Links.push_on_one.Goals as goal

pub append_on_one-requires-clause-end : goal.append_on_one-requires-clause-end
append_on_one-requires-clause-end c =
    let heads : c.as_slice.result.now ≡ c.args.self.now.heads = c.as_slice.ensures.value ∙ ap (λ (v : LinksView). v.heads) c.self.view_is in
    spot_known c.args.gates.now c.args.self.now c.spot_in-spot.result c.requires.linked (omega (arith, ap (λ (v : LinksView). v.room) c.self.view_is))
    (subst (λ (hs : List Head). IsSpot hs c.spot_in-spot.result) heads c.spot_in-spot.ensures.is) (c.is_end.ensures c.if-is_end.true)
