use Rattle.std.proofs.Common.{◌≡◌, List, ap, ◌∙◌, arith, subst}
use Rattle.std.proofs.lemmas.Bool.Decides.{nat_tests}
use Rattle.pq_links.specs.declared.links.Head.{Head}
use Rattle.pq_links.specs.Links.{LinksView}
use Rattle.pq_links.specs.Leading.{IsSpot}
use Rattle.pq_links.proofs.Buckets.{spot_known}
use Rattle.pq_links.proofs.links.Links.push_on_two.Goals as goal

pub append_on_two-requires-clause-end : goal.append_on_two-requires-clause-end
append_on_two-requires-clause-end c =
    let heads : c.as_slice-heads.result.now ≡ c.args.self.now.heads = c.as_slice-heads.ensures.value ∙ ap (λ (v : LinksView). v.heads) c.self.view_is in
    spot_known c.args.gates.now c.args.self.now c.spot_in-first.result c.requires.linked (omega (arith, ap (λ (v : LinksView). v.room) c.self.view_is))
    (subst (λ (hs : List Head). IsSpot hs c.spot_in-first.result) heads c.spot_in-first.ensures.is) (c.is_end.ensures (grind (arith, nat_tests, c.if-is_end.true)))

pub append_on_two-requires-clause-other_end : goal.append_on_two-requires-clause-other_end
append_on_two-requires-clause-other_end c =
    let heads : c.as_slice-heads.result.now ≡ c.args.self.now.heads = c.as_slice-heads.ensures.value ∙ ap (λ (v : LinksView). v.heads) c.self.view_is in
    spot_known c.args.gates.now c.args.self.now c.spot_in-last.result c.requires.linked (omega (arith, ap (λ (v : LinksView). v.room) c.self.view_is))
    (subst (λ (hs : List Head). IsSpot hs c.spot_in-last.result) heads c.spot_in-last.ensures.is) (c.is_end-2.ensures (grind (arith, nat_tests, c.if-is_end.true)))
