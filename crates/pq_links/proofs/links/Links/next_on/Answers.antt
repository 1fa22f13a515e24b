use Rattle.std.proofs.Common.{◌≡◌, ◌+◌, ◌≤◌, List, ap, ◌∙◌, arith}
use Rattle.pq_links.specs.declared.links.Sides.{Sides}
use Rattle.pq_links.specs.Links.{side_at, LinksView}
use Rattle.pq_links.proofs.links.Links.next_on.Goals as goal

pub returns-clause-ahead : goal.returns-clause-ahead
returns-clause-ahead c =
    let w = c.side_on.ensures.noted in
    let next : c.side_on.result ≡ side_at w.0 c.args.self.now.next c.args.place =
    w.2 ∙ ap (λ (xs : List Sides). side_at w.0 xs c.args.place) (c.as_slice.ensures.value ∙ ap (λ (v : LinksView). v.next) c.self.view_is) in
    let ahead : c.args.place + 1 ≤ side_at w.0 c.args.self.now.next c.args.place = (c.requires.linked.next c.args.place w.0 c.requires.place).ahead in
    omega (arith, next, ahead)
