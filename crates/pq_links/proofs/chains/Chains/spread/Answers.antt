use Rattle.std.proofs.Common.{◌≡◌, ◌*◌, ◌<◌, List, length, sym, ap, subst, arith}
use Rattle.pq_links.specs.declared.links.Sides.{Sides}
use Rattle.pq_links.specs.Links.{far}
use Rattle.pq_links.specs.Slots.{ChainsView}
use Rattle.pq_links.specs.Leading.{AreSpread}
use Rattle.pq_links.proofs.Spreading.{spread_chained}
use Rattle.pq_links.proofs.chains.Chains.spread.Goals as goal

pub returns-clause-chained : goal.returns-clause-chained
returns-clause-chained c =
    let room : c.args.self.now.room ≡ c.self.inside.asked = sym (ap (λ (v : ChainsView). v.room) c.self.view_is) in
    let few : 2 * length c.args.gates.now < far = omega arith in
    spread_chained c.args.gates.now c.args.slots.now c.args.links.now c.spread_sides.new.spread.items c.spread_sides-2.new.spread.items c.requires.slots few c.requires.linked
    (subst (λ (xs : List Sides). AreSpread (length xs) (length xs) xs c.spread_sides.new.spread.items) c.nexts.ensures c.spread_sides.ensures.spread)
    (subst (λ (xs : List Sides). AreSpread (length xs) (length xs) xs c.spread_sides-2.new.spread.items) c.previouses.ensures c.spread_sides-2.ensures.spread)
