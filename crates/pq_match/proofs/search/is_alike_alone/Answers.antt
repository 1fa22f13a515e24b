use Rattle.pq_match.proofs.SearchWires.{alone_alike}
use Rattle.pq_match.proofs.search.is_alike_alone.Goals as goal

pub returns : goal.returns
returns c =
    let alike = alone_alike c.args.of_gate c.args.gate _ _ _ _ c.first_wire.ensures c.last_wire.ensures c.first_wire-2.ensures c.last_wire-2.ensures in
    (λ yes. alike.0 (c.are_one_where.ensures.0 yes), λ is. c.are_one_where.ensures.1 (alike.1 is))
