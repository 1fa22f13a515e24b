use Rattle.pq_match.proofs.SearchWires.{alike_by_each, alike_at_first, alike_at_last}
use Rattle.pq_match.proofs.search.is_alike.Goals as goal

pub returns-then-are_one_where : goal.returns-then-are_one_where
returns-then-are_one_where c = (
  λ yes. alike_by_each c.args.of_wire c.args.of_gate c.args.wire c.args.gate
      c.first_wire-2.ensures c.last_wire-then-are_one_where.ensures c.first_wire.ensures c.last_wire.ensures
      (c.are_one_where.ensures.0 c.if-are_one_where.true) (c.are_one_where-then-are_one_where.ensures.0 yes),
  λ alike. c.are_one_where-then-are_one_where.ensures.1
      (alike_at_last c.args.of_wire c.args.of_gate c.args.wire c.args.gate c.last_wire-then-are_one_where.ensures c.last_wire.ensures alike),
)

pub returns-else-are_one_where : goal.returns-else-are_one_where
returns-else-are_one_where c = (
  λ yes. absurd (cc),
  λ alike. c.are_one_where.ensures.1
      (alike_at_first c.args.of_wire c.args.of_gate c.args.wire c.args.gate c.first_wire-2.ensures c.first_wire.ensures alike),
)
