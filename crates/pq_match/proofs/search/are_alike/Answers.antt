use Rattle.pq_match.proofs.SearchWires.{alike_by_both, first_alike, second_alike}
use Rattle.pq_match.proofs.search.are_alike.Goals as goal

pub returns-then-is_alike : goal.returns-then-is_alike
returns-then-is_alike c = (
  λ yes. alike_by_both c.args.of_first c.args.of_second c.args.first c.args.second _ _ _ _
      c.first_wire-of_wire.ensures c.last_wire-of_other.ensures c.first_wire-wire.ensures c.last_wire-other.ensures
      (c.is_alike.ensures.0 c.if-is_alike.true) (c.is_alike-then-is_alike.ensures.0 yes),
  λ alike. c.is_alike-then-is_alike.ensures.1 (second_alike c.args.of_first c.args.of_second c.args.first c.args.second _ _ _ _
      c.first_wire-of_wire.ensures c.last_wire-of_other.ensures c.first_wire-wire.ensures c.last_wire-other.ensures alike),
)

pub returns-else-is_alike : goal.returns-else-is_alike
returns-else-is_alike c = (
  λ yes. absurd (cc),
  λ alike. c.is_alike.ensures.1 (first_alike c.args.of_first c.args.of_second c.args.first c.args.second _ _ _ _
      c.first_wire-of_wire.ensures c.last_wire-of_other.ensures c.first_wire-wire.ensures c.last_wire-other.ensures alike),
)
