use Rattle.pq_match.proofs.RewritingTests.{pair_on_wire_3, pair_past_cx, pair_inside, cx_between_h, three_cx, t_between_x}
use Rattle.pq_match.proofs.rewriting_tests.redexes_are_rewritten.Goals as goal

pub rewrites_to-requires-clause-redex : goal.rewrites_to-requires-clause-redex
rewrites_to-requires-clause-redex g c = pair_on_wire_3

pub rewrites_to-requires-2-clause-redex : goal.rewrites_to-requires-2-clause-redex
rewrites_to-requires-2-clause-redex g c = pair_past_cx

pub rewrites_to-requires-3-clause-redex : goal.rewrites_to-requires-3-clause-redex
rewrites_to-requires-3-clause-redex g c = pair_inside

pub rewrites_to-requires-4-clause-redex : goal.rewrites_to-requires-4-clause-redex
rewrites_to-requires-4-clause-redex g c = cx_between_h

pub rewrites_to-requires-5-clause-redex : goal.rewrites_to-requires-5-clause-redex
rewrites_to-requires-5-clause-redex g c = three_cx

pub rewrites_to-requires-6-clause-redex : goal.rewrites_to-requires-6-clause-redex
rewrites_to-requires-6-clause-redex g c = t_between_x
