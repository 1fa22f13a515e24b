use Rattle.std.proofs.Common.{arith, rules}
use Rattle.pq_gate.specs.Ring.{turn, turned, FitsI64}
use Rattle.pq_gate.proofs.RangeLaws.{stored, stored_fits, stays, negated_twice, turned_by}
use Rattle.pq_gate.proofs.ring.Ring.checked_omega.Goals as goal

pub returns-in-1 : goal.returns-in-1
unfolding turn
returns-in-1 c =
    let fits : FitsI64 c.args.self = record { a = search rules; b = search rules; c = search rules; d = search rules } in
    let kept : FitsI64 (stored c.args.self) = stored_fits c.args.self fits in
    turned_by c.of_coefficients.result c.args.self 1 c.args.k fits c.in-1.is
    (c.of_coefficients.ensures (turned 1 (stored c.args.self))
    c.checked_neg.ensures
    (stays (stored c.args.self).a kept.a)
    (stays (stored c.args.self).b kept.b)
    (stays (stored c.args.self).c kept.c))

pub returns-in-2 : goal.returns-in-2
unfolding turn
returns-in-2 c =
    let fits : FitsI64 c.args.self = record { a = search rules; b = search rules; c = search rules; d = search rules } in
    let kept : FitsI64 (stored c.args.self) = stored_fits c.args.self fits in
    turned_by c.of_coefficients-in-2.result c.args.self 2 c.args.k fits c.in-2.is
    (c.of_coefficients-in-2.ensures (turned 2 (stored c.args.self))
    c.checked_neg-in-2.ensures
    c.checked_neg-in-2-2.ensures
    (stays (stored c.args.self).a kept.a)
    (stays (stored c.args.self).b kept.b))

pub returns-in-3 : goal.returns-in-3
unfolding turn
returns-in-3 c =
    let fits : FitsI64 c.args.self = record { a = search rules; b = search rules; c = search rules; d = search rules } in
    let kept : FitsI64 (stored c.args.self) = stored_fits c.args.self fits in
    turned_by c.of_coefficients-in-3.result c.args.self 3 c.args.k fits c.in-3.is
    (c.of_coefficients-in-3.ensures (turned 3 (stored c.args.self))
    c.checked_neg-in-3.ensures
    c.checked_neg-in-3-2.ensures
    c.checked_neg-in-3-3.ensures
    (stays (stored c.args.self).a kept.a))

pub returns-in-4 : goal.returns-in-4
unfolding turn
returns-in-4 c =
    let fits : FitsI64 c.args.self = record { a = search rules; b = search rules; c = search rules; d = search rules } in
    let kept : FitsI64 (stored c.args.self) = stored_fits c.args.self fits in
    turned_by c.of_coefficients-in-4.result c.args.self 4 c.args.k fits c.in-4.is
    (c.of_coefficients-in-4.ensures (turned 4 (stored c.args.self))
    c.checked_neg-in-4.ensures
    c.checked_neg-in-4-2.ensures
    c.checked_neg-in-4-3.ensures
    c.checked_neg-in-4-4.ensures)

pub returns-in-5 : goal.returns-in-5
unfolding turn
returns-in-5 c =
    let fits : FitsI64 c.args.self = record { a = search rules; b = search rules; c = search rules; d = search rules } in
    let kept : FitsI64 (stored c.args.self) = stored_fits c.args.self fits in
    turned_by c.of_coefficients-in-5.result c.args.self 5 c.args.k fits c.in-5.is
    (c.of_coefficients-in-5.ensures (turned 5 (stored c.args.self))
    (negated_twice (stored c.args.self).d kept.d)
    c.checked_neg-in-5.ensures
    c.checked_neg-in-5-2.ensures
    c.checked_neg-in-5-3.ensures)

pub returns-in-6 : goal.returns-in-6
unfolding turn
returns-in-6 c =
    let fits : FitsI64 c.args.self = record { a = search rules; b = search rules; c = search rules; d = search rules } in
    let kept : FitsI64 (stored c.args.self) = stored_fits c.args.self fits in
    turned_by c.of_coefficients-in-6.result c.args.self 6 c.args.k fits c.in-6.is
    (c.of_coefficients-in-6.ensures (turned 6 (stored c.args.self))
    (negated_twice (stored c.args.self).c kept.c)
    (negated_twice (stored c.args.self).d kept.d)
    c.checked_neg-in-6.ensures
    c.checked_neg-in-6-2.ensures)

pub returns-in_default : goal.returns-in_default
unfolding turn
returns-in_default c =
    let fits : FitsI64 c.args.self = record { a = search rules; b = search rules; c = search rules; d = search rules } in
    let kept : FitsI64 (stored c.args.self) = stored_fits c.args.self fits in
    turned_by c.of_coefficients-in_default.result c.args.self 7 c.args.k fits (omega arith)
    (c.of_coefficients-in_default.ensures (turned 7 (stored c.args.self))
    (negated_twice (stored c.args.self).b kept.b)
    (negated_twice (stored c.args.self).c kept.c)
    (negated_twice (stored c.args.self).d kept.d)
    c.checked_neg-in_default.ensures)
