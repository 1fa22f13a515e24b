use Rattle.std.proofs.Common.{SomeIff, subst, rules}
use Rattle.pq_gate.specs.declared.ring.Ring.{Ring}
use Rattle.pq_gate.specs.Ring.{root, FitsI64}
use Rattle.pq_gate.proofs.RangeLaws.{stored, stored_is}
use Rattle.pq_gate.proofs.ring.Ring.times_root.Goals as goal

pub returns : goal.returns
unfolding root
returns c =
    let fits : FitsI64 c.args.self = record { a = search rules; b = search rules; c = search rules; d = search rules } in
    subst (λ (r : Ring). SomeIff c.of_coefficients.result (FitsI64 (root r)) (root r)) (stored_is c.args.self fits)
    (c.of_coefficients.ensures (root (stored c.args.self))
    c.checked_sub.ensures c.checked_add.ensures c.checked_add-2.ensures c.checked_sub-2.ensures)
