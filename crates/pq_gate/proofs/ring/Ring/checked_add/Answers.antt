use Rattle.std.proofs.Common.{◌≡◌, SomeIff, subst, rules}
use Rattle.pq_gate.specs.declared.ring.Ring.{Ring}
use Rattle.pq_gate.specs.Ring.{plus, FitsI64}
use Rattle.pq_gate.proofs.RangeLaws.{stored, stored_is}
use Rattle.pq_gate.proofs.ring.Ring.checked_add.Goals as goal

pub returns : goal.returns
unfolding plus
returns c =
    let left : FitsI64 c.args.self = record { a = search rules; b = search rules; c = search rules; d = search rules } in
    let right : FitsI64 c.args.other = record { a = search rules; b = search rules; c = search rules; d = search rules } in
    let is : plus (stored c.args.self) (stored c.args.other) ≡ plus c.args.self c.args.other =
    λ i. plus (stored_is c.args.self left i) (stored_is c.args.other right i) in
    subst (λ (r : Ring). SomeIff c.of_coefficients.result (FitsI64 r) r) is
    (c.of_coefficients.ensures (plus (stored c.args.self) (stored c.args.other))
    c.checked_add.ensures c.checked_add-2.ensures c.checked_add-3.ensures c.checked_add-4.ensures)
