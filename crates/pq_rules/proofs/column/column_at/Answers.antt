use Rattle.std.proofs.Common.{ℕ, ◌<◌, ◌%◌, Bool, cond, eqb, ap, sym, subst, ◌∙◌, arith}
use Rattle.pq_gate.specs.Bits.{same_bits}
use Rattle.pq_rules.specs.States.{state}
use Rattle.pq_gate.specs.declared.ring.Ring.{Ring}
use Rattle.pq_rules.specs.Bounds.{zeros}
use Rattle.pq_rules.proofs.ColumnLaws.{zeros-nought}
use Rattle.pq_rules.proofs.StateLaws.{same_of}
use Rattle.pq_rules.proofs.column.column_at.Goals as goal

pub returns : goal.returns
returns c = λ x inside.
    let small : c.args.to < 8 = (let s : c.args.to < c.states-size.result = subst (λ (m : ℕ). c.args.to < m) (sym c.states-size.ensures.value) c.requires.to in omega arith) in
    let all : x < c.loop-from.from = omega arith in
    c.loop-from.invariant.done x all ∙
    ap (λ (m : ℕ). cond (eqb (x % m) c.args.to) c.args.unit zeros) c.states-size.ensures.value ∙
    ap (λ (p : Bool). cond p c.args.unit zeros) (same_of c.args.wires c.args.to x c.requires.wires c.requires.to small inside) ∙
    ap (λ (r : Ring). cond (same_bits (state c.args.wires x) (state c.args.wires c.args.to)) c.args.unit r) zeros-nought
