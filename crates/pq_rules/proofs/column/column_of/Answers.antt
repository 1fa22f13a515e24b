use Rattle.std.proofs.Common.{◌-◌, List, length, drop, cond, ap, sym, subst, ◌∙◌, arith}
use Rattle.std.proofs.lemmas.List.{drop_all, length-drop}
use Rattle.pq_gate.specs.declared.gate.Gate.{Gate}
use Rattle.pq_gate.specs.declared.ring.Ring.{Ring}
use Rattle.pq_gate.specs.Bits.{same_bits}
use Rattle.pq_gate.specs.Matrix.{Entry}
use Rattle.pq_gate.specs.Ring.{nought, rooted}
use Rattle.pq_rules.specs.Bounds.{IsWithin}
use Rattle.pq_rules.specs.States.{state}
use Rattle.pq_rules.proofs.BoundLaws.{IsWithin-entries}
use Rattle.pq_rules.proofs.ColumnLaws.{rooted-point, Entry-step, IsCircuit-at}
use Rattle.pq_rules.proofs.column.column_of.Goals as goal

pub loop-left-init : goal.loop-left-init
loop-left-init c = record {
  within = omega arith;
  weights = λ x inside.
      c.column_at-column.ensures x inside ∙
      ap (λ (r : Ring). cond (same_bits (state c.args.wires x) (state c.args.wires c.args.to)) r nought) c.root_power.ensures ∙
      rooted-point c.args.roots (same_bits (state c.args.wires x) (state c.args.wires c.args.to)) ∙
      sym (ap (λ (gates : List Gate). rooted c.args.roots (Entry gates (state c.args.wires x) (state c.args.wires c.args.to)))
      (drop_all (length c.args.gates.now) c.args.gates.now (omega arith)));
}

pub column_through-column-requires-clause-rest : goal.column_through-column-requires-clause-rest
column_through-column-requires-clause-rest c = λ x inside.
    subst (λ (r : Ring). IsWithin 16384 r) (sym (c.loop-left.invariant.weights x inside))
    (IsWithin-entries 14 c.args.roots (drop c.loop-left.left c.args.gates.now) (state c.args.wires x) (state c.args.wires c.args.to)
    (omega (arith, length-drop c.loop-left.left c.args.gates.now)))

pub loop-left-preserved : goal.loop-left-preserved
loop-left-preserved c = record {
  within = omega arith;
  weights = λ x inside.
      c.column_through-column.ensures c.args.wires
      (λ z. rooted c.args.roots (Entry (drop c.loop-left.left c.args.gates.now) z (state c.args.wires c.args.to)))
      c.requires.wires
      (IsCircuit-at c.args.wires c.args.gates.now (c.loop-left.left - 1) _ c.requires.gates (omega arith))
      c.loop-left.invariant.weights x inside ∙
      Entry-step c.args.roots c.args.gates.now c.loop-left.left _ (state c.args.wires x) (state c.args.wires c.args.to)
      (omega arith) c.loop-left.invariant.within;
}
