use Rattle.std.proofs.Common.{arith, take, ap, ◌+◌, ◌∙◌, ℕ, sym}
use Rattle.pq_gate.specs.Matrix.{h_count}
use Rattle.pq_rules.proofs.SearchLaws.{h_count-more}
use Rattle.pq_rules.proofs.compare.h_gates.Goals as goal

pub loop-gate-preserved : goal.loop-gate-preserved
loop-gate-preserved c = record {
  is = ap (λ (n : ℕ). n + c.roots-count.result) c.loop-gate.invariant.is ∙
      ap (λ (n : ℕ). h_count (take c.loop-gate.gate-index c.args.gates.now) + n) c.roots-count.ensures.is ∙
      sym (h_count-more c.args.gates.now c.loop-gate.gate-index _ c.loop-gate-test.true);
  few = omega arith;
}
