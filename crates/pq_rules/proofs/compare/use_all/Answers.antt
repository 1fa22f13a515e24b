use Rattle.std.proofs.Common.{ℕ, below_more}
use Rattle.pq_rules.specs.Row.{Uses}
use Rattle.pq_rules.proofs.compare.use_all.Goals as goal

pub loop-wire-preserved : goal.loop-wire-preserved
loop-wire-preserved c =
    let here : Uses c.args.gates.now c.loop-wire.wire = c.uses.ensures.0 c.if-not-uses.false in
    below_more (λ (w : ℕ). Uses c.args.gates.now w) c.loop-wire.wire c.loop-wire.invariant here
