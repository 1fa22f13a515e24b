use Rattle.std.proofs.Common.{rules, ◌≡◌, ℕ, ◌+◌, ◌<◌, ◌≤◌, length, subst, arith}
use Rattle.pq_match.specs.Work.{IsFreeRun}
use Rattle.pq_match.proofs.Exchanging.{filled_more, run_more, gaps_put}
use Rattle.pq_match.proofs.exchange.put_in.Goals as goal

pub loop-index-preserved : goal.loop-index-preserved
loop-index-preserved c =
    let inside : c.args.end ≤ length c.args.slots.now = c.requires.run.inside in
    let below : c.args.start + c.loop-index.index < c.args.end = omega arith in
    let next : (c.args.start + c.loop-index.index) + 1 ≡ c.args.start + (c.loop-index.index + 1) = omega arith in
    record {
      filled = filled_more c.args.slots.now c.loop-index.slots c.put_gate.new.slots c.args.start c.loop-index.index c.args.wires.now c.args.replacement.now (omega arith) (omega arith)
          c.put_gate.ensures.slots c.loop-index.invariant.filled;
      whole = c.put_gate.ensures.whole;
      run = subst (λ (p : ℕ). IsFreeRun c.put_gate.new.slots p c.args.end) next
          (run_more c.loop-index.slots c.put_gate.new.slots (c.args.start + c.loop-index.index) c.args.end _ c.put_gate.ensures.slots c.loop-index.invariant.run);
      gaps = gaps_put c.loop-index.slots c.put_gate.new.slots c.loop-index.chains c.args.wires.now c.args.replacement.now (c.args.start + c.loop-index.index) c.args.end c.loop-index.index
          c.loop-index.gaps c.put_gate.new.gaps c.loop-index.invariant.whole c.requires.own (omega arith) c.loop-index.invariant.run below c.put_gate.ensures.slots c.loop-index.invariant.gaps
          c.put_gate.ensures.gaps c.put_gate.ensures.others;
      room = search rules;
    }
