use Rattle.std.proofs.Common.{arith}
use Rattle.pq_lex.proofs.Ending.{step_mode, step_ended, step_last}
use Rattle.pq_lex.proofs.ends.ended_in.Goals as goal

pub loop-i-preserved : goal.loop-i-preserved
loop-i-preserved c = record {
  ended = step_ended c.args.mode c.loop-i.found.mode c.args.text.now c.loop-i.i c.loop-i.found.count c.more-found.result.count c.loop-i-test.true c.loop-i.invariant.mode c.more-found.ensures.count c.loop-i.invariant.ended;
  within = grind arith;
  last = step_last c.args.mode c.loop-i.found.mode c.args.text.now c.loop-i.i c.loop-i.found.count c.more-found.result.count c.loop-i-test.true c.loop-i.invariant.mode c.more-found.ensures.count c.loop-i.invariant.last;
  mode = step_mode c.args.mode c.loop-i.found.mode c.more-found.result.mode c.args.text.now c.loop-i.i c.loop-i-test.true c.loop-i.invariant.mode c.more-found.ensures.mode;
}
