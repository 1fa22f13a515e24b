use Rattle.std.proofs.Common.{rules, refl}
use Rattle.pq_round.proofs.Working.{done_none}
use Rattle.pq_round.proofs.workers.work_alone.Goals as goal

pub jobs-init : goal.jobs-init
jobs-init g c = record {
  belongs = c.requires.belongs;
  right = c.requires.right;
  staked = refl;
  done = done_none c.args.context.now.cells.now c.args.context.now.rules.now c.args.context.now.board.now.plan c.args.pass.now.view.rights c.args.pass.now.view c.in_ok-results.results.items c.requires.idle (search rules);
  empty = c.in_ok-seg.ensures.items;
  room = c.in_ok-seg.ensures.room;
  spare = tt;
}
