use Rattle.std.proofs.Common.{◌≡◌, ◌≤◌, ◌-◌, ◌*◌, [], length}
use Rattle.std.specs.Prelude.{IfSome}
use Rattle.pq_board.specs.Law.{stake}
use Rattle.pq_board.specs.Steps.{BelongsTo}
use Rattle.pq_round.specs.Desks.{IsSpare}
use Rattle.pq_round.specs.Workers.{HasDone, next_of}
use Rattle.pq_round.proofs.workers.work_alone.Given as goal

-- The pass has a right still, and its whole stake, and has done what the results say. The segment is empty, with the room of a
-- segment of the method.
abbrev pub invariant-jobs : goal.invariant-jobs
invariant-jobs g l = record {
  belongs : BelongsTo l.context.board.now l.pass;
  right : 1 ≤ l.pass.view.rights;
  staked : stake l.context.board.now.plan l.pass.view ≡ stake l.context.board.now.plan l.fn.pass.view;
  done : HasDone l.context.cells.now l.context.rules.now l.pass.view l.results.items;
  empty : l.seg.items ≡ [];
  room : l.seg.room ≡ 2 * l.context.omega;
  spare : IfSome l.spare (IsSpare (2 * l.context.omega));
}

abbrev pub decreases-jobs : goal.decreases-jobs
decreases-jobs g l = length l.context.board.now.plan.jobs - next_of l.pass.view.tickets
