use Rattle.std.proofs.Common.{arith, ◌-◌}
use Rattle.pq_loop.proofs.Turning.{turn_none, turn_run, turn_short, turn_more, turn_shorter, turn_loses}
use Rattle.pq_loop.proofs.Rejoining.{but_start, but_turn, but_end}
use Rattle.pq_loop.proofs.segments.Segments.put.Goals as goal

pub loop-ticket-init : goal.loop-ticket-init
loop-ticket-init c = record {
  turned = turn_none _ _ _ c.requires.segments c.requires.results;
  but = but_start c.args.cells.now c.args.self.now.jobs c.args.results.now;
}

pub put_result-requires-clause-run : goal.put_result-requires-clause-run
put_result-requires-clause-run c =
    turn_run _ _ _ _ _ _ c.requires.segments c.requires.results c.loop-ticket.invariant.turned (omega arith) (omega arith) c.places.ensures.places _ c.index-results-ticket.is

pub put_result-requires-clause-no_longer : goal.put_result-requires-clause-no_longer
put_result-requires-clause-no_longer c =
    turn_short _ _ _ _ _ _ c.requires.segments c.requires.results c.loop-ticket.invariant.turned (omega arith) (omega arith) c.places.ensures.places _ c.index-results-ticket.is

pub loop-ticket-preserved : goal.loop-ticket-preserved
loop-ticket-preserved c = record {
  turned =
      turn_more _ _ _ _ _ _ c.requires.segments c.requires.results c.loop-ticket.invariant.turned (omega arith) (omega arith) c.places.ensures.places _ _ c.index-results-ticket.is
      c.put_result.ensures.same c.put_result.ensures.cells c.put_result.ensures.live;
  but = but_turn c.args.self.now.jobs c.args.results.now c.index-results-ticket.result c.index-results-ticket.is (omega arith) (omega arith) c.places.ensures.places
      ((c.requires.results.2.each (c.loop-ticket.ticket - 1) c.index-results-ticket.result (omega (arith, c.requires.results.2.count))).ticket_is)
      (turn_run _ _ _ _ _ _ c.requires.segments c.requires.results c.loop-ticket.invariant.turned (omega arith) (omega arith) c.places.ensures.places _ c.index-results-ticket.is)
      c.put_result.ensures.same c.put_result.ensures.cells c.loop-ticket.invariant.but;
}

pub returns-clause-gone : goal.returns-clause-gone
returns-clause-gone c = but_end c.args.cells.now c.loop-ticket.cells c.args.self.now.jobs c.args.results.now c.loop-ticket.ticket (omega arith) c.loop-ticket.invariant.but

pub returns-clause-shorter : goal.returns-clause-shorter
returns-clause-shorter c = turn_shorter _ _ _ _ _ c.requires.segments c.requires.results c.loop-ticket.invariant.turned (omega arith)

pub returns-clause-loses : goal.returns-clause-loses
returns-clause-loses c = turn_loses _ _ _ _ _ c.requires.segments c.requires.results c.loop-ticket.invariant.turned (omega arith)
