use Rattle.std.proofs.Common.{drop}
use Rattle.pq_round.specs.Results.{all_given_up}
use Rattle.pq_loop.proofs.Rejoining.{LiveBut}
use Rattle.pq_loop.proofs.Turning.{IsPutFrom}
use Rattle.pq_loop.proofs.segments.Segments.put.Given as goal

abbrev pub invariant-loop-ticket : goal.invariant-loop-ticket
invariant-loop-ticket l = record {
  turned : IsPutFrom l.fn.cells l.cells l.self l.results l.ticket;
  but : LiveBut l.fn.cells l.cells (all_given_up l.self.jobs (drop l.ticket l.results));
}
