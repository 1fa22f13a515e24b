use Rattle.std.proofs.Common.{◌≤◌}
use Rattle.pq_match.specs.Work.{AreSpare}
use Rattle.pq_match.proofs.runs.run_start.Given as goal

abbrev pub invariant-down : goal.invariant-down
invariant-down l = record {
  from : l.first ≤ l.start;
  upto : l.start ≤ l.last;
  spare : AreSpare l.slots l.places l.start l.last;
}

abbrev pub decreases-down : goal.decreases-down
decreases-down l = l.start
