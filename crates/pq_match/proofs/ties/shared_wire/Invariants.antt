use Rattle.pq_match.specs.Ties.{AreUnshared}
use Rattle.pq_match.proofs.ties.shared_wire.Given as goal

abbrev pub invariant-loop-before : goal.invariant-loop-before
invariant-loop-before l = AreUnshared l.pattern l.number l.before
