use Rattle.pq_match.proofs.Starting.{NoneBelow}
use Rattle.pq_match.proofs.starts.first_redex.Given as goal

abbrev pub invariant-loop-start : goal.invariant-loop-start
invariant-loop-start l = NoneBelow l.rules l.gates l.start
