use Rattle.pq_match.specs.Search.{IsPassable}
use Rattle.pq_match.proofs.search.is_passable.Given as goal

abbrev pub invariant-loop-s : goal.invariant-loop-s
invariant-loop-s l = IsPassable l.gates l.places l.s l.place
