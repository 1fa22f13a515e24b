use Rattle.pq_match.specs.Seek.{AreSightsNoted}
use Rattle.pq_match.proofs.filter.note_sights.Given as goal

abbrev pub invariant-loop-place : goal.invariant-loop-place
invariant-loop-place l = AreSightsNoted l.gates l.place l.notes
