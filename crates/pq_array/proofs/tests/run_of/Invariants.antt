use Rattle.std.proofs.Common.{◌≡◌, vec_len}
use Rattle.pq_array.proofs.Replacing.{RunAt}
use Rattle.pq_array.proofs.tests.run_of.Given as goal

-- the places so far are those of live gates that follow one another
abbrev pub invariant-loop-number : goal.invariant-loop-number
invariant-loop-number l = record { run : RunAt l.array l.first l.places.items; len : vec_len l.places ≡ l.number }
