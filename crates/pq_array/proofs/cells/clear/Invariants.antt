use Rattle.std.proofs.Common.{◌≡◌, drop}
use Rattle.pq_array.specs.Flags.{unmarked}
use Rattle.pq_array.proofs.cells.clear.Given as goal

-- what is left to clear gives what all would give at the start
abbrev pub invariant-loop-place : goal.invariant-loop-place
invariant-loop-place l = unmarked l.flags (drop l.place-index l.places) ≡ unmarked l.initial.flags l.places
