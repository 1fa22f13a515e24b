use Rattle.std.proofs.Common.{◌≡◌, drop}
use Rattle.pq_array.specs.Flags.{written}
use Rattle.pq_array.proofs.cells.put.Given as goal

-- what is left to write gives what all would give at the start
abbrev pub invariant-loop-number : goal.invariant-loop-number
invariant-loop-number l = written l.gates (drop l.number l.places) (drop l.number l.output) ≡ written l.initial.gates l.places l.output
