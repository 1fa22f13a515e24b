use Rattle.std.proofs.Common.{◌≡◌, ◌+◌}
use Rattle.pq_array.specs.Cells.{rank}
use Rattle.pq_array.proofs.array.GateArray.rank_from.Given as goal

abbrev pub invariant-loop-flag : goal.invariant-loop-flag
invariant-loop-flag l = l.rank ≡ rank l.self (l.earlier + l.flag-index)
