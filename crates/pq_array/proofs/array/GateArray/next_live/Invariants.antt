use Rattle.std.proofs.Common.{ℕ, ◌≤◌, ◌<◌}
use Rattle.pq_array.specs.Cells.{IsLive}
use Rattle.pq_array.proofs.array.GateArray.next_live.Given as goal

-- no cell from the place up to here is live
abbrev pub invariant-loop-next : goal.invariant-loop-next
invariant-loop-next l = (later : ℕ) → l.place ≤ later → later < l.next → IsLive l.self later → ⊥
