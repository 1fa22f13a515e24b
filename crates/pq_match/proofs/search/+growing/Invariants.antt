use Rattle.std.proofs.Common.{◌+◌, ◌-◌, ◌*◌, length}
use Rattle.pq_match.proofs.GrowingWalk.{IsWalked}
use Rattle.pq_match.proofs.search.+growing.Given as goal

-- each call chooses one place more, or goes through the places for the next gate
abbrev pub decreases-extend : goal.decreases-extend
decreases-extend l = 3 * (length l.pattern.now - l.count) + 2

abbrev pub decreases-extend_by_kind : goal.decreases-extend_by_kind
decreases-extend_by_kind l = 3 * (length l.pattern.now - l.count) + 1

abbrev pub decreases-extend_at : goal.decreases-extend_at
decreases-extend_at l = 3 * (length l.pattern.now - l.count)

abbrev pub decreases-extend-walk : goal.decreases-extend-walk
decreases-extend-walk l = l.end - l.place

abbrev pub invariant-extend-walk : goal.invariant-extend-walk
invariant-extend-walk l = IsWalked l.gates l.pattern l.end l.places l.count l.place
