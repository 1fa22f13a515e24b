use Rattle.std.proofs.Common.{◌≡◌, false, true, ◌+◌, ◌-◌, ◌*◌, ◌<◌, ◌≤◌, length}
use Rattle.pq_match.specs.Seek.{MarksAll, LooksAtMore, AreLookedAt, IsAtCursor, AreCursors, AreMarked, AreAhead}
use Rattle.pq_match.specs.Ties.{IsTiedBy}
use Rattle.pq_match.proofs.Seeking.{IsWalkedAlike}
use Rattle.pq_match.proofs.seek.+seeking.Given as goal

-- each call chooses one place more, or goes through the places for the next gate
abbrev pub decreases-seek : goal.decreases-seek
decreases-seek l = 3 * (length l.pattern.now - l.count) + 2

abbrev pub decreases-choose_by_kind : goal.decreases-choose_by_kind
decreases-choose_by_kind l = 3 * (length l.pattern.now - l.count) + 1

abbrev pub decreases-choose : goal.decreases-choose
decreases-choose l = 3 * (length l.pattern.now - l.count)

abbrev pub decreases-seek-walk : goal.decreases-seek-walk
decreases-seek-walk l = length l.gates - l.place

abbrev pub invariant-seek-walk : goal.invariant-seek-walk
invariant-seek-walk l = record {
  within : l.place ≤ length l.gates;
  seen : l.place < l.looked.reach;
  more : LooksAtMore l.fn.looked l.looked;
  looked_at : AreLookedAt l.gates l.looked l.places l.count;
  marked : AreMarked l.gates l.looked l.cursors;
  wide : l.free ≡ true → MarksAll l.looked.mask;
  tied : l.free ≡ false → IsTiedBy l.gates l.pattern l.looked l.places l.count l.place l.cursors;
  ahead : AreAhead l.place l.cursors;
  stands : l.free ≡ false → l.place < length l.gates → IsAtCursor l.place l.cursors;
  cursors : AreCursors l.gates l.pattern l.places l.count l.place l.cursors;
  walked : IsWalkedAlike l.gates l.pattern l.looked l.places l.count l.place;
}
