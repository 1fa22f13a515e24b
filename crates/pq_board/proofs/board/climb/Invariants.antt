use Rattle.std.proofs.Common.{◌≡◌}
use Rattle.pq_board.specs.Law.{leaves}
use Rattle.pq_board.proofs.Climbing.{Climbs}
use Rattle.pq_board.proofs.board.climb.Given as goal

-- the nodes passed are lowered, and nothing else changed
abbrev pub invariant-loop-node : goal.invariant-loop-node
invariant-loop-node g l = record {
  here : l.seat.table_id ≡ l.initial.seat.table_id;
  none : l.seat.me.1 ≡ l.initial.seat.me.1;
  climbs : Climbs (leaves l.initial.seat.me.0.plan) l.ticket l.place l.initial.seat.me.0 l.seat.me.0 l.node;
}

abbrev pub decreases-loop-node : goal.decreases-loop-node
decreases-loop-node g l = l.node
