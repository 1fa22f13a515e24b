use Rattle.std.proofs.Common.{◌≤◌, ◌∙◌, arith}
use Rattle.pq_board.specs.Law.{leaves}
use Rattle.pq_board.proofs.Climbing.{climbs_on, climb_allowed, climb_inside}
use Rattle.pq_board.proofs.board.climb.Goals as goal

pub fetch_sub-requires : goal.fetch_sub-requires
fetch_sub-requires g c =
    let t = c.requires.ticket in
    let p = c.requires.place in
    let v = c.args.seat.now.me.0 in
    let low : 1 ≤ c.loop-node.node = omega (arith, c.loop-node-test.true) in (
      c.loop-node.invariant.here ∙ c.requires.here,
      rw c.requires.words (climb_inside v.plan c.requires.opened c.args.ticket c.args.place c.loop-node.node v c.loop-node.seat.me.0 c.requires.early c.requires.job low c.loop-node.invariant.climbs),
      rw (← t, ← p)
          (climb_allowed c.args.table.now.shared.key c.args.table.now.shared.table_id.slots c.loop-node.seat.id c.loop-node.seat.me c.args.ticket c.args.place c.loop-node.node v
          c.requires.plan low c.requires.held c.requires.early c.requires.job c.requires.fresh c.loop-node.invariant.climbs),
    )

pub loop-node-preserved : goal.loop-node-preserved
loop-node-preserved g c =
    let t = c.requires.ticket in
    let p = c.requires.place in
    let v = c.args.seat.now.me.0 in
    record {
      here = c.fetch_sub.ensures.0 ∙ c.loop-node.invariant.here;
      none = c.fetch_sub.ensures.2.1 ∙ c.loop-node.invariant.none;
      climbs =
          climbs_on (leaves v.plan) c.args.ticket c.args.place v c.loop-node.seat.me.0 c.fetch_sub.new.seat.me.0 c.loop-node.node (omega (arith, c.loop-node-test.true))
          c.loop-node.invariant.climbs (rw (← t, ← p) at c.fetch_sub.ensures.2.0);
    }
