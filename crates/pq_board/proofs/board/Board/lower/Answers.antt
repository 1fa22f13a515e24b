use Rattle.std.proofs.Common.{◌≡◌, ℕ, List, ◌≤◌, length, sym, ap, ◌∙◌, subst, arith}
use Rattle.pq_board.specs.Law.{leaves}
use Rattle.pq_board.specs.Steps.{AreWhole, lowered_places, with_lowered, whole_way}
use Rattle.pq_board.specs.declared.plan.Plan.{Plan}
use Rattle.pq_board.specs.declared.plan.View.{View}
use Rattle.pq_board.proofs.Allowed.{plan_leaves}
use Rattle.pq_board.proofs.Climbing.{job_inside}
use Rattle.pq_board.proofs.Whole.{whole_more, lowered_more, fresh_nodes}
use Rattle.pq_board.proofs.board.Board.lower.Goals as goal

pub overflow_add-leaf : goal.overflow_add-leaf
overflow_add-leaf c =
    let early = rw (← c.self.view_is) at c.requires.early in
    let there = rw (← c.self.view_is) at c.requires.job in
    let plan : Plan = c.self.inside.plan in
    let long : length c.as_slice.result.now ≡ length plan.words.items = ap (λ (w : List ℕ). length w) c.as_slice.ensures in
    omega (arith, job_inside plan c.self.invariant.3 c.args.ticket c.args.place early there, c.as_slice.type_inv)

pub climb-requires-clause-fresh : goal.climb-requires-clause-fresh
climb-requires-clause-fresh c =
    fresh_nodes (leaves c.pass.inside.seat.me.0.plan) c.args.place c.pass.inside.seat.me.0.lowered c.pass.invariant.2 (rw (← c.pass.view_is) at c.requires.fresh)

pub invariant_of-pass : goal.invariant_of-pass
invariant_of-pass c =
    let belongs = rw (← c.self.view_is, ← c.pass.view_is) at c.requires.belongs in
    let v : View = c.pass.inside.seat.me.0 in
    let wide : 1 ≤ leaves v.plan = rw belongs.plan (plan_leaves c.self.inside.plan c.self.invariant.3) in
    let view : c.climb.new.seat.me.0 ≡ with_lowered (whole_way (leaves v.plan) c.args.ticket c.args.place) v = c.climb.ensures.lowered in (
      c.pass.invariant.0 ∙ ap (λ (u : View). u.rights) (sym view),
      c.climb.ensures.none ∙ c.pass.invariant.1,
      subst (λ (u : View). AreWhole (leaves u.plan) u.lowered) (sym view) (whole_more (leaves v.plan) v.lowered c.args.ticket c.args.place wide c.pass.invariant.2),
    )

pub returns-clause-places : goal.returns-clause-places
returns-clause-places c =
    let belongs = rw (← c.self.view_is, ← c.pass.view_is) at c.requires.belongs in
    let v : View = c.pass.inside.seat.me.0 in
    let wide : 1 ≤ leaves v.plan = rw belongs.plan (plan_leaves c.self.inside.plan c.self.invariant.3) in
    let view : c.climb.new.seat.me.0 ≡ with_lowered (whole_way (leaves v.plan) c.args.ticket c.args.place) v = c.climb.ensures.lowered in
    rw (← c.pass.view_is) (ap (λ (u : View). lowered_places u.lowered) view ∙ lowered_more (leaves v.plan) v.lowered c.args.ticket c.args.place wide)
