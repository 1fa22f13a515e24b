use Rattle.std.proofs.Common.{◌≡◌, ◌+◌, sym, ap, ◌∙◌, subst, arith}
use Rattle.atomic_table.specs.Table.{Me}
use Rattle.pq_board.specs.Law.{leaves, stake}
use Rattle.pq_board.specs.Steps.{with_both, AreWhole}
use Rattle.pq_board.specs.declared.plan.Plan.{Plan}
use Rattle.pq_board.specs.declared.plan.View.{View}
use Rattle.pq_board.proofs.Keeping.{joined_stake}
use Rattle.pq_board.proofs.Allowed.{join_allowed, plan_words}
use Rattle.pq_board.proofs.Whole.{whole_both}
use Rattle.pq_board.proofs.board.Board.join.Goals as goal

pub join_seat-requires : goal.join_seat-requires
join_seat-requires c =
    let belongs = rw (← c.self.view_is, ← c.into.view_is) at c.requires.belongs in
    let too = rw (← c.self.view_is, ← c.from.view_is) at c.requires.too in
    let inv = c.self.invariant in (
      belongs.here,
      too.here,
      c.from.invariant.1,
      omega (arith, inv.1, plan_words c.self.inside.plan inv.3),
      join_allowed c.self.inside.table.shared.key c.into.inside.seat.id c.into.inside.seat.me.0 c.from.inside.seat.id c.from.inside.seat.me.0
          (inv.0 ∙ sym belongs.plan) (inv.0 ∙ sym too.plan),
    )

pub invariant_of-into : goal.invariant_of-into
invariant_of-into c =
    let belongs = rw (← c.self.view_is, ← c.into.view_is) at c.requires.belongs in
    let too = rw (← c.self.view_is, ← c.from.view_is) at c.requires.too in
    let v : View = c.into.inside.seat.me.0 in
    let w : View = c.from.inside.seat.me.0 in
    let view : c.look.new.seat.me.0 ≡ with_both v w = c.look.ensures.same ∙ ap (λ (m : Me (Unit {0}) View). m.0) c.join_seat.ensures.2 in
    let same : w.plan ≡ v.plan = too.plan ∙ sym belongs.plan in
    let whole : AreWhole (leaves v.plan) w.lowered = subst (λ (p : Plan). AreWhole (leaves p) w.lowered) same c.from.invariant.2 in
    let rights : c.look.new.seat.me.0.rights ≡ v.rights + w.rights = ap (λ (u : View). u.rights) view in
    let first : c.into.inside.rights ≡ v.rights = c.into.invariant.0 in
    let second : c.from.inside.rights ≡ w.rights = c.from.invariant.0 in (
      omega arith,
      c.look.ensures.none ∙ (ap (λ (m : Me (Unit {0}) View). m.1) c.join_seat.ensures.2 ∙ c.into.invariant.1),
      subst (λ (u : View). AreWhole (leaves u.plan) u.lowered) (sym view) (whole_both (leaves v.plan) v.lowered w.lowered c.into.invariant.2 whole),
    )

pub returns-clause-staked : goal.returns-clause-staked
returns-clause-staked c =
    let v : View = c.into.inside.seat.me.0 in
    let w : View = c.from.inside.seat.me.0 in
    let view : c.look.new.seat.me.0 ≡ with_both v w = c.look.ensures.same ∙ ap (λ (m : Me (Unit {0}) View). m.0) c.join_seat.ensures.2 in
    let plan : Plan = c.self.inside.plan in
    rw (← c.self.view_is, ← c.into.view_is, ← c.from.view_is) (ap (λ (u : View). stake plan u) view ∙ joined_stake plan v w)
