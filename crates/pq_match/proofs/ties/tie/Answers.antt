use Rattle.std.proofs.Common.{◌≢◌, ℕ, ◌+◌, ◌-◌, ◌<◌, not, get_or, refl, sym, subst, ◌∙◌, arith}
use Rattle.pq_gate.specs.Commuting.{Touches}
use Rattle.pq_links.specs.Wires.{wire_of}
use Rattle.pq_links.specs.Links.{IsNextOn}
use Rattle.pq_links.specs.Slots.{no_wire}
use Rattle.pq_match.specs.Ties.{MayBind, IsStop}
use Rattle.pq_match.specs.Redex.{gate_at}
use Rattle.pq_match.proofs.CursorLaws.{pattern_wire, bound_cursors, bound_ahead, bound_marked, marked_more}
use Rattle.pq_match.proofs.LookingAlike.{alike_less, looked_more}
use Rattle.pq_match.proofs.Marking.{looks_on}
use Rattle.pq_match.proofs.Tying.{tied_by_shared, bound_tied, bound_there, none_past, none_binds, taken_side}
use Rattle.pq_match.proofs.TyingLaws.{used_next, binding_unshared}
use Rattle.pq_match.proofs.ties.tie.Goals as goal

pub returns-in-Some-clause-tied : goal.returns-in-Some-clause-tied
returns-in-Some-clause-tied c _ =
    tied_by_shared c.requires.on_wires c.requires.next c.requires.cursors c.requires.grown c.requires.looked c.in-Some.ensures.some

pub first_stop-stop-requires-clause-wire : goal.first_stop-stop-requires-clause-wire
first_stop-stop-requires-clause-wire c =
    subst (λ (v : ℕ). get_or c.args.cursors.now.wires v 0 ≢ no_wire) (sym c.side_wire-used.ensures)
    (used_next c.in-Some-binding_of.ensures c.requires.cursors c.requires.looked).0

pub first_stop-stop-requires-clause-start : goal.first_stop-stop-requires-clause-start
first_stop-stop-requires-clause-start c =
    subst (λ (v : ℕ). IsNextOn c.args.gates.now (get_or c.args.cursors.now.wires v 0) (get_or c.args.places.now (c.args.count - 1) 0 + 1) (get_or c.args.cursors.now.next v 0)) (sym c.side_wire-used.ensures)
    (used_next c.in-Some-binding_of.ensures c.requires.cursors c.requires.looked).1

pub returns-then-stop-gates-clause-none : goal.returns-then-stop-gates-clause-none
returns-then-stop-gates-clause-none c =
    none_past c.in-Some-binding_of.ensures c.requires.cursors c.requires.grown (looked_more c.first_stop-stop.ensures.more c.requires.looked) c.requires.some refl
    (subst (λ (v : ℕ). IsStop c.args.gates.now (gate_at c.args.pattern.now c.in-Some-binding_of.binding.gate) c.in-Some-binding_of.binding.last (get_or c.args.cursors.now.wires v 0)
    (get_or c.args.places.now (c.args.count - 1) 0 + 1) c.first_stop-stop.result) c.side_wire-used.ensures c.first_stop-stop.ensures.stop)
    c.first_stop-stop.ensures.near c.requires.linked.are c.if-stop-gates.true

pub returns-then-not-may_bind-clause-none : goal.returns-then-not-may_bind-clause-none
returns-then-not-may_bind-clause-none c =
    none_binds c.in-Some-binding_of.ensures c.requires.cursors c.requires.grown (looked_more c.first_stop-stop.ensures.more c.requires.looked) c.requires.some refl
    (subst (λ (v : ℕ). IsStop c.args.gates.now (gate_at c.args.pattern.now c.in-Some-binding_of.binding.gate) c.in-Some-binding_of.binding.last (get_or c.args.cursors.now.wires v 0)
    (get_or c.args.places.now (c.args.count - 1) 0 + 1) c.first_stop-stop.result) c.side_wire-used.ensures c.first_stop-stop.ensures.stop)
    c.first_stop-stop.ensures.near c.requires.linked.are (omega arith)
    (λ passes. (let yes = c.is_passable.ensures.1 passes in absurd (cc)))
    (λ binds. (let yes = c.may_bind.ensures.1 (subst (λ (v : ℕ). MayBind (gate_at c.args.pattern.now c.in-Some-binding_of.binding.gate) c.in-Some-binding_of.binding.last (get_or c.args.cursors.now.wires v 0)
    (gate_at c.args.gates.now c.first_stop-stop.result)) (sym c.side_wire-used.ensures) binds) in absurd (cc)))

pub returns-then-not-may_bind-clause-marked : goal.returns-then-not-may_bind-clause-marked
returns-then-not-may_bind-clause-marked c = marked_more c.first_stop-stop.ensures.more c.requires.marked

pub first_on-requires-clause-wire : goal.first_on-requires-clause-wire
first_on-requires-clause-wire c =
    subst (λ (w : ℕ). w ≢ no_wire) (sym c.side_wire-to.ensures) (taken_side c.args.gates.now _ c.first_stop-stop.result (not c.in-Some-binding_of.binding.last) c.requires.linked.are (omega arith)
    (subst (λ (v : ℕ). get_or c.args.cursors.now.wires v 0 ≢ no_wire) (sym c.side_wire-used.ensures) (used_next c.in-Some-binding_of.ensures c.requires.cursors c.requires.looked).0)
    (c.first_stop-stop.ensures.stop.uses (omega arith)))

pub returns-clause-more : goal.returns-clause-more
returns-clause-more c = looks_on c.first_stop-stop.ensures.more c.mark.ensures.more

pub returns-clause-tied : goal.returns-clause-tied
returns-clause-tied c _ =
    let of_gate = gate_at c.args.pattern.now c.in-Some-binding_of.binding.gate in
    let below : wire_of (not c.in-Some-binding_of.binding.last) (gate_at c.args.pattern.now c.in-Some-binding_of.binding.gate) < 3 =
    pattern_wire c.args.pattern.now c.requires.on_wires c.in-Some-binding_of.binding.gate (not c.in-Some-binding_of.binding.last) c.in-Some-binding_of.ensures.inside in
    bound_tied c.args.cursors.now c.side_wire-new.result c.side_wire-to.result c.first_on.result (omega (arith, c.side_wire-new.ensures, below)) (omega (arith, c.side_wire-new.ensures, below)) (omega (arith, c.side_wire-new.ensures, below)) (
      (subst (λ (w : ℕ). w ≢ no_wire) (sym c.side_wire-to.ensures) (taken_side c.args.gates.now _ c.first_stop-stop.result (not c.in-Some-binding_of.binding.last) c.requires.linked.are (omega arith)
          (subst (λ (v : ℕ). get_or c.args.cursors.now.wires v 0 ≢ no_wire) (sym c.side_wire-used.ensures) (used_next c.in-Some-binding_of.ensures c.requires.cursors c.requires.looked).0)
          (c.first_stop-stop.ensures.stop.uses (omega arith)))),
      c.mark.ensures.marked,
    ) c.first_on.ensures
    (λ other slots alike full is begins.
    subst (Touches (gate_at other (get_or full c.args.count 0))) (sym c.side_wire-to.ensures)
    (bound_there c.in-Some-binding_of.ensures c.requires.cursors c.requires.grown (looked_more c.first_stop-stop.ensures.more c.requires.looked) c.requires.some refl
    (subst (λ (v : ℕ). IsStop c.args.gates.now (gate_at c.args.pattern.now c.in-Some-binding_of.binding.gate) c.in-Some-binding_of.binding.last (get_or c.args.cursors.now.wires v 0)
    (get_or c.args.places.now (c.args.count - 1) 0 + 1) c.first_stop-stop.result) c.side_wire-used.ensures c.first_stop-stop.ensures.stop)
    c.first_stop-stop.ensures.near c.requires.linked.are (alike_less c.mark.ensures.more alike) is begins (omega arith) (λ passes. (let yes = c.is_passable.ensures.1 passes in absurd (cc)))))

pub returns-clause-cursors : goal.returns-clause-cursors
returns-clause-cursors c =
    let below : wire_of (not c.in-Some-binding_of.binding.last) (gate_at c.args.pattern.now c.in-Some-binding_of.binding.gate) < 3 =
    pattern_wire c.args.pattern.now c.requires.on_wires c.in-Some-binding_of.binding.gate (not c.in-Some-binding_of.binding.last) c.in-Some-binding_of.ensures.inside in
    bound_cursors c.args.cursors.now c.side_wire-new.result c.side_wire-to.result c.first_on.result (omega (arith, c.side_wire-new.ensures, below)) (omega (arith, c.side_wire-new.ensures, below)) c.requires.cursors
    (λ s one s_below same. binding_unshared c.in-Some-binding_of.ensures c.in_default.ensures.none s one s_below (same ∙ c.side_wire-new.ensures)) (subst (λ (w : ℕ). w ≢ no_wire) (sym c.side_wire-to.ensures) (taken_side c.args.gates.now _ c.first_stop-stop.result (not c.in-Some-binding_of.binding.last) c.requires.linked.are (omega arith)
    (subst (λ (v : ℕ). get_or c.args.cursors.now.wires v 0 ≢ no_wire) (sym c.side_wire-used.ensures) (used_next c.in-Some-binding_of.ensures c.requires.cursors c.requires.looked).0)
    (c.first_stop-stop.ensures.stop.uses (omega arith)))) c.first_on.ensures

pub returns-clause-ahead : goal.returns-clause-ahead
returns-clause-ahead c =
    let below : wire_of (not c.in-Some-binding_of.binding.last) (gate_at c.args.pattern.now c.in-Some-binding_of.binding.gate) < 3 =
    pattern_wire c.args.pattern.now c.requires.on_wires c.in-Some-binding_of.binding.gate (not c.in-Some-binding_of.binding.last) c.in-Some-binding_of.ensures.inside in
    bound_ahead c.args.cursors.now c.side_wire-new.result c.side_wire-to.result c.first_on.result (omega (arith, c.side_wire-new.ensures, below)) (omega (arith, c.side_wire-new.ensures, below)) c.requires.ahead
    c.first_on.ensures.ahead

pub returns-clause-marked : goal.returns-clause-marked
returns-clause-marked c =
    let below : wire_of (not c.in-Some-binding_of.binding.last) (gate_at c.args.pattern.now c.in-Some-binding_of.binding.gate) < 3 =
    pattern_wire c.args.pattern.now c.requires.on_wires c.in-Some-binding_of.binding.gate (not c.in-Some-binding_of.binding.last) c.in-Some-binding_of.ensures.inside in
    bound_marked c.args.cursors.now c.side_wire-new.result c.side_wire-to.result c.first_on.result (omega (arith, c.side_wire-new.ensures, below)) (omega (arith, c.side_wire-new.ensures, below))
    (marked_more (looks_on c.first_stop-stop.ensures.more c.mark.ensures.more) c.requires.marked) c.mark.ensures.marked
