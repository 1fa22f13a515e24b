use Rattle.std.proofs.Common.{◌≡◌, false, ℕ, ◌+◌, ◌-◌, ◌<◌, true, get_or, set, refl, sym, subst, arith, rules}
use Rattle.pq_match.specs.Seek.{MarksAll, AreLookedAt, AreCursors, AreAhead}
use Rattle.pq_match.specs.Ties.{IsTiedBy}
use Rattle.pq_match.proofs.Growing.{eight_more, grown_more, grown_is_full}
use Rattle.pq_match.proofs.GrowingWalk.{walk_finds}
use Rattle.pq_match.proofs.Marking.{looks_on, marks_all_more, near_more}
use Rattle.pq_match.proofs.LookingAlike.{looked_more, looked_at_more}
use Rattle.pq_match.proofs.Seeking.{walked_here, alike_starts, alike_passes, alike_goes_on, alike_is_stuck, alike_ends, alike_misfits, alike_of_kind, place_known}
use Rattle.pq_match.proofs.Tying.{tied_more, tied_on, tied_moved}
use Rattle.pq_match.proofs.Taken.{place_taken}
use Rattle.pq_match.proofs.SearchGates.{gate_on_wires}
use Rattle.pq_match.proofs.CursorLaws.{cursors_apart, cursors_on, cursors_moved, moved_ahead, cursors_led, marked_led, marked_moved, marked_more, own_wires, last_is}
use Rattle.pq_match.proofs.seek.+seeking.Goals as goal

pub choose-returns-then-not-fits-clause-finds : goal.choose-returns-then-not-fits-clause-finds
choose-returns-then-not-fits-clause-finds t c =
    alike_misfits c.requires.next c.requires.grown c.requires.looked c.requires.eight (omega arith) c.requires.known
    (λ fits. absurd (let yes = c.if-not-fits.ensures.1 fits in cc))

pub choose-returns-then-count-pattern-clause-finds : goal.choose-returns-then-count-pattern-clause-finds
choose-returns-then-count-pattern-clause-finds t c =
    let room : c.args.count < 8 = omega arith in
    grown_is_full c.args.count c.if-count-pattern.true
    (grown_more c.requires.grown c.requires.eight room c.requires.behind c.requires.place (c.if-not-fits.ensures.0 refl))
    (eight_more c.args.place c.requires.eight room)

pub choose-lead_to-requires : goal.choose-lead_to-requires
choose-lead_to-requires t c = record {
  linked = c.requires.linked;
  place = c.requires.place;
  taken = place_taken c.requires.linked.are c.requires.on_wires c.requires.next c.requires.eight (omega arith) c.requires.place (c.if-not-fits.ensures.0 refl);
  on_wires = gate_on_wires 3 c.args.pattern.now c.requires.on_wires c.args.count c.requires.next;
}

pub choose-seek-requires : goal.choose-seek-requires
choose-seek-requires t c =
    let room : c.args.count < 8 = omega arith in
    let last : get_or (set c.args.places.now c.args.count c.args.place) (c.args.count + 1 - 1) 0 ≡ c.args.place = last_is c.args.place c.requires.eight room in
    let fits = c.if-not-fits.ensures.0 refl in
    let taken = place_taken c.requires.linked.are c.requires.on_wires c.requires.next c.requires.eight room c.requires.place fits in
    let moved = cursors_moved c.requires.on_wires c.requires.next c.requires.cursors c.requires.ahead c.requires.place c.move_on.ensures in
    let ahead : AreAhead (c.args.place + 1) c.lead_to.new.cursors = c.lead_to.ensures.ahead (moved_ahead c.requires.on_wires c.requires.next c.requires.cursors c.requires.ahead c.requires.place c.move_on.ensures) in
    let looked_at : AreLookedAt c.args.gates.now c.mark_gate.new.self (set c.args.places.now c.args.count c.args.place) (c.args.count + 1) =
    looked_at_more (looked_more c.mark_gate.ensures.more c.requires.looked) (omega arith) (λ one. (taken one, c.mark_gate.ensures.marked one)) c.requires.eight room in
    let marked = marked_led (own_wires c.args.place fits c.requires.eight room) c.lead_to.ensures.led c.mark_gate.ensures.marked
    (marked_moved c.requires.on_wires c.requires.next c.requires.cursors c.requires.ahead c.requires.place c.move_on.ensures (marked_more c.mark_gate.ensures.more c.requires.marked)) in (
      search rules,
      (
        c.requires.linked,
        (
          c.requires.short,
          (
            c.requires.on_wires,
            (
              omega arith,
              (
                omega arith,
                (
                  grown_more c.requires.grown c.requires.eight room c.requires.behind c.requires.place fits,
                  (
                    eight_more c.args.place c.requires.eight room,
                    (
                      subst (λ (p : ℕ). AreCursors c.args.gates.now c.args.pattern.now (set c.args.places.now c.args.count c.args.place) (c.args.count + 1) (p + 1) c.lead_to.new.cursors) (sym last)
                          (cursors_led moved taken c.lead_to.ensures.led fits c.requires.eight room),
                      (subst (λ (p : ℕ). AreAhead (p + 1) c.lead_to.new.cursors) (sym last) ahead, (looked_at, (marked, c.requires.back))),
                    ),
                  ),
                ),
              ),
            ),
          ),
        ),
      ),
    )

pub choose_by_kind-returns-then-not-are_of_one_kind-clause-finds : goal.choose_by_kind-returns-then-not-are_of_one_kind-clause-finds
choose_by_kind-returns-then-not-are_of_one_kind-clause-finds t c =
    alike_of_kind c.requires.next c.requires.eight (omega arith) c.requires.known
    (λ same. absurd (let yes = c.if-not-are_of_one_kind.ensures.1 same in cc))

pub seek-walk-init : goal.seek-walk-init
seek-walk-init t c =
    let tie = c.in-Some.ensures in
    let more = looks_on tie.more c.look_at.ensures.more in
    let looked_at = looked_more more c.requires.looked in
    let marks : c.in-Some.free ≡ true → MarksAll c.look_at.new.self.mask = λ is. marks_all_more c.look_at.ensures.more (tie.free is) in
    let tied : c.in-Some.free ≡ false → IsTiedBy c.args.gates.now c.args.pattern.now c.look_at.new.self c.args.places.now c.args.count (get_or c.args.places.now (c.args.count - 1) 0 + 1) c.tie.new.cursors =
    λ is. tied_more c.look_at.ensures.more (tie.tied is) in
    record {
      within = c.next_place-place.ensures.within;
      seen = c.look_at.ensures.near;
      more = more;
      looked_at = looked_at;
      marked = marked_more c.look_at.ensures.more tie.marked;
      wide = marks;
      tied = λ is. tied_on c.next_place-place.result c.next_place-place.ensures.ahead c.next_place-place.ensures.behind (tied is);
      ahead = c.next_place-place.ensures.ahead;
      stands = c.next_place-place.ensures.stands;
      cursors = cursors_on c.requires.on_wires c.requires.next tie.cursors c.next_place-place.result c.next_place-place.ensures.ahead c.next_place-place.ensures.behind;
      walked = alike_passes c.args.gates.now c.args.pattern.now c.args.places.now c.args.count _ c.next_place-place.result c.args.looked.now c.look_at.new.self c.in-Some.free c.requires.linked.are
          (alike_starts c.requires.some c.requires.next c.requires.grown c.requires.looked) more c.requires.some c.requires.next c.requires.grown looked_at c.look_at.ensures.near
          c.next_place-place.ensures.behind c.next_place-place.ensures.within c.next_place-place.ensures.ahead marks tied
          (cursors_apart c.requires.on_wires c.requires.next tie.cursors c.next_place-place.result c.next_place-place.ensures.ahead c.next_place-place.ensures.within)
          c.next_place-place.ensures.kinds;
    }

pub seek-choose_by_kind-requires : goal.seek-choose_by_kind-requires
seek-choose_by_kind-requires t c = (
  search rules,
  (
    c.requires.linked,
    (
      c.requires.short,
      (
        c.requires.on_wires,
        (
          c.requires.next,
          (
            c.walk-test.true,
            (
              c.requires.grown,
              (
                (walked_here c.requires.linked.are c.walk.invariant.walked).next,
                (
                  c.requires.eight,
                  (
                    c.walk.invariant.cursors,
                    (
                      c.walk.invariant.ahead,
                      (
                        c.walk.invariant.looked_at,
                        (
                          c.walk.invariant.marked,
                          (
                            c.walk.invariant.seen,
                            (
                              place_known c.in-Some.free c.requires.linked.are c.requires.on_wires c.requires.next c.walk.invariant.cursors c.walk.invariant.marked c.requires.some c.requires.eight (omega arith)
                                  c.walk.invariant.walked c.walk-test.true c.walk.invariant.seen c.walk.invariant.wide c.walk.invariant.stands,
                              c.requires.back,
                            ),
                          ),
                        ),
                      ),
                    ),
                  ),
                ),
              ),
            ),
          ),
        ),
      ),
    ),
  ),
)

pub seek-returns-in-Some-choose_by_kind-clause-finds : goal.seek-returns-in-Some-choose_by_kind-clause-finds
seek-returns-in-Some-choose_by_kind-clause-finds t c =
    walk_finds c.walk.place c.in-Some-choose_by_kind.ensures.finds (walked_here c.requires.linked.are c.walk.invariant.walked) c.requires.eight (omega arith) c.requires.next

pub seek-returns-then-not-is_passable-clause-finds : goal.seek-returns-then-not-is_passable-clause-finds
seek-returns-then-not-is_passable-clause-finds t c =
    alike_is_stuck c.walk.looked c.walk.place c.walk.invariant.walked c.choose_by_kind.ensures.more c.requires.some c.requires.grown
    (looked_more c.choose_by_kind.ensures.more c.walk.invariant.looked_at) (near_more c.choose_by_kind.ensures.more c.walk.invariant.seen) c.requires.eight (omega arith) c.requires.next c.in_default-choose_by_kind.ensures.finds
    (λ passes. absurd (let yes = c.is_passable.ensures.1 passes in cc))

pub seek-walk-preserved : goal.seek-walk-preserved
seek-walk-preserved t c =
    let moved = cursors_moved c.requires.on_wires c.requires.next c.walk.invariant.cursors c.walk.invariant.ahead c.walk-test.true c.move_on.ensures in
    let chosen = looked_more c.choose_by_kind.ensures.more c.walk.invariant.looked_at in
    let looked_at = looked_more c.look_at-in-walk.ensures.more chosen in
    let more = looks_on c.choose_by_kind.ensures.more c.look_at-in-walk.ensures.more in
    let marks : c.in-Some.free ≡ true → MarksAll c.look_at-in-walk.new.self.mask = λ is. marks_all_more more (c.walk.invariant.wide is) in
    let tied : c.in-Some.free ≡ false → IsTiedBy c.args.gates.now c.args.pattern.now c.look_at-in-walk.new.self c.args.places.now c.args.count (c.walk.place + 1) c.move_on.new.cursors =
    λ is. tied_moved c.requires.on_wires c.requires.next c.walk.invariant.cursors c.walk.invariant.ahead c.walk-test.true c.move_on.ensures (tied_more more (c.walk.invariant.tied is)) in
    record {
      within = c.next_place-place-in-walk.ensures.within;
      seen = c.look_at-in-walk.ensures.near;
      more = looks_on c.walk.invariant.more more;
      looked_at = looked_at;
      marked = marked_moved c.requires.on_wires c.requires.next c.walk.invariant.cursors c.walk.invariant.ahead c.walk-test.true c.move_on.ensures (marked_more more c.walk.invariant.marked);
      wide = marks;
      tied = λ is. tied_on c.next_place-place-in-walk.result c.next_place-place-in-walk.ensures.ahead c.next_place-place-in-walk.ensures.behind (tied is);
      ahead = c.next_place-place-in-walk.ensures.ahead;
      stands = c.next_place-place-in-walk.ensures.stands;
      cursors = cursors_on c.requires.on_wires c.requires.next moved c.next_place-place-in-walk.result c.next_place-place-in-walk.ensures.ahead c.next_place-place-in-walk.ensures.behind;
      walked = alike_passes c.args.gates.now c.args.pattern.now c.args.places.now c.args.count _ c.next_place-place-in-walk.result c.choose_by_kind.new.looked c.look_at-in-walk.new.self
          c.in-Some.free c.requires.linked.are
          (alike_goes_on c.walk.invariant.walked c.choose_by_kind.ensures.more c.requires.some c.requires.grown chosen (near_more c.choose_by_kind.ensures.more c.walk.invariant.seen) c.requires.eight (omega arith)
          c.in_default-choose_by_kind.ensures.finds (c.is_passable.ensures.0 c.if-not-is_passable.false))
          c.look_at-in-walk.ensures.more c.requires.some c.requires.next c.requires.grown looked_at c.look_at-in-walk.ensures.near
          c.next_place-place-in-walk.ensures.behind c.next_place-place-in-walk.ensures.within c.next_place-place-in-walk.ensures.ahead marks tied
          (cursors_apart c.requires.on_wires c.requires.next moved c.next_place-place-in-walk.result c.next_place-place-in-walk.ensures.ahead c.next_place-place-in-walk.ensures.within)
          c.next_place-place-in-walk.ensures.kinds;
    }

pub seek-returns-clause-finds : goal.seek-returns-clause-finds
seek-returns-clause-finds t c =
    alike_ends c.walk.place c.walk.invariant.walked c.walk-test.false c.walk.invariant.seen c.requires.next
