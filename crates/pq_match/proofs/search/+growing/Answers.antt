use Rattle.std.proofs.Common.{◌<◌, refl, arith, rules}
use Rattle.pq_match.proofs.Growing.{eight_more, grown_more, grown_is_full}
use Rattle.pq_match.proofs.GrowingWalk.{walk_starts, walk_goes_on, walk_finds}
use Rattle.pq_match.proofs.GrowingSkips.{walk_skips}
use Rattle.pq_match.proofs.search.+growing.Goals as goal

pub extend-walk-init : goal.extend-walk-init
extend-walk-init t c =
    walk_skips c.args.gates.now c.args.pattern.now c.args.end c.args.places.now c.args.count _ c.next_place-place.result c.wires_used-used.result c.stands_apart-free.result
    (walk_starts c.requires.some c.requires.next c.requires.grown) c.requires.next c.next_place-place.ensures.behind c.wires_used-used.ensures
    (λ is all. absurd (let yes = c.stands_apart-free.ensures.1 all in cc)) c.next_place-place.ensures.unused c.next_place-place.ensures.kinds

pub extend-walk-preserved : goal.extend-walk-preserved
extend-walk-preserved t c =
    walk_skips c.args.gates.now c.args.pattern.now c.args.end c.args.places.now c.args.count _ c.next_place-place-in-walk.result c.wires_used-used.result c.stands_apart-free.result
    (walk_goes_on c.requires.eight (omega arith) c.walk.invariant c.in_default.ensures (c.is_passable.ensures.0 c.if-not-is_passable.false)) c.requires.next
    c.next_place-place-in-walk.ensures.behind c.wires_used-used.ensures (λ is all. absurd (let yes = c.stands_apart-free.ensures.1 all in cc))
    c.next_place-place-in-walk.ensures.unused c.next_place-place-in-walk.ensures.kinds

pub extend-returns-in-Some : goal.extend-returns-in-Some
extend-returns-in-Some t c = walk_finds c.walk.place c.in-Some.ensures c.walk.invariant c.requires.eight (omega arith) c.requires.next

pub extend_at-returns-then-count-pattern : goal.extend_at-returns-then-count-pattern
extend_at-returns-then-count-pattern t c =
    let room : c.args.count < 8 = omega arith in
    grown_is_full c.args.count c.if-count-pattern.true
    (grown_more c.requires.grown c.requires.eight room c.requires.behind c.requires.place (c.if-not-fits.ensures.0 refl))
    (eight_more c.args.place c.requires.eight room)

pub extend_at-extend-requires : goal.extend_at-extend-requires
extend_at-extend-requires t c =
    let room : c.args.count < 8 = omega arith in (
      search rules,
      (
        c.requires.few,
        (
          c.requires.short,
          (
            c.requires.end,
            (
              omega arith,
              (
                omega arith,
                (
                  grown_more c.requires.grown c.requires.eight room c.requires.behind c.requires.place (c.if-not-fits.ensures.0 refl),
                  eight_more c.args.place c.requires.eight room,
                ),
              ),
            ),
          ),
        ),
      ),
    )
