use Rattle.std.proofs.Common.{◌≡◌, ◌≢◌, ◌+◌, ◌<◌, ◌≤◌, length, get_or, take, ap, ◌∙◌, arith}
use Rattle.std.proofs.lemmas.List.{get_or_default}
use Rattle.pq_gate.specs.declared.gate.Gate.TheVariants.{H}
use Rattle.pq_match.specs.Redex.{last_place}
use Rattle.pq_match.specs.Rewrite.{unchosen}
use Rattle.pq_match.proofs.RewritingPlaces.{closed_none, closed_chosen, closed_other, passed_all, first_upto_last}
use Rattle.pq_match.proofs.rewrite.close_up.Goals as goal
use Rattle.pq_match.proofs.rewrite.close_up.Goals.{then-passed-places+then-places-passed, else-passed-places, else-passed-places-via-then-passed-places+else-places-passed, else-passed-places-via-else-passed-places}

pub loop-place-init : goal.loop-place-init
loop-place-init c =
    let upto : get_or c.args.places.now 0 0 ≤ last_place c.args.places.now = first_upto_last c.args.places.now c.requires.rising in
    closed_none c.args.gates.now c.args.places.now c.requires.rising (omega (arith, c.requires.last, c.requires.inside))

pub loop-place-preserved : goal.loop-place-preserved
loop-place-preserved c =
    let inside : c.loop-place.place < length c.args.gates.now = omega (arith, c.requires.inside, c.loop-place-test.true) in
    elim c.if-passed-places.branch [
      | then-passed-places+then-places-passed w ↦
          rw (w.gates-is, w.kept-is, w.passed-is)
          (closed_chosen c.args.gates.now c.loop-place.gates c.args.places.now c.loop-place.kept c.loop-place.passed c.loop-place.place
          c.requires.rising inside c.loop-place.invariant w.if-passed-places.true w.if-places-passed.true)
      | else-passed-places w ↦
          (let other : c.loop-place.passed < length c.args.places.now → get_or c.args.places.now c.loop-place.passed 0 ≢ c.loop-place.place =
          elim w.else-passed-places.branch [
            | else-passed-places-via-then-passed-places+else-places-passed w' ↦ (λ some same. w'.if-places-passed.false same)
            | else-passed-places-via-else-passed-places w' ↦ (λ some same. omega (arith, w'.if-passed-places.false))
          ] in
          rw (w.gates-is, w.kept-is, w.passed-is)
          (closed_other c.args.gates.now c.loop-place.gates c.args.places.now c.loop-place.kept c.loop-place.passed c.loop-place.place
          (get_or c.loop-place.gates c.loop-place.place (H 0)) c.requires.rising inside c.loop-place.auto.gates c.loop-place.invariant other
          (get_or_default c.loop-place.gates c.loop-place.place _ _ (omega (arith, c.loop-place.auto.gates, inside)))))
    ]

pub returns-clause-closed : goal.returns-clause-closed
returns-clause-closed c =
    let upto : get_or c.args.places.now 0 0 ≤ last_place c.args.places.now = first_upto_last c.args.places.now c.requires.rising in
    let e : c.loop-place.place ≡ c.args.end = omega (arith, c.requires.last) in
    c.loop-place.invariant.front ∙ ap (λ n. unchosen c.args.places.now 0 (take n c.args.gates.now)) e

pub returns-clause-rest : goal.returns-clause-rest
returns-clause-rest c =
    let upto : get_or c.args.places.now 0 0 ≤ last_place c.args.places.now = first_upto_last c.args.places.now c.requires.rising in
    let e : c.loop-place.place ≡ c.args.end = omega (arith, c.requires.last) in
    rw (← e) c.loop-place.invariant.rest

pub returns-clause-count : goal.returns-clause-count
returns-clause-count c =
    let upto : get_or c.args.places.now 0 0 ≤ last_place c.args.places.now = first_upto_last c.args.places.now c.requires.rising in
    let e : c.loop-place.place ≡ last_place c.args.places.now + 1 = omega (arith, c.requires.last) in
    let all : c.loop-place.passed ≡ length c.args.places.now =
    passed_all c.args.places.now c.loop-place.passed c.requires.rising (rw (← e) c.loop-place.invariant.pointer) in
    omega (arith, c.requires.last, c.loop-place.invariant.count)
