use Rattle.std.proofs.Common.{◌≡◌, ◌+◌, ◌-◌, ◌<◌, length, get_or, sym, ap, ◌∙◌, arith}
use Rattle.pq_match.specs.Redex.{last_place}
use Rattle.pq_match.proofs.Rewriting.{rewritten_is}
use Rattle.pq_match.proofs.RewritingPlaces.{last_place_is}
use Rattle.pq_match.proofs.RewritingWires.{places_long}
use Rattle.pq_match.proofs.rewrite.rewrite.Goals as goal

pub returns-clause-rewritten : goal.returns-clause-rewritten
returns-clause-rewritten c wires is =
    let row = c.args.row.now in
    let places = c.args.places.now in
    let sound = c.pattern.ensures.sound in
    let front = rw c.replacement-replacement.ensures.replacement at c.put.ensures.front in
    let behind = rw c.replacement-replacement.ensures.replacement at c.put.ensures.rest in
    let moved = rw c.replacement-replacement.ensures.replacement at c.copy_within.ensures.after in
    let read = rw c.pattern.ensures.pattern at c.read_wires-wires.ensures in
    let as_many : length places ≡ length row.pattern = places_long c.args.gates.now row.pattern wires places is.chosen in
    let some : length places ≡ (length places - 1) + 1 = omega (arith, sound.shortens.shorter) in
    let last : get_or places (length places - 1) 0 + 1 ≡ last_place places + 1 = ap (λ n. n + 1) (sym (last_place_is places (length places - 1) some)) in
    let inside : get_or places (length places - 1) 0 < length c.args.gates.now = is.inside (length places - 1) 0 (omega arith) in
    rw c.replacement-replacement.ensures.replacement
    (rewritten_is row c.args.gates.now c.close_up-kept.new.gates c.put.new.gates c.copy_within.new.self places wires c.read_wires-wires.result
    c.close_up-kept.result (get_or places (length places - 1) 0 + 1) sound is (read wires is.chosen) last (omega arith)
    (c.put.auto.gates ∙ c.close_up-kept.auto.gates) c.close_up-kept.ensures.closed c.close_up-kept.ensures.rest c.close_up-kept.ensures.count front behind moved)
