use Rattle.std.proofs.Common.{◌<◌, ◌^◌, ◌∷◌, length, flat_map, ap, arith}
use Rattle.pq_text.specs.Print.{place}
use Rattle.pq_write.proofs.Listing.{joined_length}
use Rattle.pq_write.proofs.length.wires_length.Goals as goal

pub next_wires_length-requires-clause-fits : goal.next_wires_length-requires-clause-fits
next_wires_length-requires-clause-fits c =
    let whole = joined_length (place c.args.wires.now) c.args.numbers.now c.in-Some.more.now c.in-Some.first c.in-Some.ensures.some in
    let fits : length (flat_map (λ w. 44 ∷ place c.args.wires.now w) c.in-Some.more.now) < 2 ^ 62 = omega (arith, whole, c.requires.fits) in
    fits

pub overflow_add-result : goal.overflow_add-result
overflow_add-result c =
    let whole = joined_length (place c.args.wires.now) c.args.numbers.now c.in-Some.more.now c.in-Some.first c.in-Some.ensures.some in
    omega (arith, whole, c.requires.fits, ap length c.place.ensures.text, c.next_wires_length.ensures)

pub returns-in-Some : goal.returns-in-Some
returns-in-Some c =
    let whole = joined_length (place c.args.wires.now) c.args.numbers.now c.in-Some.more.now c.in-Some.first c.in-Some.ensures.some in
    omega (arith, whole, ap length c.place.ensures.text, c.next_wires_length.ensures)
