use Rattle.std.proofs.Common.{length, ap, arith}
use Rattle.std.proofs.lemmas.List.{length-append}
use Rattle.pq_text.specs.Print.{place}
use Rattle.pq_write.proofs.Listing.{joined_after, joined_length}
use Rattle.pq_write.proofs.tail.push_wires.Goals as goal

pub put-requires : goal.put-requires
put-requires c =
    omega (arith, ap length c.place.ensures.text, joined_length (place c.args.wires.now) c.args.numbers.now c.in-Some.more.now c.in-Some.first c.in-Some.ensures.some, c.requires.room)

pub push_next_wires-requires-clause-room : goal.push_next_wires-requires-clause-room
push_next_wires-requires-clause-room c =
    omega (arith, ap length c.place.ensures.text, ap length c.put.ensures.items, length-append c.args.out.now.items c.place.result.now, c.put.ensures.room, joined_length (place c.args.wires.now) c.args.numbers.now c.in-Some.more.now c.in-Some.first c.in-Some.ensures.some, c.requires.room)

pub returns-in-Some-clause-items : goal.returns-in-Some-clause-items
returns-in-Some-clause-items c =
    joined_after (place c.args.wires.now) c.args.numbers.now c.in-Some.more.now c.in-Some.first c.args.out.now.items c.place.result.now c.put.new.out.items c.push_next_wires.new.out.items c.in-Some.ensures.some c.place.ensures.text c.put.ensures.items c.push_next_wires.ensures.items
