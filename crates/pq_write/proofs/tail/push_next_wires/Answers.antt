use Rattle.std.proofs.Common.{◌∷◌, length, take, flat_map, ap, arith}
use Rattle.std.proofs.lemmas.List.{length-append}
use Rattle.std.proofs.lemmas.List.Folds.{length-flat_map-take}
use Rattle.pq_text.specs.Print.{place}
use Rattle.pq_write.proofs.tail.push_next_wires.Goals as goal

pub push_next_wire-requires-clause-room : goal.push_next_wire-requires-clause-room
push_next_wire-requires-clause-room c =
    let i = c.loop-wire.wire-index in
    omega (
      arith,
      length-flat_map-take (λ w. 44 ∷ place c.args.wires.now w) c.args.more.now i 0 c.loop-wire-test.true,
      c.requires.room,
      ap length c.loop-wire.invariant.items,
      length-append c.args.out.now.items (flat_map (λ w. 44 ∷ place c.args.wires.now w) (take i c.args.more.now)),
      c.loop-wire.invariant.room,
    )
