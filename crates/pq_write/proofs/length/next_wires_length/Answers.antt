use Rattle.std.proofs.Common.{◌∷◌, arith}
use Rattle.std.proofs.lemmas.List.Folds.{length-flat_map-take}
use Rattle.pq_text.specs.Print.{place}
use Rattle.pq_write.proofs.length.next_wires_length.Goals as goal

pub overflow_add-sum-in-loop-wire : goal.overflow_add-sum-in-loop-wire
overflow_add-sum-in-loop-wire c =
    omega (arith, length-flat_map-take (λ w. 44 ∷ place c.args.wires.now w) c.args.more.now c.loop-wire.wire-index 0 c.loop-wire-test.true, c.requires.fits)
