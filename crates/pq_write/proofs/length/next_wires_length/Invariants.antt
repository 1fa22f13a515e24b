use Rattle.std.proofs.Common.{◌≡◌, ◌∷◌, length, take, flat_map}
use Rattle.pq_text.specs.Print.{place}
use Rattle.pq_write.proofs.length.next_wires_length.Given as goal

abbrev pub invariant-loop-wire : goal.invariant-loop-wire
invariant-loop-wire l = l.sum ≡ length (flat_map (λ w. 44 ∷ place l.wires w) (take l.wire-index l.more))
