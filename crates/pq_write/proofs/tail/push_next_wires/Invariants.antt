use Rattle.std.proofs.Common.{◌≡◌, ◌∷◌, ◌++◌, take, flat_map}
use Rattle.pq_text.specs.Print.{place}
use Rattle.pq_write.proofs.tail.push_next_wires.Given as goal

abbrev pub invariant-loop-wire : goal.invariant-loop-wire
invariant-loop-wire l = record {
  items : l.out.items ≡ l.initial.out.items ++ flat_map (λ w. 44 ∷ place l.wires w) (take l.wire-index l.more);
  room : l.out.room ≡ l.initial.out.room;
}
