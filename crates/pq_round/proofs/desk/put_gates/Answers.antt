use Rattle.std.proofs.Common.{arith, ◌≡◌, ◌+◌, ◌<◌, ◌++◌, ◌∷◌, [], length, take, get_or, Some, None, sym, ◌∙◌}
use Rattle.std.proofs.lemmas.List.{length_push}
use Rattle.pq_round.specs.Results.{gates_at}
use Rattle.pq_round.proofs.Gathering.{gates_more_some, gates_more_none}
use Rattle.pq_round.proofs.desk.put_gates.Goals as goal
use Rattle.pq_round.proofs.desk.put_gates.Goals.{in-Some, in_default}

-- a gate goes into the list, and a tombstone doesn't
pub loop-place-preserved : goal.loop-place-preserved
loop-place-preserved c = elim c.match-gate_at.branch [
  | in-Some w ↦
      let at : get_or c.args.cells.now (get_or c.args.places.now c.loop-place.place-index 0) None ≡ Some w.in-Some.gate = sym c.gate_at.ensures ∙ w.in-Some.is in
      let below : c.loop-place.place-index < length c.args.places.now = omega arith in
      let more : gates_at c.args.cells.now (take (c.loop-place.place-index + 1) c.args.places.now)
      ≡ gates_at c.args.cells.now (take c.loop-place.place-index c.args.places.now) ++ w.in-Some.gate ∷ [] =
      gates_more_some c.args.cells.now c.args.places.now c.loop-place.place-index w.in-Some.gate below at in
      let one : length (c.loop-place.list.items ++ w.in-Some.gate ∷ []) ≡ length c.loop-place.list.items + 1 = length_push c.loop-place.list.items w.in-Some.gate in
      let longer : length c.match-gate_at.list.items ≡ length c.loop-place.list.items + 1 = cc in
      let room : c.match-gate_at.list.room ≡ c.loop-place.list.room = cc in
      record {
        gathered = cc;
        room = room ∙ c.loop-place.invariant.room;
        few = omega (arith, longer, c.loop-place.invariant.few);
      }
  | in_default w ↦
      let at : get_or c.args.cells.now (get_or c.args.places.now c.loop-place.place-index 0) None ≡ None = sym c.gate_at.ensures ∙ w.in_default.is in
      let below : c.loop-place.place-index < length c.args.places.now = omega arith in
      let more : gates_at c.args.cells.now (take (c.loop-place.place-index + 1) c.args.places.now)
      ≡ gates_at c.args.cells.now (take c.loop-place.place-index c.args.places.now) =
      gates_more_none c.args.cells.now c.args.places.now c.loop-place.place-index below at in
      let longer : length c.match-gate_at.list.items ≡ length c.loop-place.list.items = cc in
      let room : c.match-gate_at.list.room ≡ c.loop-place.list.room = cc in
      record {
        gathered = cc;
        room = room ∙ c.loop-place.invariant.room;
        few = omega (arith, longer, c.loop-place.invariant.few);
      }
]
