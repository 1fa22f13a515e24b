use Rattle.std.proofs.Common.{◌≡◌, ◌≢◌, ℕ, ◌+◌, ◌<◌, ◌≤◌, length, slice_index}
use Rattle.pq_gate.specs.Commuting.{Touches}
use Rattle.pq_links.specs.Links.{IsNextOn}
use Rattle.pq_links.specs.Slots.{no_wire}
use Rattle.pq_match.specs.Redex.{gate_at}
use Rattle.pq_match.proofs.cursors.move_on.Given as goal

abbrev pub invariant-loop-wire : goal.invariant-loop-wire
invariant-loop-wire l = record {
  long : length l.cursors.next ≡ 3;
  wires : l.cursors.wires ≡ l.initial.cursors.wires;
  next : (v : ℕ) → v < l.wire → slice_index l.initial.cursors.next v ≡ l.place → slice_index l.initial.cursors.wires v ≢ no_wire → Touches (gate_at l.gates l.place) (slice_index l.initial.cursors.wires v) →
      IsNextOn l.gates (slice_index l.initial.cursors.wires v) (l.place + 1) (slice_index l.cursors.next v);
  others : (v : ℕ) → v < l.wire → slice_index l.initial.cursors.next v ≢ l.place → slice_index l.cursors.next v ≡ slice_index l.initial.cursors.next v;
  rest : (v : ℕ) → l.wire ≤ v → slice_index l.cursors.next v ≡ slice_index l.initial.cursors.next v;
}
