-- Gaps on wires where slots are freed and filled.
use Rattle.std.proofs.Common.{◌≡◌, ◌≢◌, ℕ, ◌+◌, ◌<◌, ◌≤◌, List, length, set, sym, subst, arith}
use Rattle.std.proofs.lemmas.List.{length-set, get_or-set_same}
use Rattle.pq_gate.specs.declared.gate.Gate.{Gate}
use Rattle.pq_gate.specs.declared.gate.Gate.TheVariants.{H}
use Rattle.pq_gate.specs.Commuting.{Touches}
use Rattle.pq_links.specs.Places.{gate_at}
use Rattle.pq_links.specs.Links.{far}
use Rattle.pq_links.specs.Slots.{no_wire, free_slot, IsGap}
use Rattle.pq_links.proofs.Changing.{set_agrees, free_uses}
use Rattle.pq_links.proofs.Neighbours.{gap_ahead, gap_back, gap_kept, gap_behind}

-- a gap on a wire that the gate doesn't use is one when the gate goes
pub gap_removed : (slots : List Gate) (place : ℕ) {wire at before after : ℕ} → length slots < far → place < length slots → at ≤ length slots → wire ≢ no_wire →
    ¬ Touches (gate_at slots place) wire → IsGap slots wire at before after → IsGap (set slots place free_slot) wire at before after
gap_removed slots place {wire} few inside upto valid unused gap =
    gap_kept (set_agrees slots place free_slot) upto few gap inside unused
    (free_uses wire (gate_at (set slots place free_slot) place) (get_or-set_same slots place free_slot (H 0) inside) valid)

-- and when the gate comes into a free slot
pub gap_inserted : (slots : List Gate) (place : ℕ) (gate : Gate) {wire at before after : ℕ} → length slots < far → place < length slots → at ≤ length slots → wire ≢ no_wire →
    gate_at slots place ≡ free_slot → ¬ Touches gate wire → IsGap slots wire at before after → IsGap (set slots place gate) wire at before after
gap_inserted slots place gate {wire} few inside upto valid free unused gap =
    gap_kept (set_agrees slots place gate) upto few gap inside (free_uses wire (gate_at slots place) free valid)
    (subst (λ (g : Gate). ¬ Touches g wire) (sym (get_or-set_same slots place gate (H 0) inside)) unused)

-- a gap at the end of a run of free slots is one at each of its slots
pub gap_in_run : (slots : List Gate) (place end : ℕ) {wire before after : ℕ} → end ≤ length slots → place ≤ end → wire ≢ no_wire →
    ((p : ℕ) → place ≤ p → p < end → gate_at slots p ≡ free_slot) → IsGap slots wire end before after → IsGap slots wire place before after
gap_in_run slots place end {wire} inside upto valid free gap =
    gap_back place gap upto inside (λ p from below. free_uses wire (gate_at slots p) (free p from below) valid)

-- a gate that comes into the first slot of a run stands before the gap at the run's end
pub gap_at_end : (slots : List Gate) (place end : ℕ) (gate : Gate) {wire before after : ℕ} → length slots < far → place < end → end ≤ length slots → wire ≢ no_wire →
    ((p : ℕ) → place ≤ p → p < end → gate_at slots p ≡ free_slot) → Touches gate wire → IsGap slots wire end before after → IsGap (set slots place gate) wire end place after
gap_at_end slots place end gate {wire} {before} {after} few below inside valid free uses gap =
    let here : place < length slots = omega arith in
    let long : length (set slots place gate) ≡ length slots = length-set slots place gate in
    let ahead : end ≤ after = gap.after.ahead in
    let behind : IsGap (set slots place gate) wire (place + 1) place after =
    gap_behind (set_agrees slots place gate) few here (gap_in_run slots place end inside (omega arith) valid free gap)
    (free_uses wire (gate_at slots place) (free place (omega arith) below) valid)
    (subst (λ (g : Gate). Touches g wire) (sym (get_or-set_same slots place gate (H 0) here)) uses) in
    gap_ahead end (omega arith) behind (omega arith) ahead (omega arith)
