-- The chains of slots where a gate goes or comes, as the code does it.
use Rattle.std.proofs.Common.{◌≡◌, ◌≢◌, ℕ, ◌<◌, Bool, true, false, List, length, set, get_or, refl}
use Rattle.pq_gate.specs.declared.gate.Gate.{Gate}
use Rattle.pq_gate.specs.Commuting.{Touches}
use Rattle.pq_gate.specs.Ports.{first_wire, last_wire}
use Rattle.pq_links.specs.declared.links.Sides.{Sides}
use Rattle.pq_links.specs.Wires.{wire_of}
use Rattle.pq_links.specs.Places.{gate_at}
use Rattle.pq_links.specs.Links.{side, far}
use Rattle.pq_links.specs.Slots.{no_wire, free_slot, AreChained, IsGap}
use Rattle.pq_links.specs.Leading.{AreLed}
use Rattle.pq_links.proofs.Changing.{removed, removed_gap, inserted}

-- what is noted at a place
abbrev pub sides_at : List Sides → ℕ → Sides
sides_at sides place = get_or sides place (record { first = 0; second = 0 })

pub unlinked : (slots : List Gate) (place : ℕ) (next next_new previous previous_new : List Sides) → length slots < far → place < length slots → AreChained slots next previous →
    AreLed slots (gate_at slots place) (sides_at previous place) (sides_at next place) next next_new →
    AreLed slots (gate_at slots place) (sides_at next place) (sides_at previous place) previous previous_new → AreChained (set slots place free_slot) next_new previous_new
unlinked slots place next next_new previous previous_new few inside chained led_next led_previous =
    removed slots place few inside next next_new previous previous_new (sides_at previous place) (sides_at next place) chained (λ i. refl) (λ i. refl) led_next led_previous

pub gap_on_first : (slots : List Gate) (place : ℕ) (next previous : List Sides) → length slots < far → place < length slots → AreChained slots next previous →
    first_wire (gate_at slots place) ≢ no_wire →
    IsGap (set slots place free_slot) (first_wire (gate_at slots place)) place (sides_at previous place).first (sides_at next place).first
gap_on_first slots place next previous few inside chained valid =
    removed_gap slots place few inside next next previous previous (sides_at previous place) (sides_at next place) chained (λ i. refl) (λ i. refl) false valid

pub gap_on_last : (slots : List Gate) (place : ℕ) (next previous : List Sides) → length slots < far → place < length slots → AreChained slots next previous →
    last_wire (gate_at slots place) ≢ no_wire →
    IsGap (set slots place free_slot) (last_wire (gate_at slots place)) place (sides_at previous place).second (sides_at next place).second
gap_on_last slots place next previous few inside chained valid =
    removed_gap slots place few inside next next previous previous (sides_at previous place) (sides_at next place) chained (λ i. refl) (λ i. refl) true valid

pub linked_between : (slots : List Gate) (place : ℕ) (gate : Gate) (before after here : Sides) (next next_new previous previous_new : List Sides) → length slots < far → place < length slots →
    AreChained slots next previous → gate_at slots place ≡ free_slot → ¬ Touches gate no_wire → IsGap slots (first_wire gate) place before.first after.first →
    IsGap slots (last_wire gate) place before.second after.second → here.first ≡ place → here.second ≡ place →
    AreLed slots gate before here next next_new → AreLed slots gate after here previous previous_new →
    AreChained (set slots place gate) (set next_new place after) (set previous_new place before)
linked_between slots place gate before after here next next_new previous previous_new few inside chained free wires on_first on_last here_first here_second led_next led_previous =
    inserted slots place few inside gate next next_new previous previous_new before after here chained free wires gaps both led_next led_previous
  where
    gaps : (i : Bool) → IsGap slots (wire_of i gate) place (side i before) (side i after)
    gaps true = on_last
    gaps false = on_first

    both : (i : Bool) → side i here ≡ place
    both true = here_second
    both false = here_first
