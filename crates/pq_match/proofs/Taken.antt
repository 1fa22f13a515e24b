-- Free slots are never chosen.
use Rattle.std.proofs.Common.{◌≡◌, ℕ, ◌<◌, false, true, List, length, get_or, set, refl, sym, ap, subst, ◌∙◌, arith}
use Rattle.std.specs.Prelude.{All}
use Rattle.pq_gate.specs.declared.gate.Gate.{Gate}
use Rattle.pq_gate.specs.declared.gate.Gate.TheVariants.{H, X, Phase, Cx}
use Rattle.pq_gate.specs.Circuit.{IsOnWires, IsCircuit}
use Rattle.pq_gate.specs.Commuting.{Touches}
use Rattle.pq_gate.specs.Kind.{kind_of}
use Rattle.pq_rules.specs.Row.{RowView, IsSound}
use Rattle.pq_links.specs.Slots.{free_slot, AreSlots}
use Rattle.pq_links.proofs.Touching.{touching}
use Rattle.pq_match.specs.Redex.{RedexView, IsRedex, gate_at}
use Rattle.pq_match.specs.Search.{AreAlike, IsFitting, IsFull, AreEight}
use Rattle.pq_match.specs.declared.looked.Looked.{Looked}
use Rattle.pq_match.specs.Seek.{IsTaken, HasNoneAlike, StartsAt}
use Rattle.pq_match.proofs.Growing.{put_at}
use Rattle.pq_match.proofs.OneFirst.{last_inside, row_sound}
use Rattle.pq_match.proofs.SearchGates.{gate_on_wires}
use Rattle.pq_match.proofs.SearchMatch.{match_full}

-- a pattern's gate isn't a CX with one wire twice
misfit_free : (n : ℕ) (gate : Gate) → IsOnWires n gate → kind_of free_slot ≡ kind_of gate → AreAlike gate gate free_slot free_slot → ⊥
misfit_free n (H wire) on same alike = cc
misfit_free n (X wire) on same alike = cc
misfit_free n (Phase eighths wire) on same alike = cc
misfit_free n (Cx control target) on same alike = on.2 ((alike false true).0 refl)

-- so no gate of a pattern fits to a free slot
pub fits_to_taken : (n : ℕ) (gates pattern : List Gate) (places : List ℕ) (s : ℕ) → IsCircuit n pattern → s < length pattern → IsFitting gates pattern places s →
    gate_at gates (get_or places s 0) ≡ free_slot → ⊥
fits_to_taken n gates pattern places s on below fits free =
    misfit_free n (gate_at pattern s) (gate_on_wires n pattern on s below) (ap kind_of (sym free) ∙ fits.kind)
    (subst (λ (g : Gate). AreAlike (gate_at pattern s) (gate_at pattern s) g g) free (fits.wires s (omega arith)))

pub fitting_taken : {gates pattern : List Gate} {places : List ℕ} (s : ℕ) → AreSlots gates → IsCircuit 3 pattern → s < length pattern → get_or places s 0 < length gates →
    IsFitting gates pattern places s → IsTaken (gate_at gates (get_or places s 0))
fitting_taken {gates} {pattern} {places} s slots on below inside fits one none =
    fits_to_taken 3 gates pattern places s on below fits
    (slots (get_or places s 0) inside (subst (Touches (gate_at gates (get_or places s 0))) none (touching (gate_at gates (get_or places s 0)) one)))

-- and the place that is put in last is taken
pub place_taken : {gates pattern : List Gate} {places : List ℕ} {count place : ℕ} → AreSlots gates → IsCircuit 3 pattern → count < length pattern → AreEight places count → count < 8 →
    place < length gates → IsFitting gates pattern (set places count place) count → IsTaken (gate_at gates place)
place_taken {gates} {pattern} {places} {count} {place} slots on below are room inside fits =
    let at : get_or (set places count place) count 0 ≡ place = put_at places count place are.eight room in
    subst (λ (p : ℕ). IsTaken (gate_at gates p)) at (fitting_taken count slots on below (subst (λ (p : ℕ). p < length gates) (sym at) inside) fits)

-- no redex begins at a free slot
pub none_at_free : {rules : List RowView} {gates : List Gate} {start : ℕ} (looked : Looked) → All IsSound rules → gate_at gates start ≡ free_slot →
    HasNoneAlike (StartsAt start) rules gates start looked
none_at_free {rules} {gates} {start} looked sound free = record { none = λ other slots alike. record { none = λ redex is at. never other alike.first redex is at } }
  where
    never : (other : List Gate) → gate_at gates start ≡ gate_at other start → (redex : RedexView) → IsRedex rules other redex → StartsAt start redex → ⊥
    never other same redex is at =
        let own : IsSound is.row = row_sound rules redex.row is.row is.numbered sound in
        let shorter : length is.row.replacement < length is.row.pattern = own.shortens.shorter in
        let full : IsFull other is.row.pattern (length other) redex.places =
        match_full is.row.wires other is.row.pattern redex.wires redex.places own.same.left is.wires is.matches is.free (length other) (last_inside (length other) redex.places is.matches.inside is.some) in
        fits_to_taken is.row.wires other is.row.pattern redex.places 0 own.same.left (omega arith) (full.fitting 0 (omega arith))
        (ap (λ (p : ℕ). gate_at other p) at ∙ (sym same ∙ free))
