-- Wires that gates of a pattern share, and the walk along a wire up to a gate that may bind.
use Rattle.std.proofs.Common.{◌≡◌, ◌≢◌, ℕ, ◌+◌, ◌<◌, ◌≤◌, Bool, true, false, not, List, length, get_or, sym, subst, ◌∙◌, arith, inl, inr, ◌⊎◌}
use Rattle.std.proofs.lemmas.Bool.{cases_order}
use Rattle.pq_gate.specs.declared.gate.Gate.{Gate}
use Rattle.pq_gate.specs.Commuting.{Touches}
use Rattle.pq_links.specs.Wires.{wire_of}
use Rattle.pq_links.specs.Links.{IsNextOn}
use Rattle.pq_links.specs.Slots.{no_wire}
use Rattle.pq_match.specs.declared.cursors.Cursors.{Cursors}
use Rattle.pq_match.specs.declared.looked.Looked.{Looked}
use Rattle.pq_match.specs.declared.ties.Binding.{Binding}
use Rattle.pq_match.specs.Seek.{AreLookedAt, AreCursors}
use Rattle.pq_match.specs.Redex.{gate_at}
use Rattle.pq_match.specs.Ties.{IsShared, AreUnshared, IsBinding, MayBind, IsStop}
use Rattle.pq_match.proofs.SearchTouches.{touched, touching}

pub unshared_none : (pattern : List Gate) (number : ℕ) → AreUnshared pattern number 0
unshared_none pattern number = record { none = λ s one below. absurd (omega arith) }

pub unshared_more : {pattern : List Gate} {number count first last : ℕ} → AreUnshared pattern number count → first ≡ wire_of false (gate_at pattern number) → last ≡ wire_of true (gate_at pattern number) →
    (Touches (gate_at pattern count) first → ⊥) → (Touches (gate_at pattern count) last → ⊥) → AreUnshared pattern number (count + 1)
unshared_more {pattern} {number} {count} {first} {last} before first_is last_is not_first not_last = record { none = λ s one below. by s one below (cases_order s count) }
  where
    here : (one : Bool) → ¬ Touches (gate_at pattern count) (wire_of one (gate_at pattern number))
    here false uses = not_first (subst (Touches (gate_at pattern count)) (sym first_is) uses)
    here true uses = not_last (subst (Touches (gate_at pattern count)) (sym last_is) uses)

    by : (s : ℕ) (one : Bool) → s < count + 1 → (s ≡ count) ⊎ ((s < count) ⊎ (count < s)) → ¬ Touches (gate_at pattern s) (wire_of one (gate_at pattern number))
    by s one below (inl same) uses = here one (subst (λ (k : ℕ). Touches (gate_at pattern k) (wire_of one (gate_at pattern number))) same uses)
    by s one below (inr (inl less)) uses = before.none s one less uses
    by s one below (inr (inr more)) uses = omega arith

pub shared_at : {pattern : List Gate} {number wire : ℕ} (at : ℕ) (one : Bool) → wire ≡ wire_of one (gate_at pattern number) → at < number → Touches (gate_at pattern at) wire → IsShared pattern number wire
shared_at {pattern} {number} {wire} at one is below uses = record {
  at = at;
  below = below;
  before = uses;
  own = subst (Touches (gate_at pattern number)) (sym is) (touching (gate_at pattern number) one);
}

-- the next place on a wire is one to stop at
pub stop_starts : {gates : List Gate} {wire from start : ℕ} (of_gate : Gate) (last : Bool) → IsNextOn gates wire from start → IsStop gates of_gate last wire from start
stop_starts {gates} {wire} {from} {start} of_gate last next = record {
  ahead = next.ahead;
  uses = next.uses;
  none = λ p above less inside binds. next.none p above less inside (subst (Touches (gate_at gates p)) binds.side (touching (gate_at gates p) last));
}

-- and so is the one after a gate that can't bind
pub stop_goes_on : {gates : List Gate} {of_gate : Gate} {last : Bool} {wire from place next : ℕ} → IsStop gates of_gate last wire from place → (MayBind of_gate last wire (gate_at gates place) → ⊥) →
    IsNextOn gates wire (place + 1) next → IsStop gates of_gate last wire from next
stop_goes_on {gates} {of_gate} {last} {wire} {from} {place} {next} stop never is = record {
  ahead = (let a : from ≤ place = stop.ahead in let b : place + 1 ≤ next = is.ahead in omega (arith, a, b));
  uses = is.uses;
  none = λ p above less inside. by p above less inside (cases_order p place);
}
  where
    by : (p : ℕ) → from ≤ p → p < next → p < length gates → (p ≡ place) ⊎ ((p < place) ⊎ (place < p)) → ¬ MayBind of_gate last wire (gate_at gates p)
    by p above less inside (inl same) binds = never (subst (λ (k : ℕ). MayBind of_gate last wire (gate_at gates k)) same binds)
    by p above less inside (inr (inl lower)) binds = stop.none p above lower inside binds
    by p above less inside (inr (inr higher)) binds = is.none p (omega arith) less inside (subst (Touches (gate_at gates p)) binds.side (touching (gate_at gates p) last))

-- the cursor of the wire that a binding gate shares with a chosen one is next there
pub used_next : {gates pattern : List Gate} {looked : Looked} {places : List ℕ} {count from : ℕ} {cursors : Cursors} {binding : Binding} → IsBinding pattern count binding →
    AreCursors gates pattern places count from cursors → AreLookedAt gates looked places count →
    (get_or cursors.wires (wire_of binding.last (gate_at pattern binding.gate)) 0 ≢ no_wire) ×
    IsNextOn gates (get_or cursors.wires (wire_of binding.last (gate_at pattern binding.gate)) 0) from (get_or cursors.next (wire_of binding.last (gate_at pattern binding.gate)) 0)
used_next {gates} {pattern} {looked} {places} {count} {from} {cursors} {binding} is are looked_at =
    let one = touched (gate_at pattern is.at) (wire_of binding.last (gate_at pattern binding.gate)) is.before in
    let leads = are.leads is.at one.0 is.below in
    subst (λ (v : ℕ). (get_or cursors.wires v 0 ≢ no_wire) × IsNextOn gates (get_or cursors.wires v 0) from (get_or cursors.next v 0)) (sym one.1) (
      subst (λ (w : ℕ). w ≢ no_wire) (sym leads) (looked_at.marked is.at one.0 is.below).0,
      subst (λ (w : ℕ). IsNextOn gates w from (get_or cursors.next (wire_of one.0 (gate_at pattern is.at)) 0)) (sym leads) (are.next is.at one.0 is.below),
    )

-- the other wire of the binding gate is a wire of none of the chosen ones
pub binding_unshared : {pattern : List Gate} {number : ℕ} {binding : Binding} → IsBinding pattern number binding → AreUnshared pattern number number → (s : ℕ) (one : Bool) → s < number →
    wire_of one (gate_at pattern s) ≢ wire_of (not binding.last) (gate_at pattern binding.gate)
binding_unshared {pattern} {number} {binding} is unshared s one below same =
    let side = touched (gate_at pattern number) (wire_of (not binding.last) (gate_at pattern binding.gate)) is.joins in
    unshared.none s side.0 below (subst (Touches (gate_at pattern s)) (same ∙ side.1) (touching (gate_at pattern s) one))
