-- What the search within a span goes by: the next gates on a wire before an end.
use Rattle.std.specs.Prelude.{◌≡◌, ℕ, ◌<◌, ◌≤◌, Bool, true, false, List, slice_index_or}
use Rattle.pq_gate.specs.declared.gate.Gate.{Gate}
use Rattle.pq_gate.specs.Commuting.{Touches, Commutes}
use Rattle.pq_gate.specs.Kind.{kind_of, number_of}
use Rattle.pq_gate.specs.Ports.{first_wire}
use Rattle.pq_rules.specs.declared.seen.Seen.{Seen}
use Rattle.pq_rules.specs.declared.seen.Seen.TheVariants as seen
use Rattle.pq_rules.specs.Seen.{role_on}
use Rattle.pq_match.specs.Redex.{gate_at}
use Rattle.pq_match.specs.Seek.{IsClear}

-- The least place from `from` on and before the end whose gate uses the wire, or one from the end on where there is none.
pub record IsNextWithin (gates : List Gate) (wire end from place : ℕ) : Type 0 where
  pub ahead : from ≤ place
  pub uses : place < end → Touches (gate_at gates place) wire
  pub none : (p : ℕ) → from ≤ p → p < place → p < end → ¬ Touches (gate_at gates p) wire

-- what is seen at a place on a wire, where nothing is seen from the end on
abbrev pub IsSeenWithin : List Gate → ℕ → ℕ → ℕ → Seen → Type 0
IsSeenWithin gates wire end place seen.Nothing = end ≤ place
IsSeenWithin gates wire end place seen.Unclear = Unit {0}
IsSeenWithin gates wire end place (seen.Plays own) = (own ≡ role_on wire (gate_at gates place)) × IsClear (gate_at gates place)

-- The place stands behind the start on a wire, and the gate at the start commutes with all gates between them on it.
pub record IsNear (gates : List Gate) (start wire place : ℕ) : Type 0 where
  pub behind : start < place
  pub uses : Touches (gate_at gates place) wire
  pub commute : (p : ℕ) → start < p → p < place → Touches (gate_at gates p) wire → Commutes (gate_at gates start) (gate_at gates p)

-- A gate before the end that the gate at the start may be moved up to along its first wire is of one of the kinds that
-- are marked in `near`.
abbrev pub HasKindsNear : List Gate → ℕ → ℕ → List Bool → Type 0
HasKindsNear gates start end near = (place : ℕ) → IsNear gates start (first_wire (gate_at gates start)) place → place < end →
    slice_index_or near (number_of (kind_of (gate_at gates place))) false ≡ true
