-- Where a row of rules may rewrite a list of gates.
use Rattle.std.specs.Prelude.{◌≡◌, ◌≢◌, ℕ, ◌+◌, ◌<◌, ◌==◌, true, false, Bool, List, [], ◌∷◌, length, map, slice_index, Some, All, AllPairs}
use Rattle.std.specs.List.{list_any}
use Rattle.pq_gate.specs.declared.gate.Gate.{Gate}
pub use Rattle.pq_links.specs.Places.{gate_at}
use Rattle.pq_gate.specs.Commuting.{Commutes}
use Rattle.pq_rules.specs.Row.{RowView}
use Rattle.pq_rules.specs.Renaming.{renamed}
use Rattle.pq_rules.specs.Kinds.{row_numbered}

-- the last of some places, 0 where there is none
abbrev pub last_place : List ℕ → ℕ
last_place [] = 0
last_place (p ∷ []) = p
last_place (p ∷ q ∷ places) = last_place (q ∷ places)

-- whether the place is one of the chosen ones
abbrev pub is_chosen : List ℕ → ℕ → Bool
is_chosen places place = list_any (λ p. p == place) places

-- the wires of a row are led to as many wires, each to another one
pub record AreWires (count : ℕ) (wires : List ℕ) : Type 0 where
  pub whole : length wires ≡ count
  pub apart : AllPairs (λ v w. v ≢ w) wires

-- The places rise and lie in the list, and the gates there are those of the pattern with its wires renamed.
pub record IsMatch (gates pattern : List Gate) (wires places : List ℕ) : Type 0 where
  pub rising : AllPairs (λ i j. i < j) places
  pub inside : All (λ i. i < length gates) places
  pub chosen : map (gate_at gates) places ≡ map (renamed wires) pattern

-- Each chosen gate commutes with each gate that isn't chosen and stands between it and the last chosen place.
abbrev pub AreFree : List Gate → List ℕ → Type 0
AreFree gates places = (i j : ℕ) → is_chosen places i ≡ true → is_chosen places j ≡ false → i < j → j < last_place places
    → Commutes (gate_at gates i) (gate_at gates j)

-- the number of a row, the wires that its wires are led to, and the places of its pattern's gates
pub record RedexView : Type 0 where
  pub row : ℕ
  pub wires : List ℕ
  pub places : List ℕ

-- A redex of a list of gates under the rows of rules, which are numbered from 1. It chooses some gate.
pub record IsRedex (rules : List RowView) (gates : List Gate) (redex : RedexView) : Type 0 where
  pub row : RowView
  pub numbered : row_numbered rules redex.row ≡ Some row
  pub wires : AreWires row.wires redex.wires
  pub some : 0 < length redex.places
  pub matches : IsMatch gates row.pattern redex.wires redex.places
  pub free : AreFree gates redex.places

-- its last place minus its first place is less than the span
abbrev pub IsWithin : ℕ → RedexView → Type 0
IsWithin span redex = last_place redex.places < slice_index redex.places 0 + span

-- the list has no redex
abbrev pub HasNoRedex : List RowView → List Gate → Type 0
HasNoRedex rules gates = (redex : RedexView) → ¬ IsRedex rules gates redex
