-- The first redex of a list of gates.
use Rattle.std.specs.Prelude.{◌≡◌, ℕ, ◌<◌, ◌⊎◌, List, [], ◌∷◌, length, slice_index, Option, None, Some}
use Rattle.pq_gate.specs.declared.gate.Gate.{Gate}
use Rattle.pq_rules.specs.Row.{RowView}
use Rattle.pq_match.specs.Redex.{RedexView, IsRedex, IsWithin}

-- one list of numbers comes before another, as a word does in a dictionary
abbrev pub Precedes : List ℕ → List ℕ → Type 0
Precedes [] ys = ⊥
Precedes (x ∷ xs) [] = ⊥
Precedes (x ∷ xs) (y ∷ ys) = (x < y) ⊎ ((x ≡ y) × Precedes xs ys)

-- Redexes are ordered by the first place, then by the number of the row, then by all places.
abbrev pub key : RedexView → List ℕ
key redex = slice_index redex.places 0 ∷ redex.row ∷ redex.places

-- the first of the redexes with a property: none of them comes before it
pub record IsFirstAmong (P : RedexView → Type 0) (rules : List RowView) (gates : List Gate) (redex : RedexView) : Type 0 where
  pub is : IsRedex rules gates redex
  pub among : P redex
  pub first : (other : RedexView) → IsRedex rules gates other → P other → ¬ Precedes (key other) (key redex)

-- no redex has the property
pub record HasNoneAmong (P : RedexView → Type 0) (rules : List RowView) (gates : List Gate) : Type 0 where
  pub none : (redex : RedexView) → IsRedex rules gates redex → ¬ P redex

-- the first of the redexes with a property, or none
abbrev pub FirstAmong : (RedexView → Type 0) → List RowView → List Gate → Option RedexView → Type 0
FirstAmong P rules gates (Some redex) = IsFirstAmong P rules gates redex
FirstAmong P rules gates None = HasNoneAmong P rules gates

-- the first of the redexes within the span
abbrev pub IsFirst : List RowView → List Gate → ℕ → RedexView → Type 0
IsFirst rules gates span redex = IsFirstAmong (IsWithin span) rules gates redex

-- no redex lies within the span
abbrev pub HasNoneWithin : List RowView → List Gate → ℕ → Type 0
HasNoneWithin rules gates span = HasNoneAmong (IsWithin span) rules gates

-- the first redex within the span, or none
abbrev pub FirstWithin : List RowView → List Gate → ℕ → Option RedexView → Type 0
FirstWithin rules gates span found = FirstAmong (IsWithin span) rules gates found

-- The first redex of the whole list, or none: every redex lies within the list's length.
abbrev pub First : List RowView → List Gate → Option RedexView → Type 0
First rules gates found = FirstWithin rules gates (length gates) found
