-- Redexes as they are handed on.
use Rattle.std.specs.Prelude.{◌≡◌, ℕ, ◌≤◌, List, take, drop, All, Option, None, Some}
use Rattle.pq_limits.specs.declared.TheConstants.{MAX_ROW_GATES}
use Rattle.pq_gate.specs.declared.gate.Gate.{Gate}
use Rattle.pq_rules.specs.Row.{RowView}
use Rattle.pq_match.specs.declared.redex.Redex.{Redex}
use Rattle.pq_match.specs.Redex.{RedexView, IsRedex, IsWithin}
use Rattle.pq_match.specs.First.{IsFirstAmong, HasNoneAmong}
use Rattle.pq_match.specs.Rewrite.{rewritten}

-- a redex by its row and the first `count` of its places, with the wires that these choose
abbrev pub seen : Redex → List ℕ → RedexView
seen redex wires = record { row = redex.row; wires = wires; places = take redex.count redex.places }

-- it has at most eight places, and those past them are 0
pub record IsPadded (redex : Redex) : Type 0 where
  pub few : redex.count ≤ MAX_ROW_GATES
  pub rest : All (λ place. place ≡ 0) (drop redex.count redex.places)

-- the first of the redexes with a property
pub record IsFoundAmong (P : RedexView → Type 0) (rules : List RowView) (gates : List Gate) (redex : Redex) : Type 0 where
  pub wires : List ℕ
  pub first : IsFirstAmong P rules gates (seen redex wires)
  pub padded : IsPadded redex

-- the first of the redexes with a property, and None exactly where there is none
abbrev pub FindsAmong : (RedexView → Type 0) → List RowView → List Gate → Option Redex → Type 0
FindsAmong P rules gates (Some redex) = IsFoundAmong P rules gates redex
FindsAmong P rules gates None = HasNoneAmong P rules gates

-- the first redex within the span
abbrev pub IsFirstFound : List RowView → List Gate → ℕ → Redex → Type 0
IsFirstFound rules gates span redex = IsFoundAmong (IsWithin span) rules gates redex

-- the first redex within the span, and None exactly where there is none
abbrev pub FindsWithin : List RowView → List Gate → ℕ → Option Redex → Type 0
FindsWithin rules gates span found = FindsAmong (IsWithin span) rules gates found

-- a redex of the list
pub record IsRedexOf (rules : List RowView) (gates : List Gate) (redex : Redex) : Type 0 where
  pub wires : List ℕ
  pub is : IsRedex rules gates (seen redex wires)
  pub few : redex.count ≤ MAX_ROW_GATES

-- the new gates are the old ones with the redex rewritten by the row, which has this phase
pub record IsRewritten (old : List Gate) (row : RowView) (redex : RedexView) (new : List Gate) (phase : ℕ) : Type 0 where
  pub gates : new ≡ rewritten old row.replacement redex
  pub turn : phase ≡ row.phase

-- The redex of the old list was rewritten, whichever way it is seen as one: its wires are determined.
abbrev pub Rewrites : List RowView → List Gate → Redex → List Gate → ℕ → Type 0
Rewrites rules old redex new phase = (wires : List ℕ) (is : IsRedex rules old (seen redex wires)) → IsRewritten old is.row (seen redex wires) new phase
