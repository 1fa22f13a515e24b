use Rattle.std.specs.Prelude.{ℕ, ◌<◌, ◌≤◌, length}
use Rattle.pq_limits.specs.declared.TheConstants.{MAX_ROW_GATES}
use Rattle.pq_rules.specs.declared.row.RawRow.{RawRow}
use Rattle.pq_rules.specs.declared.row.RowFault.{RowFault}
use Rattle.pq_rules.specs.declared.row.RowFault.TheVariants.{Wires, TooLong, NotShorter, Differs}
use Rattle.pq_rules.specs.Agreement.{IsFirstDiffering}
use Rattle.pq_rules.specs.Row.{RowView, HasItsWires, Shortens}

-- the raw row with a phase
abbrev pub with_phase : RawRow → ℕ → RowView
with_phase raw k = record { wires = raw.wires; pattern = raw.pattern.items; replacement = raw.replacement.items; phase = k }

-- a raw row has its wires
abbrev pub IsOnItsWires : RawRow → Type 0
IsOnItsWires raw = HasItsWires raw.wires raw.pattern.items raw.replacement.items

-- its replacement is shorter than its pattern
abbrev pub IsShortening : RawRow → Type 0
IsShortening raw = Shortens raw.pattern.items raw.replacement.items

-- When each fault comes. They are tried in this order.
abbrev pub Comes : RawRow → RowFault → Type 0
Comes raw Wires = IsOnItsWires raw → ⊥
Comes raw TooLong = IsOnItsWires raw × (MAX_ROW_GATES < length raw.pattern.items)
Comes raw NotShorter =
    IsOnItsWires raw × (length raw.pattern.items ≤ MAX_ROW_GATES) × (length raw.pattern.items ≤ length raw.replacement.items)
Comes raw (Differs from to) = IsOnItsWires raw × IsShortening raw × IsFirstDiffering (with_phase raw 0) from to

-- no fault of the raw row comes
pub record HasNoFault (raw : RawRow) : Type 0 where
  pub none : (fault : RowFault) → Comes raw fault → ⊥
