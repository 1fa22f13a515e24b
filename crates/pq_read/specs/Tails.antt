-- What a tail keeps.
use Rattle.std.specs.Prelude.{◌≡◌, ℕ, ◌≤◌, Bool, List}
use Rattle.std.specs.List.{list_any}
use Rattle.pq_limits.specs.declared.TheConstants.{MAX_ENTRIES}
use Rattle.pq_text.specs.Program.{TailView, entries_of}
use Rattle.pq_read.specs.Environment.{is_measurement}

-- how many entries it has, at most so many, and whether there is a measurement
pub record IsTail (entries : ℕ) (measured : Bool) (tail : List TailView) : Type 0 where
  pub counted : entries ≡ entries_of tail
  pub within : entries ≤ MAX_ENTRIES
  pub told : measured ≡ list_any is_measurement tail
