-- The texts of all places of some registers, one after another in one piece of memory.
use Rattle.std.specs.Prelude.{◌≡◌, ℕ, ◌*◌, ◌≤◌, List, length, map, flat_map, slice_range, All}
use Rattle.std.specs.List.{range_with_len}
use Rattle.pq_text.specs.Program.{RegisterView}
use Rattle.pq_text.specs.Print.{indexed}
use Rattle.pq_write.specs.declared.places.Extent.{Extent}
use Rattle.pq_write.specs.declared.places.Table.{Table}

-- where a text lies
pub record IsWithin (bytes : List ℕ) (extent : Extent) : Type 0 where
  pub ordered : extent.start ≤ extent.end
  pub within : extent.end ≤ length bytes

-- the bytes that lie there
abbrev pub cut : List ℕ → Extent → List ℕ
cut bytes extent = slice_range bytes extent.start extent.end

-- the texts of a table
abbrev pub texts_of : Table → List (List ℕ)
texts_of table = map (cut table.bytes.items) table.extents.items

-- each text lies within the bytes, and none has more than 110 of them
pub record IsLaid (table : Table) : Type 0 where
  pub each : All (IsWithin table.bytes.items) table.extents.items
  pub short : length table.bytes.items ≤ 110 * length table.extents.items

-- the texts of the places of one register, and of all
abbrev pub texts_in : RegisterView → List (List ℕ)
texts_in r = map (indexed r.name) (range_with_len 0 r.size)

-- the table has the texts of the places of these registers in order
pub record IsTableOf (regs : List RegisterView) (table : Table) : Type 0 where
  pub laid : IsLaid table
  pub texts : texts_of table ≡ flat_map texts_in regs
