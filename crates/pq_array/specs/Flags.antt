-- Gates, and flags apart from them.
use Rattle.std.specs.Prelude.{ℕ, Bool, true, false, Option, Some, None, List, [], ◌∷◌, slice_set}

-- the cells of these gates and flags: a gate where the flag is set, and else a tombstone
abbrev pub cells_of : {A : Type 0} → List A → List Bool → List (Option A)
cells_of [] flags = []
cells_of (gate ∷ gates) [] = []
cells_of (gate ∷ gates) (true ∷ flags) = Some gate ∷ cells_of gates flags
cells_of (gate ∷ gates) (false ∷ flags) = None ∷ cells_of gates flags

-- the output written over the gates at the first of these places, in order
abbrev pub written : {A : Type 0} → List A → List ℕ → List A → List A
written gates [] output = gates
written gates (place ∷ places) [] = gates
written gates (place ∷ places) (gate ∷ output) = written (slice_set gates place gate) places output

-- the flags at these places cleared
abbrev pub unmarked : List Bool → List ℕ → List Bool
unmarked flags [] = flags
unmarked flags (place ∷ places) = unmarked (slice_set flags place false) places
