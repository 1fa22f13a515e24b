-- What is known of the wires that are listed.
use Rattle.pq_limits.specs.declared.TheConstants.{MAX_PLACES}
use Rattle.std.specs.Prelude.{◌≡◌, ℕ, ◌+◌, ◌<◌, ◌≤◌, Bool, true, ◌==◌, List, length, slice_index}
use Rattle.std.specs.List.{list_any}

-- whether a wire is listed
abbrev pub has : List ℕ → ℕ → Bool
has wires w = list_any (λ v. v == w) wires

-- For each wire below the limit there is a number: as many wires from it on are listed. It isn't 0 where the wire is
-- listed.
pub record AreMarked (wires known : List ℕ) : Type 0 where
  pub sized : length known ≡ MAX_PLACES
  pub listed : (w k : ℕ) → k < slice_index known w → has wires (w + k) ≡ true
  pub told : (w : ℕ) → has wires w ≡ true → 1 ≤ slice_index known w
