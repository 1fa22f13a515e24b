-- Jobs: lists of places, one after another.
use Rattle.std.specs.Prelude.{◌≡◌, ℕ, ◌-◌, ◌≤◌, List, [], ◌∷◌, length, take, drop}

-- The lists that a list of places falls into, where the ends are counted from the first place of all, and the
-- first list begins at `from`.
abbrev pub lists_from : ℕ → List ℕ → List ℕ → List (List ℕ)
lists_from from places [] = []
lists_from from places (end ∷ ends) = take (end - from) (drop from places) ∷ lists_from end places ends

-- the ends don't fall, and the last of them is the number of all places
abbrev pub AreEnds : ℕ → List ℕ → List ℕ → Type 0
AreEnds from places [] = from ≡ length places
AreEnds from places (end ∷ ends) = (from ≤ end) × AreEnds end places ends
