-- The tree of a board: its leaves, and the ways from a leaf to the root.
use Rattle.std.specs.Prelude.{ℕ, zero, suc, ◌+◌, ◌/◌, List, [], ◌∷◌, length, drop}

-- the number, its half, the half of that, and so on, without remainders, down to 1, but at most so many
abbrev pub halves : ℕ → ℕ → List ℕ
halves zero n = []
halves (suc most) zero = []
halves (suc most) (suc n) = suc n ∷ halves most (suc n / 2)

-- the nodes from the leaf of this place to the root, in a tree with so many leaves
abbrev pub way : ℕ → ℕ → List ℕ
way leaves place = halves (leaves + place) (leaves + place)

-- the places of the words that aren't 0, where the first word has the place `first`
abbrev pub live_from : ℕ → List ℕ → List ℕ
live_from first [] = []
live_from first (zero ∷ words) = live_from (first + 1) words
live_from first (suc n ∷ words) = first ∷ live_from (first + 1) words

-- the places of the live leaves, in order: the second half of the words are the leaves'
abbrev pub live_leaves : List ℕ → List ℕ
live_leaves words = live_from 0 (drop (length words / 2) words)
