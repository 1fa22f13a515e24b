-- Words of a tree that change together with those above them.
use Rattle.std.specs.Prelude.{◌≡◌, ℕ, ◌+◌, ◌*◌, List, length, slice_index}
use Rattle.pq_array.specs.Counts.{HalvesTo}

-- Of the node `top` and those below it: where the word of a node is the same in both lists, so are those of its children.
pub record FollowUnder (top : ℕ) (words other : List ℕ) : Type 0 where
  pub children : (node : ℕ) → HalvesTo node top → slice_index words node ≡ slice_index other node →
      (slice_index words (2 * node) ≡ slice_index other (2 * node)) × (slice_index words (2 * node + 1) ≡ slice_index other (2 * node + 1))

-- the words of `top` and of the nodes below it are those of the other list, and all else stayed
pub record AreTakenUnder (top : ℕ) (old new other : List ℕ) : Type 0 where
  pub size : length new ≡ length old
  pub under : (node : ℕ) → HalvesTo node top → slice_index new node ≡ slice_index other node
  pub elsewhere : (node : ℕ) → (HalvesTo node top → ⊥) → slice_index new node ≡ slice_index old node
