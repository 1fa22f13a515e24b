use Rattle.std.specs.List.Sorted.{IsStrictlyIncreasing}
use Rattle.std.specs.Prelude.{◌≡◌, ℕ, suc, ◌+◌, ◌*◌, ◌/◌, ◌^◌, ◌<◌, ◌≤◌, List, [], ◌∷◌, length, slice_index, All}

-- halving the number some number of times, without remainder, gives `half`
abbrev pub HalvesTo : ℕ → ℕ → Type 0
HalvesTo number half = (times : ℕ) × (number / 2 ^ times ≡ half)

-- of the list's items, this many have the property
pub data HowMany {A : Type 0} (P : A → Type 0) : List A → ℕ → Type 0 where
  none : HowMany P [] 0
  one_more : (x : A) (xs : List A) (count : ℕ) → P x → HowMany P xs count → HowMany P (x ∷ xs) (suc count)
  no_more : (x : A) (xs : List A) (count : ℕ) → (P x → ⊥) → HowMany P xs count → HowMany P (x ∷ xs) count

-- The words of a tree over these live places. There are two words for each leaf, and a power of two
-- of leaves. Node 1 is the root, the children of a node are twice it and one more, and the leaf of a
-- place is the number of leaves plus the place. The word of a node is the number of live places whose
-- leaf is the node or stands below it, that is, whose leaf gives the node when it is halved.
pub record Counts (words live : List ℕ) : Type 0 where
  pub height : ℕ
  pub size : length words ≡ 2 * 2 ^ height
  pub in_order : IsStrictlyIncreasing live
  pub in_range : All (λ place. place < 2 ^ height) live
  pub counted : (node : ℕ) → 1 ≤ node → node < 2 * 2 ^ height →
      HowMany (λ place. HalvesTo (2 ^ height + place) node) live (slice_index words node)

-- each word on the way from the leaf of this place to the root is one less, and no other word changed
pub record IsLowered (width place : ℕ) (old new : List ℕ) : Type 0 where
  pub size : length new ≡ length old
  pub on_the_way : (node : ℕ) → 1 ≤ node → HalvesTo (width + place) node →
      slice_index new node + 1 ≡ slice_index old node
  pub elsewhere : (node : ℕ) → (1 ≤ node → HalvesTo (width + place) node → ⊥) →
      slice_index new node ≡ slice_index old node
