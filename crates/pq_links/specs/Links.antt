-- The neighbours of gates on their wires.
use Rattle.std.specs.Prelude.{◌≡◌, ◌≢◌, ℕ, ◌+◌, ◌-◌, ◌/◌, ◌<◌, ◌≤◌, ◌==◌, Bool, false, cond, List, bit_and, bit_xor, length, slice_index_or}
use Rattle.pq_gate.specs.declared.gate.Gate.{Gate}
use Rattle.pq_gate.specs.Commuting.{Touches}
use Rattle.pq_links.specs.declared.links.Sides.{Sides}
use Rattle.pq_links.specs.declared.links.Head.{Head}
use Rattle.pq_links.specs.Wires.{wire_of}
use Rattle.pq_links.specs.Places.{gate_at}

-- a place that lies past the end of every list
abbrev pub far : ℕ
far = 65535

-- what stands at the first or the second wire
abbrev pub side : Bool → Sides → ℕ
side second sides = cond second sides.second sides.first

abbrev pub side_at : Bool → List Sides → ℕ → ℕ
side_at second sides place = side second (slice_index_or sides place (record { first = 0; second = 0 }))

-- The least place from `from` on whose gate uses the wire, or `far` where there is none.
pub record IsNextOn (gates : List Gate) (wire from place : ℕ) : Type 0 where
  pub ahead : from ≤ place
  pub uses : place < length gates → Touches (gate_at gates place) wire
  pub none : (p : ℕ) → from ≤ p → p < place → p < length gates → ¬ Touches (gate_at gates p) wire
  pub past : length gates ≤ place → place ≡ far

-- The bucket of a wire, by its low bits where there are as many buckets as a power of two. Higher bits are folded in, since the
-- wires of a grid may all be multiples of 64 or so.
abbrev pub bucket_of : ℕ → ℕ → ℕ
bucket_of buckets wire = bit_and (bit_xor (bit_xor wire (wire / 64)) (wire / 4096)) (buckets - 1)

-- The greatest place before the bound with a wire in the bucket, or `far` where there is none.
pub record IsLastIn (buckets bucket : ℕ) (gates : List Gate) (bound place : ℕ) : Type 0 where
  pub «in» : place < bound → (one : Bool) × (bucket_of buckets (wire_of one (gate_at gates place)) ≡ bucket)
  pub none : (p : ℕ) → p < bound → (place < bound → place < p) → (one : Bool) → bucket_of buckets (wire_of one (gate_at gates p)) ≢ bucket
  pub past : bound ≤ place → place ≡ far

-- The last place before the bound whose gate uses the wire, or `far` where there is none.
pub record IsLastOn (gates : List Gate) (wire bound place : ℕ) : Type 0 where
  pub uses : place < bound → Touches (gate_at gates place) wire
  pub none : (p : ℕ) → p < bound → (place < bound → place < p) → ¬ Touches (gate_at gates p) wire
  pub past : bound ≤ place → place ≡ far

-- each gate knows for each of its wires the last place before it in the wire's bucket
abbrev pub AreBefore : ℕ → List Gate → List Sides → Type 0
AreBefore buckets gates before = (p : ℕ) (one : Bool) → p < length gates →
    IsLastIn buckets (bucket_of buckets (wire_of one (gate_at gates p))) gates p (side_at one before p)

-- whether a head is on the first or the second wire of its gate
abbrev pub is_on : Bool → Head → Bool
is_on second head = cond second head.last head.first

abbrev pub head_at : List Head → ℕ → Head
head_at heads bucket = slice_index_or heads bucket (record { wire = 0; place = 0; first = false; last = false })

-- The head of a bucket: the last place in it, with a wire of its gate, and which of the gate's wires that is. A head of no
-- place is on neither.
pub record IsHead (buckets bucket : ℕ) (gates : List Gate) (head : Head) : Type 0 where
  pub last : IsLastIn buckets bucket gates (length gates) head.place
  pub uses : head.place < length gates → Touches (gate_at gates head.place) head.wire
  pub sides : (one : Bool) → head.place < length gates → is_on one head ≡ (wire_of one (gate_at gates head.place) == head.wire)
  pub none : length gates ≤ head.place → (one : Bool) → is_on one head ≡ false

-- The last place on a wire, and which of its gate's wires that is. Where there is none, it is neither.
pub record IsEndOn (gates : List Gate) (wire : ℕ) (end : Head) : Type 0 where
  pub last : IsLastOn gates wire (length gates) end.place
  pub sides : (one : Bool) → end.place < length gates → is_on one end ≡ (wire_of one (gate_at gates end.place) == wire)
  pub none : length gates ≤ end.place → (one : Bool) → is_on one end ≡ false

-- each bucket knows the last place in it
abbrev pub AreHeads : List Gate → List Head → Type 0
AreHeads gates heads = (k : ℕ) → k < length heads → IsHead (length heads) k gates (head_at heads k)

-- links of some gates: for each and each of its wires the next and the previous place on the wire, and the last place before it
-- in the wire's bucket; for each bucket the last place in it; and the room that was asked for
pub record LinksView : Type 0 where
  pub next : List Sides
  pub previous : List Sides
  pub before : List Sides
  pub heads : List Head
  pub room : ℕ

-- these are the links of the gates
pub record AreLinked (gates : List Gate) (links : LinksView) : Type 0 where
  pub nexts : length links.next ≡ length gates
  pub previouses : length links.previous ≡ length gates
  pub befores : length links.before ≡ length gates
  pub some : 0 < length links.heads
  pub next : (p : ℕ) (one : Bool) → p < length gates → IsNextOn gates (wire_of one (gate_at gates p)) (p + 1) (side_at one links.next p)
  pub previous : (p : ℕ) (one : Bool) → p < length gates → IsLastOn gates (wire_of one (gate_at gates p)) p (side_at one links.previous p)
  pub before : AreBefore (length links.heads) gates links.before
  pub heads : AreHeads gates links.heads
