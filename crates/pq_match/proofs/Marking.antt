-- The bits of the wires that a search looked at.
use Rattle.std.proofs.Common.{◌≡◌, ℕ, ◌*◌, ◌%◌, ◌^◌, ◌<◌, ◌≤◌, bit_or, ap, ◌∙◌, arith, inl, inr, ◌⊎◌}
use Rattle.std.specs.Int.{bit_at, w64}
use Rattle.std.proofs.lemmas.Bool.{cases_order}
use Rattle.std.proofs.lemmas.Nat.{mod_below}
use Rattle.std.proofs.lemmas.Nat.Bits.{bit_at_set_same, bit_at_set_other, bit_at_ones}
use Rattle.pq_match.specs.declared.looked.Looked.{Looked}
use Rattle.pq_match.specs.Seek.{HasBit, MarksAll, LooksAtMore}

-- a bit more
pub marks_it : (mask wire : ℕ) → HasBit (bit_or mask (1 * 2 ^ (wire % 64) % 18446744073709551616)) wire
marks_it mask wire = bit_at_set_same w64 mask (wire % 64) (mod_below wire 64 (omega arith))

marks_more : (mask wire other : ℕ) → HasBit mask other → HasBit (bit_or mask (1 * 2 ^ (wire % 64) % 18446744073709551616)) other
marks_more mask wire other has = by (cases_order (other % 64) (wire % 64))
  where
    apart : (other % 64 ≡ wire % 64 → ⊥) → HasBit (bit_or mask (1 * 2 ^ (wire % 64) % 18446744073709551616)) other
    apart differs = bit_at_set_other w64 mask (wire % 64) (mod_below wire 64 (omega arith)) (other % 64) differs ∙ has

    by : (other % 64 ≡ wire % 64) ⊎ ((other % 64 < wire % 64) ⊎ (wire % 64 < other % 64)) → HasBit (bit_or mask (1 * 2 ^ (wire % 64) % 18446744073709551616)) other
    by (inl same) = ap (bit_at (bit_or mask (1 * 2 ^ (wire % 64) % 18446744073709551616))) same ∙ marks_it mask wire
    by (inr (inl less)) = apart (λ same. omega arith)
    by (inr (inr more)) = apart (λ same. omega arith)

-- all of them
pub ones_mark_all : MarksAll 18446744073709551615
ones_mark_all = record { all = λ wire. bit_at_ones 64 (wire % 64) (mod_below wire 64 (omega arith)) }

-- so more is looked at,
pub looks_more : (looked : Looked) (wire : ℕ) → LooksAtMore looked (record { reach = looked.reach; mask = bit_or looked.mask (1 * 2 ^ (wire % 64) % 18446744073709551616) })
looks_more looked wire = record { reach = omega arith; marks = λ other has. marks_more looked.mask wire other has }

pub looks_at_all : (looked : Looked) → LooksAtMore looked (record { reach = looked.reach; mask = 18446744073709551615 })
looks_at_all looked = record { reach = omega arith; marks = λ other has. ones_mark_all.all other }

-- and more than more
pub looks_on : {one two three : Looked} → LooksAtMore one two → LooksAtMore two three → LooksAtMore one three
looks_on {one} {two} {three} more then_more = record {
  reach = (let r : one.reach ≤ two.reach = more.reach in let s : two.reach ≤ three.reach = then_more.reach in omega arith);
  marks = λ wire has. then_more.marks wire (more.marks wire has);
}

-- so what was near and marked stays so
pub near_more : {old new : Looked} {place : ℕ} → LooksAtMore old new → place < old.reach → place < new.reach
near_more {old} {new} more near = (let r : old.reach ≤ new.reach = more.reach in omega arith)

pub marks_all_more : {old new : Looked} → LooksAtMore old new → MarksAll old.mask → MarksAll new.mask
marks_all_more more all = record { all = λ wire. more.marks wire (all.all wire) }
