use Rattle.std.proofs.Common.{◌≡◌, ℕ, zero, suc, ◌+◌, ◌*◌, ◌^◌, ◌≤◌, Bool, true, false, List, [], ◌∷◌, length, set, ap, sym, subst, ◌∙◌, arith}
use Rattle.std.specs.Prelude.{ℤ, cond}
use lib.Pow.{pow_mono}
use Rattle.std.proofs.Math.Nat.{pow-suc}
use Rattle.std.proofs.lemmas.Int.{ints}
use Rattle.pq_gate.specs.declared.gate.Gate.{Gate}
use Rattle.pq_gate.specs.declared.ring.Ring.{Ring}
use Rattle.pq_gate.specs.Bits.{bit, same_bits}
use Rattle.pq_gate.specs.Matrix.{through, Entry}
use Rattle.pq_gate.specs.Ring.{nought, one, plus, turn, root, turned, turned_if, rooted}
use Rattle.pq_gate.proofs.GateFacts.{form_of, gate_facts}
use Rattle.pq_gate.proofs.GateForms.{Form, turns, flips, mixes, all_on, by_form}
use Rattle.pq_rules.specs.Bounds.{IsBetween, IsWithin}

between : (limit : ℕ) (z : ℤ) (wider : ℕ) → IsBetween limit z → limit ≤ wider → IsBetween wider z
between limit z wider is below = record { least = (let l = is.least in let g = is.greatest in omega (arith, ints)); greatest = (let l = is.least in let g = is.greatest in omega (arith, ints)) }

pub IsWithin-more : {limit : ℕ} {r : Ring} (wider : ℕ) → IsWithin limit r → limit ≤ wider → IsWithin wider r
IsWithin-more {limit} {r} wider is below = record {
  a = between limit r.a wider is.a below;
  b = between limit r.b wider is.b below;
  c = between limit r.c wider is.c below;
  d = between limit r.d wider is.d below;
}

pub IsWithin-nought : (limit : ℕ) → IsWithin limit nought
unfolding nought
IsWithin-nought limit = record {
  a = record { least = omega (arith, ints); greatest = omega (arith, ints) };
  b = record { least = omega (arith, ints); greatest = omega (arith, ints) };
  c = record { least = omega (arith, ints); greatest = omega (arith, ints) };
  d = record { least = omega (arith, ints); greatest = omega (arith, ints) };
}

pub IsWithin-one : IsWithin 1 one
unfolding one
IsWithin-one = record {
  a = record { least = omega (arith, ints); greatest = omega (arith, ints) };
  b = record { least = omega (arith, ints); greatest = omega (arith, ints) };
  c = record { least = omega (arith, ints); greatest = omega (arith, ints) };
  d = record { least = omega (arith, ints); greatest = omega (arith, ints) };
}

pub IsWithin-plus : {limit : ℕ} {r s : Ring} → IsWithin limit r → IsWithin limit s → IsWithin (2 * limit) (plus r s)
unfolding plus
IsWithin-plus is also = record {
  a = record { least = omega (arith, ints, is.a.least, also.a.least); greatest = omega (arith, ints, is.a.greatest, also.a.greatest) };
  b = record { least = omega (arith, ints, is.b.least, also.b.least); greatest = omega (arith, ints, is.b.greatest, also.b.greatest) };
  c = record { least = omega (arith, ints, is.c.least, also.c.least); greatest = omega (arith, ints, is.c.greatest, also.c.greatest) };
  d = record { least = omega (arith, ints, is.d.least, also.d.least); greatest = omega (arith, ints, is.d.greatest, also.d.greatest) };
}

pub IsWithin-turn : {limit : ℕ} {r : Ring} → IsWithin limit r → IsWithin limit (turn r)
unfolding turn
IsWithin-turn is = record {
  a = record { least = omega (arith, ints, is.d.greatest); greatest = omega (arith, ints, is.d.least) };
  b = is.a;
  c = is.b;
  d = is.c;
}

pub IsWithin-root : {limit : ℕ} {r : Ring} → IsWithin limit r → IsWithin (2 * limit) (root r)
unfolding root
IsWithin-root is = record {
  a = record { least = omega (arith, ints, is.b.least, is.d.greatest); greatest = omega (arith, ints, is.b.greatest, is.d.least) };
  b = record { least = omega (arith, ints, is.a.least, is.c.least); greatest = omega (arith, ints, is.a.greatest, is.c.greatest) };
  c = record { least = omega (arith, ints, is.b.least, is.d.least); greatest = omega (arith, ints, is.b.greatest, is.d.greatest) };
  d = record { least = omega (arith, ints, is.c.least, is.a.greatest); greatest = omega (arith, ints, is.c.greatest, is.a.least) };
}

pub IsWithin-turned : {limit : ℕ} {r : Ring} (k : ℕ) → IsWithin limit r → IsWithin limit (turned k r)
IsWithin-turned zero is = is
IsWithin-turned (suc k) is = IsWithin-turn (IsWithin-turned k is)

pub IsWithin-turned_if : {limit : ℕ} {r : Ring} (p : Bool) (k : ℕ) → IsWithin limit r → IsWithin limit (turned_if p k r)
IsWithin-turned_if true k is = IsWithin-turned k is
IsWithin-turned_if false k is = is

doubled : (k : ℕ) → 2 * 2 ^ k ≡ 2 ^ suc k
doubled k = omega (arith, pow-suc 2 k)

form_within : {limit : ℕ} (a : Form) (f : List Bool → Ring) → ((z : List Bool) → IsWithin limit (f z)) →
    (x : List Bool) → IsWithin (2 * limit) (by_form a f x)
form_within {limit} (turns ws k) f all x = IsWithin-more (2 * limit) (IsWithin-turned_if (all_on ws x) k (all x)) (omega arith)
form_within {limit} (flips w ws) f all x = IsWithin-more (2 * limit) (all _) (omega arith)
form_within (mixes w) f all x = IsWithin-plus (all (set x w false)) (IsWithin-turned_if (bit x w) 4 (all (set x w true)))

-- a gate doubles the bound at most
pub IsWithin-through : {limit : ℕ} (g : Gate) (f : List Bool → Ring) → ((z : List Bool) → IsWithin limit (f z)) →
    (x : List Bool) → IsWithin (2 * limit) (through g f x)
IsWithin-through {limit} g f all x =
    let acts : by_form (form_of g) f x ≡ through g f x = λ i. sym (gate_facts g).acts i f x in
    subst (IsWithin (2 * limit)) acts (form_within (form_of g) f all x)

point_within : (p : Bool) → IsWithin 1 (cond p one nought)
point_within true = IsWithin-one
point_within false = IsWithin-nought 1

-- the entries of a circuit are within 2 to the number of its gates
pub IsWithin-Entry : (c : List Gate) (x y : List Bool) → IsWithin (2 ^ length c) (Entry c x y)
IsWithin-Entry [] x y = point_within (same_bits x y)
IsWithin-Entry (g ∷ c) x y =
    subst (λ (limit : ℕ). IsWithin limit (Entry (g ∷ c) x y)) (doubled (length c))
    (IsWithin-through g (λ z. Entry c z y) (λ z. IsWithin-Entry c z y) x)

-- √2 doubles the bound at most
pub IsWithin-rooted : (j k : ℕ) (r : Ring) → IsWithin (2 ^ j) r → IsWithin (2 ^ (k + j)) (rooted k r)
IsWithin-rooted j zero r is = subst (λ (n : ℕ). IsWithin (2 ^ n) r) (omega arith) is
IsWithin-rooted j (suc k) r is =
    subst (λ (limit : ℕ). IsWithin limit (rooted (suc k) r)) (doubled (k + j) ∙ ap (λ (n : ℕ). 2 ^ n) (omega arith))
    (IsWithin-root (IsWithin-rooted j k r is))

pub pow_grows : (j k : ℕ) → j ≤ k → 2 ^ j ≤ 2 ^ k
pow_grows j k below = pow_mono {i = j} {j = k} below

-- so with few gates and roots all is within a small bound
pub IsWithin-entries : (most roots : ℕ) (c : List Gate) (x y : List Bool) → roots + length c ≤ most →
    IsWithin (2 ^ most) (rooted roots (Entry c x y))
IsWithin-entries most roots c x y few =
    IsWithin-more (2 ^ most) (IsWithin-rooted (length c) roots (Entry c x y) (IsWithin-Entry c x y)) (pow_grows _ _ few)
