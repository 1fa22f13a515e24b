use Rattle.std.specs.Prelude.{◌≡◌, ℕ, ◌+◌, Bool, true, false, cond, List, [], ◌∷◌, length, slice_set}
use Rattle.pq_gate.specs.declared.gate.Gate.{Gate}
use Rattle.pq_gate.specs.declared.gate.Gate.TheVariants.{H, X, Phase, Cx}
use Rattle.pq_gate.specs.declared.ring.Ring.{Ring}
use Rattle.pq_gate.specs.Bits.{bit, toggled, same_bits}
use Rattle.pq_gate.specs.Circuit.{IsCircuit}
use Rattle.pq_gate.specs.Eighths.{eighths_of}
use Rattle.pq_gate.specs.Ring.{nought, one, plus, turned, turned_if, rooted}

-- What a gate does at a basis state x, where f is what all the later gates give from each basis
-- state on. X and CX lead x to one other state, a phase stays and turns, and H is the sum over both
-- values of its wire, times √2.
abbrev pub through : Gate → (List Bool → Ring) → List Bool → Ring
through (H wire) f x = plus (f (slice_set x wire false)) (turned_if (bit x wire) 4 (f (slice_set x wire true)))
through (X wire) f x = f (toggled x wire true)
through (Phase eighths wire) f x = turned_if (bit x wire) (eighths_of eighths) (f x)
through (Cx control target) f x = f (toggled x target (bit x control))

-- The entry of the circuit's matrix that leads from the basis state x to y, times √2^h, where h is
-- the number of H gates: the sum over all paths of basis states.
abbrev pub Entry : List Gate → List Bool → List Bool → Ring
Entry [] x y = cond (same_bits x y) one nought
Entry (gate ∷ rest) x y = through gate (λ z. Entry rest z y) x

-- how many factors √2 a gate's part of the entry has too many: H alone has one
abbrev pub roots_of : Gate → ℕ
roots_of (H wire) = 1
roots_of _ = 0

-- the number of H gates
abbrev pub h_count : List Gate → ℕ
h_count [] = 0
h_count (gate ∷ rest) = roots_of gate + h_count rest

-- Both are circuits on n wires, and the matrix of c is ω^k times that of d. Both sides are multiplied
-- by the powers of √2 that the entries of the other side have too many.
pub record Same (n : ℕ) (c d : List Gate) (k : ℕ) : Type 0 where
  pub left : IsCircuit n c
  pub right : IsCircuit n d
  pub entries : (x y : List Bool) → length x ≡ n → length y ≡ n →
      rooted (h_count d) (Entry c x y) ≡ turned k (rooted (h_count c) (Entry d x y))
