use Rattle.std.proofs.Common.{ℕ, List, [], ◌∷◌, ◌++◌}
use Rattle.pq_gate.specs.declared.gate.Gate.{Gate}
use Rattle.pq_gate.specs.Circuit.{IsCircuit}

-- two circuits, one behind the other
pub IsCircuit-append : (n : ℕ) (a b : List Gate) → IsCircuit n a → IsCircuit n b → IsCircuit n (a ++ b)
IsCircuit-append n [] b left right = right
IsCircuit-append n (g ∷ a) b left right = (left.0, IsCircuit-append n a b left.1 right)

-- the prefix of a circuit
pub IsCircuit-front : (n : ℕ) (a b : List Gate) → IsCircuit n (a ++ b) → IsCircuit n a
IsCircuit-front n [] b all = tt
IsCircuit-front n (g ∷ a) b all = (all.0, IsCircuit-front n a b all.1)

-- and what follows it
pub IsCircuit-back : (n : ℕ) (a b : List Gate) → IsCircuit n (a ++ b) → IsCircuit n b
IsCircuit-back n [] b all = all
IsCircuit-back n (g ∷ a) b all = IsCircuit-back n a b all.1
