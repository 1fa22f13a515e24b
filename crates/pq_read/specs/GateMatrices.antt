-- The matrices of the gates that are expanded. An entry leads from one basis state of the gate's wires to another.
use Rattle.std.specs.Prelude.{ℕ, Bool, not, ◌&&◌, List, [], ◌∷◌, if◌then◌else◌}
use Rattle.pq_gate.specs.declared.ring.Ring.{Ring}
use Rattle.pq_gate.specs.Bits.{same_bits}
use Rattle.pq_gate.specs.Ring.{nought, one, turned}

-- the entry of a gate that leads a state to one other and turns it by ω^k
abbrev pub led : List Bool → ℕ → List Bool → Ring
led to k y = if same_bits to y then turned k one else nought

-- Y leads 0 to i times 1, and 1 to -i times 0.
abbrev pub y_entry : Bool → List Bool → Ring
y_entry p y = led (not p ∷ []) (if p then 6 else 2) y

-- CZ turns 11 by -1.
abbrev pub cz_entry : Bool → Bool → List Bool → Ring
cz_entry p q y = led (p ∷ q ∷ []) (if p && q then 4 else 0) y

-- CY is Y on the second wire where the first is 1.
abbrev pub cy_entry : Bool → Bool → List Bool → Ring
cy_entry p q y = if p then led (p ∷ not q ∷ []) (if q then 6 else 2) y else led (p ∷ q ∷ []) 0 y

abbrev pub swap_entry : Bool → Bool → List Bool → Ring
swap_entry p q y = led (q ∷ p ∷ []) 0 y

-- CCX toggles the third wire where the others are 1.
abbrev pub ccx_entry : Bool → Bool → Bool → List Bool → Ring
ccx_entry p q r y = led (p ∷ q ∷ (if p && q then not r else r) ∷ []) 0 y
