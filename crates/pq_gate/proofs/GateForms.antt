-- What the gates have in common: each turns a state, changes one wire, or mixes the two values of one.
use Rattle.std.proofs.Common.{◌≡◌, ℕ, ◌-◌, ◌%◌, Bool, true, false, ◌&&◌, List, [], ◌∷◌, map, set, inl, inr, refl, sym}
use Rattle.std.proofs.lemmas.List.{get_or-set_other}
use Rattle.pq_gate.specs.declared.gate.Gate.{Gate}
use Rattle.pq_gate.specs.declared.ring.Ring.{Ring}
use Rattle.pq_gate.specs.Bits.{bit, toggled}
use Rattle.pq_gate.specs.Commuting.{Touches, AlongZ, AlongX}
use Rattle.pq_gate.specs.Ports.{IsAmong}
use Rattle.pq_gate.specs.Ring.{plus, turned_if}

-- A gate turns a state where all of some wires are 1, or changes one wire where all of some others are 1,
-- or mixes the two values of one wire.
pub data Form : Type 0 where
  turns : List ℕ → ℕ → Form
  flips : ℕ → List ℕ → Form
  mixes : ℕ → Form

-- whether all of these wires are 1
abbrev pub all_on : List ℕ → List Bool → Bool
all_on [] x = true
all_on (w ∷ []) x = bit x w
all_on (v ∷ w ∷ rest) x = bit x v && all_on (w ∷ rest) x

-- what a gate of this form does at a state
abbrev pub by_form : Form → (List Bool → Ring) → List Bool → Ring
by_form (turns ws k) f x = turned_if (all_on ws x) k (f x)
by_form (flips w ws) f x = f (toggled x w (all_on ws x))
by_form (mixes w) f x = plus (f (set x w false)) (turned_if (bit x w) 4 (f (set x w true)))

-- the form of the inverse
abbrev pub undoing : Form → Form
undoing (turns ws k) = turns ws ((8 - k % 8) % 8)
undoing (flips w ws) = flips w ws
undoing (mixes w) = mixes w

-- the form on the wires that these are led to
abbrev pub led : (ℕ → ℕ) → Form → Form
led to (turns ws k) = turns (map to ws) k
led to (flips w ws) = flips (to w) (map to ws)
led to (mixes w) = mixes (to w)

-- how many factors √2 it has too many
abbrev pub roots_by : Form → ℕ
roots_by (turns ws k) = 0
roots_by (flips w ws) = 0
roots_by (mixes w) = 1

pub roots_undoing : (a : Form) → roots_by (undoing a) ≡ roots_by a
roots_undoing (turns ws k) = refl
roots_undoing (flips w ws) = refl
roots_undoing (mixes w) = refl

pub roots_led : (to : ℕ → ℕ) (a : Form) → roots_by (led to a) ≡ roots_by a
roots_led to (turns ws k) = refl
roots_led to (flips w ws) = refl
roots_led to (mixes w) = refl

-- whether these wires are 1 doesn't depend on the wire
abbrev pub Ignores : List ℕ → ℕ → Type 0
Ignores ws w = (x : List Bool) (b : Bool) → all_on ws (set x w b) ≡ all_on ws x

pub ignores_others : (ws : List ℕ) (w : ℕ) → (IsAmong w ws → ⊥) → Ignores ws w
ignores_others [] w other x b = refl
ignores_others (v ∷ []) w other x b = get_or-set_other x w v b false (λ is. other (sym is))
ignores_others (v ∷ u ∷ rest) w other x b =
    let here : bit (set x w b) v ≡ bit x v = get_or-set_other x w v b false (λ is. other (inl (sym is))) in
    λ i. here i && ignores_others (u ∷ rest) w (λ later. other (inr later)) x b i

-- the gate uses the wire, and not along X
pub record NotAlongX (g : Gate) (w : ℕ) : Type 0 where
  pub uses : Touches g w
  pub not : AlongX g w → ⊥

-- the gate uses the wire, and not along Z
pub record NotAlongZ (g : Gate) (w : ℕ) : Type 0 where
  pub uses : Touches g w
  pub not : AlongZ g w → ⊥

-- each of these wires is one that the gate uses, but not along X
abbrev pub Reads : Gate → List ℕ → Type 0
Reads g ws = (w : ℕ) → IsAmong w ws → NotAlongX g w

-- what the form says of the gate
abbrev pub Fits : Gate → Form → Type 0
Fits g (turns ws k) = Reads g ws
Fits g (flips w ws) = NotAlongZ g w × Reads g ws × (IsAmong w ws → ⊥)
Fits g (mixes w) = NotAlongZ g w × NotAlongX g w
