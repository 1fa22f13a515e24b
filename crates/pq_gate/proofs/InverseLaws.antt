use Rattle.std.proofs.Common.{◌≡◌, ℕ, ◌+◌, ◌-◌, ◌%◌, Bool, true, false, List, [], ◌∷◌, length, refl, ap, sym, subst, ◌∙◌, arith}
use Rattle.pq_gate.specs.declared.gate.Gate.{Gate}
use Rattle.pq_gate.specs.declared.ring.Ring.{Ring}
use Rattle.pq_gate.specs.Bits.{toggled}
use Rattle.pq_gate.specs.Circuit.{AreOn, IsOnWires, IsCircuit}
use Rattle.pq_gate.specs.Inverse.{inverse_of}
use Rattle.pq_gate.specs.Matrix.{h_count, roots_of, Same}
use Rattle.pq_gate.specs.Ring.{turned_if, rooted}
use Rattle.pq_gate.proofs.BitLaws.{toggled-toggled}
use Rattle.pq_gate.proofs.GateFacts.{form_of, gate_facts}
use Rattle.pq_gate.proofs.GateForms.{Form, turns, flips, mixes, all_on, by_form, undoing, roots_by, roots_undoing, ignores_others, Fits}
use Rattle.pq_gate.proofs.PairLaws.{H_twice, within}
use Rattle.pq_gate.proofs.RingLaws.{turned_comm, turned_back}
use Rattle.pq_gate.proofs.SameLaws.{Same-from_acts}
use Rattle.pq_gate.proofs.WireLaws.{wire_below}

-- a turn and the rest of the whole turn
turned_if_back : (p : Bool) (k : ℕ) (r : Ring) → turned_if p k (turned_if p ((8 - k % 8) % 8) r) ≡ r
turned_if_back true k r = turned_comm k ((8 - k % 8) % 8) r ∙ turned_back k r
turned_if_back false k r = refl

-- a form and the one that undoes it
form_undone : (n : ℕ) (g : Gate) → IsOnWires n g → (a : Form) → Fits g a → (f : List Bool → Ring) (x : List Bool) → length x ≡ n →
    by_form a (by_form (undoing a) f) x ≡ rooted (roots_by a + roots_by a) (f x)
form_undone n g on (turns ws k) fits f x is = turned_if_back (all_on ws x) k (f x)
form_undone n g on (flips w ws) fits f x is =
    ap (λ (b : Bool). f (toggled (toggled x w (all_on ws x)) w b)) (ignores_others ws w fits.2 x _) ∙
    ap f (toggled-toggled x w (all_on ws x) (within (wire_below n g on w fits.0.uses) x is))
form_undone n g on (mixes w) fits f x is = H_twice w f x (within (wire_below n g on w fits.0.uses) x is)

-- the inverse has as many factors √2
roots_inverse : (g : Gate) → roots_of (inverse_of g) ≡ roots_by (form_of g)
roots_inverse g = (gate_facts (inverse_of g)).roots ∙ ap roots_by (gate_facts g).undone ∙ roots_undoing (form_of g)

inverse_on_wires : (n : ℕ) (g : Gate) → IsOnWires n g → IsOnWires n (inverse_of g)
inverse_on_wires n g on = subst (AreOn n) (sym (gate_facts g).stays) on

-- a gate and its inverse do nothing
pub same_inverse : (n : ℕ) (g : Gate) → IsCircuit n (g ∷ []) → Same n (g ∷ inverse_of g ∷ []) [] 0
same_inverse n g is =
    let facts = gate_facts g in
    let roots : roots_by (form_of g) + roots_by (form_of g) ≡ h_count (g ∷ inverse_of g ∷ []) =
    omega (arith, facts.roots, roots_inverse g) in
    Same-from_acts (is.0, (inverse_on_wires n g is.0, tt)) tt
    (λ f x x_is.
    (λ i. facts.acts i ((gate_facts (inverse_of g)).acts i f) x) ∙
    (λ i. by_form (form_of g) (by_form (facts.undone i) f) x) ∙
    form_undone n g is.0 (form_of g) (facts.fits n is.0) f x x_is ∙
    (λ i. rooted (roots i) (f x)))

-- the inverse of the inverse is the gate
pub inverse-inverse : (g : Gate) → inverse_of (inverse_of g) ≡ g
inverse-inverse g = (gate_facts g).twice

-- nor do the inverse and the gate
pub same_inverse_before : (n : ℕ) (g : Gate) → IsCircuit n (g ∷ []) → Same n (inverse_of g ∷ g ∷ []) [] 0
same_inverse_before n g is =
    subst (λ (h : Gate). Same n (inverse_of g ∷ h ∷ []) [] 0) (inverse-inverse g)
    (same_inverse n (inverse_of g) (inverse_on_wires n g is.0, tt))
