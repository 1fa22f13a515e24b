use Rattle.std.proofs.Common.{◌≡◌, ◌≢◌, ℕ, zero, suc, ◌<◌, Bool, true, false, not, ◌&&◌, cond, List, [], ◌∷◌, map, length, get_or, set, inl, inr, refl, ap, sym, subst, ◌∙◌, arith}
use Rattle.std.proofs.lemmas.List.{length-set, set-set, set_comm, set-get_or, get_or-set_same, get_or-set_other}
use Rattle.pq_gate.specs.declared.gate.Gate.{Gate}
use Rattle.pq_gate.specs.declared.ring.Ring.{Ring}
use Rattle.pq_gate.specs.Bits.{bit, toggled}
use Rattle.pq_gate.specs.Circuit.{AreOn, IsOnWires, IsCircuit}
use Rattle.pq_gate.specs.Ring.{plus, turned, turned_if, rooted}
use Rattle.pq_gate.specs.Matrix.{through, roots_of, h_count, Same}
use Rattle.pq_gate.specs.Ports.{wires_of, IsAmong}
use Rattle.pq_gate.proofs.ActLaws.{through_reads, Act}
use Rattle.pq_gate.proofs.GateFacts.{form_of, gate_facts}
use Rattle.pq_gate.proofs.GateForms.{Form, turns, flips, mixes, all_on, by_form, led, roots_by, roots_led, Fits}
use Rattle.pq_gate.proofs.SameLaws.{Same-acts, Same-from_acts}
use Rattle.pq_gate.proofs.WireLaws.{wire_below}
use Rattle.pq_rules.specs.Renaming.{IsRenaming, renamed}

-- the values of the renamed wires
abbrev pub pulled : List ℕ → List Bool → List Bool
pulled [] x = []
pulled (w ∷ e) x = bit x w ∷ pulled e x

-- the state with values written on the renamed wires
abbrev pub pushed : List ℕ → List Bool → List Bool → List Bool
pushed [] x z = x
pushed (w ∷ e) x [] = x
pushed (w ∷ e) x (p ∷ z) = set (pushed e x z) w p

pub length-pulled : (e : List ℕ) (x : List Bool) → length (pulled e x) ≡ length e
length-pulled [] x = refl
length-pulled (w ∷ e) x = ap suc (length-pulled e x)

pub length-pushed : (e : List ℕ) (x z : List Bool) → length (pushed e x z) ≡ length x
length-pushed [] x z = refl
length-pushed (w ∷ e) x [] = refl
length-pushed (w ∷ e) x (p ∷ z) = length-set (pushed e x z) w p ∙ length-pushed e x z

-- a state's own values change nothing
pub pushed-pulled : (e : List ℕ) (x : List Bool) → pushed e x (pulled e x) ≡ x
pushed-pulled [] x = refl
pushed-pulled (w ∷ e) x = ap (λ (y : List Bool). set y w (bit x w)) (pushed-pulled e x) ∙ set-get_or x w false

-- the wires after the first are renamed too
renaming_tail : {m n : ℕ} {h : ℕ} {e : List ℕ} → IsRenaming (suc m) n (h ∷ e) → IsRenaming m n e
renaming_tail {m} {n} {h} {e} is = record {
  whole = (let all : suc (length e) ≡ suc m = is.whole in omega arith);
  inside = λ w below. is.inside (suc w) (omega arith);
  apart = λ v w v_below w_below same. (let all : suc v ≡ suc w = is.apart (suc v) (suc w) (omega arith) (omega arith) same in omega arith);
}

-- a later wire isn't led to where the first one is
not_first : {m n : ℕ} {h : ℕ} {e : List ℕ} → IsRenaming (suc m) n (h ∷ e) → (w : ℕ) → w < m → get_or e w 0 ≢ h
not_first {m} is w below same =
    let all : suc w ≡ 0 = is.apart (suc w) 0 (omega arith) (omega arith) same in absurd (omega arith)

-- a renamed wire has the value that was written
pub bit-pushed : (m n : ℕ) (e : List ℕ) (x z : List Bool) → IsRenaming m n e → length x ≡ n → length z ≡ m →
    (w : ℕ) → w < m → bit (pushed e x z) (get_or e w 0) ≡ bit z w
bit-pushed zero n e x z is x_is z_is w below = absurd (omega arith)
bit-pushed (suc m) n [] x z is x_is z_is w below = absurd (omega (arith, is.whole))
bit-pushed (suc m) n (h ∷ e) x [] is x_is z_is w below = absurd (omega (arith, z_is))
bit-pushed (suc m) n (h ∷ e) x (p ∷ z) is x_is z_is zero below =
    get_or-set_same (pushed e x z) h p false
    (let inside : h < n = is.inside 0 (omega arith) in omega (arith, length-pushed e x z))
bit-pushed (suc m) n (h ∷ e) x (p ∷ z) is x_is z_is (suc w) below =
    get_or-set_other (pushed e x z) h (get_or e w 0) p false (not_first is w (omega arith)) ∙
    bit-pushed m n e x z (renaming_tail is) x_is (let all : suc (length z) ≡ suc m = z_is in omega arith) w (omega arith)

-- a write on a renamed wire is a write of its value
pub set-pushed : (m n : ℕ) (e : List ℕ) (x z : List Bool) → IsRenaming m n e → length x ≡ n → length z ≡ m →
    (w : ℕ) (q : Bool) → w < m → set (pushed e x z) (get_or e w 0) q ≡ pushed e x (set z w q)
set-pushed zero n e x z is x_is z_is w q below = absurd (omega arith)
set-pushed (suc m) n [] x z is x_is z_is w q below = absurd (omega (arith, is.whole))
set-pushed (suc m) n (h ∷ e) x [] is x_is z_is w q below = absurd (omega (arith, z_is))
set-pushed (suc m) n (h ∷ e) x (p ∷ z) is x_is z_is zero q below = set-set (pushed e x z) h p q
set-pushed (suc m) n (h ∷ e) x (p ∷ z) is x_is z_is (suc w) q below =
    set_comm (pushed e x z) h (get_or e w 0) p q (λ same. not_first is w (omega arith) (sym same)) ∙
    ap (λ (y : List Bool). set y h p)
    (set-pushed m n e x z (renaming_tail is) x_is (let all : suc (length z) ≡ suc m = z_is in omega arith) w q (omega arith))

module _ (m n : ℕ) (e : List ℕ) (is : IsRenaming m n e) (x : List Bool) (x_is : length x ≡ n) where
  all_on-renamed : (ws : List ℕ) → ((w : ℕ) → IsAmong w ws → w < m) → (z : List Bool) → length z ≡ m →
      all_on (map (λ w. get_or e w 0) ws) (pushed e x z) ≡ all_on ws z
  all_on-renamed [] below z z_is = refl
  all_on-renamed (w ∷ []) below z z_is = bit-pushed m n e x z is x_is z_is w (below w refl)
  all_on-renamed (v ∷ w ∷ rest) below z z_is =
      λ i. bit-pushed m n e x z is x_is z_is v (below v (inl refl)) i && all_on-renamed (w ∷ rest) (λ u later. below u (inr later)) z z_is i

  toggled-renamed : (w : ℕ) (p : Bool) → w < m → (z : List Bool) → length z ≡ m →
      toggled (pushed e x z) (get_or e w 0) p ≡ pushed e x (toggled z w p)
  toggled-renamed w p below z z_is =
      ap (λ (q : Bool). set (pushed e x z) (get_or e w 0) (cond p (not q) q)) (bit-pushed m n e x z is x_is z_is w below) ∙
      set-pushed m n e x z is x_is z_is w (cond p (not (bit z w)) (bit z w)) below

  form-renamed : (g : Gate) → IsOnWires m g → (a : Form) → Fits g a → (f : List Bool → Ring) (z : List Bool) → length z ≡ m →
      by_form (led (λ w. get_or e w 0) a) f (pushed e x z) ≡ by_form a (λ y. f (pushed e x y)) z
  form-renamed g on (turns ws k) fits f z z_is =
      ap (λ (p : Bool). turned_if p k (f (pushed e x z))) (all_on-renamed ws (λ w among. wire_below m g on w (fits w among).uses) z z_is)
  form-renamed g on (flips w ws) fits f z z_is =
      ap (λ (p : Bool). f (toggled (pushed e x z) (get_or e w 0) p))
      (all_on-renamed ws (λ v among. wire_below m g on v (fits.1 v among).uses) z z_is) ∙
      ap f (toggled-renamed w (all_on ws z) (wire_below m g on w fits.0.uses) z z_is)
  form-renamed g on (mixes w) fits f z z_is =
      let below : w < m = wire_below m g on w fits.0.uses in
      λ i. plus (f (set-pushed m n e x z is x_is z_is w false below i))
      (turned_if (bit-pushed m n e x z is x_is z_is w below i) 4 (f (set-pushed m n e x z is x_is z_is w true below i)))

  -- a renamed gate acts on the written values
  through-renamed : (g : Gate) → IsOnWires m g → (f : List Bool → Ring) (z : List Bool) → length z ≡ m →
      through (renamed e g) f (pushed e x z) ≡ through g (λ y. f (pushed e x y)) z
  through-renamed g on f z z_is =
      let facts = gate_facts g in
      (λ i. (gate_facts (renamed e g)).acts i f (pushed e x z)) ∙
      (λ i. by_form (facts.form_led (λ w. get_or e w 0) i) f (pushed e x z)) ∙
      form-renamed g on (form_of g) (facts.fits m on) f z z_is ∙
      (λ i. sym facts.acts i (λ y. f (pushed e x y)) z)

  -- so do renamed circuits
  pub Act-renamed : (p : List Gate) → IsCircuit m p → (f : List Bool → Ring) (z : List Bool) → length z ≡ m →
      Act (map (renamed e) p) f (pushed e x z) ≡ Act p (λ y. f (pushed e x y)) z
  Act-renamed [] all f z z_is = refl
  Act-renamed (g ∷ p) all f z z_is =
      through-renamed g all.0 (Act (map (renamed e) p) f) z z_is ∙
      through_reads m g (λ y. Act (map (renamed e) p) f (pushed e x y)) (Act p (λ y. f (pushed e x y))) (Act-renamed p all.1 f) z z_is

AreOn-renamed : {m n : ℕ} {e : List ℕ} → IsRenaming m n e → (wires : List ℕ) → AreOn m wires → AreOn n (map (λ w. get_or e w 0) wires)
AreOn-renamed is [] on = tt
AreOn-renamed is (w ∷ []) on = is.inside w on
AreOn-renamed is (c ∷ t ∷ rest) on = (is.inside c on.0, is.inside t on.1, λ same. on.2 (is.apart c t on.0 on.1 same))

-- the wires of a renamed gate are those that its wires are led to
pub wires_of-renamed : (e : List ℕ) (g : Gate) → wires_of (renamed e g) ≡ map (λ w. get_or e w 0) (wires_of g)
wires_of-renamed e g = (gate_facts g).wires_led (λ w. get_or e w 0)

IsOnWires-renamed : {m n : ℕ} {e : List ℕ} → IsRenaming m n e → (g : Gate) → IsOnWires m g → IsOnWires n (renamed e g)
IsOnWires-renamed {m} {n} {e} is g on = subst (AreOn n) (sym (wires_of-renamed e g)) (AreOn-renamed is (wires_of g) on)

-- a renamed circuit is a circuit
pub IsCircuit-renamed : {m n : ℕ} {e : List ℕ} → IsRenaming m n e → (p : List Gate) → IsCircuit m p → IsCircuit n (map (renamed e) p)
IsCircuit-renamed is [] all = tt
IsCircuit-renamed is (g ∷ p) all = (IsOnWires-renamed is g all.0, IsCircuit-renamed is p all.1)

roots_of-renamed : (e : List ℕ) (g : Gate) → roots_of (renamed e g) ≡ roots_of g
roots_of-renamed e g =
    (gate_facts (renamed e g)).roots ∙ ap roots_by ((gate_facts g).form_led (λ w. get_or e w 0)) ∙
    roots_led (λ w. get_or e w 0) (form_of g) ∙ sym (gate_facts g).roots

pub h_count-renamed : (e : List ℕ) (p : List Gate) → h_count (map (renamed e) p) ≡ h_count p
h_count-renamed e [] = refl
h_count-renamed e (g ∷ p) = omega (arith, roots_of-renamed e g, h_count-renamed e p)

-- circuits of one matrix, up to a phase, stay so under each renaming
pub same_renamed : (m n k : ℕ) (e : List ℕ) (p q : List Gate) → IsRenaming m n e → Same m p q k →
    Same n (map (renamed e) p) (map (renamed e) q) k
same_renamed m n k e p q is same =
    Same-from_acts (IsCircuit-renamed is p same.left) (IsCircuit-renamed is q same.right)
    (λ f x x_is.
    let z_is : length (pulled e x) ≡ m = length-pulled e x ∙ is.whole in
    let at = λ (c : List Gate) (all : IsCircuit m c). subst (λ (y : List Bool). Act (map (renamed e) c) f y ≡ Act c (λ y. f (pushed e x y)) (pulled e x))
    (pushed-pulled e x) (Act-renamed m n e is x x_is c all f (pulled e x) z_is) in
    (λ i. rooted (h_count-renamed e q i) (at p same.left i)) ∙
    Same-acts same (λ y. f (pushed e x y)) (pulled e x) z_is ∙
    sym (λ i. turned k (rooted (h_count-renamed e p i) (at q same.right i))))
