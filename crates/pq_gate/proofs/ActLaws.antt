use Rattle.std.proofs.Common.{◌≡◌, ℕ, zero, suc, ◌+◌, Bool, true, false, cond, List, [], ◌∷◌, ◌++◌, length, set, refl, ap, sym, ◌∙◌, arith}
use Rattle.std.proofs.lemmas.List.{length-set}
use Rattle.pq_gate.specs.declared.gate.Gate.{Gate}
use Rattle.pq_gate.specs.declared.ring.Ring.{Ring}
use Rattle.pq_gate.specs.Bits.{bit, same_bits}
use Rattle.pq_gate.specs.Ring.{nought, one, plus, turn, turned, rooted, turned_if}
use Rattle.pq_gate.specs.Matrix.{through, Entry, h_count}
use Rattle.pq_gate.proofs.GateFacts.{form_of, gate_facts}
use Rattle.pq_gate.proofs.GateForms.{Form, turns, flips, mixes, by_form, all_on}
use Rattle.pq_gate.proofs.RingLaws.{plus_swap, turned-plus, turned-turn, rooted-plus, rooted-turn}

-- a map of the ring that keeps sums and ω, and so all of the ring's multiples
pub record IsLinear (m : Ring → Ring) : Type 0 where
  pub sums : (r s : Ring) → m (plus r s) ≡ plus (m r) (m s)
  pub turns : (r : Ring) → m (turn r) ≡ turn (m r)

pub IsLinear-turned : (k : ℕ) → IsLinear (turned k)
IsLinear-turned k = record { sums = turned-plus k; turns = turned-turn k }

pub IsLinear-rooted : (k : ℕ) → IsLinear (rooted k)
IsLinear-rooted k = record { sums = rooted-plus k; turns = rooted-turn k }

pub linear-turned : {m : Ring → Ring} → IsLinear m → (k : ℕ) (r : Ring) → m (turned k r) ≡ turned k (m r)
linear-turned linear zero r = refl
linear-turned linear (suc k) r = linear.turns (turned k r) ∙ ap turn (linear-turned linear k r)

pub linear-turned_if : {m : Ring → Ring} → IsLinear m → (p : Bool) (k : ℕ) (r : Ring) → m (turned_if p k r) ≡ turned_if p k (m r)
linear-turned_if linear true k r = linear-turned linear k r
linear-turned_if linear false k r = refl

pub turned_if-plus : (p : Bool) (k : ℕ) (r s : Ring) → turned_if p k (plus r s) ≡ plus (turned_if p k r) (turned_if p k s)
turned_if-plus true k r s = turned-plus k r s
turned_if-plus false k r s = refl

form-linear : {m : Ring → Ring} → IsLinear m → (a : Form) (f : List Bool → Ring) (x : List Bool) →
    by_form a (λ z. m (f z)) x ≡ m (by_form a f x)
form-linear linear (turns ws k) f x = sym (linear-turned_if linear (all_on ws x) k (f x))
form-linear linear (flips w ws) f x = refl
form-linear {m} linear (mixes w) f x =
    let low : Ring = f (set x w false) in
    let high : Ring = f (set x w true) in
    sym (linear.sums low (turned_if (bit x w) 4 high) ∙ ap (plus (m low)) (linear-turned_if linear (bit x w) 4 high))

-- a gate keeps linear maps
pub through-linear : {m : Ring → Ring} → IsLinear m → (g : Gate) (f : List Bool → Ring) (x : List Bool) →
    through g (λ z. m (f z)) x ≡ m (through g f x)
through-linear {m} linear g f x =
    let acts : through g ≡ by_form (form_of g) = (gate_facts g).acts in
    (λ i. acts i (λ z. m (f z)) x) ∙ form-linear linear (form_of g) f x ∙ (λ i. m (sym acts i f x))

form-plus : (a : Form) (f h : List Bool → Ring) (x : List Bool) →
    by_form a (λ z. plus (f z) (h z)) x ≡ plus (by_form a f x) (by_form a h x)
form-plus (turns ws k) f h x = turned_if-plus (all_on ws x) k (f x) (h x)
form-plus (flips w ws) f h x = refl
form-plus (mixes w) f h x =
    let f0 : Ring = f (set x w false) in
    let f1 : Ring = f (set x w true) in
    let h0 : Ring = h (set x w false) in
    let h1 : Ring = h (set x w true) in
    ap (plus (plus f0 h0)) (turned_if-plus (bit x w) 4 f1 h1) ∙
    plus_swap f0 h0 (turned_if (bit x w) 4 f1) (turned_if (bit x w) 4 h1)

-- a gate keeps sums
pub through-plus : (g : Gate) (f h : List Bool → Ring) (x : List Bool) →
    through g (λ z. plus (f z) (h z)) x ≡ plus (through g f x) (through g h x)
through-plus g f h x =
    let acts : through g ≡ by_form (form_of g) = (gate_facts g).acts in
    (λ i. acts i (λ z. plus (f z) (h z)) x) ∙ form-plus (form_of g) f h x ∙ (λ i. plus (sym acts i f x) (sym acts i h x))

form_reads : (n : ℕ) (a : Form) (f h : List Bool → Ring) → ((z : List Bool) → length z ≡ n → f z ≡ h z) →
    (x : List Bool) → length x ≡ n → by_form a f x ≡ by_form a h x
form_reads n (turns ws k) f h agree x is = ap (turned_if (all_on ws x) k) (agree x is)
form_reads n (flips w ws) f h agree x is = agree _ (length-set x w _ ∙ is)
form_reads n (mixes w) f h agree x is =
    let low : f (set x w false) ≡ h (set x w false) = agree _ (length-set x w false ∙ is) in
    let high : f (set x w true) ≡ h (set x w true) = agree _ (length-set x w true ∙ is) in
    λ i. plus (low i) (turned_if (bit x w) 4 (high i))

-- a gate leads lists of n bits to lists of n bits
pub through_reads : (n : ℕ) (g : Gate) (f h : List Bool → Ring) → ((z : List Bool) → length z ≡ n → f z ≡ h z) →
    (x : List Bool) → length x ≡ n → through g f x ≡ through g h x
through_reads n g f h agree x is =
    let acts : through g ≡ by_form (form_of g) = (gate_facts g).acts in
    (λ i. acts i f x) ∙ form_reads n (form_of g) f h agree x is ∙ (λ i. sym acts i h x)

-- what the circuit gives from each basis state on, where f is what follows it
abbrev pub Act : List Gate → (List Bool → Ring) → List Bool → Ring
Act [] f = f
Act (g ∷ c) f = through g (Act c f)

pub Act-append : (a b : List Gate) (f : List Bool → Ring) → Act (a ++ b) f ≡ Act a (Act b f)
Act-append [] b f = refl
Act-append (g ∷ a) b f = ap (through g) (Act-append a b f)

pub Act-linear : {m : Ring → Ring} → IsLinear m → (c : List Gate) (f : List Bool → Ring) (x : List Bool) →
    Act c (λ z. m (f z)) x ≡ m (Act c f x)
Act-linear linear [] f x = refl
Act-linear {m} linear (g ∷ c) f x =
    ap (λ (h : List Bool → Ring). through g h x) (λ i z. Act-linear linear c f z i) ∙ through-linear linear g (Act c f) x

pub Act-plus : (c : List Gate) (f h : List Bool → Ring) (x : List Bool) →
    Act c (λ z. plus (f z) (h z)) x ≡ plus (Act c f x) (Act c h x)
Act-plus [] f h x = refl
Act-plus (g ∷ c) f h x =
    ap (λ (k : List Bool → Ring). through g k x) (λ i z. Act-plus c f h z i) ∙ through-plus g (Act c f) (Act c h) x

pub Act_reads : (n : ℕ) (c : List Gate) (f h : List Bool → Ring) → ((z : List Bool) → length z ≡ n → f z ≡ h z) →
    (x : List Bool) → length x ≡ n → Act c f x ≡ Act c h x
Act_reads n [] f h agree x is = agree x is
Act_reads n (g ∷ c) f h agree x is = through_reads n g (Act c f) (Act c h) (Act_reads n c f h agree) x is

-- 1 at the state y, else 0
abbrev pub point : List Bool → List Bool → Ring
point y x = cond (same_bits x y) one nought

-- an entry is what the circuit makes of a point
pub Entry-point : (c : List Gate) (y : List Bool) → (λ (x : List Bool). Entry c x y) ≡ Act c (point y)
Entry-point [] y = refl
Entry-point (g ∷ c) y = ap (through g) (Entry-point c y)

pub h_count-append : (a b : List Gate) → h_count (a ++ b) ≡ h_count a + h_count b
h_count-append [] b = omega arith
h_count-append (g ∷ a) b = omega (arith, h_count-append a b)
