use Rattle.std.proofs.Common.{◌≡◌, ◌≢◌, ℕ, Bool, true, false, List, set, inl, inr, ⊎_elim, refl, ap, sym, subst, ◌∙◌}
use Rattle.std.proofs.lemmas.List.{set_comm, get_or-set_other}
use Rattle.pq_gate.specs.declared.gate.Gate.{Gate}
use Rattle.pq_gate.specs.declared.ring.Ring.{Ring}
use Rattle.pq_gate.specs.Bits.{bit, toggled}
use Rattle.pq_gate.specs.Circuit.{IsOnWires}
use Rattle.pq_gate.specs.Commuting.{Touches, AlongZ, AlongX, Commutes}
use Rattle.pq_gate.specs.Matrix.{through}
use Rattle.pq_gate.specs.Ring.{plus, turned_if}
use Rattle.pq_gate.proofs.ActLaws.{turned_if-plus}
use Rattle.pq_gate.proofs.BitLaws.{toggled_comm, toggled-set, bit-toggled_other}
use Rattle.pq_gate.proofs.GateFacts.{form_of, gate_facts}
use Rattle.pq_gate.proofs.GateForms.{Form, turns, flips, mixes, all_on, by_form, Ignores, ignores_others, NotAlongX, NotAlongZ, Reads, Fits}
use Rattle.pq_gate.proofs.RingLaws.{plus_swap, turned_comm}

-- a wire that one of two commuting gates uses, but not along X, and the other, but not along Z
clash : (g h : Gate) (w : ℕ) → Commutes g h → NotAlongX g w → NotAlongZ h w → ⊥
clash g h w commutes left right =
    ⊎_elim (λ (along : AlongZ g w × AlongZ h w). right.not along.1) (λ (along : AlongX g w × AlongX h w). left.not along.0)
    (commutes w left.uses right.uses)

pub Commutes-symmetric : (g h : Gate) → Commutes g h → Commutes h g
Commutes-symmetric g h commutes w right left =
    ⊎_elim (λ (along : AlongZ g w × AlongZ h w). inl (along.1, along.0)) (λ (along : AlongX g w × AlongX h w). inr (along.1, along.0))
    (commutes w left right)

-- so the condition doesn't depend on what the other gate changes
ignores : (g h : Gate) (w : ℕ) (p : List ℕ) → Commutes g h → Reads g p → NotAlongZ h w → Ignores p w
ignores g h w p commutes reads right = ignores_others p w (λ is. clash g h w commutes (reads w is) right)

-- and a wire that is mixed is another one
apart : (g h : Gate) (v w : ℕ) → Commutes g h → NotAlongZ g v → NotAlongZ h w → NotAlongX h w → v ≢ w
apart g h v w commutes left right right_too is =
    ⊎_elim (λ (along : AlongZ g w × AlongZ h w). right.not along.1) (λ (along : AlongX g w × AlongX h w). right_too.not along.1)
    (commutes w (subst (Touches g) is left.uses) right.uses)

turned_if_comm : (p q : Bool) (j k : ℕ) (r : Ring) → turned_if p j (turned_if q k r) ≡ turned_if q k (turned_if p j r)
turned_if_comm true true j k r = turned_comm j k r
turned_if_comm true false j k r = refl
turned_if_comm false true j k r = refl
turned_if_comm false false j k r = refl

turns_turns : (p q : List ℕ) (j k : ℕ) (f : List Bool → Ring) (x : List Bool) →
    by_form (turns p j) (by_form (turns q k) f) x ≡ by_form (turns q k) (by_form (turns p j) f) x
turns_turns p q j k f x = turned_if_comm (all_on p x) (all_on q x) j k (f x)

turns_flips : (p q : List ℕ) (j w : ℕ) → Ignores p w → (f : List Bool → Ring) (x : List Bool) →
    by_form (turns p j) (by_form (flips w q) f) x ≡ by_form (flips w q) (by_form (turns p j) f) x
turns_flips p q j w free f x = ap (λ (b : Bool). turned_if b j (f (toggled x w (all_on q x)))) (sym (free x _))

turns_mixes : (p : List ℕ) (j w : ℕ) → Ignores p w → (f : List Bool → Ring) (x : List Bool) →
    by_form (turns p j) (by_form (mixes w) f) x ≡ by_form (mixes w) (by_form (turns p j) f) x
turns_mixes p j w free f x =
    let low : Ring = f (set x w false) in
    let high : Ring = f (set x w true) in
    turned_if-plus (all_on p x) j low (turned_if (bit x w) 4 high) ∙
    ap (plus (turned_if (all_on p x) j low)) (turned_if_comm (all_on p x) (bit x w) j 4 high) ∙
    (let off : all_on p x ≡ all_on p (set x w false) = sym (free x false) in
    let on : all_on p x ≡ all_on p (set x w true) = sym (free x true) in
    λ i. plus (turned_if (off i) j low) (turned_if (bit x w) 4 (turned_if (on i) j high)))

flips_flips : (p q : List ℕ) (v w : ℕ) → Ignores p w → Ignores q v → (f : List Bool → Ring) (x : List Bool) →
    by_form (flips v p) (by_form (flips w q) f) x ≡ by_form (flips w q) (by_form (flips v p) f) x
flips_flips p q v w p_free q_free f x =
    ap f
    (ap (toggled (toggled x v (all_on p x)) w) (q_free x _) ∙ toggled_comm x v w (all_on p x) (all_on q x) ∙
    ap (toggled (toggled x w (all_on q x)) v) (sym (p_free x _)))

flips_mixes : (p : List ℕ) (v w : ℕ) → v ≢ w → Ignores p w → (f : List Bool → Ring) (x : List Bool) →
    by_form (flips v p) (by_form (mixes w) f) x ≡ by_form (mixes w) (by_form (flips v p) f) x
flips_mixes p v w differ free f x =
    let at = λ (b : Bool). ap (toggled (set x w b) v) (free x b) ∙ toggled-set x v w (all_on p x) b differ in
    let low : toggled (set x w false) v (all_on p (set x w false)) ≡ set (toggled x v (all_on p x)) w false = at false in
    let high : toggled (set x w true) v (all_on p (set x w true)) ≡ set (toggled x v (all_on p x)) w true = at true in
    let own : bit (toggled x v (all_on p x)) w ≡ bit x w = bit-toggled_other x v w (all_on p x) (λ is. differ (sym is)) in
    sym (λ i. plus (f (low i)) (turned_if (sym own i) 4 (f (high i))))

mixes_mixes : (v w : ℕ) → v ≢ w → (f : List Bool → Ring) (x : List Bool) →
    by_form (mixes v) (by_form (mixes w) f) x ≡ by_form (mixes w) (by_form (mixes v) f) x
mixes_mixes v w differ f x =
    let back : w ≢ v = λ is. differ (sym is) in
    let at = λ (p q : Bool). f (set (set x v p) w q) in
    let other : (p : Bool) → bit (set x v p) w ≡ bit x w = λ p. get_or-set_other x v w p false back in
    let own : (q : Bool) → bit x v ≡ bit (set x w q) v = λ q. sym (get_or-set_other x w v q false differ) in
    let swap : (p q : Bool) → at p q ≡ f (set (set x w q) v p) = λ p q. ap f (set_comm x v w p q differ) in
    (λ i. plus (plus (at false false) (turned_if (other false i) 4 (at false true)))
    (turned_if (bit x v) 4 (plus (at true false) (turned_if (other true i) 4 (at true true))))) ∙
    ap (plus (plus (at false false) (turned_if (bit x w) 4 (at false true))))
    (turned_if-plus (bit x v) 4 (at true false) (turned_if (bit x w) 4 (at true true)) ∙
    ap (plus (turned_if (bit x v) 4 (at true false))) (turned_if_comm (bit x v) (bit x w) 4 4 (at true true))) ∙
    plus_swap (at false false) (turned_if (bit x w) 4 (at false true)) (turned_if (bit x v) 4 (at true false))
    (turned_if (bit x w) 4 (turned_if (bit x v) 4 (at true true))) ∙
    ap (plus (plus (at false false) (turned_if (bit x v) 4 (at true false))))
    (sym (turned_if-plus (bit x w) 4 (at false true) (turned_if (bit x v) 4 (at true true)))) ∙
    (λ i. plus (plus (swap false false i) (turned_if (own false i) 4 (swap true false i)))
    (turned_if (bit x w) 4 (plus (swap false true i) (turned_if (own true i) 4 (swap true true i)))))

-- commuting gates of any two forms may be exchanged
forms_exchange : (g h : Gate) (a b : Form) → Commutes g h → Fits g a → Fits h b → (f : List Bool → Ring) (x : List Bool) →
    by_form a (by_form b f) x ≡ by_form b (by_form a f) x
forms_exchange g h (turns p j) (turns q k) commutes left right f x = turns_turns p q j k f x
forms_exchange g h (turns p j) (flips w q) commutes left right f x =
    turns_flips p q j w (ignores g h w p commutes left right.0) f x
forms_exchange g h (turns p j) (mixes w) commutes left right f x = turns_mixes p j w (ignores g h w p commutes left right.0) f x
forms_exchange g h (flips v p) (turns q k) commutes left right f x =
    sym (turns_flips q p k v (ignores h g v q (Commutes-symmetric g h commutes) right left.0) f x)
forms_exchange g h (flips v p) (flips w q) commutes left right f x =
    flips_flips p q v w (ignores g h w p commutes left.1 right.0)
    (ignores h g v q (Commutes-symmetric g h commutes) right.1 left.0) f x
forms_exchange g h (flips v p) (mixes w) commutes left right f x =
    flips_mixes p v w (apart g h v w commutes left.0 right.0 right.1) (ignores g h w p commutes left.1 right.0) f x
forms_exchange g h (mixes v) (turns q k) commutes left right f x =
    sym (turns_mixes q k v (ignores h g v q (Commutes-symmetric g h commutes) right left.0) f x)
forms_exchange g h (mixes v) (flips w q) commutes left right f x =
    let back : Commutes h g = Commutes-symmetric g h commutes in
    sym (flips_mixes q w v (apart h g w v back right.0 left.0 left.1) (ignores h g v q back right.1 left.0) f x)
forms_exchange g h (mixes v) (mixes w) commutes left right f x = mixes_mixes v w (apart g h v w commutes left.0 right.0 right.1) f x

-- commuting gates may be exchanged, whatever follows them
pub through_exchange : (n : ℕ) (g h : Gate) → IsOnWires n g → IsOnWires n h → Commutes g h → (f : List Bool → Ring) →
    through g (through h f) ≡ through h (through g f)
through_exchange n g h g_on h_on commutes f i x =
    ((λ j. (gate_facts g).acts j ((gate_facts h).acts j f) x) ∙
    forms_exchange g h (form_of g) (form_of h) commutes ((gate_facts g).fits n g_on) ((gate_facts h).fits n h_on) f x ∙
    (λ j. sym (gate_facts h).acts j (sym (gate_facts g).acts j f) x)) i
