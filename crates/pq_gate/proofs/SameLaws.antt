use Rattle.std.proofs.Common.{◌≡◌, ℕ, ◌+◌, ◌-◌, ◌%◌, Bool, List, ◌++◌, length, refl, ap, sym, ◌∙◌}
use Rattle.pq_gate.specs.declared.gate.Gate.{Gate}
use Rattle.pq_gate.specs.declared.ring.Ring.{Ring}
use Rattle.pq_gate.specs.Circuit.{IsCircuit}
use Rattle.pq_gate.specs.Ring.{turned, rooted}
use Rattle.pq_gate.specs.Matrix.{Entry, h_count, Same}
use Rattle.pq_gate.proofs.RingLaws.{turned-add, turned-mod, turned_back, rooted-add, rooted-turned, rooted_comm, rooted_cancel}
use Rattle.pq_gate.proofs.ActLaws.{IsLinear-turned, IsLinear-rooted, Act, Act-append, Act-linear, Act_reads, Entry-point, point, h_count-append}
use Rattle.pq_gate.proofs.FormLaws.{IsForm-Act, IsForm-linear, forms_agree}
use Rattle.pq_gate.proofs.CircuitLaws.{IsCircuit-append}

-- two circuits of one matrix, up to a phase, make the same of all weights
pub Same-acts : {n k : ℕ} {c d : List Gate} → Same n c d k → (f : List Bool → Ring) (x : List Bool) → length x ≡ n →
    rooted (h_count d) (Act c f x) ≡ turned k (rooted (h_count c) (Act d f x))
Same-acts {n} {k} {c} {d} same f x is =
    forms_agree n
    (λ h. rooted (h_count d) (Act c h x))
    (λ h. turned k (rooted (h_count c) (Act d h x)))
    (IsForm-linear (IsLinear-rooted (h_count d)) (IsForm-Act n c x is))
    (IsForm-linear (IsLinear-turned k) (IsForm-linear (IsLinear-rooted (h_count c)) (IsForm-Act n d x is)))
    (λ y y_is.
    (λ i. rooted (h_count d) (sym (Entry-point c y) i x)) ∙
    same.entries x y is y_is ∙
    (λ i. turned k (rooted (h_count c) (Entry-point d y i x))))
    f

-- and back
pub Same-from_acts : {n k : ℕ} {c d : List Gate} → IsCircuit n c → IsCircuit n d →
    ((f : List Bool → Ring) (x : List Bool) → length x ≡ n → rooted (h_count d) (Act c f x) ≡ turned k (rooted (h_count c) (Act d f x))) →
    Same n c d k
Same-from_acts {n} {k} {c} {d} left right acts = record {
  left = left;
  right = right;
  entries = λ x y x_is y_is.
      (λ i. rooted (h_count d) (Entry-point c y i x)) ∙
      acts (point y) x x_is ∙
      (λ i. turned k (rooted (h_count c) (sym (Entry-point d y) i x)));
}

pub same_reflexive : (n : ℕ) (c : List Gate) → IsCircuit n c → Same n c c 0
same_reflexive n c is = record { left = is; right = is; entries = λ x y x_is y_is. refl }

pub same_symmetric : (n k : ℕ) (c d : List Gate) → Same n c d k → Same n d c ((8 - k % 8) % 8)
same_symmetric n k c d same = record {
  left = same.right;
  right = same.left;
  entries = λ x y x_is y_is.
      sym (ap (turned ((8 - k % 8) % 8)) (same.entries x y x_is y_is) ∙ turned_back k (rooted (h_count c) (Entry d x y)));
}

pub same_transitive : (n j k : ℕ) (c d e : List Gate) → Same n c d j → Same n d e k → Same n c e ((j + k) % 8)
same_transitive n j k c d e first second = record {
  left = first.left;
  right = second.right;
  entries = λ x y x_is y_is.
      rooted_cancel (h_count d) _ _
      (rooted_comm (h_count d) (h_count e) (Entry c x y) ∙
      ap (rooted (h_count e)) (first.entries x y x_is y_is) ∙
      rooted-turned (h_count e) j (rooted (h_count c) (Entry d x y)) ∙
      ap (turned j) (rooted_comm (h_count e) (h_count c) (Entry d x y) ∙
      ap (rooted (h_count c)) (second.entries x y x_is y_is) ∙
      rooted-turned (h_count c) k (rooted (h_count d) (Entry e x y)) ∙
      ap (turned k) (rooted_comm (h_count c) (h_count d) (Entry e x y))) ∙
      sym (turned-add j k (rooted (h_count d) (rooted (h_count c) (Entry e x y)))) ∙
      sym (turned-mod (j + k) (rooted (h_count d) (rooted (h_count c) (Entry e x y)))) ∙
      sym (rooted-turned (h_count d) ((j + k) % 8) (rooted (h_count c) (Entry e x y))));
}

-- a phase may be named modulo 8
pub same_modulo : (n k : ℕ) (c d : List Gate) → Same n c d k → Same n c d (k % 8)
same_modulo n k c d same = record {
  left = same.left;
  right = same.right;
  entries = λ x y x_is y_is. same.entries x y x_is y_is ∙ sym (turned-mod k (rooted (h_count c) (Entry d x y)));
}

-- gates behind change nothing
pub same_in_front : (n k : ℕ) (b c d : List Gate) → IsCircuit n b → Same n c d k → Same n (c ++ b) (d ++ b) k
same_in_front n k b c d behind same =
    Same-from_acts (IsCircuit-append n c b same.left behind) (IsCircuit-append n d b same.right behind)
    (λ f x is.
    (λ i. rooted (h_count-append d b i) (Act-append c b f i x)) ∙
    rooted-add (h_count d) (h_count b) (Act c (Act b f) x) ∙
    rooted_comm (h_count d) (h_count b) (Act c (Act b f) x) ∙
    ap (rooted (h_count b)) (Same-acts same (Act b f) x is) ∙
    rooted-turned (h_count b) k (rooted (h_count c) (Act d (Act b f) x)) ∙
    ap (turned k) (rooted_comm (h_count b) (h_count c) (Act d (Act b f) x) ∙
    sym (rooted-add (h_count c) (h_count b) (Act d (Act b f) x)) ∙
    (λ i. rooted (sym (h_count-append c b) i) (sym (Act-append d b f) i x))))

-- gates in front change nothing
pub same_behind : (n k : ℕ) (a c d : List Gate) → IsCircuit n a → Same n c d k → Same n (a ++ c) (a ++ d) k
same_behind n k a c d before same =
    Same-from_acts (IsCircuit-append n a c before same.left) (IsCircuit-append n a d before same.right)
    (λ f x is.
    (λ i. rooted (h_count-append a d i) (Act-append a c f i x)) ∙
    rooted-add (h_count a) (h_count d) (Act a (Act c f) x) ∙
    ap (rooted (h_count a)) (sym (Act-linear (IsLinear-rooted (h_count d)) a (Act c f) x) ∙
    Act_reads n a (λ z. rooted (h_count d) (Act c f z)) (λ z. turned k (rooted (h_count c) (Act d f z))) (Same-acts same f) x is ∙
    Act-linear (IsLinear-turned k) a (λ z. rooted (h_count c) (Act d f z)) x ∙
    ap (turned k) (Act-linear (IsLinear-rooted (h_count c)) a (Act d f) x)) ∙
    rooted-turned (h_count a) k (rooted (h_count c) (Act a (Act d f) x)) ∙
    ap (turned k) (sym (rooted-add (h_count a) (h_count c) (Act a (Act d f) x)) ∙
    (λ i. rooted (sym (h_count-append a c) i) (sym (Act-append a d f) i x))))

pub same_congruent : (n k : ℕ) (a b c d : List Gate) → IsCircuit n a → IsCircuit n b → Same n c d k →
    Same n (a ++ (c ++ b)) (a ++ (d ++ b)) k
same_congruent n k a b c d before behind same =
    same_behind n k a (c ++ b) (d ++ b) before (same_in_front n k b c d behind same)
