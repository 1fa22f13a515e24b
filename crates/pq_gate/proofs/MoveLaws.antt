use Rattle.std.proofs.Common.{◌≡◌, ℕ, Bool, List, [], ◌∷◌, ◌++◌, refl, ap, sym, subst, ◌∙◌, arith, append_assoc}
use Rattle.std.specs.List.{AllByRecursion}
use Rattle.pq_gate.specs.declared.gate.Gate.{Gate}
use Rattle.pq_gate.specs.declared.ring.Ring.{Ring}
use Rattle.pq_gate.specs.Circuit.{IsOnWires, IsCircuit}
use Rattle.pq_gate.specs.Commuting.{Commutes}
use Rattle.pq_gate.specs.Matrix.{through, Entry, h_count, Same}
use Rattle.pq_gate.specs.Ring.{rooted}
use Rattle.pq_gate.proofs.ActLaws.{Act, Act-append, h_count-append}
use Rattle.pq_gate.proofs.CircuitLaws.{IsCircuit-append}
use Rattle.pq_gate.proofs.ExchangeLaws.{through_exchange}
use Rattle.pq_gate.proofs.SameLaws.{Same-from_acts, same_congruent}

-- two commuting gates at the start of a circuit may be exchanged: no entry changes
pub entry_exchange : (n : ℕ) (g h : Gate) (c : List Gate) → IsCircuit n (g ∷ h ∷ c) → Commutes g h →
    (x y : List Bool) → Entry (g ∷ h ∷ c) x y ≡ Entry (h ∷ g ∷ c) x y
entry_exchange n g h c is commutes x y =
    λ i. through_exchange n g h is.0 is.1.0 commutes (λ z. Entry c z y) i x

-- a gate moves past gates that it commutes with
pub Act_moves_past : (n : ℕ) (g : Gate) (c : List Gate) → IsOnWires n g → IsCircuit n c → AllByRecursion (Commutes g) c →
    (f : List Bool → Ring) → through g (Act c f) ≡ Act c (through g f)
Act_moves_past n g [] g_on c_on all f = refl
Act_moves_past n g (h ∷ c) g_on c_on all f =
    through_exchange n g h g_on c_on.0 all.0 (Act c f) ∙ ap (through h) (Act_moves_past n g c g_on c_on.1 all.1 f)

pub entry_moves_past : (n : ℕ) (g : Gate) (c b : List Gate) → IsCircuit n (g ∷ c) → AllByRecursion (Commutes g) c →
    (x y : List Bool) → Entry (g ∷ (c ++ b)) x y ≡ Entry (c ++ (g ∷ b)) x y
entry_moves_past n g [] b is all x y = refl
entry_moves_past n g (h ∷ c) b is all x y =
    (λ i. through_exchange n g h is.0 is.1.0 all.0 (λ z. Entry (c ++ b) z y) i x) ∙
    ap (λ (f : List Bool → Ring). through h f x) (λ i z. entry_moves_past n g c b (is.0, is.1.1) all.1 z y i)

-- as many H gates stand on both sides
h_count_moved : (g : Gate) (c : List Gate) → h_count (c ++ (g ∷ [])) ≡ h_count (g ∷ c)
h_count_moved g c = h_count-append c (g ∷ []) ∙ omega arith

-- so the circuits are the same
pub same_moved_past : (n : ℕ) (g : Gate) (c : List Gate) → IsCircuit n (g ∷ c) → AllByRecursion (Commutes g) c →
    Same n (g ∷ c) (c ++ (g ∷ [])) 0
same_moved_past n g c is all =
    Same-from_acts is (IsCircuit-append n c (g ∷ []) is.1 (is.0, tt))
    (λ f x _.
    (λ i. rooted (h_count_moved g c i) (Act_moves_past n g c is.0 is.1 all f i x)) ∙
    ap (rooted (h_count (g ∷ c))) (λ i. sym (Act-append c (g ∷ []) f) i x))

-- also inside a longer circuit
pub same_moved_inside : (n : ℕ) (a : List Gate) (g : Gate) (c b : List Gate) →
    IsCircuit n a → IsCircuit n (g ∷ c) → IsCircuit n b → AllByRecursion (Commutes g) c →
    Same n (a ++ (g ∷ (c ++ b))) (a ++ (c ++ (g ∷ b))) 0
same_moved_inside n a g c b before is behind all =
    let moved : Same n (a ++ ((g ∷ c) ++ b)) (a ++ ((c ++ (g ∷ [])) ++ b)) 0 =
    same_congruent n 0 a b (g ∷ c) (c ++ (g ∷ [])) before behind (same_moved_past n g c is all) in
    subst (λ (d : List Gate). Same n (a ++ (g ∷ (c ++ b))) (a ++ d) 0) (append_assoc c (g ∷ []) b) moved
