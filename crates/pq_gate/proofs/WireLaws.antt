-- The wires and the ports of a gate.
use Rattle.std.proofs.Common.{◌≡◌, ℕ, ◌<◌, ◌≤◌, Bool, true, false, List, map, length, ◌⊎◌, inl, inr, ⊎_elim, refl, sym, subst, ◌∙◌, arith}
use Rattle.std.specs.Prelude.{◌↔◌, IsTrue}
use Rattle.pq_gate.specs.declared.gate.Gate.{Gate}
use Rattle.pq_gate.specs.declared.ports.Port.{Port}
use Rattle.pq_gate.specs.declared.ports.Ports.{Ports}
use Rattle.pq_gate.specs.declared.ports.Ports.TheVariants.{One, Two}
use Rattle.pq_gate.specs.Circuit.{AreOn, IsOnWires}
use Rattle.pq_gate.specs.Commuting.{Touches, Agree, Commutes}
use Rattle.pq_gate.specs.Ports.{wires_of, listed_ports, first_of, last_of, first_wire, last_wire, IsAmong}
use Rattle.pq_gate.proofs.GateFacts.{gate_facts}

-- a gate uses the wires that it lists
pub uses_listed : (g : Gate) (w : ℕ) → IsAmong w (wires_of g) → Touches g w
uses_listed g = (gate_facts g).uses

pub lists_used : (g : Gate) (w : ℕ) → Touches g w → IsAmong w (wires_of g)
lists_used g = (gate_facts g).lists

abbrev wires_at : List Port → List ℕ
wires_at ports = map (λ p. p.wire) ports

first_or_last : (ports : Ports) (w : ℕ) → IsAmong w (wires_at (listed_ports ports)) →
    (w ≡ first_of (wires_at (listed_ports ports))) ⊎ (w ≡ last_of (wires_at (listed_ports ports)))
first_or_last (One only) w is = inl is
first_or_last (Two first last) w is = is

has_first : (ports : Ports) → IsAmong (first_of (wires_at (listed_ports ports))) (wires_at (listed_ports ports))
has_first (One only) = refl
has_first (Two first last) = inl refl

has_last : (ports : Ports) → IsAmong (last_of (wires_at (listed_ports ports))) (wires_at (listed_ports ports))
has_last (One only) = refl
has_last (Two first last) = inr refl

all_below : (n : ℕ) (ports : Ports) → AreOn n (wires_at (listed_ports ports)) → (w : ℕ) → IsAmong w (wires_at (listed_ports ports)) → w < n
all_below n (One only) on w is = subst (λ (v : ℕ). v < n) (sym is) on
all_below n (Two first last) on w (inl is) = subst (λ (v : ℕ). v < n) (sym is) on.0
all_below n (Two first last) on w (inr is) = subst (λ (v : ℕ). v < n) (sym is) on.1

one_or_two : (ports : Ports) → length (wires_at (listed_ports ports)) ≤ 2
one_or_two (One only) = omega arith
one_or_two (Two first last) = omega arith

-- a gate has at most two wires
pub few_wires : (g : Gate) → length (wires_of g) ≤ 2
few_wires g =
    let facts = gate_facts g in
    subst (λ (ports : List Port). length (wires_at ports) ≤ 2) facts.listed (one_or_two facts.ports)

-- the wires of a circuit's gate are the circuit's
pub wire_below : (n : ℕ) (g : Gate) → IsOnWires n g → (w : ℕ) → Touches g w → w < n
wire_below n g on w uses =
    let facts = gate_facts g in
    subst (λ (ports : List Port). AreOn n (wires_at ports) → IsAmong w (wires_at ports) → w < n) facts.listed
    (λ all is. all_below n facts.ports all w is) on (facts.lists w uses)

-- each wire of a gate is its first or its last
pub touched : (g : Gate) (w : ℕ) → Touches g w → (w ≡ first_wire g) ⊎ (w ≡ last_wire g)
touched g w uses =
    let facts = gate_facts g in
    subst (λ (ports : List Port). IsAmong w (wires_at ports) → (w ≡ first_of (wires_at ports)) ⊎ (w ≡ last_of (wires_at ports)))
    facts.listed (first_or_last facts.ports w) (facts.lists w uses)

pub touches_first : (g : Gate) → Touches g (first_wire g)
touches_first g =
    let facts = gate_facts g in
    facts.uses (first_wire g) (subst (λ (ports : List Port). IsAmong (first_of (wires_at ports)) (wires_at ports)) facts.listed (has_first facts.ports))

pub touches_last : (g : Gate) → Touches g (last_wire g)
touches_last g =
    let facts = gate_facts g in
    facts.uses (last_wire g) (subst (λ (ports : List Port). IsAmong (last_of (wires_at ports)) (wires_at ports)) facts.listed (has_last facts.ports))

pub touching : (g : Gate) (w : ℕ) → (w ≡ first_wire g) ⊎ (w ≡ last_wire g) → Touches g w
touching g w is =
    ⊎_elim
    (λ (e : w ≡ first_wire g). subst (Touches g) (sym e) (touches_first g))
    (λ (e : w ≡ last_wire g). subst (Touches g) (sym e) (touches_last g)) is

-- gates that act along one axis on the first and on the last wire of one of them commute
pub agree_on_both : (g h : Gate) {v u : ℕ} → v ≡ first_wire g → u ≡ last_wire g → Agree g h v → Agree g h u → Commutes g h
agree_on_both g h v_is u_is at_v at_u w touches =
    ⊎_elim
    (λ (e : w ≡ first_wire g). subst (Agree g h) (v_is ∙ sym e) at_v touches)
    (λ (e : w ≡ last_wire g). subst (Agree g h) (u_is ∙ sym e) at_u touches)
    (touched g w touches)

-- Tests of whether gates act along one axis, on the first and on the last wire of one of them, tell whether they commute.
pub commutes_by_both : (g h : Gate) (first last : Bool) {v u : ℕ} → v ≡ first_wire g → u ≡ last_wire g → (IsTrue first ↔ Agree g h v) →
    (IsTrue last ↔ Agree g h u) → first ≡ true → (IsTrue last ↔ Commutes g h)
commutes_by_both g h first last v_is u_is at_first at_last is =
    (λ also. agree_on_both g h v_is u_is (at_first.0 is) (at_last.0 also), λ commutes. at_last.1 (commutes _))

pub commutes_by_first : (g h : Gate) (first : Bool) {v : ℕ} → v ≡ first_wire g → (IsTrue first ↔ Agree g h v) → first ≡ false →
    (IsTrue first ↔ Commutes g h)
commutes_by_first g h first v_is at_first not = (λ is. (let no : false ≡ true = sym not ∙ is in cc), λ commutes. at_first.1 (commutes _))
