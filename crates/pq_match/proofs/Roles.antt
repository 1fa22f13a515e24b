-- The role that a gate plays on a wire, and what commutes with it there.
use Rattle.std.proofs.Common.{◌≡◌, ℕ, Bool, true, false, cond, ◌&&◌, ◌||◌, ◌==◌, List, map, Some, ◌⊎◌, inl, inr, refl, sym, ap, ◌∙◌, subst, eq-eqb}
use Rattle.std.proofs.lemmas.Bool.{eqb-true, ne_eqb}
use Rattle.pq_gate.specs.declared.gate.Gate.{Gate}
use Rattle.pq_gate.specs.declared.kind.Kind.{Kind}
use Rattle.pq_gate.specs.declared.kind.Kind.TheVariants as kind
use Rattle.pq_gate.specs.declared.ports.Port.{Port}
use Rattle.pq_gate.specs.declared.ports.Ports.{Ports}
use Rattle.pq_gate.specs.declared.ports.Ports.TheVariants.{One, Two}
use Rattle.pq_gate.specs.declared.role.Axis.{Axis}
use Rattle.pq_gate.specs.declared.role.Axis.TheVariants as axis
use Rattle.pq_gate.specs.declared.role.Role.{Role}
use Rattle.pq_gate.specs.Circuit.{AreOn, IsOnWires}
use Rattle.pq_gate.specs.Commuting.{Touches, Along, AlongZ, AlongX, Commutes}
use Rattle.pq_gate.specs.Kind.{kind_of, gate_on}
use Rattle.pq_gate.specs.Ports.{port, listed_ports, first_of, last_of, first_wire, last_wire, IsAmong, Plays}
use Rattle.pq_gate.specs.Role.{is_axis, acts_along}
use Rattle.pq_gate.proofs.GateFacts.{gate_facts}
use Rattle.pq_gate.proofs.KindLaws.{kind_on_wires}
use Rattle.pq_gate.proofs.RoleLaws.{along_plays}
use Rattle.pq_rules.specs.Seen.{first_role_of, last_role_of, first_role, last_role, role_on, uses, agree}
use Rattle.pq_links.specs.Wires.{wire_of}
use Rattle.pq_links.proofs.Touching.{touched, touching}
use Rattle.pq_match.specs.Seek.{IsClear}

cond_same : {A : Type 0} (b : Bool) (x : A) → cond b x x ≡ x
cond_same true x = refl
cond_same false x = refl

-- the role of the port on the wire
role_of_port : (ports : Ports) (w : ℕ) (r : Role) →
    (first_of (map (λ p. p.wire) (listed_ports ports)) ≡ last_of (map (λ p. p.wire) (listed_ports ports)) → first_role_of (listed_ports ports) ≡ last_role_of (listed_ports ports)) →
    IsAmong (port w r) (listed_ports ports) →
    cond (first_of (map (λ p. p.wire) (listed_ports ports)) == w) (first_role_of (listed_ports ports)) (last_role_of (listed_ports ports)) ≡ r
role_of_port (One only) w r clear is = cond_same (only.wire == w) only.role ∙ sym (ap (λ (p : Port). p.role) is)
role_of_port (Two first last) w r clear (inl is) =
    ap (λ (b : Bool). cond b first.role last.role) (eq-eqb first.wire w (sym (ap (λ (p : Port). p.wire) is))) ∙ sym (ap (λ (p : Port). p.role) is)
role_of_port (Two first last) w r clear (inr is) = by (first.wire == w) refl
  where
    by : (b : Bool) → (first.wire == w) ≡ b → cond (first.wire == w) first.role last.role ≡ r
    by true here =
        ap (λ (b : Bool). cond b first.role last.role) here
        ∙ (clear (eqb-true first.wire w here ∙ ap (λ (p : Port). p.wire) is) ∙ sym (ap (λ (p : Port). p.role) is))
    by false other = ap (λ (b : Bool). cond b first.role last.role) other ∙ sym (ap (λ (p : Port). p.role) is)

role_played : (g : Gate) (w : ℕ) (r : Role) → IsClear g → Plays g w r → role_on w g ≡ r
role_played g w r clear plays =
    let facts = gate_facts g in
    subst (λ (ports : List Port).
    (first_of (map (λ p. p.wire) ports) ≡ last_of (map (λ p. p.wire) ports) → first_role_of ports ≡ last_role_of ports) → IsAmong (port w r) ports →
    cond (first_of (map (λ p. p.wire) ports) == w) (first_role_of ports) (last_role_of ports) ≡ r)
    facts.listed (role_of_port facts.ports w r) clear plays

is_along : (along : Axis) → is_axis along (Some along) ≡ true
is_along axis.Z = refl
is_along axis.X = refl

-- what acts along an axis on a wire has a role there that does
pub along_role : (along : Axis) (g : Gate) (w : ℕ) → IsClear g → Along along g w → acts_along along (role_on w g) ≡ true
along_role along g w clear is =
    let found = along_plays along g w is in
    ap (acts_along along) (role_played g w found.0 clear found.1) ∙ (ap (is_axis along) found.2 ∙ is_along along)

and_true : (a b : Bool) → a ≡ true → b ≡ true → (a && b) ≡ true
and_true a b p q = ap (λ (x : Bool). x && b) p ∙ q

pub both_true : {a b : Bool} → a ≡ true → b ≡ true → (a && b) ≡ true
both_true {a} {b} p q = and_true a b p q

pub or_first : {a : Bool} (b : Bool) → a ≡ true → (a || b) ≡ true
or_first {a} b p = ap (λ (x : Bool). x || b) p

pub or_second : (a : Bool) {b : Bool} → b ≡ true → (a || b) ≡ true
or_second true p = refl
or_second false p = p

-- gates that commute have roles that agree on each wire that they share
pub commuting_agree : (g h : Gate) (w : ℕ) → IsClear g → IsClear h → Commutes g h → Touches g w → Touches h w → agree (role_on w g) (role_on w h) ≡ true
commuting_agree g h w clear_g clear_h commute uses_g uses_h = by (commute w uses_g uses_h)
  where
    by : (AlongZ g w × AlongZ h w) ⊎ (AlongX g w × AlongX h w) → agree (role_on w g) (role_on w h) ≡ true
    by (inl both) = or_first (acts_along axis.X (role_on w g) && acts_along axis.X (role_on w h)) (both_true (along_role axis.Z g w clear_g both.0) (along_role axis.Z h w clear_h both.1))
    by (inr both) = or_second (acts_along axis.Z (role_on w g) && acts_along axis.Z (role_on w h)) (both_true (along_role axis.X g w clear_g both.0) (along_role axis.X h w clear_h both.1))

clear_ports : (n : ℕ) (ports : Ports) → AreOn n (map (λ p. p.wire) (listed_ports ports)) →
    first_of (map (λ p. p.wire) (listed_ports ports)) ≡ last_of (map (λ p. p.wire) (listed_ports ports)) → first_role_of (listed_ports ports) ≡ last_role_of (listed_ports ports)
clear_ports n (One only) on same = refl
clear_ports n (Two first last) on same = absurd (on.2 same)

-- gates of a circuit are clear
pub circuit_clear : (n : ℕ) (g : Gate) → IsOnWires n g → IsClear g
circuit_clear n g on =
    let facts = gate_facts g in
    subst (λ (ports : List Port). AreOn n (map (λ p. p.wire) ports) →
    first_of (map (λ p. p.wire) ports) ≡ last_of (map (λ p. p.wire) ports) → first_role_of ports ≡ last_role_of ports)
    facts.listed (clear_ports n facts.ports) on

-- the gates of a kind have the same roles
roles_of_kind : (k : Kind) (a b c d : ℕ) → (first_role (gate_on k a b) ≡ first_role (gate_on k c d)) × (last_role (gate_on k a b) ≡ last_role (gate_on k c d))
roles_of_kind kind.H a b c d = (refl, refl)
roles_of_kind kind.X a b c d = (refl, refl)
roles_of_kind kind.Cx a b c d = (refl, refl)
roles_of_kind (kind.Phase eighths) a b c d = (refl, refl)

pub same_first_role : (g h : Gate) → kind_of g ≡ kind_of h → first_role g ≡ first_role h
same_first_role g h same =
    sym (ap first_role (kind_on_wires g))
    ∙ ((roles_of_kind (kind_of g) (first_wire g) (last_wire g) (first_wire h) (last_wire h)).0
    ∙ (ap (λ (k : Kind). first_role (gate_on k (first_wire h) (last_wire h))) same ∙ ap first_role (kind_on_wires h)))

pub same_last_role : (g h : Gate) → kind_of g ≡ kind_of h → last_role g ≡ last_role h
same_last_role g h same =
    sym (ap last_role (kind_on_wires g))
    ∙ ((roles_of_kind (kind_of g) (first_wire g) (last_wire g) (first_wire h) (last_wire h)).1
    ∙ (ap (λ (k : Kind). last_role (gate_on k (first_wire h) (last_wire h))) same ∙ ap last_role (kind_on_wires h)))

-- on its last wire a clear gate plays its last role
pub role_on_last : (g : Gate) → IsClear g → role_on (last_wire g) g ≡ last_role g
role_on_last g clear = by (first_wire g == last_wire g) refl
  where
    by : (b : Bool) → (first_wire g == last_wire g) ≡ b → cond (first_wire g == last_wire g) (first_role g) (last_role g) ≡ last_role g
    by true is = ap (λ (x : Bool). cond x (first_role g) (last_role g)) is ∙ clear (eqb-true (first_wire g) (last_wire g) is)
    by false is = ap (λ (x : Bool). cond x (first_role g) (last_role g)) is

-- whether a gate uses a wire
pub used_touches : (w : ℕ) (g : Gate) → uses w g ≡ true → Touches g w
used_touches w g is = by (first_wire g == w) (last_wire g == w) refl refl is
  where
    by : (a b : Bool) → (first_wire g == w) ≡ a → (last_wire g == w) ≡ b → ((first_wire g == w) || (last_wire g == w)) ≡ true → Touches g w
    by true b first last is = subst (Touches g) (eqb-true (first_wire g) w first) (touching g false)
    by false true first last is = subst (Touches g) (eqb-true (last_wire g) w last) (touching g true)
    by false false first last is = absurd (let e : false ≡ true = sym (ap (λ (x : Bool). x || (last_wire g == w)) first ∙ last) ∙ is in cc)

pub touched_used : (w : ℕ) (g : Gate) → Touches g w → uses w g ≡ true
touched_used w g touches = by (touched g w touches)
  where
    by : (one : Bool) × (w ≡ wire_of one g) → ((first_wire g == w) || (last_wire g == w)) ≡ true
    by (false, is) = or_first (last_wire g == w) (eq-eqb (first_wire g) w (sym is))
    by (true, is) = or_second (first_wire g == w) (eq-eqb (last_wire g) w (sym is))

-- equations that hold together are tested alike
pub tests_alike : (a b c d : ℕ) → (a ≡ b → c ≡ d) → (c ≡ d → a ≡ b) → (b == a) ≡ (d == c)
tests_alike a b c d on back = by (b == a) refl
  where
    by : (x : Bool) → (b == a) ≡ x → (b == a) ≡ (d == c)
    by true is = is ∙ sym (eq-eqb d c (sym (on (sym (eqb-true b a is)))))
    by false is = is ∙ sym (ne_eqb d c (λ same. (let yes : (b == a) ≡ true = eq-eqb b a (sym (back (sym same))) in let clash : true ≡ false = sym yes ∙ is in cc)))
