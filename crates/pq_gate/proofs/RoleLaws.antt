-- Two gates of a circuit commute exactly where their roles have one axis on each wire that they share.
use Rattle.std.proofs.Common.{◌≡◌, ℕ, Bool, true, false, cond, List, [], ◌∷◌, map, ◌⊎◌, inl, inr, ⊎_elim, refl, sym, ap, subst, ◌∙◌}
use Rattle.std.specs.Prelude.{Option, Some, None, filter}
use Rattle.pq_gate.specs.declared.gate.Gate.{Gate}
use Rattle.pq_gate.specs.declared.ports.Port.{Port}
use Rattle.pq_gate.specs.declared.ports.Ports.{Ports}
use Rattle.pq_gate.specs.declared.ports.Ports.TheVariants.{One, Two}
use Rattle.pq_gate.specs.declared.role.Axis.{Axis}
use Rattle.pq_gate.specs.declared.role.Axis.TheVariants as axis
use Rattle.pq_gate.specs.declared.role.Role.{Role}
use Rattle.pq_gate.specs.Circuit.{AreOn, IsOnWires}
use Rattle.pq_gate.specs.Commuting.{Touches, Along, AlongZ, AlongX, Commutes, wires_along}
use Rattle.pq_gate.specs.Ports.{port, ports_of, listed_ports, IsAmong, Plays}
use Rattle.pq_gate.proofs.GateFacts.{gate_facts}
use Rattle.pq_gate.proofs.WireLaws.{uses_listed, lists_used}
use Rattle.pq_gate.specs.Role.{axis_of, is_axis, acts_along, HaveOneAxis}

-- one of the first and the others
among_split : {A : Type 0} (x y : A) (rest : List A) → IsAmong x (y ∷ rest) → (x ≡ y) ⊎ IsAmong x rest
among_split x y [] is = inl is
among_split x y (z ∷ rest) is = is

among_first : {A : Type 0} (x y : A) (rest : List A) → x ≡ y → IsAmong x (y ∷ rest)
among_first x y [] is = is
among_first x y (z ∷ rest) is = inl is

among_rest : {A : Type 0} (x y : A) (rest : List A) → IsAmong x rest → IsAmong x (y ∷ rest)
among_rest x y [] is = absurd is
among_rest x y (z ∷ rest) is = inr is

-- a port on the wire
touched_port : (ports : List Port) (w : ℕ) → IsAmong w (map (λ p. p.wire) ports) → (role : Role) × IsAmong (port w role) ports
touched_port [] w is = absurd is
touched_port (p ∷ rest) w is =
    ⊎_elim
    (λ (e : w ≡ p.wire). (p.role, among_first (port w p.role) p rest (λ i. port (e i) p.role)))
    (λ (later : IsAmong w (map (λ p. p.wire) rest)). (let found = touched_port rest w later in (found.0, among_rest (port w found.0) p rest found.1)))
    (among_split w p.wire (map (λ p. p.wire) rest) is)

port_touches : (ports : List Port) (w : ℕ) (role : Role) → IsAmong (port w role) ports → IsAmong w (map (λ p. p.wire) ports)
port_touches [] w role is = absurd is
port_touches (p ∷ rest) w role is =
    ⊎_elim
    (λ (e : port w role ≡ p). among_first w p.wire (map (λ p. p.wire) rest) (λ i. (e i).wire))
    (λ (later : IsAmong (port w role) rest). among_rest w p.wire (map (λ p. p.wire) rest) (port_touches rest w role later))
    (among_split (port w role) p rest is)

-- the gate uses the wire where it plays a role there
pub plays_touches : (g : Gate) (w : ℕ) (role : Role) → Plays g w role → Touches g w
plays_touches g w role is = uses_listed g w (port_touches (ports_of g) w role is)

pub plays_touches_of : (g : Gate) (w : ℕ) → (role : Role) × Plays g w role → Touches g w
plays_touches_of g w is = plays_touches g w is.0 is.1

pub touches_plays : (g : Gate) (w : ℕ) → Touches g w → (role : Role) × Plays g w role
touches_plays g w is = touched_port (ports_of g) w (lists_used g w is)

-- the wires of a port and of the others
abbrev wires_by : Bool → ℕ → List ℕ → List ℕ
wires_by acts wire others = cond acts (wire ∷ others) others

along_split : (along : Axis) (p : Port) (rest : List Port) → wires_along along (p ∷ rest) ≡ wires_by (acts_along along p.role) p.wire (wires_along along rest)
along_split along p rest = by (acts_along along p.role)
  where
    by : (b : Bool) → map (λ (q : Port). q.wire) (cond b (p ∷ filter (λ q. acts_along along q.role) rest) (filter (λ q. acts_along along q.role) rest))
        ≡ wires_by b p.wire (wires_along along rest)
    by true = refl
    by false = refl

-- a wire of the port, if it acts, or of the others
by_split : (acts : Bool) (w wire : ℕ) (others : List ℕ) → IsAmong w (wires_by acts wire others) → ((acts ≡ true) × (w ≡ wire)) ⊎ IsAmong w others
by_split true w wire others is = ⊎_elim (λ (e : w ≡ wire). inl (refl, e)) (λ (later : IsAmong w others). inr later) (among_split w wire others is)
by_split false w wire others is = inr is

by_first : (acts : Bool) (w wire : ℕ) (others : List ℕ) → acts ≡ true → w ≡ wire → IsAmong w (wires_by acts wire others)
by_first true w wire others acts is = among_first w wire others is
by_first false w wire others acts is = cc

by_rest : (acts : Bool) (w wire : ℕ) (others : List ℕ) → IsAmong w others → IsAmong w (wires_by acts wire others)
by_rest true w wire others is = among_rest w wire others is
by_rest false w wire others is = is

-- a port on the wire whose role acts along the axis
abbrev HasAlong : Axis → List Port → ℕ → Type 0
HasAlong along ports w = (role : Role) × IsAmong (port w role) ports × (acts_along along role ≡ true)

along_port : (along : Axis) (ports : List Port) (w : ℕ) → IsAmong w (wires_along along ports) → HasAlong along ports w
along_port along [] w is = absurd is
along_port along (p ∷ rest) w is =
    ⊎_elim
    (λ (own : (acts_along along p.role ≡ true) × (w ≡ p.wire)). (p.role, among_first (port w p.role) p rest (λ i. port (own.1 i) p.role), own.0))
    (λ (later : IsAmong w (wires_along along rest)). (let found = along_port along rest w later in
    (found.0, among_rest (port w found.0) p rest found.1, found.2)))
    (by_split (acts_along along p.role) w p.wire (wires_along along rest) (subst (IsAmong w) (along_split along p rest) is))

port_along : (along : Axis) (ports : List Port) (w : ℕ) (role : Role) → IsAmong (port w role) ports → acts_along along role ≡ true →
    IsAmong w (wires_along along ports)
port_along along [] w role is acts = absurd is
port_along along (p ∷ rest) w role is acts =
    subst (IsAmong w) (sym (along_split along p rest))
    (⊎_elim
    (λ (e : port w role ≡ p). by_first (acts_along along p.role) w p.wire (wires_along along rest)
    (sym (ap (λ (q : Port). acts_along along q.role) e) ∙ acts) (ap (λ (q : Port). q.wire) e))
    (λ (later : IsAmong (port w role) rest). by_rest (acts_along along p.role) w p.wire (wires_along along rest) (port_along along rest w role later acts))
    (among_split (port w role) p rest is))

axis_named : (along : Axis) (has : Option Axis) → is_axis along has ≡ true → has ≡ Some along
axis_named axis.Z (Some axis.Z) is = refl
axis_named axis.X (Some axis.X) is = refl
axis_named axis.Z (Some axis.X) is = cc
axis_named axis.X (Some axis.Z) is = cc
axis_named axis.Z None is = cc
axis_named axis.X None is = cc

axis_is : (along : Axis) → is_axis along (Some along) ≡ true
axis_is axis.Z = refl
axis_is axis.X = refl

-- the gate acts along an axis on a wire exactly where it plays a role there that does
pub along_plays : (along : Axis) (g : Gate) (w : ℕ) → Along along g w → (role : Role) × Plays g w role × (axis_of role ≡ Some along)
along_plays along g w is =
    let found = along_port along (ports_of g) w is in (found.0, found.1, axis_named along (axis_of found.0) found.2)

pub plays_along : (along : Axis) (g : Gate) (w : ℕ) (role : Role) → Plays g w role → axis_of role ≡ Some along → Along along g w
plays_along along g w role is has =
    port_along along (ports_of g) w role is (ap (is_axis along) has ∙ axis_is along)

pub plays_along_of : (along : Axis) (g : Gate) (w : ℕ) → (role : Role) × Plays g w role × (axis_of role ≡ Some along) → Along along g w
plays_along_of along g w is = plays_along along g w is.0 is.1 is.2

one_of_ports : (n : ℕ) (ports : Ports) → AreOn n (map (λ p. p.wire) (listed_ports ports)) → (w : ℕ) (r s : Role) →
    IsAmong (port w r) (listed_ports ports) → IsAmong (port w s) (listed_ports ports) → r ≡ s
one_of_ports n (One only) on w r s left right = ap (λ (p : Port). p.role) (left ∙ sym right)
one_of_ports n (Two first last) on w r s (inl left) (inl right) = ap (λ (p : Port). p.role) (left ∙ sym right)
one_of_ports n (Two first last) on w r s (inr left) (inr right) = ap (λ (p : Port). p.role) (left ∙ sym right)
one_of_ports n (Two first last) on w r s (inl left) (inr right) =
    absurd (on.2 (sym (ap (λ (p : Port). p.wire) left) ∙ ap (λ (p : Port). p.wire) right))
one_of_ports n (Two first last) on w r s (inr left) (inl right) =
    absurd (on.2 (sym (ap (λ (p : Port). p.wire) right) ∙ ap (λ (p : Port). p.wire) left))

-- on two different wires a gate has one role each
pub one_role : (n : ℕ) (g : Gate) → IsOnWires n g → (w : ℕ) (r s : Role) → Plays g w r → Plays g w s → r ≡ s
one_role n g on w r s left right =
    let facts = gate_facts g in
    subst (λ (ports : List Port). AreOn n (map (λ p. p.wire) ports) → IsAmong (port w r) ports → IsAmong (port w s) ports → r ≡ s)
    facts.listed (λ all one other. one_of_ports n facts.ports all w r s one other) on left right

-- on each wire that the gates share their roles have one axis
abbrev pub RolesAgree : Gate → Gate → Type 0
RolesAgree g h = (w : ℕ) (r s : Role) → Plays g w r → Plays h w s → HaveOneAxis r s

both_along : (along : Axis) (n : ℕ) (g h : Gate) → IsOnWires n g → IsOnWires n h → (w : ℕ) (r s : Role) → Plays g w r → Plays h w s →
    Along along g w → Along along h w → HaveOneAxis r s
both_along along n g h g_on h_on w r s left right g_along h_along =
    let one = along_plays along g w g_along in
    let other = along_plays along h w h_along in
    record {
      axis = along;
      first = ap axis_of (one_role n g g_on w r one.0 left one.1) ∙ one.2;
      second = ap axis_of (one_role n h h_on w s other.0 right other.1) ∙ other.2;
    }

pub commutes_roles : (n : ℕ) (g h : Gate) → IsOnWires n g → IsOnWires n h → Commutes g h → RolesAgree g h
commutes_roles n g h g_on h_on commutes w r s left right =
    ⊎_elim
    (λ (both : AlongZ g w × AlongZ h w). both_along axis.Z n g h g_on h_on w r s left right both.0 both.1)
    (λ (both : AlongX g w × AlongX h w). both_along axis.X n g h g_on h_on w r s left right both.0 both.1)
    (commutes w (plays_touches g w r left) (plays_touches h w s right))

pub roles_commute : (g h : Gate) → RolesAgree g h → Commutes g h
roles_commute g h agree w left right =
    let one = touches_plays g w left in
    let other = touches_plays h w right in
    by one.0 other.0 one.1 other.1 (agree w one.0 other.0 one.1 other.1)
  where
    by : (r s : Role) → Plays g w r → Plays h w s → HaveOneAxis r s → (AlongZ g w × AlongZ h w) ⊎ (AlongX g w × AlongX h w)
    by r s g_plays h_plays has = along has.axis has.first has.second
      where
        along : (a : Axis) → axis_of r ≡ Some a → axis_of s ≡ Some a → (AlongZ g w × AlongZ h w) ⊎ (AlongX g w × AlongX h w)
        along axis.Z r_is s_is = inl (plays_along axis.Z g w r g_plays r_is, plays_along axis.Z h w s h_plays s_is)
        along axis.X r_is s_is = inr (plays_along axis.X g w r g_plays r_is, plays_along axis.X h w s h_plays s_is)
