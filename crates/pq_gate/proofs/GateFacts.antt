-- What holds of each gate by its own case: all other laws go by these.
use Rattle.std.proofs.Common.{◌≡◌, ℕ, [], ◌∷◌, map, inl, inr, refl, sym, ◌∙◌}
use Rattle.pq_gate.specs.declared.gate.Eighths.{Eighths}
use Rattle.pq_gate.specs.declared.gate.Eighths.TheVariants.{T, S, Z, Sdg, Tdg}
use Rattle.pq_gate.specs.declared.gate.Gate.{Gate}
use Rattle.pq_gate.specs.declared.gate.Gate.TheVariants.{H, X, Phase, Cx}
use Rattle.pq_gate.specs.declared.ports.Ports.{Ports}
use Rattle.pq_gate.specs.declared.ports.Ports.TheVariants.{One, Two}
use Rattle.pq_gate.specs.declared.role.Role.TheVariants as role
use Rattle.pq_gate.specs.Circuit.{IsOnWires}
use Rattle.pq_gate.specs.Commuting.{Touches}
use Rattle.pq_gate.specs.Eighths.{eighths_of}
use Rattle.pq_gate.specs.Inverse.{rest_of, inverse_of}
use Rattle.pq_gate.specs.Kind.{kind_of, gate_on}
use Rattle.pq_gate.specs.Matrix.{through, roots_of}
use Rattle.pq_gate.specs.Ports.{port, ports_of, listed_ports, wires_of, first_wire, last_wire, IsAmong}
use Rattle.pq_gate.proofs.GateForms.{Form, turns, flips, mixes, by_form, undoing, led, roots_by, Fits}

abbrev pub form_of : Gate → Form
form_of (H w) = mixes w
form_of (X w) = flips w []
form_of (Phase k w) = turns (w ∷ []) (eighths_of k)
form_of (Cx c t) = flips t (c ∷ [])

-- the gate of the same kind on the wires that its wires are led to
abbrev pub moved : (ℕ → ℕ) → Gate → Gate
moved to g = gate_on (kind_of g) (to (first_wire g)) (to (last_wire g))

pub record GateFacts (g : Gate) : Type 0 where
  -- it is its kind on its wires
  pub kind : gate_on (kind_of g) (first_wire g) (last_wire g) ≡ g
  -- its ports are one or two
  pub ports : Ports
  pub listed : listed_ports ports ≡ ports_of g
  -- it uses the wires that it lists
  pub uses : (w : ℕ) → IsAmong w (wires_of g) → Touches g w
  pub lists : (w : ℕ) → Touches g w → IsAmong w (wires_of g)
  -- what it does goes by its form
  pub acts : through g ≡ by_form (form_of g)
  pub roots : roots_of g ≡ roots_by (form_of g)
  pub fits : (n : ℕ) → IsOnWires n g → Fits g (form_of g)
  -- also where its wires are led
  pub wires_led : (to : ℕ → ℕ) → wires_of (moved to g) ≡ map to (wires_of g)
  pub form_led : (to : ℕ → ℕ) → form_of (moved to g) ≡ led to (form_of g)
  -- its inverse stands on its wires and undoes it
  pub stays : wires_of (inverse_of g) ≡ wires_of g
  pub undone : form_of (inverse_of g) ≡ undoing (form_of g)
  pub twice : inverse_of (inverse_of g) ≡ g

rest-rest : (k : Eighths) → rest_of (rest_of k) ≡ k
rest-rest T = refl
rest-rest S = refl
rest-rest Z = refl
rest-rest Sdg = refl
rest-rest Tdg = refl

undoing-rest : (k : Eighths) (w : ℕ) → form_of (Phase (rest_of k) w) ≡ undoing (form_of (Phase k w))
undoing-rest T w = refl
undoing-rest S w = refl
undoing-rest Z w = refl
undoing-rest Sdg w = refl
undoing-rest Tdg w = refl

pub gate_facts : (g : Gate) → GateFacts g
gate_facts (H w) = record {
  kind = refl;
  ports = One (port w role.H);
  listed = refl;
  uses = λ v is. is;
  lists = λ v is. is;
  acts = refl;
  roots = refl;
  fits = λ n on. (record { uses = refl; not = λ e. e }, record { uses = refl; not = λ e. e });
  wires_led = λ to. refl;
  form_led = λ to. refl;
  stays = refl;
  undone = refl;
  twice = refl;
}
gate_facts (X w) = record {
  kind = refl;
  ports = One (port w role.X);
  listed = refl;
  uses = λ v is. is;
  lists = λ v is. is;
  acts = refl;
  roots = refl;
  fits = λ n on. (record { uses = refl; not = λ e. e }, λ v is. absurd is, λ e. e);
  wires_led = λ to. refl;
  form_led = λ to. refl;
  stays = refl;
  undone = refl;
  twice = refl;
}
gate_facts (Phase k w) = record {
  kind = refl;
  ports = One (port w (role.Phase k));
  listed = refl;
  uses = λ v is. is;
  lists = λ v is. is;
  acts = refl;
  roots = refl;
  fits = λ n on v is. record { uses = is; not = λ e. e };
  wires_led = λ to. refl;
  form_led = λ to. refl;
  stays = refl;
  undone = undoing-rest k w;
  twice = λ i. Phase (rest-rest k i) w;
}
gate_facts (Cx c t) = record {
  kind = refl;
  ports = Two (port c role.Control) (port t role.Target);
  listed = refl;
  uses = λ v is. is;
  lists = λ v is. is;
  acts = refl;
  roots = refl;
  fits = λ n on. (
    record { uses = inr refl; not = λ e. on.2 (sym e) },
    λ v is. record { uses = inl is; not = λ e. on.2 (sym is ∙ e) },
    λ e. on.2 (sym e),
  );
  wires_led = λ to. refl;
  form_led = λ to. refl;
  stays = refl;
  undone = refl;
  twice = refl;
}
