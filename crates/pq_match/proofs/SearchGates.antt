use Rattle.std.proofs.Common.{◌≡◌, ℕ, zero, suc, ◌<◌, ◌⊎◌, inl, inr, Bool, true, false, List, [], ◌∷◌, length, map, get_or, refl, sym, ap, ◌∙◌, arith}
use Rattle.std.proofs.lemmas.Bool.{cases_order}
use Rattle.pq_gate.specs.declared.gate.Gate.{Gate}
use Rattle.pq_gate.specs.Circuit.{IsOnWires, IsCircuit}
use Rattle.pq_gate.specs.Kind.{kind_of, gate_on}
use Rattle.pq_gate.specs.Ports.{wires_of, first_of, last_of, first_wire, last_wire, IsAmong}
use Rattle.pq_gate.proofs.KindLaws.{kind_on_wires, kind_of-gate_on}
use Rattle.pq_gate.proofs.WireLaws.{lists_used, touches_first}
use Rattle.pq_rules.specs.Renaming.{renamed}
use Rattle.pq_match.specs.Redex.{gate_at, AreWires}
use Rattle.pq_match.specs.Wires.{wire_of}
use Rattle.pq_match.specs.Search.{AreAlike}
use Rattle.pq_match.proofs.RenamedWires.{touched_below_count}
use Rattle.pq_match.proofs.SearchTouches.{touching}
use Rattle.pq_rules.proofs.LiftLaws.{wires_of-renamed}

pub kind-renamed : (e : List ℕ) (p : Gate) → kind_of (renamed e p) ≡ kind_of p
kind-renamed e p = kind_of-gate_on (kind_of p) (get_or e (first_wire p) 0) (get_or e (last_wire p) 0)

first_led : (f : ℕ → ℕ) (wires : List ℕ) (w : ℕ) → IsAmong w wires → first_of (map f wires) ≡ f (first_of wires)
first_led f [] w is = absurd is
first_led f (v ∷ wires) w is = refl

last_led : (f : ℕ → ℕ) (wires : List ℕ) (w : ℕ) → IsAmong w wires → last_of (map f wires) ≡ f (last_of wires)
last_led f [] w is = absurd is
last_led f (v ∷ []) w is = refl
last_led f (v ∷ u ∷ []) w is = refl
last_led f (v ∷ u ∷ t ∷ wires) w is = last_led f (u ∷ t ∷ wires) u (inl refl)

pub wire-renamed : (e : List ℕ) (b : Bool) (p : Gate) → wire_of b (renamed e p) ≡ get_or e (wire_of b p) 0
wire-renamed e false p =
    ap first_of (wires_of-renamed e p) ∙ first_led (λ (w : ℕ). get_or e w 0) (wires_of p) (first_wire p) (lists_used p (first_wire p) (touches_first p))
wire-renamed e true p =
    ap last_of (wires_of-renamed e p) ∙ last_led (λ (w : ℕ). get_or e w 0) (wires_of p) (first_wire p) (lists_used p (first_wire p) (touches_first p))

-- the wires of a gate on n wires are below n
pub wire_below : (n : ℕ) (p : Gate) (b : Bool) → IsOnWires n p → wire_of b p < n
wire_below n p b on = touched_below_count n p (wire_of b p) on (touching p b)

pub gate_on_wires : (n : ℕ) (gates : List Gate) → IsCircuit n gates → (s : ℕ) → s < length gates → IsOnWires n (gate_at gates s)
gate_on_wires n [] on s below = absurd (omega arith)
gate_on_wires n (g ∷ gates) on zero below = on.0
gate_on_wires n (g ∷ gates) on (suc s) below = gate_on_wires n gates on.1 s (omega arith)

-- a gate of the pattern's kind whose wires are the renamed ones is the renamed gate
pub renamed_by_wires : (e : List ℕ) (g p : Gate) → kind_of g ≡ kind_of p → ((b : Bool) → wire_of b g ≡ get_or e (wire_of b p) 0) → g ≡ renamed e p
renamed_by_wires e g p kind wires = sym (kind_on_wires g) ∙ (λ i. gate_on (kind i) (wires false i) (wires true i))

-- different wires are led to different ones
pub wires_apart : (n : ℕ) (e : List ℕ) → AreWires n e → (v w : ℕ) → v < n → w < n → get_or e v 0 ≡ get_or e w 0 → v ≡ w
wires_apart n e are v w v_below w_below same = by (cases_order v w)
  where
    by : (v ≡ w) ⊎ ((v < w) ⊎ (w < v)) → v ≡ w
    by (inl e) = e
    by (inr (inl less)) = absurd (are.apart v w 0 less (let l : length e ≡ n = are.whole in omega arith) same)
    by (inr (inr more)) = absurd (are.apart w v 0 more (let l : length e ≡ n = are.whole in omega arith) (sym same))

-- renamed gates are alike the gates of the pattern
pub renamed_alike : (n : ℕ) (e : List ℕ) → AreWires n e → (p q : Gate) → IsOnWires n p → IsOnWires n q → AreAlike p q (renamed e p) (renamed e q)
renamed_alike n e are p q on_p on_q one other = (
  λ same. wires_apart n e are (wire_of one p) (wire_of other q) (wire_below n p one on_p) (wire_below n q other on_q)
      (sym (wire-renamed e one p) ∙ (same ∙ wire-renamed e other q)),
  λ same. wire-renamed e one p ∙ (ap (λ (k : ℕ). get_or e k 0) same ∙ sym (wire-renamed e other q)),
)
