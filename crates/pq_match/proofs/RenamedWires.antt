-- The wires of a gate, and those of the same gate on other wires.
use Rattle.std.proofs.Common.{◌≡◌, ℕ, ◌<◌, List, [], ◌∷◌, map, get_or, inl, inr, sym, ap, subst, ◌∙◌}
use Rattle.pq_gate.specs.declared.gate.Gate.{Gate}
use Rattle.pq_gate.specs.Circuit.{IsOnWires}
use Rattle.pq_gate.specs.Commuting.{Touches}
use Rattle.pq_gate.specs.Ports.{wires_of, IsAmong}
use Rattle.pq_gate.proofs.WireLaws.{lists_used, uses_listed, wire_below}
use Rattle.pq_rules.specs.Renaming.{renamed}
use Rattle.pq_rules.proofs.LiftLaws.{wires_of-renamed}

-- the wires of a gate on n wires are below n
pub touched_below_count : (n : ℕ) (g : Gate) (w : ℕ) → IsOnWires n g → Touches g w → w < n
touched_below_count n g w on touches = wire_below n g on w touches

among_map : (f : ℕ → ℕ) (w : ℕ) (wires : List ℕ) → IsAmong w wires → IsAmong (f w) (map f wires)
among_map f w [] is = absurd is
among_map f w (v ∷ []) is = ap f is
among_map f w (v ∷ u ∷ rest) is = elim is [ inl here ↦ inl (ap f here) | inr later ↦ inr (among_map f w (u ∷ rest) later) ]

-- a renamed gate uses what a wire of the gate is led to
pub touches_renamed : (e : List ℕ) (g : Gate) (w : ℕ) → Touches g w → Touches (renamed e g) (get_or e w 0)
touches_renamed e g w touches =
    uses_listed (renamed e g) (get_or e w 0)
    (subst (λ (wires : List ℕ). IsAmong (get_or e w 0) wires) (sym (wires_of-renamed e g))
    (among_map (λ (v : ℕ). get_or e v 0) w (wires_of g) (lists_used g w touches)))

-- which is below n where the renamed gate is on n wires
pub touched_inside : (n : ℕ) (e : List ℕ) (g : Gate) (w : ℕ) → Touches g w → IsOnWires n (renamed e g) → get_or e w 0 < n
touched_inside n e g w touches on = touched_below_count n (renamed e g) (get_or e w 0) on (touches_renamed e g w touches)

one_led : (f h : ℕ → ℕ) (w : ℕ) (wires : List ℕ) → map f wires ≡ map h wires → IsAmong w wires → f w ≡ h w
one_led f h w [] same is = absurd is
one_led f h w (v ∷ []) same is = (let e : f v ≡ h v = cc in ap f is ∙ (e ∙ sym (ap h is)))
one_led f h w (v ∷ u ∷ rest) same is = elim is [
  | inl here ↦ (let e : f v ≡ h v = cc in ap f here ∙ (e ∙ sym (ap h here)))
  | inr later ↦ (let e : map f (u ∷ rest) ≡ map h (u ∷ rest) = cc in one_led f h w (u ∷ rest) e later)
]

-- a wire of a gate is led to one wire, where the renamed gate is one
pub led_once : (e f : List ℕ) (g : Gate) (w : ℕ) → Touches g w → renamed e g ≡ renamed f g → get_or e w 0 ≡ get_or f w 0
led_once e f g w touches same =
    one_led (λ (v : ℕ). get_or e v 0) (λ (v : ℕ). get_or f v 0) w (wires_of g)
    (sym (wires_of-renamed e g) ∙ (ap wires_of same ∙ wires_of-renamed f g)) (lists_used g w touches)
