use Rattle.std.proofs.Common.{◌≡◌, ℕ, zero, suc, ◌-◌, ◌<◌, ◌≤◌, Bool, true, false, cond, List, [], ◌∷◌, length, get_or, drop, refl, ap, sym, ◌∙◌, arith, drop-cons}
use Rattle.pq_gate.specs.declared.gate.Gate.{Gate}
use Rattle.pq_gate.specs.Circuit.{IsOnWires, IsCircuit}
use Rattle.pq_gate.specs.Matrix.{through, Entry}
use Rattle.pq_gate.specs.Ring.{nought, one, root, rooted}
use Rattle.pq_gate.proofs.ActLaws.{IsLinear-rooted, through-linear}
use Rattle.pq_rules.specs.Bounds.{zeros}

pub zeros-nought : zeros ≡ nought
unfolding nought
zeros-nought = refl

root-nought : root nought ≡ nought
unfolding nought root
root-nought = refl

rooted-nought : (k : ℕ) → rooted k nought ≡ nought
rooted-nought zero = refl
rooted-nought (suc k) = ap root (rooted-nought k) ∙ root-nought

-- the entries of no gates, scaled
pub rooted-point : (k : ℕ) (p : Bool) → cond p (rooted k one) nought ≡ rooted k (cond p one nought)
rooted-point k true = refl
rooted-point k false = sym (rooted-nought k)

-- a gate more in front
pub Entry-step : (roots : ℕ) (gates : List Gate) (left : ℕ) (d : Gate) (x y : List Bool) → 0 < left → left ≤ length gates →
    through (get_or gates (left - 1) d) (λ z. rooted roots (Entry (drop left gates) z y)) x ≡
    rooted roots (Entry (drop (left - 1) gates) x y)
Entry-step roots gates zero d x y more within = absurd (omega arith)
Entry-step roots gates (suc left) d x y more within =
    let same : suc left - 1 ≡ left = omega arith in
    rw same (through-linear (IsLinear-rooted roots) (get_or gates left d) (λ z. Entry (drop (suc left) gates) z y) x ∙
    ap (λ (c : List Gate). rooted roots (Entry c x y)) (sym (drop-cons gates left d within)))

-- a gate of a circuit
pub IsCircuit-at : (n : ℕ) (gates : List Gate) (i : ℕ) (d : Gate) → IsCircuit n gates → i < length gates → IsOnWires n (get_or gates i d)
IsCircuit-at n [] i d all below = absurd (omega arith)
IsCircuit-at n (g ∷ gates) zero d all below = all.0
IsCircuit-at n (g ∷ gates) (suc i) d all below = IsCircuit-at n gates i d all.1 (omega arith)
