-- The wires that a gate touches are its first and its second.
use Rattle.std.proofs.Common.{◌≡◌, ℕ, Bool, true, false, sym, subst, ◌∙◌}
use Rattle.pq_gate.specs.declared.gate.Gate.{Gate}
use Rattle.pq_gate.specs.Commuting.{Touches, Commutes}
pub use Rattle.pq_links.proofs.Touching.{touched, touching}
use Rattle.pq_gate.specs.Ports.{first_wire}
use Rattle.pq_match.specs.Wires.{wire_of}
use Rattle.pq_match.specs.Search.{AreApart, AreAlike}

-- gates that share no wire commute
pub commute_apart : (first second : Gate) → AreApart first second → Commutes first second
commute_apart first second apart w uses_first uses_second = absurd (apart w uses_first uses_second)

-- Where another gate touches neither wire of the first, they share none.
pub apart_by_both : (first second : Gate) {wire other : ℕ} → wire ≡ wire_of false first → other ≡ wire_of true first →
    ¬ Touches second wire → ¬ Touches second other → AreApart first second
apart_by_both first second wire_is other_is near far w uses_first uses_second = by (touched first w uses_first)
  where
    by : (one : Bool) × (w ≡ wire_of one first) → ⊥
    by (false, is) = near (subst (Touches second) (is ∙ sym wire_is) uses_second)
    by (true, is) = far (subst (Touches second) (is ∙ sym other_is) uses_second)

-- Gates that are alike share a wire where the pattern's gates do.
pub share_alike : (of_first of_second first second : Gate) → AreAlike of_first of_second first second → (w : ℕ) → Touches of_first w → Touches of_second w →
    (v : ℕ) × Touches first v × Touches second v
share_alike of_first of_second first second alike w uses_first uses_second =
    let one = touched of_first w uses_first in
    let other = touched of_second w uses_second in
    let same : wire_of one.0 first ≡ wire_of other.0 second = (alike one.0 other.0).1 (sym one.1 ∙ other.1) in
    (wire_of one.0 first, touching first one.0, subst (Touches second) (sym same) (touching second other.0))

-- Of gates that are alike the second uses the first wire of the first exactly where the pattern's does.
pub use_alike : (of_first of_second first second : Gate) → AreAlike of_first of_second first second → Touches of_second (first_wire of_first) → Touches second (first_wire first)
use_alike of_first of_second first second alike used =
    let side = touched of_second (first_wire of_first) used in
    subst (Touches second) (sym ((alike false side.0).1 side.1)) (touching second side.0)

pub use_back : (of_first of_second first second : Gate) → AreAlike of_first of_second first second → Touches second (first_wire first) → Touches of_second (first_wire of_first)
use_back of_first of_second first second alike used =
    let side = touched second (first_wire first) used in
    subst (Touches of_second) (sym ((alike false side.0).0 side.1)) (touching of_second side.0)
