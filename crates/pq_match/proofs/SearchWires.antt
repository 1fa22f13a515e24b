use Rattle.std.proofs.Common.{◌≡◌, ℕ, true, false, refl, sym, subst, ◌∙◌}
use Rattle.std.specs.Prelude.{◌↔◌}
use Rattle.pq_gate.specs.declared.gate.Gate.{Gate}
use Rattle.pq_gate.specs.Ports.{first_wire, last_wire}
use Rattle.pq_match.specs.Wires.{wire_of}
use Rattle.pq_match.specs.Search.{IsAlike, AreAlike}

-- Two gates are alike where both wires of the first are.
module _ (of_first of_second first second : Gate) (of_wire of_other wire other : ℕ) (of_wire_is : of_wire ≡ wire_of false of_first) (of_other_is : of_other ≡ wire_of true of_first)
    (wire_is : wire ≡ wire_of false first) (other_is : other ≡ wire_of true first) where
  pub alike_by_both : IsAlike of_wire of_second wire second → IsAlike of_other of_second other second → AreAlike of_first of_second first second
  alike_by_both near far true =
      subst (λ (p : ℕ). IsAlike p of_second (wire_of true first) second) of_other_is (subst (λ (w : ℕ). IsAlike of_other of_second w second) other_is far)
  alike_by_both near far false =
      subst (λ (p : ℕ). IsAlike p of_second (wire_of false first) second) of_wire_is (subst (λ (w : ℕ). IsAlike of_wire of_second w second) wire_is near)

  pub first_alike : AreAlike of_first of_second first second → IsAlike of_wire of_second wire second
  first_alike alike =
      subst (λ (p : ℕ). IsAlike p of_second wire second) (sym of_wire_is) (subst (λ (w : ℕ). IsAlike (wire_of false of_first) of_second w second) (sym wire_is) (alike false))

  pub second_alike : AreAlike of_first of_second first second → IsAlike of_other of_second other second
  second_alike alike =
      subst (λ (p : ℕ). IsAlike p of_second other second) (sym of_other_is) (subst (λ (w : ℕ). IsAlike (wire_of true of_first) of_second w second) (sym other_is) (alike true))

-- A wire is alike where it is so for both wires of a gate.
pub alike_by_each : (of_wire : ℕ) (of_gate : Gate) (wire : ℕ) (gate : Gate) {p q v w : ℕ} →
    p ≡ first_wire of_gate → q ≡ last_wire of_gate → v ≡ first_wire gate → w ≡ last_wire gate →
    ((wire ≡ v) ↔ (of_wire ≡ p)) → ((wire ≡ w) ↔ (of_wire ≡ q)) → IsAlike of_wire of_gate wire gate
alike_by_each of_wire of_gate wire gate p_is q_is v_is w_is first last false = (λ e. first.0 (e ∙ sym v_is) ∙ p_is, λ e. first.1 (e ∙ sym p_is) ∙ v_is)
alike_by_each of_wire of_gate wire gate p_is q_is v_is w_is first last true = (λ e. last.0 (e ∙ sym w_is) ∙ q_is, λ e. last.1 (e ∙ sym q_is) ∙ w_is)

pub alike_at_first : (of_wire : ℕ) (of_gate : Gate) (wire : ℕ) (gate : Gate) {p v : ℕ} → p ≡ first_wire of_gate → v ≡ first_wire gate →
    IsAlike of_wire of_gate wire gate → (wire ≡ v) ↔ (of_wire ≡ p)
alike_at_first of_wire of_gate wire gate p_is v_is alike = (λ e. (alike false).0 (e ∙ v_is) ∙ sym p_is, λ e. (alike false).1 (e ∙ p_is) ∙ sym v_is)

pub alike_at_last : (of_wire : ℕ) (of_gate : Gate) (wire : ℕ) (gate : Gate) {q w : ℕ} → q ≡ last_wire of_gate → w ≡ last_wire gate →
    IsAlike of_wire of_gate wire gate → (wire ≡ w) ↔ (of_wire ≡ q)
alike_at_last of_wire of_gate wire gate q_is w_is alike = (λ e. (alike true).0 (e ∙ w_is) ∙ sym q_is, λ e. (alike true).1 (e ∙ q_is) ∙ sym w_is)

-- a gate against itself, by its two wires
pub alone_alike : (of_gate gate : Gate) (first last of_first of_last : ℕ) → first ≡ first_wire gate → last ≡ last_wire gate → of_first ≡ first_wire of_gate → of_last ≡ last_wire of_gate →
    ((first ≡ last) ↔ (of_first ≡ of_last)) ↔ AreAlike of_gate of_gate gate gate
alone_alike of_gate gate first last of_first of_last f l of_f of_l = (to, back)
  where
    there : (first ≡ last) ↔ (of_first ≡ of_last) → first_wire gate ≡ last_wire gate → first_wire of_gate ≡ last_wire of_gate
    there is same = sym of_f ∙ (is.0 (f ∙ (same ∙ sym l)) ∙ of_l)

    here : (first ≡ last) ↔ (of_first ≡ of_last) → first_wire of_gate ≡ last_wire of_gate → first_wire gate ≡ last_wire gate
    here is same = sym f ∙ (is.1 (of_f ∙ (same ∙ sym of_l)) ∙ l)

    to : (first ≡ last) ↔ (of_first ≡ of_last) → AreAlike of_gate of_gate gate gate
    to is false false = (λ same. refl, λ same. refl)
    to is false true = (there is, here is)
    to is true false = (λ same. sym (there is (sym same)), λ same. sym (here is (sym same)))
    to is true true = (λ same. refl, λ same. refl)

    back : AreAlike of_gate of_gate gate gate → (first ≡ last) ↔ (of_first ≡ of_last)
    back alike =
        (λ same. of_f ∙ ((alike false true).0 (sym f ∙ (same ∙ l)) ∙ sym of_l), λ same. f ∙ ((alike false true).1 (sym of_f ∙ (same ∙ of_l)) ∙ sym l))
