use Rattle.std.proofs.Common.{◌≡◌, ℕ, ◌-◌, ◌<◌, ◌≤◌, ◌⊎◌, inl, inr, Bool, List, map, length, get_or, refl, sym, ap, subst, ◌∙◌, arith}
use Rattle.std.proofs.lemmas.Bool.{cases_order}
use Rattle.std.proofs.lemmas.List.{get_or-map, get_or_default, length-map, ext_get_or}
use Rattle.std.proofs.lemmas.Grind.{get_or_default_zero}
use Rattle.pq_gate.specs.declared.gate.Gate.{Gate}
use Rattle.pq_gate.specs.declared.gate.Gate.TheVariants.{H}
use Rattle.pq_gate.specs.Circuit.{IsCircuit}
use Rattle.pq_gate.specs.Commuting.{Commutes}
use Rattle.pq_gate.specs.Kind.{kind_of}
use Rattle.pq_rules.specs.Renaming.{renamed}
use Rattle.pq_rules.specs.Row.{Uses}
use Rattle.pq_match.specs.Redex.{gate_at, last_place, AreWires, IsMatch, AreFree}
use Rattle.pq_match.specs.Wires.{wire_of}
use Rattle.pq_match.specs.Search.{AreAlike, IsFitting, IsPassed, IsFull}
use Rattle.pq_match.proofs.RewritingWires.{places_long, chosen_at}
use Rattle.pq_match.proofs.SearchChoice.{IsChoice, choose}
use Rattle.pq_match.proofs.SearchGates.{kind-renamed, wire_below, gate_on_wires, renamed_by_wires, renamed_alike}
use Rattle.pq_match.proofs.SearchTouches.{touched}
use Rattle.pq_match.proofs.SearchPlaces.{last_place_at, place_upto_last, place_is_chosen, passed_not_chosen, chosen_stands, not_chosen_passed}

-- Places where a renamed pattern stands are full.
module _ (n : ℕ) (gates pattern : List Gate) (wires places : List ℕ) (circuit : IsCircuit n pattern) (are : AreWires n wires)
    (matches : IsMatch gates pattern wires places) (free : AreFree gates places) where
  whole : length places ≡ length pattern
  whole = places_long gates pattern wires places matches.chosen

  at : (s : ℕ) → s < length pattern → gate_at gates (get_or places s 0) ≡ renamed wires (gate_at pattern s)
  at s below = chosen_at gates pattern wires places matches.chosen s (H 0) below

  match_fitting : (s : ℕ) → s < length pattern → IsFitting gates pattern places s
  match_fitting s below = record {
    kind = ap kind_of (at s below) ∙ kind-renamed wires (gate_at pattern s);
    wires = λ t upto.
        (let t_below : t < length pattern = omega arith in
        subst (λ (g : Gate). AreAlike (gate_at pattern t) (gate_at pattern s) g (gate_at gates (get_or places s 0))) (sym (at t t_below))
        (subst (λ (h : Gate). AreAlike (gate_at pattern t) (gate_at pattern s) (renamed wires (gate_at pattern t)) h) (sym (at s below))
        (renamed_alike n wires are (gate_at pattern t) (gate_at pattern s) (gate_on_wires n pattern circuit t t_below) (gate_on_wires n pattern circuit s below))));
  }

  pub match_full : (end : ℕ) → last_place places < end → IsFull gates pattern end places
  match_full end ends = record {
    rising = λ s t less below. matches.rising s t 0 less (let e : length places ≡ length pattern = whole in omega arith);
    inside = λ s below.
        (let e : length places ≡ length pattern = whole in
        let upto : get_or places s 0 ≤ last_place places = place_upto_last places matches.rising s (omega arith) in omega arith);
    fitting = match_fitting;
    clear = λ t t_below s p below passed more less.
        (let e : length places ≡ length pattern = whole in
        let upto : get_or places t 0 ≤ last_place places = place_upto_last places matches.rising t (omega arith) in
        free (get_or places s 0) p (place_is_chosen places s (omega arith))
        (passed_not_chosen places p (subst (λ (k : ℕ). IsPassed places k p) (sym e) passed)) more (omega arith));
  }

-- a wire of the pattern and the wire of the gates that stands in its place
pub record GoesWith (gates pattern : List Gate) (places : List ℕ) (wire other : ℕ) : Type 0 where
  pub at : ℕ
  pub below : at < length pattern
  pub second : Bool
  pub is : wire_of second (gate_at pattern at) ≡ wire
  pub goes : wire_of second (gate_at gates (get_or places at 0)) ≡ other

-- Full places are those of the pattern with its wires renamed.
module _ (n : ℕ) (gates pattern : List Gate) (end : ℕ) (places : List ℕ) (circuit : IsCircuit n pattern) (used : (w : ℕ) → w < n → Uses pattern w)
    (full : IsFull gates pattern end places) where
  full_alike : (s t : ℕ) → s < length pattern → t < length pattern → (one other : Bool) →
      (wire_of one (gate_at gates (get_or places s 0)) ≡ wire_of other (gate_at gates (get_or places t 0)) → wire_of one (gate_at pattern s) ≡ wire_of other (gate_at pattern t)) ×
      (wire_of one (gate_at pattern s) ≡ wire_of other (gate_at pattern t) → wire_of one (gate_at gates (get_or places s 0)) ≡ wire_of other (gate_at gates (get_or places t 0)))
  full_alike s t s_below t_below one other = by (cases_order s t)
    where
      by : (s ≡ t) ⊎ ((s < t) ⊎ (t < s)) →
          (wire_of one (gate_at gates (get_or places s 0)) ≡ wire_of other (gate_at gates (get_or places t 0)) → wire_of one (gate_at pattern s) ≡ wire_of other (gate_at pattern t)) ×
          (wire_of one (gate_at pattern s) ≡ wire_of other (gate_at pattern t) → wire_of one (gate_at gates (get_or places s 0)) ≡ wire_of other (gate_at gates (get_or places t 0)))
      by (inl same) = (full.fitting t t_below).wires s (omega arith) one other
      by (inr (inl less)) = (full.fitting t t_below).wires s (omega arith) one other
      by (inr (inr more)) =
          let turned = (full.fitting s s_below).wires t (omega arith) other one in
          (λ same. sym (turned.0 (sym same)), λ same. sym (turned.1 (sym same)))

  partner : (w : ℕ) → w < n → (v : ℕ) × GoesWith gates pattern places w v
  partner w below =
      let user = used w below in
      let side = touched user.1 w user.4 in
      let at : gate_at pattern user.0 ≡ user.1 = get_or_default pattern user.0 (H 0) user.1 user.2 ∙ user.3 in (
        wire_of side.0 (gate_at gates (get_or places user.0 0)),
        record { at = user.0; below = user.2; second = side.0; is = ap (wire_of side.0) at ∙ sym side.1; goes = refl },
      )

  pub full_choice : IsChoice (GoesWith gates pattern places) n
  full_choice = choose (GoesWith gates pattern places) n partner

  -- wires that go with the same wire are the same
  pub full_apart : (e : IsChoice (GoesWith gates pattern places) n) → AreWires n e.choice
  full_apart e = record {
    whole = e.whole;
    apart = λ v w d less below same. apart v w less (let l : length e.choice ≡ n = e.whole in omega arith)
        (sym (get_or_default_zero e.choice v d (omega arith)) ∙ (same ∙ get_or_default_zero e.choice w d below));
  }
    where
      apart : (v w : ℕ) → v < w → w < n → get_or e.choice v 0 ≡ get_or e.choice w 0 → ⊥
      apart v w less below same =
          let one = e.each v (omega arith) in
          let other = e.each w below in
          let wires : v ≡ w = sym one.is ∙ ((full_alike one.at other.at one.below other.below one.second other.second).0
          (one.goes ∙ (same ∙ sym other.goes)) ∙ other.is) in
          omega arith

  -- each wire of the pattern's gates is led to that of the chosen gate
  full_wire : (e : IsChoice (GoesWith gates pattern places) n) (s : ℕ) → s < length pattern → (b : Bool) →
      wire_of b (gate_at gates (get_or places s 0)) ≡ get_or e.choice (wire_of b (gate_at pattern s)) 0
  full_wire e s below b =
      let one = e.each (wire_of b (gate_at pattern s)) (wire_below n (gate_at pattern s) b (gate_on_wires n pattern circuit s below)) in
      sym ((full_alike one.at s one.below below one.second b).1 one.is) ∙ one.goes

  pub full_matches : (e : IsChoice (GoesWith gates pattern places) n) → length places ≡ length pattern → end ≤ length gates → IsMatch gates pattern e.choice places
  full_matches e whole ends = record {
    rising = λ s t d less below.
        subst (λ (p : ℕ). p < get_or places t d) (sym (get_or_default_zero places s d (omega arith)))
        (subst (λ (q : ℕ). get_or places s 0 < q) (sym (get_or_default_zero places t d below)) (full.rising s t less (omega arith)));
    inside = λ s d below.
        (let same : get_or places s d ≡ get_or places s 0 = get_or_default_zero places s d below in
        let inside : get_or places s 0 < end = full.inside s (omega arith) in omega arith);
    chosen = ext_get_or (H 0) (map (gate_at gates) places) (map (renamed e.choice) pattern)
        (length-map places (gate_at gates) ∙ (whole ∙ sym (length-map pattern (renamed e.choice))))
        (λ s below.
        (let long : length (map (gate_at gates) places) ≡ length places = length-map places (gate_at gates) in
        let in_places : s < length places = omega arith in
        let in_pattern : s < length pattern = omega arith in
        get_or-map (gate_at gates) places s 0 (H 0) in_places ∙
        (renamed_by_wires e.choice (gate_at gates (get_or places s 0)) (gate_at pattern s) (full.fitting s in_pattern).kind (full_wire e s in_pattern) ∙
        sym (get_or-map (renamed e.choice) pattern s (H 0) (H 0) in_pattern))));
  }

  pub full_free : length places ≡ length pattern → AreFree gates places
  full_free whole i j i_chosen j_passed more less =
      let stands = chosen_stands places i i_chosen in
      let below : stands.at < length places = stands.below in
      let last : last_place places ≡ get_or places (length places - 1) 0 = last_place_at places in
      subst (λ (p : ℕ). Commutes (gate_at gates p) (gate_at gates j)) stands.is
      (full.clear (length places - 1) (omega arith) stands.at j (omega arith)
      (subst (λ (k : ℕ). IsPassed places k j) whole (not_chosen_passed places j j_passed))
      (let e : get_or places stands.at 0 ≡ i = stands.is in omega arith) (omega arith))
