-- A redex at a gate is of a row that admits what is seen next on the gate's last wire.
use Rattle.std.proofs.Common.{◌≡◌, ◌≢◌, ℕ, zero, suc, ◌+◌, ◌-◌, ◌<◌, ◌≤◌, Bool, true, false, cond, ◌&&◌, ◌||◌, ◌==◌, ◌⊎◌, inl, inr, List, [], ◌∷◌, length, get_or, drop, refl, sym, ap, ◌∙◌, subst, eq-eqb, arith, length-drop}
use Rattle.std.proofs.lemmas.Bool.{cases_order}
use Rattle.std.proofs.lemmas.List.{get_or-drop}
use Rattle.pq_gate.specs.declared.gate.Gate.{Gate}
use Rattle.pq_gate.specs.declared.role.Role.{Role}
use Rattle.pq_gate.specs.Circuit.{IsCircuit}
use Rattle.pq_gate.specs.Commuting.{Touches}
use Rattle.pq_gate.specs.Ports.{first_wire, last_wire}
use Rattle.pq_gate.specs.Role.{role_number}
use Rattle.pq_rules.specs.declared.seen.Seen.{Seen}
use Rattle.pq_rules.specs.declared.seen.Seen.TheVariants as seen
use Rattle.pq_rules.specs.Seen.{first_role, last_role, role_on, roles_on, uses, agree, may_be, may_pass, goes_on, admits_roles, admits}
use Rattle.pq_links.specs.Links.{IsNextOn}
use Rattle.pq_links.proofs.Touching.{touched, touching}
use Rattle.pq_match.specs.Redex.{gate_at}
use Rattle.pq_match.specs.Search.{AreAlike, IsPassed, IsFull}
use Rattle.pq_match.specs.Seek.{IsClear, IsSeenAt}
use Rattle.pq_match.specs.Within.{IsNextWithin, IsSeenWithin}
use Rattle.pq_match.proofs.Roles.{commuting_agree, circuit_clear, same_first_role, same_last_role, role_on_last, used_touches, touched_used, tests_alike, both_true, or_first, or_second}
use Rattle.pq_match.proofs.SearchGates.{gate_on_wires}

-- The first gate on the wire stands at this place, and the other roles are those behind it.
pub record LeadsAt (wire : ℕ) (gates : List Gate) (next : Role) (rest : List Role) : Type 0 where
  pub at : ℕ
  pub below : at < length gates
  pub used : uses wire (gate_at gates at) ≡ true
  pub is : role_on wire (gate_at gates at) ≡ next
  pub behind : roles_on wire (drop (at + 1) gates) ≡ rest
  pub before : (j : ℕ) → j < at → uses wire (gate_at gates j) ≡ false

leads_later : (wire : ℕ) (g : Gate) (gs : List Gate) (next : Role) (rest : List Role) → uses wire g ≡ false → LeadsAt wire gs next rest → LeadsAt wire (g ∷ gs) next rest
leads_later wire g gs next rest unused leads = record {
  at = suc leads.at;
  below = (let b : leads.at < length gs = leads.below in omega arith);
  used = leads.used;
  is = leads.is;
  behind = (let e : suc leads.at + 1 ≡ suc (leads.at + 1) = omega arith in ap (λ (n : ℕ). roles_on wire (drop n (g ∷ gs))) e ∙ leads.behind);
  before = λ j less. before j less;
}
  where
    before : (j : ℕ) → j < suc leads.at → uses wire (gate_at (g ∷ gs) j) ≡ false
    before zero less = unused
    before (suc j) less = leads.before j (omega arith)

pub leads_at : (wire : ℕ) (gates : List Gate) (next : Role) (rest : List Role) → roles_on wire gates ≡ next ∷ rest → LeadsAt wire gates next rest
leads_at wire [] next rest is = absurd (cc)
leads_at wire (g ∷ gs) next rest is = by (uses wire g) refl (leads_at wire gs next rest)
  where
    by : (b : Bool) → uses wire g ≡ b → (roles_on wire gs ≡ next ∷ rest → LeadsAt wire gs next rest) → LeadsAt wire (g ∷ gs) next rest
    by true used later =
        let e : role_on wire g ∷ roles_on wire gs ≡ next ∷ rest = sym (ap (λ (b : Bool). cond b (role_on wire g ∷ roles_on wire gs) (roles_on wire gs)) used) ∙ is in
        record { at = 0; below = omega arith; used = used; is = cc; behind = cc; before = λ j less. absurd (omega arith) }
    by false unused later =
        leads_later wire g gs next rest unused (later (sym (ap (λ (b : Bool). cond b (role_on wire g ∷ roles_on wire gs) (roles_on wire gs)) unused) ∙ is))

-- what a full match has on the last wire of its first gate
module _ (n : ℕ) (gates : List Gate) (p0 : Gate) (gs : List Gate) (end : ℕ) (places : List ℕ) (on : IsCircuit n (p0 ∷ gs)) (full : IsFull gates (p0 ∷ gs) end places) where
  alike : (t : ℕ) → t < length (p0 ∷ gs) → AreAlike p0 (gate_at (p0 ∷ gs) t) (gate_at gates (get_or places 0 0)) (gate_at gates (get_or places t 0))
  alike t below = (full.fitting t below).wires 0 (omega arith)

  clear_of : (t : ℕ) → t < length (p0 ∷ gs) → IsClear (gate_at (p0 ∷ gs) t)
  clear_of t below = circuit_clear n (gate_at (p0 ∷ gs) t) (gate_on_wires n (p0 ∷ gs) on t below)

  clear_at : (t : ℕ) → t < length (p0 ∷ gs) → IsClear (gate_at gates (get_or places t 0))
  clear_at t below same =
      let kind = (full.fitting t below).kind in
      let own = ((full.fitting t below).wires t (omega arith)) false true in
      same_first_role (gate_at gates (get_or places t 0)) (gate_at (p0 ∷ gs) t) kind
      ∙ (clear_of t below (own.0 same) ∙ sym (same_last_role (gate_at gates (get_or places t 0)) (gate_at (p0 ∷ gs) t) kind))

  touched_at : (t : ℕ) → t < length (p0 ∷ gs) → uses (last_wire p0) (gate_at (p0 ∷ gs) t) ≡ true → Touches (gate_at gates (get_or places t 0)) (last_wire (gate_at gates (get_or places 0 0)))
  touched_at t below used =
      let side = touched (gate_at (p0 ∷ gs) t) (last_wire p0) (used_touches (last_wire p0) (gate_at (p0 ∷ gs) t) used) in
      subst (Touches (gate_at gates (get_or places t 0))) (sym ((alike t below true side.0).1 side.1)) (touching (gate_at gates (get_or places t 0)) side.0)

  untouched_at : (t : ℕ) → t < length (p0 ∷ gs) → uses (last_wire p0) (gate_at (p0 ∷ gs) t) ≡ false → ¬ Touches (gate_at gates (get_or places t 0)) (last_wire (gate_at gates (get_or places 0 0)))
  untouched_at t below unused touches =
      let side = touched (gate_at gates (get_or places t 0)) (last_wire (gate_at gates (get_or places 0 0))) touches in
      let uses_it : Touches (gate_at (p0 ∷ gs) t) (last_wire p0) = subst (Touches (gate_at (p0 ∷ gs) t)) (sym ((alike t below true side.0).0 side.1)) (touching (gate_at (p0 ∷ gs) t) side.0) in
      let clash : true ≡ false = sym (touched_used (last_wire p0) (gate_at (p0 ∷ gs) t) uses_it) ∙ unused in cc

  same_role_at : (t : ℕ) → t < length (p0 ∷ gs) → role_on (last_wire (gate_at gates (get_or places 0 0))) (gate_at gates (get_or places t 0)) ≡ role_on (last_wire p0) (gate_at (p0 ∷ gs) t)
  same_role_at t below =
      let kind = (full.fitting t below).kind in
      let tests = tests_alike (last_wire (gate_at gates (get_or places 0 0))) (first_wire (gate_at gates (get_or places t 0))) (last_wire p0) (first_wire (gate_at (p0 ∷ gs) t))
      (alike t below true false).0 (alike t below true false).1 in
      ap (λ (b : Bool). cond b (first_role (gate_at gates (get_or places t 0))) (last_role (gate_at gates (get_or places t 0)))) tests
      ∙ (ap (λ (r : Role). cond (first_wire (gate_at (p0 ∷ gs) t) == last_wire p0) r (last_role (gate_at gates (get_or places t 0)))) (same_first_role (gate_at gates (get_or places t 0)) (gate_at (p0 ∷ gs) t) kind)
      ∙ ap (λ (r : Role). cond (first_wire (gate_at (p0 ∷ gs) t) == last_wire p0) (first_role (gate_at (p0 ∷ gs) t)) r) (same_last_role (gate_at gates (get_or places t 0)) (gate_at (p0 ∷ gs) t) kind))

  -- the next gate on the wire isn't behind a chosen one
  next_upto : (n from t : ℕ) → t < length (p0 ∷ gs) → uses (last_wire p0) (gate_at (p0 ∷ gs) t) ≡ true →
      IsNextWithin gates (last_wire (gate_at gates (get_or places 0 0))) end from n → from ≤ get_or places t 0 → n ≤ get_or places t 0
  next_upto n from t below used next upto = by (cases_order n (get_or places t 0))
    where
      by : (n ≡ get_or places t 0) ⊎ ((n < get_or places t 0) ⊎ (get_or places t 0 < n)) → n ≤ get_or places t 0
      by (inl same) = omega arith
      by (inr (inl less)) = omega arith
      by (inr (inr more)) = absurd (next.none (get_or places t 0) upto more (full.inside t below) (touched_at t below used))

  -- a gate on the wire that isn't one of the pattern's there isn't chosen
  passed_over : (n : ℕ) → Touches (gate_at gates n) (last_wire (gate_at gates (get_or places 0 0))) →
      ((t : ℕ) → t < length (p0 ∷ gs) → uses (last_wire p0) (gate_at (p0 ∷ gs) t) ≡ true → get_or places t 0 ≢ n) → IsPassed places (length (p0 ∷ gs)) n
  passed_over n touches other t below same = by (uses (last_wire p0) (gate_at (p0 ∷ gs) t)) refl
    where
      by : (b : Bool) → uses (last_wire p0) (gate_at (p0 ∷ gs) t) ≡ b → ⊥
      by true used = other t below used same
      by false unused = untouched_at t below unused (subst (λ (p : ℕ). Touches (gate_at gates p) (last_wire (gate_at gates (get_or places 0 0)))) (sym same) touches)

  -- so it may be passed over by the chosen ones before it
  may_move : (n a t : ℕ) (what : Seen) → a < length (p0 ∷ gs) → t < length (p0 ∷ gs) → n < end → get_or places a 0 < n → n < get_or places t 0 →
      Touches (gate_at gates n) (last_wire (gate_at gates (get_or places 0 0))) → uses (last_wire p0) (gate_at (p0 ∷ gs) a) ≡ true → IsPassed places (length (p0 ∷ gs)) n →
      IsSeenWithin gates (last_wire (gate_at gates (get_or places 0 0))) end n what → may_pass what (role_on (last_wire p0) (gate_at (p0 ∷ gs) a)) ≡ true
  may_move n a t seen.Nothing a_below t_below inside more less touches used passed is = (let past : end ≤ n = is in absurd (omega arith))
  may_move n a t seen.Unclear a_below t_below inside more less touches used passed is = refl
  may_move n a t (seen.Plays own) a_below t_below inside more less touches used passed is =
      ap (λ (r : Role). agree (role_on (last_wire p0) (gate_at (p0 ∷ gs) a)) r) is.0
      ∙ (ap (λ (r : Role). agree r (role_on (last_wire (gate_at gates (get_or places 0 0))) (gate_at gates n))) (sym (same_role_at a a_below))
      ∙ commuting_agree (gate_at gates (get_or places a 0)) (gate_at gates n) (last_wire (gate_at gates (get_or places 0 0))) (clear_at a a_below) is.1
      (full.clear t t_below a n a_below passed more less) (touched_at a a_below used) touches)

  may_stand : (n t : ℕ) (what : Seen) → t < length (p0 ∷ gs) → n ≡ get_or places t 0 → IsSeenWithin gates (last_wire (gate_at gates (get_or places 0 0))) end n what →
      may_be what (role_on (last_wire p0) (gate_at (p0 ∷ gs) t)) ≡ true
  may_stand n t seen.Nothing below same is = (let past : end ≤ n = is in let inside : get_or places t 0 < end = full.inside t below in absurd (omega arith))
  may_stand n t seen.Unclear below same is = refl
  may_stand n t (seen.Plays own) below same is =
      eq-eqb (role_number own) (role_number (role_on (last_wire p0) (gate_at (p0 ∷ gs) t)))
      (ap role_number (is.0 ∙ (ap (λ (p : ℕ). role_on (last_wire (gate_at gates (get_or places 0 0))) (gate_at gates p)) same ∙ same_role_at t below)))

  -- the roles of the pattern's gates on the wire admit what is seen there
  module _ (n1 n2 : ℕ) (near far : Seen) (first_next : IsNextWithin gates (last_wire (gate_at gates (get_or places 0 0))) end (get_or places 0 0 + 1) n1)
      (then_next : n1 < end → IsNextWithin gates (last_wire (gate_at gates (get_or places 0 0))) end (n1 + 1) n2)
      (near_is : IsSeenWithin gates (last_wire (gate_at gates (get_or places 0 0))) end n1 near) (far_is : IsSeenWithin gates (last_wire (gate_at gates (get_or places 0 0))) end n2 far) where
    own : role_on (last_wire p0) p0 ≡ last_role p0
    own = role_on_last p0 (clear_of 0 (omega arith))

    first_used : uses (last_wire p0) p0 ≡ true
    first_used = touched_used (last_wire p0) p0 (touching p0 true)

    -- places before the next gate of the pattern on the wire
    other_places : (t n : ℕ) → t < length (p0 ∷ gs) → ((s : ℕ) → 0 < s → s < t → uses (last_wire p0) (gate_at (p0 ∷ gs) s) ≡ false) → get_or places 0 0 < n → n < get_or places t 0 →
        (s : ℕ) → s < length (p0 ∷ gs) → uses (last_wire p0) (gate_at (p0 ∷ gs) s) ≡ true → get_or places s 0 ≢ n
    other_places t n t_below unused more less s below used same = by (cases_order s 0) (cases_order s t)
      where
        by : (s ≡ 0) ⊎ ((s < 0) ⊎ (0 < s)) → (s ≡ t) ⊎ ((s < t) ⊎ (t < s)) → ⊥
        by (inl zeroth) _ = (let e : get_or places s 0 ≡ get_or places 0 0 = ap (λ (k : ℕ). get_or places k 0) zeroth in omega arith)
        by (inr (inl none)) _ = omega arith
        by (inr (inr some)) (inl last) = (let e : get_or places s 0 ≡ get_or places t 0 = ap (λ (k : ℕ). get_or places k 0) last in omega arith)
        by (inr (inr some)) (inr (inl lower)) = (let clash : true ≡ false = sym used ∙ unused s some lower in cc)
        by (inr (inr some)) (inr (inr higher)) = (let rise : get_or places t 0 < get_or places s 0 = full.rising t s higher below in omega arith)

    -- the next gate of the pattern on the wire
    module _ (t : ℕ) (t_below : t < length (p0 ∷ gs)) (t_some : 0 < t) (t_used : uses (last_wire p0) (gate_at (p0 ∷ gs) t) ≡ true)
        (t_before : (s : ℕ) → 0 < s → s < t → uses (last_wire p0) (gate_at (p0 ∷ gs) s) ≡ false) where
      rise_to : get_or places 0 0 < get_or places t 0
      rise_to = full.rising 0 t t_some t_below

      n1_upto : n1 ≤ get_or places t 0
      n1_upto = next_upto n1 (get_or places 0 0 + 1) t t_below t_used first_next (let r : get_or places 0 0 < get_or places t 0 = rise_to in omega arith)

      n1_inside : n1 < end
      n1_inside = (let u : n1 ≤ get_or places t 0 = n1_upto in let i : get_or places t 0 < end = full.inside t t_below in omega arith)

      move_first : (n : ℕ) (what : Seen) → get_or places 0 0 < n → n < get_or places t 0 → n < end → Touches (gate_at gates n) (last_wire (gate_at gates (get_or places 0 0))) →
          IsSeenWithin gates (last_wire (gate_at gates (get_or places 0 0))) end n what → may_pass what (last_role p0) ≡ true
      move_first n what more less inside touches is =
          subst (λ (r : Role). may_pass what r ≡ true) own
          (may_move n 0 t what (omega arith) t_below inside more less touches first_used (passed_over n touches (other_places t n t_below t_before more less)) is)

      -- it isn't the next gate there: that is passed over, and the one behind it is chosen or passed over
      passes : n1 < get_or places t 0 → (may_pass near (last_role p0) && (may_be far (role_on (last_wire p0) (gate_at (p0 ∷ gs) t)) || may_pass far (last_role p0))) ≡ true
      passes less =
          let ahead : get_or places 0 0 + 1 ≤ n1 = first_next.ahead in
          let more : get_or places 0 0 < n1 = omega arith in
          both_true (move_first n1 near more less n1_inside (first_next.uses n1_inside) near_is) (by (cases_order n2 (get_or places t 0)))
        where
          by : (n2 ≡ get_or places t 0) ⊎ ((n2 < get_or places t 0) ⊎ (get_or places t 0 < n2)) →
              (may_be far (role_on (last_wire p0) (gate_at (p0 ∷ gs) t)) || may_pass far (last_role p0)) ≡ true
          by (inl same) = or_first (may_pass far (last_role p0)) (may_stand n2 t far t_below same far_is)
          by (inr (inl below)) =
              let behind = then_next n1_inside in
              let ahead : n1 + 1 ≤ n2 = behind.ahead in
              let before : get_or places 0 0 + 1 ≤ n1 = first_next.ahead in
              let inside : get_or places t 0 < end = full.inside t t_below in
              or_second (may_be far (role_on (last_wire p0) (gate_at (p0 ∷ gs) t)))
              (move_first n2 far (omega arith) below (omega arith) (behind.uses (omega arith)) far_is)
          by (inr (inr beyond)) =
              absurd (let upto : n2 ≤ get_or places t 0 = next_upto n2 (n1 + 1) t t_below t_used (then_next n1_inside) (omega arith) in omega arith)

      -- it is the next gate there, and the pattern has another one on the wire
      goes : n1 ≡ get_or places t 0 → (u : ℕ) → t < u → u < length (p0 ∷ gs) → uses (last_wire p0) (gate_at (p0 ∷ gs) u) ≡ true →
          ((s : ℕ) → t < s → s < u → uses (last_wire p0) (gate_at (p0 ∷ gs) s) ≡ false) →
          (may_be far (role_on (last_wire p0) (gate_at (p0 ∷ gs) u)) || (may_pass far (last_role p0) && may_pass far (role_on (last_wire p0) (gate_at (p0 ∷ gs) t)))) ≡ true
      goes here u more u_below u_used u_before = by (cases_order n2 (get_or places u 0))
        where
          rise_on : get_or places t 0 < get_or places u 0
          rise_on = full.rising t u more u_below

          others : n2 < get_or places u 0 → get_or places t 0 < n2 → (s : ℕ) → s < length (p0 ∷ gs) → uses (last_wire p0) (gate_at (p0 ∷ gs) s) ≡ true → get_or places s 0 ≢ n2
          others less behind s below used same = at (cases_order s t) (cases_order s u)
            where
              at : (s ≡ t) ⊎ ((s < t) ⊎ (t < s)) → (s ≡ u) ⊎ ((s < u) ⊎ (u < s)) → ⊥
              at (inl is) _ = (let e : get_or places s 0 ≡ get_or places t 0 = ap (λ (k : ℕ). get_or places k 0) is in omega arith)
              at (inr (inl lower)) _ = (let rise : get_or places s 0 < get_or places t 0 = full.rising s t lower t_below in omega arith)
              at (inr (inr higher)) (inl is) = (let e : get_or places s 0 ≡ get_or places u 0 = ap (λ (k : ℕ). get_or places k 0) is in omega arith)
              at (inr (inr higher)) (inr (inl lower)) = (let clash : true ≡ false = sym used ∙ u_before s higher lower in cc)
              at (inr (inr higher)) (inr (inr beyond)) = (let rise : get_or places u 0 < get_or places s 0 = full.rising u s beyond below in omega arith)

          by : (n2 ≡ get_or places u 0) ⊎ ((n2 < get_or places u 0) ⊎ (get_or places u 0 < n2)) →
              (may_be far (role_on (last_wire p0) (gate_at (p0 ∷ gs) u)) || (may_pass far (last_role p0) && may_pass far (role_on (last_wire p0) (gate_at (p0 ∷ gs) t)))) ≡ true
          by (inl same) = or_first (may_pass far (last_role p0) && may_pass far (role_on (last_wire p0) (gate_at (p0 ∷ gs) t))) (may_stand n2 u far u_below same far_is)
          by (inr (inl less)) =
              let behind = then_next n1_inside in
              let ahead : n1 + 1 ≤ n2 = behind.ahead in
              let r : get_or places 0 0 < get_or places t 0 = rise_to in
              let inside : get_or places u 0 < end = full.inside u u_below in
              let touches = behind.uses (omega arith) in
              let passed = passed_over n2 touches (others less (omega arith)) in
              or_second (may_be far (role_on (last_wire p0) (gate_at (p0 ∷ gs) u)))
              (both_true
              (subst (λ (r : Role). may_pass far r ≡ true) own (may_move n2 0 u far (omega arith) u_below (omega arith) (omega arith) less touches first_used passed far_is))
              (may_move n2 t u far t_below u_below (omega arith) (omega arith) less touches t_used passed far_is))
          by (inr (inr beyond)) =
              absurd (let r : get_or places t 0 < get_or places u 0 = rise_on in
              let upto : n2 ≤ get_or places u 0 = next_upto n2 (n1 + 1) u u_below u_used (then_next n1_inside) (omega arith) in omega arith)

    by_lane : (lane : List Role) → roles_on (last_wire p0) gs ≡ lane → admits_roles (last_role p0) lane near far ≡ true
    by_lane [] is = refl
    by_lane (next ∷ rest) is = by (cases_order n1 (get_or places (suc leads.at) 0))
      where
        leads : LeadsAt (last_wire p0) gs next rest
        leads = leads_at (last_wire p0) gs next rest is

        t_below : suc leads.at < length (p0 ∷ gs)
        t_below = (let b : leads.at < length gs = leads.below in omega arith)

        before : (s : ℕ) → 0 < s → s < suc leads.at → uses (last_wire p0) (gate_at (p0 ∷ gs) s) ≡ false
        before zero some less = absurd (omega arith)
        before (suc s) some less = leads.before s (omega arith)

        more_goes : n1 ≡ get_or places (suc leads.at) 0 → (roles : List Role) → roles_on (last_wire p0) (drop (leads.at + 1) gs) ≡ roles → goes_on (last_role p0) next roles far ≡ true
        more_goes here [] none = refl
        more_goes here (later ∷ others) some =
            subst (λ (r : Role). (may_be far r || (may_pass far (last_role p0) && may_pass far next)) ≡ true) role_is
            (subst (λ (r : Role). (may_be far (role_on (last_wire p0) (gate_at (p0 ∷ gs) (suc (leads.at + 1 + behind.at)))) || (may_pass far (last_role p0) && may_pass far r)) ≡ true) leads.is
            (goes (suc leads.at) t_below (omega arith) leads.used before here (suc (leads.at + 1 + behind.at)) (omega arith) u_below u_used u_before))
          where
            behind : LeadsAt (last_wire p0) (drop (leads.at + 1) gs) later others
            behind = leads_at (last_wire p0) (drop (leads.at + 1) gs) later others some

            there : (j : ℕ) → gate_at (drop (leads.at + 1) gs) j ≡ gate_at (p0 ∷ gs) (suc (leads.at + 1 + j))
            there j = get_or-drop (leads.at + 1) gs j _

            u_below : suc (leads.at + 1 + behind.at) < length (p0 ∷ gs)
            u_below = (let b : behind.at < length (drop (leads.at + 1) gs) = behind.below in let l : leads.at < length gs = leads.below in omega (arith, length-drop (leads.at + 1) gs))

            u_used : uses (last_wire p0) (gate_at (p0 ∷ gs) (suc (leads.at + 1 + behind.at))) ≡ true
            u_used = ap (uses (last_wire p0)) (sym (there behind.at)) ∙ behind.used

            role_is : role_on (last_wire p0) (gate_at (p0 ∷ gs) (suc (leads.at + 1 + behind.at))) ≡ later
            role_is = ap (role_on (last_wire p0)) (sym (there behind.at)) ∙ behind.is

            u_before : (s : ℕ) → suc leads.at < s → s < suc (leads.at + 1 + behind.at) → uses (last_wire p0) (gate_at (p0 ∷ gs) s) ≡ false
            u_before s more less =
                let e : suc (leads.at + 1 + (s - (leads.at + 2))) ≡ s = omega arith in
                ap (λ (k : ℕ). uses (last_wire p0) (gate_at (p0 ∷ gs) k)) (sym e)
                ∙ (ap (uses (last_wire p0)) (sym (there (s - (leads.at + 2)))) ∙ behind.before (s - (leads.at + 2)) (omega arith))

        by : (n1 ≡ get_or places (suc leads.at) 0) ⊎ ((n1 < get_or places (suc leads.at) 0) ⊎ (get_or places (suc leads.at) 0 < n1)) →
            ((may_be near next && goes_on (last_role p0) next rest far) || (may_pass near (last_role p0) && (may_be far next || may_pass far (last_role p0)))) ≡ true
        by (inl here) =
            or_first (may_pass near (last_role p0) && (may_be far next || may_pass far (last_role p0)))
            (both_true (subst (λ (r : Role). may_be near r ≡ true) leads.is (may_stand n1 (suc leads.at) near t_below here near_is)) (more_goes here rest leads.behind))
        by (inr (inl less)) =
            or_second (may_be near next && goes_on (last_role p0) next rest far)
            (subst (λ (r : Role). (may_pass near (last_role p0) && (may_be far r || may_pass far (last_role p0))) ≡ true) leads.is
            (passes (suc leads.at) t_below (omega arith) leads.used before less))
        by (inr (inr beyond)) =
            absurd (let upto : n1 ≤ get_or places (suc leads.at) 0 = n1_upto (suc leads.at) t_below (omega arith) leads.used before in omega arith)

    pub match_admits_within : admits (p0 ∷ gs) near far ≡ true
    match_admits_within = by_lane (roles_on (last_wire p0) gs) refl

-- what is seen in the whole list
next_within : {gates : List Gate} {wire from place : ℕ} → IsNextOn gates wire from place → IsNextWithin gates wire (length gates) from place
next_within next = record { ahead = next.ahead; uses = next.uses; none = next.none }

seen_within : (gates : List Gate) (wire place : ℕ) (what : Seen) → IsSeenAt gates wire place what → IsSeenWithin gates wire (length gates) place what
seen_within gates wire place seen.Nothing is = is
seen_within gates wire place seen.Unclear is = is
seen_within gates wire place (seen.Plays played) is = is

pub match_admits : (n : ℕ) (gates : List Gate) (p0 : Gate) (gs : List Gate) (places : List ℕ) → IsCircuit n (p0 ∷ gs) → IsFull gates (p0 ∷ gs) (length gates) places →
    (n1 n2 : ℕ) (near far : Seen) → IsNextOn gates (last_wire (gate_at gates (get_or places 0 0))) (get_or places 0 0 + 1) n1 →
    (n1 < length gates → IsNextOn gates (last_wire (gate_at gates (get_or places 0 0))) (n1 + 1) n2) →
    IsSeenAt gates (last_wire (gate_at gates (get_or places 0 0))) n1 near → IsSeenAt gates (last_wire (gate_at gates (get_or places 0 0))) n2 far → admits (p0 ∷ gs) near far ≡ true
match_admits n gates p0 gs places on full n1 n2 near far first_next then_next near_is far_is =
    match_admits_within n gates p0 gs (length gates) places on full n1 n2 near far (next_within first_next) (λ inside. next_within (then_next inside))
    (seen_within gates (last_wire (gate_at gates (get_or places 0 0))) n1 near near_is) (seen_within gates (last_wire (gate_at gates (get_or places 0 0))) n2 far far_is)
