-- A redex at a gate is of a row that admits what stands behind it on its wires.
use Rattle.std.proofs.Common.{◌≡◌, ◌≢◌, ℕ, zero, suc, ◌+◌, ◌-◌, ◌<◌, ◌≤◌, Bool, true, false, cond, ◌&&◌, ◌||◌, ◌==◌, ◌⊎◌, inl, inr, List, [], ◌∷◌, length, get_or, drop, Option, None, Some, refl, sym, ap, ◌∙◌, subst, eq-eqb, arith, length-drop}
use Rattle.std.proofs.lemmas.Bool.{cases_order}
use Rattle.std.proofs.lemmas.List.{get_or-drop}
use Rattle.pq_gate.specs.declared.gate.Gate.{Gate}
use Rattle.pq_gate.specs.declared.role.Axis.{Axis}
use Rattle.pq_gate.specs.declared.role.Axis.TheVariants as axis
use Rattle.pq_gate.specs.declared.role.Role.{Role}
use Rattle.pq_gate.specs.Circuit.{IsCircuit}
use Rattle.pq_gate.specs.Commuting.{Touches}
use Rattle.pq_gate.specs.Ports.{first_wire}
use Rattle.pq_gate.specs.Role.{role_number, axis_of, is_axis}
use Rattle.pq_rules.specs.declared.seen.Seen.{Seen}
use Rattle.pq_rules.specs.declared.seen.Seen.TheVariants as seen
use Rattle.pq_rules.specs.Seen.{first_role, last_role, role_on, roles_on, uses, agree, may_be, may_pass}
use Rattle.pq_rules.specs.Lanes.{LaneView, has_passed, passes_over, may_lead, admits_lane}
use Rattle.pq_links.specs.Links.{IsNextOn}
use Rattle.pq_links.proofs.Touching.{touched, touching}
use Rattle.pq_match.specs.Ahead.{IsSeenNext, IsLaneOn}
use Rattle.pq_match.specs.Redex.{gate_at}
use Rattle.pq_match.specs.Search.{IsAlike, IsPassed, IsFull}
use Rattle.pq_match.specs.Seek.{IsClear, IsSeenAt}
use Rattle.pq_match.proofs.Admitting.{LeadsAt, leads_at}
use Rattle.pq_match.proofs.Roles.{commuting_agree, circuit_clear, same_first_role, same_last_role, used_touches, touched_used, tests_alike, both_true}
use Rattle.pq_match.proofs.SearchGates.{gate_on_wires}

-- no role lies along one axis with two others that don't
abbrev agree_axes : Option Axis → Option Axis → Bool
agree_axes one other = (is_axis axis.Z one && is_axis axis.Z other) || (is_axis axis.X one && is_axis axis.X other)

apart_axes : (x y z : Option Axis) → agree_axes x z ≡ true → agree_axes y z ≡ true → agree_axes x y ≡ true
apart_axes None y z one other = absurd (cc)
apart_axes (Some axis.Z) None z one other = absurd (cc)
apart_axes (Some axis.Z) (Some axis.Z) z one other = refl
apart_axes (Some axis.Z) (Some axis.X) None one other = absurd (cc)
apart_axes (Some axis.Z) (Some axis.X) (Some axis.Z) one other = absurd (cc)
apart_axes (Some axis.Z) (Some axis.X) (Some axis.X) one other = absurd (cc)
apart_axes (Some axis.X) None z one other = absurd (cc)
apart_axes (Some axis.X) (Some axis.X) z one other = refl
apart_axes (Some axis.X) (Some axis.Z) None one other = absurd (cc)
apart_axes (Some axis.X) (Some axis.Z) (Some axis.Z) one other = absurd (cc)
apart_axes (Some axis.X) (Some axis.Z) (Some axis.X) one other = absurd (cc)

apart_roles : (a b c : Role) → agree a c ≡ true → agree b c ≡ true → agree a b ≡ true
apart_roles a b c one other = apart_axes (axis_of a) (axis_of b) (axis_of c) one other

-- what a full match has on a wire of its first gate
module _ (n : ℕ) (gates : List Gate) (p0 : Gate) (gs : List Gate) (places : List ℕ) (on : IsCircuit n (p0 ∷ gs)) (full : IsFull gates (p0 ∷ gs) (length gates) places)
    (w W : ℕ) (alike : (t : ℕ) → t < length (p0 ∷ gs) → IsAlike w (gate_at (p0 ∷ gs) t) W (gate_at gates (get_or places t 0))) (first_used : uses w p0 ≡ true) where
  clear_of : (t : ℕ) → t < length (p0 ∷ gs) → IsClear (gate_at (p0 ∷ gs) t)
  clear_of t below = circuit_clear n (gate_at (p0 ∷ gs) t) (gate_on_wires n (p0 ∷ gs) on t below)

  clear_at : (t : ℕ) → t < length (p0 ∷ gs) → IsClear (gate_at gates (get_or places t 0))
  clear_at t below same =
      let kind = (full.fitting t below).kind in
      let own = ((full.fitting t below).wires t (omega arith)) false true in
      same_first_role (gate_at gates (get_or places t 0)) (gate_at (p0 ∷ gs) t) kind
      ∙ (clear_of t below (own.0 same) ∙ sym (same_last_role (gate_at gates (get_or places t 0)) (gate_at (p0 ∷ gs) t) kind))

  touched_at : (t : ℕ) → t < length (p0 ∷ gs) → uses w (gate_at (p0 ∷ gs) t) ≡ true → Touches (gate_at gates (get_or places t 0)) W
  touched_at t below used =
      let side = touched (gate_at (p0 ∷ gs) t) w (used_touches w (gate_at (p0 ∷ gs) t) used) in
      subst (Touches (gate_at gates (get_or places t 0))) (sym ((alike t below side.0).1 side.1)) (touching (gate_at gates (get_or places t 0)) side.0)

  untouched_at : (t : ℕ) → t < length (p0 ∷ gs) → uses w (gate_at (p0 ∷ gs) t) ≡ false → ¬ Touches (gate_at gates (get_or places t 0)) W
  untouched_at t below unused touches =
      let side = touched (gate_at gates (get_or places t 0)) W touches in
      let uses_it : Touches (gate_at (p0 ∷ gs) t) w = subst (Touches (gate_at (p0 ∷ gs) t)) (sym ((alike t below side.0).0 side.1)) (touching (gate_at (p0 ∷ gs) t) side.0) in
      let clash : true ≡ false = sym (touched_used w (gate_at (p0 ∷ gs) t) uses_it) ∙ unused in cc

  same_role_at : (t : ℕ) → t < length (p0 ∷ gs) → role_on W (gate_at gates (get_or places t 0)) ≡ role_on w (gate_at (p0 ∷ gs) t)
  same_role_at t below =
      let kind = (full.fitting t below).kind in
      let tests = tests_alike W (first_wire (gate_at gates (get_or places t 0))) w (first_wire (gate_at (p0 ∷ gs) t))
      (alike t below false).0 (alike t below false).1 in
      ap (λ (b : Bool). cond b (first_role (gate_at gates (get_or places t 0))) (last_role (gate_at gates (get_or places t 0)))) tests
      ∙ (ap (λ (r : Role). cond (first_wire (gate_at (p0 ∷ gs) t) == w) r (last_role (gate_at gates (get_or places t 0)))) (same_first_role (gate_at gates (get_or places t 0)) (gate_at (p0 ∷ gs) t) kind)
      ∙ ap (λ (r : Role). cond (first_wire (gate_at (p0 ∷ gs) t) == w) (first_role (gate_at (p0 ∷ gs) t)) r) (same_last_role (gate_at gates (get_or places t 0)) (gate_at (p0 ∷ gs) t) kind))

  -- the next gate on the wire isn't behind a chosen one
  next_upto : (n from t : ℕ) → t < length (p0 ∷ gs) → uses w (gate_at (p0 ∷ gs) t) ≡ true →
      IsNextOn gates W from n → from ≤ get_or places t 0 → n ≤ get_or places t 0
  next_upto n from t below used next upto = by (cases_order n (get_or places t 0))
    where
      by : (n ≡ get_or places t 0) ⊎ ((n < get_or places t 0) ⊎ (get_or places t 0 < n)) → n ≤ get_or places t 0
      by (inl same) = omega arith
      by (inr (inl less)) = omega arith
      by (inr (inr more)) = absurd (next.none (get_or places t 0) upto more (full.inside t below) (touched_at t below used))

  -- a gate on the wire that isn't one of the pattern's there isn't chosen
  passed_over : (n : ℕ) → Touches (gate_at gates n) W →
      ((t : ℕ) → t < length (p0 ∷ gs) → uses w (gate_at (p0 ∷ gs) t) ≡ true → get_or places t 0 ≢ n) → IsPassed places (length (p0 ∷ gs)) n
  passed_over n touches other t below same = by (uses w (gate_at (p0 ∷ gs) t)) refl
    where
      by : (b : Bool) → uses w (gate_at (p0 ∷ gs) t) ≡ b → ⊥
      by true used = other t below used same
      by false unused = untouched_at t below unused (subst (λ (p : ℕ). Touches (gate_at gates p) W) (sym same) touches)

  -- so it may be passed over by the chosen ones before it
  may_move : (n a t : ℕ) (what : Seen) → a < length (p0 ∷ gs) → t < length (p0 ∷ gs) → n < length gates → get_or places a 0 < n → n < get_or places t 0 →
      Touches (gate_at gates n) W → uses w (gate_at (p0 ∷ gs) a) ≡ true → IsPassed places (length (p0 ∷ gs)) n →
      IsSeenAt gates W n what → may_pass what (role_on w (gate_at (p0 ∷ gs) a)) ≡ true
  may_move n a t seen.Nothing a_below t_below inside more less touches used passed is = (let past : length gates ≤ n = is in absurd (omega arith))
  may_move n a t seen.Unclear a_below t_below inside more less touches used passed is = refl
  may_move n a t (seen.Plays own) a_below t_below inside more less touches used passed is =
      ap (λ (r : Role). agree (role_on w (gate_at (p0 ∷ gs) a)) r) is.0
      ∙ (ap (λ (r : Role). agree r (role_on W (gate_at gates n))) (sym (same_role_at a a_below))
      ∙ commuting_agree (gate_at gates (get_or places a 0)) (gate_at gates n) W (clear_at a a_below) is.1
      (full.clear t t_below a n a_below passed more less) (touched_at a a_below used) touches)

  may_stand : (n t : ℕ) (what : Seen) → t < length (p0 ∷ gs) → n ≡ get_or places t 0 → IsSeenAt gates W n what →
      may_be what (role_on w (gate_at (p0 ∷ gs) t)) ≡ true
  may_stand n t seen.Nothing below same is = (let past : length gates ≤ n = is in let inside : get_or places t 0 < length gates = full.inside t below in absurd (omega arith))
  may_stand n t seen.Unclear below same is = refl
  may_stand n t (seen.Plays own) below same is =
      eq-eqb (role_number own) (role_number (role_on w (gate_at (p0 ∷ gs) t)))
      (ap role_number (is.0 ∙ (ap (λ (p : ℕ). role_on W (gate_at gates p)) same ∙ same_role_at t below)))

  module _ (lane : LaneView) (is : IsLaneOn gates W (get_or places 0 0) lane) where
    start_role : role_on W (gate_at gates (get_or places 0 0)) ≡ role_on w p0
    start_role = same_role_at 0 (omega arith)

    rise : (t : ℕ) → 0 < t → t < length (p0 ∷ gs) → get_or places 0 0 < get_or places t 0
    rise t some below = full.rising 0 t some below

    -- the next gate of the pattern on the wire isn't behind the first gate that can't be passed
    module _ (t : ℕ) (t_below : t < length (p0 ∷ gs)) (t_some : 0 < t) (t_used : uses w (gate_at (p0 ∷ gs) t) ≡ true)
        (t_before : (s : ℕ) → 0 < s → s < t → uses w (gate_at (p0 ∷ gs) s) ≡ false) where
      others : (m : ℕ) → get_or places 0 0 < m → m < get_or places t 0 → (s : ℕ) → s < length (p0 ∷ gs) → uses w (gate_at (p0 ∷ gs) s) ≡ true → get_or places s 0 ≢ m
      others m more less s below used same = by (cases_order s 0) (cases_order s t)
        where
          by : (s ≡ 0) ⊎ ((s < 0) ⊎ (0 < s)) → (s ≡ t) ⊎ ((s < t) ⊎ (t < s)) → ⊥
          by (inl zeroth) _ = (let e : get_or places s 0 ≡ get_or places 0 0 = ap (λ (k : ℕ). get_or places k 0) zeroth in omega arith)
          by (inr (inl none)) _ = omega arith
          by (inr (inr some)) (inl last) = (let e : get_or places s 0 ≡ get_or places t 0 = ap (λ (k : ℕ). get_or places k 0) last in omega arith)
          by (inr (inr some)) (inr (inl lower)) = (let clash : true ≡ false = sym used ∙ t_before s some lower in cc)
          by (inr (inr some)) (inr (inr higher)) = (let r : get_or places t 0 < get_or places s 0 = full.rising t s higher below in omega arith)

      not_behind : is.near < get_or places t 0 → ⊥
      not_behind less = by lane.near refl
        where
          inside : is.near < length gates
          inside = (let i : get_or places t 0 < length gates = full.inside t t_below in omega arith)

          more : get_or places 0 0 < is.near
          more = (let a : is.from ≤ is.near = is.first.next.ahead in let b : get_or places 0 0 < is.from = is.behind in omega arith)

          touches : Touches (gate_at gates is.near) W
          touches = is.first.next.uses inside

          moves : (what : Seen) → lane.near ≡ what → may_pass what (role_on w p0) ≡ true
          moves what same =
              may_move is.near 0 t what (omega arith) t_below inside more less touches first_used (passed_over is.near touches (others is.near more less))
              (subst (λ (s : Seen). IsSeenAt gates W is.near s) same is.first.is)

          by : (what : Seen) → lane.near ≡ what → ⊥
          by seen.Nothing same = (let clash : false ≡ true = moves seen.Nothing same in absurd (cc))
          by seen.Unclear same = is.told same
          by (seen.Plays own) same =
              let yes : agree (role_on w p0) own ≡ true = moves (seen.Plays own) same in
              let no : agree (role_on w p0) own ≡ false =
              subst (λ (r : Role). agree r own ≡ false) start_role
              (subst (λ (s : Seen). passes_over (seen.Plays (role_on W (gate_at gates (get_or places 0 0)))) s ≡ false) same is.stuck) in
              let clash : true ≡ false = sym yes ∙ no in absurd (cc)

      t_touches : Touches (gate_at gates (get_or places t 0)) W
      t_touches = touched_at t t_below t_used

      -- it is passed,
      passes : get_or places t 0 < is.near → (agree (role_on w p0) (role_on w (gate_at (p0 ∷ gs) t)) ≡ true) × (has_passed lane (role_on w (gate_at (p0 ∷ gs) t)) ≡ true)
      passes less =
          let inside = full.inside t t_below in (
            subst (λ (r : Role). agree (role_on w p0) r ≡ true) (same_role_at t t_below)
                (subst (λ (r : Role). agree r (role_on W (gate_at gates (get_or places t 0))) ≡ true) start_role (is.passed.along (get_or places t 0) (rise t t_some t_below) less inside t_touches)),
            subst (λ (r : Role). has_passed lane r ≡ true) (same_role_at t t_below) (is.passed.noted (get_or places t 0) (rise t t_some t_below) less inside t_touches),
          )

      -- or it is that one
      stays : is.near ≡ get_or places t 0 → (agree (role_on w p0) (role_on w (gate_at (p0 ∷ gs) t)) ≡ false) × (may_be lane.near (role_on w (gate_at (p0 ∷ gs) t)) ≡ true)
      stays here = (by lane.near refl, may_stand is.near t lane.near t_below here is.first.is)
        where
          by : (what : Seen) → lane.near ≡ what → agree (role_on w p0) (role_on w (gate_at (p0 ∷ gs) t)) ≡ false
          by seen.Nothing same =
              absurd (let past : length gates ≤ is.near = subst (λ (s : Seen). IsSeenAt gates W is.near s) same is.first.is in
              let inside : get_or places t 0 < length gates = full.inside t t_below in omega arith)
          by seen.Unclear same = absurd (is.told same)
          by (seen.Plays own) same =
              let at = subst (λ (s : Seen). IsSeenAt gates W is.near s) same is.first.is in
              let role : own ≡ role_on w (gate_at (p0 ∷ gs) t) = at.0 ∙ (ap (λ (p : ℕ). role_on W (gate_at gates p)) here ∙ same_role_at t t_below) in
              subst (λ (r : Role). agree (role_on w p0) r ≡ false) role
              (subst (λ (r : Role). agree r own ≡ false) start_role
              (subst (λ (s : Seen). passes_over (seen.Plays (role_on W (gate_at gates (get_or places 0 0)))) s ≡ false) same is.stuck))

      -- and then the one after it stands right behind
      goes : is.near ≡ get_or places t 0 → (u : ℕ) → t < u → u < length (p0 ∷ gs) → uses w (gate_at (p0 ∷ gs) u) ≡ true →
          ((s : ℕ) → t < s → s < u → uses w (gate_at (p0 ∷ gs) s) ≡ false) → may_be lane.far (role_on w (gate_at (p0 ∷ gs) u)) ≡ true
      goes here u above u_below u_used u_before = by (cases_order is.far (get_or places u 0))
        where
          inside : is.near < length gates
          inside = (let i : get_or places t 0 < length gates = full.inside t t_below in omega arith)

          later : IsSeenNext gates W (is.near + 1) is.far lane.far
          later = is.second inside

          rise_on : get_or places t 0 < get_or places u 0
          rise_on = full.rising t u above u_below

          apart : is.far < get_or places u 0 → get_or places t 0 < is.far → (s : ℕ) → s < length (p0 ∷ gs) → uses w (gate_at (p0 ∷ gs) s) ≡ true → get_or places s 0 ≢ is.far
          apart less behind s below used same = at (cases_order s t) (cases_order s u)
            where
              at : (s ≡ t) ⊎ ((s < t) ⊎ (t < s)) → (s ≡ u) ⊎ ((s < u) ⊎ (u < s)) → ⊥
              at (inl same_t) _ = (let e : get_or places s 0 ≡ get_or places t 0 = ap (λ (k : ℕ). get_or places k 0) same_t in omega arith)
              at (inr (inl lower)) _ = (let r : get_or places s 0 < get_or places t 0 = full.rising s t lower t_below in omega arith)
              at (inr (inr higher)) (inl same_u) = (let e : get_or places s 0 ≡ get_or places u 0 = ap (λ (k : ℕ). get_or places k 0) same_u in omega arith)
              at (inr (inr higher)) (inr (inl lower)) = (let clash : true ≡ false = sym used ∙ u_before s higher lower in cc)
              at (inr (inr higher)) (inr (inr beyond)) = (let r : get_or places u 0 < get_or places s 0 = full.rising u s beyond below in omega arith)

          over : is.far < get_or places u 0 → (what : Seen) → lane.far ≡ what → may_be what (role_on w (gate_at (p0 ∷ gs) u)) ≡ true
          over less what same = of_it what same
            where
              ahead : is.near + 1 ≤ is.far
              ahead = later.next.ahead

              far_inside : is.far < length gates
              far_inside = (let i : get_or places u 0 < length gates = full.inside u u_below in omega arith)

              stands_behind : get_or places t 0 < is.far
              stands_behind = (let a : is.near + 1 ≤ is.far = ahead in let e : is.near ≡ get_or places t 0 = here in omega arith)

              touches : Touches (gate_at gates is.far) W
              touches = later.next.uses far_inside

              passed : IsPassed places (length (p0 ∷ gs)) is.far
              passed = passed_over is.far touches (apart less stands_behind)

              seen_as : (s : Seen) → lane.far ≡ s → IsSeenAt gates W is.far s
              seen_as s e = subst (λ (x : Seen). IsSeenAt gates W is.far x) e later.is

              of_it : (s : Seen) → lane.far ≡ s → may_be s (role_on w (gate_at (p0 ∷ gs) u)) ≡ true
              of_it seen.Unclear e = refl
              of_it seen.Nothing e = absurd (let past : length gates ≤ is.far = seen_as seen.Nothing e in omega arith)
              of_it (seen.Plays own) e =
                  let r : get_or places 0 0 < get_or places t 0 = rise t t_some t_below in
                  let b : get_or places t 0 < is.far = stands_behind in
                  let first_over : agree (role_on w p0) own ≡ true =
                  may_move is.far 0 u (seen.Plays own) (omega arith) u_below far_inside (omega arith) less touches first_used passed (seen_as (seen.Plays own) e) in
                  let next_over : agree (role_on w (gate_at (p0 ∷ gs) t)) own ≡ true =
                  may_move is.far t u (seen.Plays own) t_below u_below far_inside stands_behind less touches t_used passed (seen_as (seen.Plays own) e) in
                  let clash : true ≡ false = sym (apart_roles (role_on w p0) (role_on w (gate_at (p0 ∷ gs) t)) own first_over next_over) ∙ (stays here).0 in
                  absurd (cc)

          by : (is.far ≡ get_or places u 0) ⊎ ((is.far < get_or places u 0) ⊎ (get_or places u 0 < is.far)) → may_be lane.far (role_on w (gate_at (p0 ∷ gs) u)) ≡ true
          by (inl same) = may_stand is.far u lane.far u_below same later.is
          by (inr (inl less)) = over less lane.far refl
          by (inr (inr more)) =
              absurd (let r : get_or places t 0 < get_or places u 0 = rise_on in
              let e : is.near ≡ get_or places t 0 = here in later.next.none (get_or places u 0) (omega arith) more (full.inside u u_below) (touched_at u u_below u_used))

    by_lane : (roles : List Role) → roles_on w gs ≡ roles → admits_lane (role_on w p0) roles lane ≡ true
    by_lane [] none = refl
    by_lane (next ∷ rest) some = by (cases_order is.near (get_or places (suc leads.at) 0))
      where
        leads : LeadsAt w gs next rest
        leads = leads_at w gs next rest some

        t_below : suc leads.at < length (p0 ∷ gs)
        t_below = (let b : leads.at < length gs = leads.below in omega arith)

        before : (s : ℕ) → 0 < s → s < suc leads.at → uses w (gate_at (p0 ∷ gs) s) ≡ false
        before zero some less = absurd (omega arith)
        before (suc s) some less = leads.before s (omega arith)

        by_next : (b : Bool) → agree (role_on w p0) next ≡ b → cond b (has_passed lane next) (may_be lane.near next && may_lead lane.far rest) ≡ true →
            cond (agree (role_on w p0) next) (has_passed lane next) (may_be lane.near next && may_lead lane.far rest) ≡ true
        by_next b is_so holds = ap (λ (x : Bool). cond x (has_passed lane next) (may_be lane.near next && may_lead lane.far rest)) is_so ∙ holds

        more_goes : is.near ≡ get_or places (suc leads.at) 0 → (roles : List Role) → roles_on w (drop (leads.at + 1) gs) ≡ roles → may_lead lane.far roles ≡ true
        more_goes here [] none = refl
        more_goes here (later ∷ others) some =
            subst (λ (r : Role). may_be lane.far r ≡ true) role_is
            (goes (suc leads.at) t_below (omega arith) leads.used before here (suc (leads.at + 1 + behind.at)) (omega arith) u_below u_used u_before)
          where
            behind : LeadsAt w (drop (leads.at + 1) gs) later others
            behind = leads_at w (drop (leads.at + 1) gs) later others some

            there : (j : ℕ) → gate_at (drop (leads.at + 1) gs) j ≡ gate_at (p0 ∷ gs) (suc (leads.at + 1 + j))
            there j = get_or-drop (leads.at + 1) gs j _

            u_below : suc (leads.at + 1 + behind.at) < length (p0 ∷ gs)
            u_below = (let b : behind.at < length (drop (leads.at + 1) gs) = behind.below in let l : leads.at < length gs = leads.below in omega (arith, length-drop (leads.at + 1) gs))

            u_used : uses w (gate_at (p0 ∷ gs) (suc (leads.at + 1 + behind.at))) ≡ true
            u_used = ap (uses w) (sym (there behind.at)) ∙ behind.used

            role_is : role_on w (gate_at (p0 ∷ gs) (suc (leads.at + 1 + behind.at))) ≡ later
            role_is = ap (role_on w) (sym (there behind.at)) ∙ behind.is

            u_before : (s : ℕ) → suc leads.at < s → s < suc (leads.at + 1 + behind.at) → uses w (gate_at (p0 ∷ gs) s) ≡ false
            u_before s more less =
                let e : suc (leads.at + 1 + (s - (leads.at + 2))) ≡ s = omega arith in
                ap (λ (k : ℕ). uses w (gate_at (p0 ∷ gs) k)) (sym e)
                ∙ (ap (uses w) (sym (there (s - (leads.at + 2)))) ∙ behind.before (s - (leads.at + 2)) (omega arith))

        by : (is.near ≡ get_or places (suc leads.at) 0) ⊎ ((is.near < get_or places (suc leads.at) 0) ⊎ (get_or places (suc leads.at) 0 < is.near)) →
            cond (agree (role_on w p0) next) (has_passed lane next) (may_be lane.near next && may_lead lane.far rest) ≡ true
        by (inl here) =
            let both = stays (suc leads.at) t_below (omega arith) leads.used before here in
            by_next false (subst (λ (r : Role). agree (role_on w p0) r ≡ false) leads.is both.0)
            (both_true (subst (λ (r : Role). may_be lane.near r ≡ true) leads.is both.1) (more_goes here rest leads.behind))
        by (inr (inl less)) = absurd (not_behind (suc leads.at) t_below (omega arith) leads.used before less)
        by (inr (inr more)) =
            let both = passes (suc leads.at) t_below (omega arith) leads.used before more in
            by_next true (subst (λ (r : Role). agree (role_on w p0) r ≡ true) leads.is both.0)
            (subst (λ (r : Role). has_passed lane r ≡ true) leads.is both.1)

    -- the roles of the pattern's gates on the wire are admitted by the lane
    pub match_admits_lane : admits_lane (role_on w p0) (roles_on w gs) lane ≡ true
    match_admits_lane = by_lane (roles_on w gs) refl
