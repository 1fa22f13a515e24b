-- Rows are ruled out by what stands behind a start on the wires of its gate.
use Rattle.std.proofs.Common.{◌≡◌, ℕ, Bool, true, false, cond, ◌&&◌, ◌⊎◌, inl, inr, List, [], ◌∷◌, length, get_or, Option, Some, refl, sym, ap, subst, ◌∙◌, arith}
use Rattle.std.specs.List.{All}
use Rattle.pq_gate.specs.declared.gate.Eighths.TheVariants.{T, S, Z, Sdg, Tdg}
use Rattle.pq_gate.specs.declared.gate.Gate.{Gate}
use Rattle.pq_gate.specs.declared.role.Role.{Role}
use Rattle.pq_gate.specs.declared.role.Role.TheVariants as role
use Rattle.pq_gate.specs.Circuit.{IsCircuit}
use Rattle.pq_rules.specs.declared.seen.Seen.TheVariants as seen
use Rattle.pq_rules.specs.Kinds.{row_numbered}
use Rattle.pq_rules.specs.Lanes.{LaneView, has_passed, any_lane, may_lead, admits_lane, admits_lanes, admits_begin}
use Rattle.pq_rules.specs.Row.{RowView, IsSound}
use Rattle.pq_rules.specs.Seen.{role_on, roles_on, agree, may_be}
use Rattle.pq_links.specs.Slots.{AreSlots}
use Rattle.pq_links.specs.Wires.{wire_of}
use Rattle.pq_links.proofs.Touching.{touching}
use Rattle.pq_match.specs.declared.looked.Looked.{Looked}
use Rattle.pq_match.specs.Ahead.{IsLaneOn, IsLaneAlike}
use Rattle.pq_match.specs.Redex.{RedexView, IsRedex, gate_at}
use Rattle.pq_match.specs.Search.{IsFull}
use Rattle.pq_match.specs.Seek.{LooksAtMore, LookAlike, HasNoneAlike, StartsAt, IsRowAt}
use Rattle.pq_match.specs.Settled.{AreCandidates}
use Rattle.pq_match.proofs.LaneMatch.{match_admits_lane}
use Rattle.pq_match.proofs.LookingAlike.{alike_less}
use Rattle.pq_match.proofs.OneFirst.{last_inside, row_sound}
use Rattle.pq_match.proofs.Roles.{both_true, touched_used}
use Rattle.pq_match.proofs.SearchMatch.{match_full}
use Rattle.pq_match.proofs.SeekRow.{AreTriedAlike, none_tried_alike}

-- a lane of which nothing is told admits all roles
any_passed : (r : Role) → has_passed any_lane r ≡ true
any_passed role.H = refl
any_passed role.X = refl
any_passed role.Control = refl
any_passed role.Target = refl
any_passed (role.Phase T) = refl
any_passed (role.Phase S) = refl
any_passed (role.Phase Z) = refl
any_passed (role.Phase Sdg) = refl
any_passed (role.Phase Tdg) = refl

any_leads : (roles : List Role) → may_lead seen.Unclear roles ≡ true
any_leads [] = refl
any_leads (r ∷ roles) = refl

either_true : (b x y : Bool) → x ≡ true → y ≡ true → cond b x y ≡ true
either_true true x y p q = p
either_true false x y p q = q

any_admits : (first : Role) (roles : List Role) → admits_lane first roles any_lane ≡ true
any_admits first [] = refl
any_admits first (next ∷ rest) = either_true (agree first next) (has_passed any_lane next) (may_be seen.Unclear next && may_lead seen.Unclear rest) (any_passed next) (any_leads rest)

module _ (rules : List RowView) (slots : List Gate) (start : ℕ) (sound : All IsSound rules) (redex : RedexView) (is : IsRedex rules slots redex) (at : StartsAt start redex) where
  own : IsSound is.row
  own = row_sound rules redex.row is.row is.numbered sound

  -- a redex at the start is of a row that admits the lane on either wire
  admits_on : (one : Bool) (lane : LaneView) → (lane ≡ any_lane) ⊎ IsLaneOn slots (wire_of one (gate_at slots start)) start lane → (p0 : Gate) (gs : List Gate) → (p0 ∷ gs) ≡ is.row.pattern →
      admits_lane (role_on (wire_of one p0) p0) (roles_on (wire_of one p0) gs) lane ≡ true
  admits_on one lane (inl any) p0 gs same =
      ap (λ (l : LaneView). admits_lane (role_on (wire_of one p0) p0) (roles_on (wire_of one p0) gs) l) any ∙ any_admits (role_on (wire_of one p0) p0) (roles_on (wire_of one p0) gs)
  admits_on one lane (inr known) p0 gs same =
      match_admits_lane is.row.wires slots p0 gs redex.places (subst (IsCircuit is.row.wires) (sym same) own.same.left) full
      (wire_of one p0) (wire_of one (gate_at slots (get_or redex.places 0 0)))
      (λ t below. (full.fitting t below).wires 0 (omega arith) one) (touched_used (wire_of one p0) p0 (touching p0 one)) lane
      (subst (λ (s : ℕ). IsLaneOn slots (wire_of one (gate_at slots s)) s lane) (sym at) known)
    where
      full : IsFull slots (p0 ∷ gs) (length slots) redex.places
      full =
          subst (λ (xs : List Gate). IsFull slots xs (length slots) redex.places) (sym same)
          (match_full is.row.wires slots is.row.pattern redex.wires redex.places own.same.left is.wires is.matches is.free (length slots) (last_inside (length slots) redex.places is.matches.inside is.some))

  lanes_admit : (last first : LaneView) → (last ≡ any_lane) ⊎ IsLaneOn slots (wire_of true (gate_at slots start)) start last →
      (first ≡ any_lane) ⊎ IsLaneOn slots (wire_of false (gate_at slots start)) start first → (pattern : List Gate) → pattern ≡ is.row.pattern → admits_lanes pattern last first ≡ true
  lanes_admit last first last_is first_is [] same = refl
  lanes_admit last first last_is first_is (p0 ∷ gs) same = both_true (admits_on true last last_is p0 gs same) (admits_on false first first_is p0 gs same)

-- no redex of a row begins at the start that the lanes there don't admit
pub ruled_out : {rules : List RowView} {slots : List Gate} {start number : ℕ} {looked : Looked} {last first : LaneView} {result : Bool} → All IsSound rules →
    result ≡ admits_begin (row_numbered rules number) last first → result ≡ false →
    IsLaneAlike slots (wire_of true (gate_at slots start)) start looked last → IsLaneAlike slots (wire_of false (gate_at slots start)) start looked first →
    HasNoneAlike (IsRowAt number start) rules slots start looked
ruled_out {rules} {slots} {start} {number} {looked} {last} {first} {result} sound is ruled last_lane first_lane = record {
  none = λ other are alike. record { none = λ redex of_it at. never other are alike redex of_it at };
}
  where
    never : (other : List Gate) → AreSlots other → LookAlike start looked slots other → (redex : RedexView) → IsRedex rules other redex → IsRowAt number start redex → ⊥
    never other are alike redex of_it at =
        let yes : admits_lanes of_it.row.pattern last first ≡ true =
        lanes_admit rules other start sound redex of_it at.1 last first
        (subst (λ (g : Gate). (last ≡ any_lane) ⊎ IsLaneOn other (wire_of true g) start last) alike.first (last_lane.all other are alike))
        (subst (λ (g : Gate). (first ≡ any_lane) ⊎ IsLaneOn other (wire_of false g) start first) alike.first (first_lane.all other are alike))
        of_it.row.pattern refl in
        let row : row_numbered rules number ≡ Some of_it.row = ap (row_numbered rules) (sym at.0) ∙ of_it.numbered in
        let clash : true ≡ false = sym yes ∙ (sym (ap (λ (r : Option RowView). admits_begin r last first) row) ∙ (sym is ∙ ruled)) in
        absurd (cc)

-- before the first row is tried
pub none_tried_more : {rules : List RowView} {gates : List Gate} {start : ℕ} {less looked : Looked} {numbers : List ℕ} → LooksAtMore less looked → AreCandidates rules gates start less numbers →
    AreTriedAlike rules gates start looked numbers 0
none_tried_more looks candidates =
    none_tried_alike (record { rise = candidates.rise; all = λ other slots alike. candidates.all other slots (alike_less looks alike) })
