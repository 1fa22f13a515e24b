-- What stands behind a start on a wire, in all slots that look alike.
use Rattle.std.proofs.Common.{◌≡◌, ◌≢◌, ℕ, ◌+◌, ◌<◌, ◌≤◌, Bool, true, false, ◌&&◌, ◌||◌, ◌==◌, ◌⊎◌, inl, inr, List, length, refl, sym, ap, subst, ◌∙◌, eq-eqb, arith}
use Rattle.std.proofs.lemmas.Bool.{cases_order}
use Rattle.pq_gate.specs.declared.gate.Gate.{Gate}
use Rattle.pq_gate.specs.declared.role.Axis.{Axis}
use Rattle.pq_gate.specs.declared.role.Axis.TheVariants as axis
use Rattle.pq_gate.specs.declared.role.Role.{Role}
use Rattle.pq_gate.specs.Commuting.{Touches}
use Rattle.pq_gate.specs.Role.{role_number, acts_along}
use Rattle.pq_rules.specs.declared.seen.Seen.{Seen}
use Rattle.pq_rules.specs.declared.seen.Seen.TheVariants as seen
use Rattle.pq_rules.specs.Lanes.{LaneView, has_passed, any_lane, passes_over, ended}
use Rattle.pq_rules.specs.Seen.{role_on, agree, seen_number}
use Rattle.pq_links.specs.Links.{IsNextOn}
use Rattle.pq_links.specs.Slots.{no_wire}
use Rattle.pq_match.specs.declared.looked.Looked.{Looked}
use Rattle.pq_match.specs.Ahead.{ArePassed, IsSeenNext, IsLaneOn, IsLaneAlike, IsEndedAt}
use Rattle.pq_match.specs.Redex.{gate_at}
use Rattle.pq_match.specs.Seek.{IsMarked, LooksAtMore, LookAlike, IsSeenAt}
use Rattle.pq_match.proofs.LookingAlike.{alike_less, as_long}
use Rattle.pq_match.proofs.Roles.{or_first, or_second}
use Rattle.pq_match.proofs.SeekRow.{next_alike, seen_alike}

-- a walk along the wire from the start came to this place
pub record IsWalkedTo (slots : List Gate) (wire start place : ℕ) : Type 0 where
  pub from : ℕ
  pub behind : start < from
  pub next : IsNextOn slots wire from place

pub walk_begins : {slots : List Gate} {wire start place : ℕ} → IsNextOn slots wire (start + 1) place → IsWalkedTo slots wire start place
walk_begins {slots} {wire} {start} {place} next = record { from = start + 1; behind = omega arith; next = next }

pub walk_goes_on : {slots : List Gate} {wire start place more : ℕ} → IsWalkedTo slots wire start place → IsNextOn slots wire (place + 1) more → IsWalkedTo slots wire start more
walk_goes_on {slots} {wire} {start} {place} {more} walked next = record {
  from = place + 1;
  behind = (let a : walked.from ≤ place = walked.next.ahead in let b : start < walked.from = walked.behind in omega arith);
  next = next;
}

-- up to the next place on the wire none is passed,
pub none_passed : {slots : List Gate} {wire start place : ℕ} (lane : LaneView) → IsNextOn slots wire (start + 1) place → ArePassed slots wire start place lane
none_passed {slots} {wire} {start} {place} lane next = record {
  along = λ p more less inside touches. absurd (next.none p (omega arith) less inside touches);
  noted = λ p more less inside touches. absurd (next.none p (omega arith) less inside touches);
}

neither : (a b : Bool) → ((a && false) || (b && false)) ≡ true → ⊥
neither true true is = cc
neither true false is = cc
neither false true is = cc
neither false false is = cc

-- and up to the one behind it that one is, where it may be
pub passed_more : {slots : List Gate} {wire start place more : ℕ} {old new : LaneView} (what : Seen) → ArePassed slots wire start place old → IsSeenAt slots wire place what →
    passes_over (seen.Plays (role_on wire (gate_at slots start))) what ≡ true → ((role : Role) → has_passed new role ≡ ((role_number role == seen_number what) || has_passed old role)) →
    IsNextOn slots wire (place + 1) more → ArePassed slots wire start more new
passed_more {slots} {wire} {start} {place} {more} {old} {new} what before is passes noted next = record {
  along = λ p above less inside touches. along p above less inside touches (cases_order p place);
  noted = λ p above less inside touches. kept p above less inside touches (cases_order p place);
}
  where
    along_first : Axis → Bool
    along_first a = acts_along a (role_on wire (gate_at slots start))

    both : (s : Seen) → IsSeenAt slots wire place s → passes_over (seen.Plays (role_on wire (gate_at slots start))) s ≡ true →
        (agree (role_on wire (gate_at slots start)) (role_on wire (gate_at slots place)) ≡ true) × (role_number (role_on wire (gate_at slots place)) ≡ seen_number s)
    both seen.Nothing at may = absurd (neither (along_first axis.Z) (along_first axis.X) may)
    both seen.Unclear at may = absurd (neither (along_first axis.Z) (along_first axis.X) may)
    both (seen.Plays own) at may =
        (subst (λ (r : Role). agree (role_on wire (gate_at slots start)) r ≡ true) at.0 may, ap role_number (sym at.0))

    here : (agree (role_on wire (gate_at slots start)) (role_on wire (gate_at slots place)) ≡ true) × (role_number (role_on wire (gate_at slots place)) ≡ seen_number what)
    here = both what is passes

    along : (p : ℕ) → start < p → p < more → p < length slots → Touches (gate_at slots p) wire → (p ≡ place) ⊎ ((p < place) ⊎ (place < p)) →
        agree (role_on wire (gate_at slots start)) (role_on wire (gate_at slots p)) ≡ true
    along p above less inside touches (inl same) = subst (λ (q : ℕ). agree (role_on wire (gate_at slots start)) (role_on wire (gate_at slots q)) ≡ true) (sym same) here.0
    along p above less inside touches (inr (inl lower)) = before.along p above lower inside touches
    along p above less inside touches (inr (inr higher)) = absurd (next.none p (omega arith) less inside touches)

    kept : (p : ℕ) → start < p → p < more → p < length slots → Touches (gate_at slots p) wire → (p ≡ place) ⊎ ((p < place) ⊎ (place < p)) →
        has_passed new (role_on wire (gate_at slots p)) ≡ true
    kept p above less inside touches (inl same) =
        subst (λ (q : ℕ). has_passed new (role_on wire (gate_at slots q)) ≡ true) (sym same)
        (noted (role_on wire (gate_at slots place))
        ∙ or_first (has_passed old (role_on wire (gate_at slots place))) (eq-eqb (role_number (role_on wire (gate_at slots place))) (seen_number what) here.1))
    kept p above less inside touches (inr (inl lower)) =
        noted (role_on wire (gate_at slots p)) ∙ or_second (role_number (role_on wire (gate_at slots p)) == seen_number what) (before.noted p above lower inside touches)
    kept p above less inside touches (inr (inr higher)) = absurd (next.none p (omega arith) less inside touches)

-- what is seen on a marked wire and was looked at is seen in all slots that look alike
module _ {slots other : List Gate} {start : ℕ} {looked : Looked} (alike : LookAlike start looked slots other) {wire : ℕ} (marked : IsMarked looked.mask wire) where
  seen_next_alike : {from place : ℕ} {what : Seen} → start < from → place < looked.reach ⊎ (length slots < looked.reach) → IsSeenNext slots wire from place what → IsSeenNext other wire from place what
  seen_next_alike {from} {place} {what} behind near is = record {
    next = next_alike alike marked behind near is.next;
    is = seen_alike alike marked behind near is.next what is.is;
  }

  passed_alike : {place : ℕ} {lane : LaneView} → place < looked.reach ⊎ (length slots < looked.reach) → ArePassed slots wire start place lane → ArePassed other wire start place lane
  passed_alike {place} {lane} near passed = record { along = along; noted = noted }
    where
      below : (p : ℕ) → p < place → p < length other → place < looked.reach ⊎ (length slots < looked.reach) → p < looked.reach
      below p less inside (inl is) = omega arith
      below p less inside (inr whole) = (let long : length slots ≡ length other = as_long alike whole in omega arith)

      along : (p : ℕ) → start < p → p < place → p < length other → Touches (gate_at other p) wire → agree (role_on wire (gate_at other start)) (role_on wire (gate_at other p)) ≡ true
      along p more less inside touches =
          let reached = below p less inside near in
          let same : gate_at slots p ≡ gate_at other p = alike.same p wire more reached marked (inr touches) in
          subst (λ (g : Gate). agree (role_on wire g) (role_on wire (gate_at other p)) ≡ true) alike.first
          (subst (λ (g : Gate). agree (role_on wire (gate_at slots start)) (role_on wire g) ≡ true) same
          (passed.along p more less ((alike.long p reached).1 inside) (subst (λ (g : Gate). Touches g wire) (sym same) touches)))

      noted : (p : ℕ) → start < p → p < place → p < length other → Touches (gate_at other p) wire → has_passed lane (role_on wire (gate_at other p)) ≡ true
      noted p more less inside touches =
          let reached = below p less inside near in
          let same : gate_at slots p ≡ gate_at other p = alike.same p wire more reached marked (inr touches) in
          subst (λ (g : Gate). has_passed lane (role_on wire g) ≡ true) same
          (passed.noted p more less ((alike.long p reached).1 inside) (subst (λ (g : Gate). Touches g wire) (sym same) touches))

-- A walk that came to a gate that the start can't pass, or to the end, knows the lane.
pub lane_known : {slots : List Gate} {wire start place : ℕ} {looked : Looked} {old new : LaneView} (near : Seen) → wire ≢ no_wire → IsWalkedTo slots wire start place →
    ArePassed slots wire start place old → IsSeenAt slots wire place near → passes_over (seen.Plays (role_on wire (gate_at slots start))) near ≡ false →
    IsEndedAt slots wire place near looked old new → IsLaneAlike slots wire start looked new
lane_known {slots} {wire} {start} {place} {looked} {old} {new} near own walked passed is stuck ends = record { all = λ other are alike. by other alike near refl }
  where
    marked : IsMarked looked.mask wire
    marked = (own, ends.marked)

    later : (other : List Gate) → LookAlike start looked slots other → place < length other → IsSeenNext other wire (place + 1) ends.far ends.behind
    later other alike inside = at ends.near_in
      where
        before : start < place + 1
        before = (let a : walked.from ≤ place = walked.next.ahead in let b : start < walked.from = walked.behind in omega arith)

        in_slots : place < looked.reach ⊎ (length slots < looked.reach) → place < length slots
        in_slots (inl reached) = (alike.long place reached).1 inside
        in_slots (inr whole) = (let long : length slots ≡ length other = as_long alike whole in omega arith)

        at : place < looked.reach ⊎ (length slots < looked.reach) → IsSeenNext other wire (place + 1) ends.far ends.behind
        at reached = seen_next_alike alike marked before ends.far_in (ends.second (in_slots reached))

    lane_of : (other : List Gate) → LookAlike start looked slots other → (what : Seen) → near ≡ what → what ≢ seen.Unclear →
        IsLaneOn other wire start (record { passed = old.passed; near = what; far = ends.behind })
    lane_of other alike what same told =
        let first = seen_next_alike alike marked walked.behind ends.near_in (record { next = walked.next; is = subst (λ (s : Seen). IsSeenAt slots wire place s) same is }) in
        let before = passed_alike alike marked ends.near_in passed in
        record {
          from = walked.from;
          near = place;
          far = ends.far;
          behind = walked.behind;
          passed = record { along = before.along; noted = before.noted };
          first = first;
          told = told;
          stuck = subst (λ (g : Gate). passes_over (seen.Plays (role_on wire g)) what ≡ false) alike.first
              (subst (λ (s : Seen). passes_over (seen.Plays (role_on wire (gate_at slots start))) s ≡ false) same stuck);
          second = later other alike;
        }

    by : (other : List Gate) → LookAlike start looked slots other → (what : Seen) → near ≡ what → (new ≡ any_lane) ⊎ IsLaneOn other wire start new
    by other alike seen.Unclear same = inl (ends.lane ∙ ap (λ (s : Seen). ended old s ends.behind) same)
    by other alike seen.Nothing same =
        inr (subst (IsLaneOn other wire start) (sym (ends.lane ∙ ap (λ (s : Seen). ended old s ends.behind) same)) (lane_of other alike seen.Nothing same (λ e. absurd (cc))))
    by other alike (seen.Plays played) same =
        inr (subst (IsLaneOn other wire start) (sym (ends.lane ∙ ap (λ (s : Seen). ended old s ends.behind) same)) (lane_of other alike (seen.Plays played) same (λ e. absurd (cc))))

never : (a b : Bool) → ((a && false) || (b && false)) ≡ false
never true true = refl
never true false = refl
never false true = refl
never false false = refl

pub lane_to_end : {slots : List Gate} {wire start place : ℕ} {looked : Looked} {old new : LaneView} (near : Seen) → near ≡ seen.Nothing → wire ≢ no_wire → IsWalkedTo slots wire start place →
    ArePassed slots wire start place old → length slots ≤ place → IsEndedAt slots wire place near looked old new → IsLaneAlike slots wire start looked new
lane_to_end {slots} {wire} {start} {place} near is own walked passed past ends =
    lane_known near own walked passed (subst (IsSeenAt slots wire place) (sym is) past)
    (subst (λ (s : Seen). passes_over (seen.Plays (role_on wire (gate_at slots start))) s ≡ false) (sym is)
    (never (acts_along axis.Z (role_on wire (gate_at slots start))) (acts_along axis.X (role_on wire (gate_at slots start)))))
    ends

-- where nothing is told,
pub any_alike : (slots : List Gate) (wire start : ℕ) (looked : Looked) → IsLaneAlike slots wire start looked any_lane
any_alike slots wire start looked = record { all = λ other are alike. inl refl }

-- and where more was looked at
pub lane_more : {slots : List Gate} {wire start : ℕ} {less more : Looked} {lane : LaneView} → LooksAtMore less more → IsLaneAlike slots wire start less lane → IsLaneAlike slots wire start more lane
lane_more looks known = record { all = λ other are alike. known.all other are (alike_less looks alike) }
