-- The kinds of the gates on the first wire of the first gate of a match that it may be moved up to along that wire.
use Rattle.std.proofs.Common.{◌≡◌, ◌≢◌, ℕ, zero, suc, ◌+◌, ◌<◌, ◌≤◌, Bool, true, false, IsTrue, ◌↔◌, List, length, get_or, set, inl, inr, ◌⊎◌, sym, ap, subst, ◌∙◌, arith}
use Rattle.std.proofs.lemmas.Bool.{cases_order}
use Rattle.std.proofs.lemmas.Grind.{get_or-set_at}
use Rattle.std.proofs.lemmas.List.{length-set, get_or-set_other}
use Rattle.pq_gate.specs.declared.gate.Gate.{Gate}
use Rattle.pq_gate.specs.Commuting.{Touches, Commutes}
use Rattle.pq_gate.specs.declared.kind.TheConstants.{KINDS}
use Rattle.pq_gate.specs.Kind.{kind_of, number_of}
use Rattle.pq_gate.specs.Ports.{first_wire}
use Rattle.pq_match.specs.Redex.{gate_at}
use Rattle.pq_match.specs.Search.{AreAlike, IsPassed, IsFull, Begins, HasNoFull}
use Rattle.pq_match.specs.Within.{IsNear, HasKindsNear}
use Rattle.pq_match.proofs.SearchTouches.{use_alike, use_back}

-- the kinds of the gates on the wire behind the start and before the place are marked
pub record AreMarked (gates : List Gate) (start wire place : ℕ) (near : List Bool) : Type 0 where
  pub whole : length near ≡ KINDS
  pub seen : (p : ℕ) → start < p → p < place → Touches (gate_at gates p) wire → get_or near (number_of (kind_of (gate_at gates p))) false ≡ true

pub near_begins : (gates : List Gate) (start wire : ℕ) (near : List Bool) → length near ≡ KINDS → AreMarked gates start wire (start + 1) near
near_begins gates start wire near whole = record { whole = whole; seen = λ p more less. absurd (omega arith) }

-- a gate that doesn't use the wire,
pub near_passes : {gates : List Gate} {start wire place : ℕ} {near : List Bool} → AreMarked gates start wire place near →
    ¬ Touches (gate_at gates place) wire → AreMarked gates start wire (place + 1) near
near_passes {gates} {start} {wire} {place} {near} so_far unused = record { whole = so_far.whole; seen = λ p more less. by p more less (cases_order p place) }
  where
    by : (p : ℕ) → start < p → p < place + 1 → (p ≡ place) ⊎ ((p < place) ⊎ (place < p)) → Touches (gate_at gates p) wire →
        get_or near (number_of (kind_of (gate_at gates p))) false ≡ true
    by p more less (inl same) uses = absurd (unused (subst (λ (q : ℕ). Touches (gate_at gates q) wire) same uses))
    by p more less (inr (inl lower)) uses = so_far.seen p more lower uses
    by p more less (inr (inr higher)) uses = absurd (omega arith)

-- or one whose kind is put in
pub near_grows : {gates : List Gate} {start wire place : ℕ} {near : List Bool} {kind : ℕ} → AreMarked gates start wire place near →
    kind ≡ number_of (kind_of (gate_at gates place)) → kind < KINDS → AreMarked gates start wire (place + 1) (set near kind true)
near_grows {gates} {start} {wire} {place} {near} {kind} so_far is few = record {
  whole = length-set near kind true ∙ so_far.whole;
  seen = λ p more less. by p more less (cases_order p place);
}
  where
    put : (k : ℕ) → (k ≡ kind) ⊎ ((k < kind) ⊎ (kind < k)) → ((k ≢ kind) → get_or near k false ≡ true) → get_or (set near kind true) k false ≡ true
    put k (inl same) old = get_or-set_at near kind k true false same (let e : length near ≡ KINDS = so_far.whole in omega arith)
    put k (inr (inl less)) old = get_or-set_other near kind k true false (omega arith) ∙ old (omega arith)
    put k (inr (inr more)) old = get_or-set_other near kind k true false (omega arith) ∙ old (omega arith)

    by : (p : ℕ) → start < p → p < place + 1 → (p ≡ place) ⊎ ((p < place) ⊎ (place < p)) → Touches (gate_at gates p) wire →
        get_or (set near kind true) (number_of (kind_of (gate_at gates p))) false ≡ true
    by p more less (inl same) uses =
        let at : number_of (kind_of (gate_at gates p)) ≡ kind = ap (λ (q : ℕ). number_of (kind_of (gate_at gates q))) same ∙ sym is in
        put (number_of (kind_of (gate_at gates p))) (cases_order (number_of (kind_of (gate_at gates p))) kind) (λ other. absurd (other at))
    by p more less (inr (inl lower)) uses =
        put (number_of (kind_of (gate_at gates p))) (cases_order (number_of (kind_of (gate_at gates p))) kind) (λ other. so_far.seen p more lower uses)
    by p more less (inr (inr higher)) uses = absurd (omega arith)

-- Up to the first gate on the wire that doesn't commute with the gate at the start,
near_stops : {gates : List Gate} {start wire place end : ℕ} {near : List Bool} → wire ≡ first_wire (gate_at gates start) → AreMarked gates start wire (place + 1) near → start < place →
    Touches (gate_at gates place) wire → ¬ Commutes (gate_at gates start) (gate_at gates place) → HasKindsNear gates start end near
near_stops {gates} {start} {wire} {place} {end} {near} first so_far behind used stuck p next inside = by (cases_order p place)
  where
    uses : Touches (gate_at gates p) wire
    uses = subst (Touches (gate_at gates p)) (sym first) next.uses

    by : (p ≡ place) ⊎ ((p < place) ⊎ (place < p)) → get_or near (number_of (kind_of (gate_at gates p))) false ≡ true
    by (inl same) = so_far.seen p next.behind (omega arith) uses
    by (inr (inl less)) = so_far.seen p next.behind (omega arith) uses
    by (inr (inr more)) = absurd (stuck (next.commute place behind more (subst (Touches (gate_at gates place)) first used)))

-- whose kind is the last that is put in,
pub near_stops_at : {gates : List Gate} {start wire place end : ℕ} {near : List Bool} {kind : ℕ} {commuting : Bool} → wire ≡ first_wire (gate_at gates start) → AreMarked gates start wire place near →
    Touches (gate_at gates place) wire → kind ≡ number_of (kind_of (gate_at gates place)) → kind < KINDS → start < place →
    IsTrue commuting ↔ Commutes (gate_at gates start) (gate_at gates place) → commuting ≡ false → HasKindsNear gates start end (set near kind true)
near_stops_at first so_far used is few behind commuting stuck =
    near_stops first (near_grows so_far is few) behind used (λ alike. absurd (let yes = commuting.1 alike in cc))

-- or up to the end, these are all kinds.
pub near_ends : {gates : List Gate} {start wire place end : ℕ} {near : List Bool} → wire ≡ first_wire (gate_at gates start) → AreMarked gates start wire place near → end ≤ place →
    HasKindsNear gates start end near
near_ends {gates} {start} {wire} {place} {end} {near} first so_far ended p next inside =
    so_far.seen p next.behind (omega arith) (subst (Touches (gate_at gates p)) (sym first) next.uses)

-- A place is one of the first, or isn't.
stands_or_passed : (places : List ℕ) (count place : ℕ) → ((s : ℕ) × (s < count) × (get_or places s 0 ≡ place)) ⊎ IsPassed places count place
stands_or_passed places zero place = inr (λ s below. absurd (omega arith))
stands_or_passed places (suc count) place = by (cases_order (get_or places count 0) place) (stands_or_passed places count place)
  where
    here : ℕ → Type 0
    here n = (s : ℕ) × (s < n) × (get_or places s 0 ≡ place)

    passed : (get_or places count 0 ≢ place) → IsPassed places count place → IsPassed places (suc count) place
    passed last front s below same = at (cases_order s count)
      where
        at : (s ≡ count) ⊎ ((s < count) ⊎ (count < s)) → ⊥
        at (inl is) = last (ap (λ (k : ℕ). get_or places k 0) (sym is) ∙ same)
        at (inr (inl less)) = front s less same
        at (inr (inr more)) = absurd (omega arith)

    by : (get_or places count 0 ≡ place) ⊎ ((get_or places count 0 < place) ⊎ (place < get_or places count 0)) →
        (((s : ℕ) × (s < count) × (get_or places s 0 ≡ place)) ⊎ IsPassed places count place) →
        (((s : ℕ) × (s < suc count) × (get_or places s 0 ≡ place)) ⊎ IsPassed places (suc count) place)
    by (inl same) front = inl (count, omega arith, same)
    by other (inl stands) = (let less : stands.0 < count = stands.1 in inl (stands.0, omega arith, stands.2))
    by (inr (inl less)) (inr front) = inr (passed (omega arith) front)
    by (inr (inr more)) (inr front) = inr (passed (omega arith) front)

-- Where the next gate of the pattern on its first gate's first wire is of another kind, nothing begins at the start.
module _ (gates pattern : List Gate) (start end second : ℕ) (near : List Bool) (front : List ℕ) (at_start : get_or front 0 0 ≡ start)
    (are : HasKindsNear gates start end near)
    (behind : 0 < second) (below : second < length pattern)
    (others : (number : ℕ) → 0 < number → number < second → ¬ Touches (gate_at pattern number) (first_wire (gate_at pattern 0)))
    (uses : Touches (gate_at pattern second) (first_wire (gate_at pattern 0)))
    (unseen : get_or near (number_of (kind_of (gate_at pattern second))) false ≡ false) where
  module _ (other : List ℕ) (full : IsFull gates pattern end other) (begins : Begins front 1 other) where
    at_first : get_or other 0 0 ≡ start
    at_first = begins 0 (omega arith) ∙ at_start

    alike : (s : ℕ) → s < length pattern → AreAlike (gate_at pattern 0) (gate_at pattern s) (gate_at gates start) (gate_at gates (get_or other s 0))
    alike s s_below =
        subst (λ (p : ℕ). AreAlike (gate_at pattern 0) (gate_at pattern s) (gate_at gates p) (gate_at gates (get_or other s 0))) at_first
        ((full.fitting s s_below).wires 0 (omega arith))

    rise : start < get_or other second 0
    rise = (let r : get_or other 0 0 < get_or other second 0 = full.rising 0 second behind below in let e : get_or other 0 0 ≡ start = at_first in omega arith)

    -- the chosen gates before it don't use the wire
    chosen_apart : (s : ℕ) → 0 < s → s < second → ¬ Touches (gate_at gates (get_or other s 0)) (first_wire (gate_at gates start))
    chosen_apart s more less used =
        others s more less (use_back (gate_at pattern 0) (gate_at pattern s) (gate_at gates start) (gate_at gates (get_or other s 0)) (alike s (omega arith)) used)

    commuting : (q : ℕ) → start < q → q < get_or other second 0 → Touches (gate_at gates q) (first_wire (gate_at gates start)) →
        (((s : ℕ) × (s < length pattern) × (get_or other s 0 ≡ q)) ⊎ IsPassed other (length pattern) q) → Commutes (gate_at gates start) (gate_at gates q)
    commuting q more less used (inr passed) =
        subst (λ (p : ℕ). Commutes (gate_at gates p) (gate_at gates q)) at_first
        (full.clear second below 0 q (omega arith) passed (let e : get_or other 0 0 ≡ start = at_first in omega arith) less)
    commuting q more less used (inl stands) = absurd (between (cases_order stands.0 0) (cases_order stands.0 second))
      where
        between : (stands.0 ≡ 0) ⊎ ((stands.0 < 0) ⊎ (0 < stands.0)) → (stands.0 ≡ second) ⊎ ((stands.0 < second) ⊎ (second < stands.0)) → ⊥
        between (inl zeroth) _ =
            let f : get_or other stands.0 0 ≡ get_or other 0 0 = ap (λ (k : ℕ). get_or other k 0) zeroth in
            let g : get_or other stands.0 0 ≡ q = stands.2 in
            let h : get_or other 0 0 ≡ start = at_first in omega arith
        between (inr (inl low)) _ = absurd (omega arith)
        between (inr (inr positive)) (inl same) =
            let f : get_or other stands.0 0 ≡ get_or other second 0 = ap (λ (k : ℕ). get_or other k 0) same in
            let g : get_or other stands.0 0 ≡ q = stands.2 in omega arith
        between (inr (inr positive)) (inr (inl lower)) =
            chosen_apart stands.0 positive lower (subst (λ (p : ℕ). Touches (gate_at gates p) (first_wire (gate_at gates start))) (sym stands.2) used)
        between (inr (inr positive)) (inr (inr higher)) =
            let r : get_or other second 0 < get_or other stands.0 0 = full.rising second stands.0 higher stands.1 in
            let g : get_or other stands.0 0 ≡ q = stands.2 in omega arith

    stands_near : IsNear gates start (first_wire (gate_at gates start)) (get_or other second 0)
    stands_near = record {
      behind = rise;
      uses = use_alike (gate_at pattern 0) (gate_at pattern second) (gate_at gates start) (gate_at gates (get_or other second 0)) (alike second below) uses;
      commute = λ q more less used. commuting q more less used (stands_or_passed other (length pattern) q);
    }

    contradicts : ⊥
    contradicts =
        let yes : get_or near (number_of (kind_of (gate_at gates (get_or other second 0)))) false ≡ true = are (get_or other second 0) stands_near (full.inside second below) in
        let no : get_or near (number_of (kind_of (gate_at gates (get_or other second 0)))) false ≡ false =
        subst (λ (k : ℕ). get_or near k false ≡ false) (ap number_of (sym (full.fitting second below).kind)) unseen in
        let clash : true ≡ false = sym yes ∙ no in absurd (cc)

  pub none_near : HasNoFull gates pattern end front 1
  none_near = record { none = λ other full begins. contradicts other full begins }
