-- No redex begins at a start that is settled.
use Rattle.std.proofs.Common.{◌≡◌, ℕ, ◌+◌, ◌<◌, ◌≤◌, ◌⊎◌, inl, inr, List, [], ◌∷◌, length, get_or, refl, sym, ap, subst, arith}
use Rattle.std.specs.Prelude.{All}
use Rattle.std.proofs.lemmas.Bool.{cases_eq, cases_lt}
use Rattle.pq_gate.specs.declared.gate.Gate.{Gate}
use Rattle.pq_gate.specs.Kind.{kind_of, number_of}
use Rattle.pq_rules.specs.Row.{RowView, IsSound}
use Rattle.pq_rules.specs.Kinds.{numbers_where}
use Rattle.pq_rules.specs.Seen.{is_admitting}
use Rattle.pq_gate.specs.Ports.{last_wire}
use Rattle.pq_rules.specs.declared.seen.Seen.{Seen}
use Rattle.pq_links.specs.Links.{IsNextOn}
use Rattle.pq_links.specs.Slots.{free_slot, AreSlots}
use Rattle.pq_match.specs.Redex.{RedexView, IsRedex, gate_at}
use Rattle.pq_match.specs.First.{HasNoneAmong}
use Rattle.pq_match.specs.Seek.{StartsAt, IsSeenAt, HasFailed}
use Rattle.pq_match.specs.Waiting.{StartsView, IsWaiting, IsNotedFailed, noted, IsSameOf}
use Rattle.pq_match.specs.Settled.{StandsAt, AreCandidates, IsQuiet, IsStill, IsSettled, AreSettled}
use Rattle.pq_match.specs.declared.looked.Looked.{Looked}
use Rattle.pq_match.proofs.LookingAlike.{looks_alike}
use Rattle.pq_match.proofs.Roles.{both_true}
use Rattle.pq_match.proofs.SearchNumbers.{stands_where}
use Rattle.pq_match.proofs.SearchFrom.{begins_here}
use Rattle.pq_match.proofs.SeekRow.{row_admits}
use Rattle.pq_match.proofs.Starting.{NoneBelow}
use Rattle.pq_match.proofs.Taken.{none_at_free}

none_stands : (number : ℕ) (numbers : List ℕ) → numbers ≡ [] → StandsAt numbers number → ⊥
none_stands number numbers none stands = (let below : stands.at < length numbers = stands.below in let e : length numbers ≡ 0 = ap (λ (xs : List ℕ). length xs) none in omega arith)

pub none_quiet : (rules : List RowView) (slots : List Gate) (start : ℕ) → All IsSound rules → IsQuiet rules slots start → HasNoneAmong (StartsAt start) rules slots
none_quiet rules slots start sound quiet = record {
  none = λ redex is at.
      none_stands redex.row (numbers_where (is_admitting (number_of (kind_of (gate_at slots start))) quiet.near quiet.far) 1 rules) quiet.none
      (stands_where (is_admitting (number_of (kind_of (gate_at slots start))) quiet.near quiet.far) rules redex.row is.row is.numbered
      (both_true (begins_here rules slots start 0 redex is at)
      (row_admits rules slots start quiet.one quiet.other quiet.near quiet.far sound redex is at quiet.ahead.next quiet.ahead.behind quiet.ahead.near_is quiet.ahead.far_is)));
}

none_settled : (rules : List RowView) (slots : List Gate) (starts : StartsView) (start : ℕ) → All IsSound rules → AreSlots slots → IsSettled rules slots starts start →
    HasNoneAmong (StartsAt start) rules slots
none_settled rules slots starts start sound are (inl free) =
    let any : Looked = record { reach = 0; mask = 0 } in (none_at_free any sound free).none slots are looks_alike
none_settled rules slots starts start sound are (inr (inl quiet)) = none_quiet rules slots start sound quiet
none_settled rules slots starts start sound are (inr (inr failed)) = failed.failed.none.none slots are looks_alike

-- so none begins before the least one that waits
pub below_waiting : (rules : List RowView) (slots : List Gate) (starts : StartsView) (end : ℕ) → All IsSound rules → AreSlots slots → AreSettled rules slots starts →
    ((start : ℕ) → start < end → IsWaiting starts start → ⊥) → NoneBelow rules slots end
below_waiting rules slots starts end sound are settled asleep = record { none = λ redex is. by redex is (cases_lt (get_or redex.places 0 0) end) }
  where
    by : (redex : RedexView) → IsRedex rules slots redex → (get_or redex.places 0 0 < end) ⊎ (end ≤ get_or redex.places 0 0) → end ≤ get_or redex.places 0 0
    by redex is (inr behind) = behind
    by redex is (inl before) =
        let inside : get_or redex.places 0 0 < length slots = is.matches.inside 0 0 is.some in
        absurd ((none_settled rules slots starts (get_or redex.places 0 0) sound are
        (settled.settled (get_or redex.places 0 0) inside (asleep (get_or redex.places 0 0) before))).none redex is refl)

-- what is known of a start stays so where nothing else is noted of it
same_settled : (rules : List RowView) (slots : List Gate) (before after : StartsView) (start : ℕ) → IsSameOf start before after → IsSettled rules slots before start → IsSettled rules slots after start
same_settled rules slots before after start same (inl free) = inl free
same_settled rules slots before after start same (inr (inl quiet)) = inr (inl quiet)
same_settled rules slots before after start same (inr (inr failed)) =
    inr (inr (record { noted_so = same.failed.1 failed.noted_so; failed = subst (HasFailed rules slots start) (λ i. record { reach = sym same.reach i; mask = sym same.masks i }) failed.failed }))

settle_one : (rules : List RowView) (slots : List Gate) (before after : StartsView) (start : ℕ) → AreSettled rules slots before → ((other : ℕ) → (other ≡ start → ⊥) → IsSameOf other before after) →
    IsSettled rules slots after start → AreSettled rules slots after
settle_one rules slots before after start settled others here = record { settled = λ other inside asleep. by other inside asleep (cases_eq other start) }
  where
    by : (other : ℕ) → other < length slots → (IsWaiting after other → ⊥) → (other ≡ start) ⊎ (other ≡ start → ⊥) → IsSettled rules slots after other
    by other inside asleep (inl same) = subst (IsSettled rules slots after) (sym same) here
    by other inside asleep (inr apart) =
        same_settled rules slots before after other (others other apart) (settled.settled other inside (λ waits. asleep ((others other apart).waits.1 waits)))

-- a start is settled where it needs no search,
pub settle_still : {rules : List RowView} {slots : List Gate} {before after : StartsView} {start : ℕ} → AreSettled rules slots before →
    ((other : ℕ) → (other ≡ start → ⊥) → IsSameOf other before after) → IsStill rules slots start → AreSettled rules slots after
settle_still {rules} {slots} {before} {after} {start} settled others still = settle_one rules slots before after start settled others (by still)
  where
    by : IsStill rules slots start → IsSettled rules slots after start
    by (inl free) = inl free
    by (inr quiet) = inr (inl quiet)

-- or where its search failed
pub settle_failed : {rules : List RowView} {slots : List Gate} {before after : StartsView} {start : ℕ} {looked : Looked} → AreSettled rules slots before →
    ((other : ℕ) → (other ≡ start → ⊥) → IsSameOf other before after) → IsNotedFailed after start → noted after start ≡ looked → HasFailed rules slots start looked → AreSettled rules slots after
settle_failed {rules} {slots} {before} {after} {start} settled others noted_so is failed =
    settle_one rules slots before after start settled others (inr (inr (record { noted_so = noted_so; failed = subst (HasFailed rules slots start) (sym is) failed })))

-- no redex begins where no search is needed
pub none_still : {rules : List RowView} {slots : List Gate} {start : ℕ} → All IsSound rules → AreSlots slots → IsStill rules slots start → HasNoneAmong (StartsAt start) rules slots
none_still {rules} {slots} {start} sound are (inl free) = let any : Looked = record { reach = 0; mask = 0 } in (none_at_free any sound free).none slots are looks_alike
none_still {rules} {slots} {start} sound are (inr quiet) = none_quiet rules slots start sound quiet

-- no row is a candidate at a free slot
pub no_candidates : {rules : List RowView} {slots : List Gate} {start : ℕ} (looked : Looked) → All IsSound rules → gate_at slots start ≡ free_slot → AreCandidates rules slots start looked []
no_candidates {rules} {slots} {start} looked sound free = record {
  rise = λ i j less below. absurd (omega arith);
  all = λ other are alike redex is at. absurd (((none_at_free looked sound free).none other are alike).none redex is at);
}

pub no_numbers : (numbers : List ℕ) → length numbers ≡ 0 → numbers ≡ []
no_numbers [] none = refl
no_numbers (number ∷ rest) none = absurd (omega arith)

-- and none begins there where no row admits what is seen next
pub still_ahead : (rules : List RowView) (slots : List Gate) (start one other : ℕ) (near far : Seen) → IsNextOn slots (last_wire (gate_at slots start)) (start + 1) one →
    IsNextOn slots (last_wire (gate_at slots start)) (one + 1) other ⊎ (length slots ≤ one) → (length slots ≤ one → length slots ≤ other) →
    IsSeenAt slots (last_wire (gate_at slots start)) one near → IsSeenAt slots (last_wire (gate_at slots start)) other far →
    numbers_where (is_admitting (number_of (kind_of (gate_at slots start))) near far) 1 rules ≡ [] → IsStill rules slots start
still_ahead rules slots start one other near far next then_next past near_is far_is none =
    inr (record {
      one = one;
      other = other;
      near = near;
      far = far;
      ahead = record { next = next; behind = λ inside. by then_next inside; past = past; near_is = near_is; far_is = far_is };
      none = none;
    })
  where
    by : IsNextOn slots (last_wire (gate_at slots start)) (one + 1) other ⊎ (length slots ≤ one) → one < length slots → IsNextOn slots (last_wire (gate_at slots start)) (one + 1) other
    by (inl is) inside = is
    by (inr out) inside = absurd (omega arith)
