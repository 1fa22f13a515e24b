-- Starts that may have a redex, and the quiet ones. A quiet start stays so where its gates are spread over slots.
use Rattle.std.proofs.Common.{◌≡◌, ◌≢◌, ℕ, ◌+◌, ◌-◌, ◌*◌, ◌/◌, ◌%◌, ◌<◌, ◌≤◌, ◌⊎◌, Bool, true, false, List, [], length, get_or, min, inl, inr, refl, sym, ap, subst, ◌∙◌, arith}
use Rattle.std.specs.Prelude.{All}
use Rattle.std.specs.Int.{bit_at}
use Rattle.std.proofs.lemmas.Bool.{cases_eq, cases_lt}
use Rattle.std.proofs.lemmas.List.{get_or_past}
use Rattle.pq_gate.specs.declared.gate.Gate.{Gate}
use Rattle.pq_gate.specs.declared.gate.Gate.TheVariants.{H}
use Rattle.pq_gate.specs.Commuting.{Touches}
use Rattle.pq_gate.specs.Kind.{kind_of, number_of}
use Rattle.pq_gate.specs.Ports.{last_wire}
use Rattle.pq_rules.specs.Row.{RowView, IsSound}
use Rattle.pq_rules.specs.Kinds.{numbers_where}
use Rattle.pq_rules.specs.Seen.{role_on, is_admitting}
use Rattle.pq_rules.specs.declared.seen.Seen.{Seen}
use Rattle.pq_rules.specs.declared.seen.Seen.TheVariants as seen
use Rattle.pq_links.specs.declared.links.Sides.{Sides}
use Rattle.pq_links.specs.Links.{far, side_at, IsNextOn}
use Rattle.pq_links.specs.Slots.{no_wire, free_slot, spread}
use Rattle.pq_links.specs.Leading.{doubled}
use Rattle.pq_links.proofs.Spreading.{length_spread, own_slot, every_slot, doubled_in, doubled_past, doubled_next}
use Rattle.pq_links.proofs.Touching.{touching}
use Rattle.pq_match.specs.Redex.{HasNoRedex, gate_at}
use Rattle.pq_match.specs.Seek.{IsClear, IsSeenAt, AreLinkedSlots}
use Rattle.pq_match.specs.Waiting.{HasNumber, StartsView, IsWaiting}
use Rattle.pq_match.specs.Settled.{SeesAhead, IsQuiet, IsSettled, AreSettled, AreSifted, AreSiftedIn}
use Rattle.pq_match.specs.Work.{AreTaken}
use Rattle.pq_match.proofs.Settling.{none_quiet}

-- what is seen behind a place
module _ (rules : List RowView) (gates : List Gate) (next : List Sides) (place : ℕ) (linked : AreLinkedSlots gates next) (taken : AreTaken gates) (inside : place < length gates) where
  pub own_wire : last_wire (gate_at gates place) ≢ no_wire
  own_wire same = taken place inside (subst (Touches (gate_at gates place)) same (touching (gate_at gates place) true))

  pub quiet_end : (near beyond : Seen) → length gates ≤ side_at true next place → near ≡ seen.Nothing → beyond ≡ seen.Nothing →
      numbers_where (is_admitting (number_of (kind_of (gate_at gates place))) near beyond) 1 rules ≡ [] → IsQuiet rules gates place
  quiet_end near beyond out near_none beyond_none none = record {
    one = side_at true next place;
    other = side_at true next place;
    near = near;
    far = beyond;
    ahead = record {
      next = linked.next place true inside own_wire;
      behind = λ below. absurd (omega arith);
      past = λ past. past;
      near_is = subst (IsSeenAt gates (last_wire (gate_at gates place)) (side_at true next place)) (sym near_none) out;
      far_is = subst (IsSeenAt gates (last_wire (gate_at gates place)) (side_at true next place)) (sym beyond_none) out;
    };
    none = none;
  }

  pub touches_next : side_at true next place < length gates → Touches (gate_at gates (side_at true next place)) (last_wire (gate_at gates place))
  touches_next below = (linked.next place true inside own_wire).uses below

  pub quiet_ahead : (other : ℕ) (near beyond : Seen) → side_at true next place < length gates → IsNextOn gates (last_wire (gate_at gates place)) (side_at true next place + 1) other →
      IsSeenAt gates (last_wire (gate_at gates place)) (side_at true next place) near → IsSeenAt gates (last_wire (gate_at gates place)) other beyond →
      numbers_where (is_admitting (number_of (kind_of (gate_at gates place))) near beyond) 1 rules ≡ [] → IsQuiet rules gates place
  quiet_ahead other near beyond below behind near_is beyond_is none = record {
    one = side_at true next place;
    other = other;
    near = near;
    far = beyond;
    ahead = record { next = linked.next place true inside own_wire; behind = λ _. behind; past = λ past. absurd (omega arith); near_is = near_is; far_is = beyond_is };
    none = none;
  }

-- no place yet, and one more
pub passed_none : (rules : List RowView) (gates : List Gate) (first word : ℕ) → AreSiftedIn rules gates first first word
passed_none rules gates first word = record { each = λ place from before inside. absurd (omega arith) }

pub passed_more : {rules : List RowView} {gates : List Gate} {first at word then_word : ℕ} (passes : Bool) → AreSiftedIn rules gates first at word →
    (passes ≡ false → IsQuiet rules gates at) → (passes ≡ true → bit_at then_word (2 * (at - first)) ≡ 1) → ((other : ℕ) → bit_at word other ≡ 1 → bit_at then_word other ≡ 1) →
    AreSiftedIn rules gates first (at + 1) then_word
passed_more {rules} {gates} {first} {at} {word} {then_word} passes before quiet has kept = record {
  each = λ place from upto inside. by place from upto inside (cases_eq place at);
}
  where
    here : (p : Bool) → passes ≡ p → (bit_at then_word (2 * (at - first)) ≡ 1) ⊎ IsQuiet rules gates at
    here true is = inl (has is)
    here false is = inr (quiet is)

    by : (place : ℕ) → first ≤ place → place < at + 1 → place < length gates → (place ≡ at) ⊎ (place ≡ at → ⊥) → (bit_at then_word (2 * (place - first)) ≡ 1) ⊎ IsQuiet rules gates place
    by place from upto inside (inl same) =
        subst (λ (p : ℕ). (bit_at then_word (2 * (p - first)) ≡ 1) ⊎ IsQuiet rules gates p) (sym same) (here passes refl)
    by place from upto inside (inr apart) = elim (before.each place from (omega arith) inside) [ inl is ↦ inl (kept (2 * (place - first)) is) | inr is ↦ inr is ]

-- all of a word
pub passed_all : {rules : List RowView} {gates : List Gate} {first at word : ℕ} → AreSiftedIn rules gates first at word → min (length gates) (first + 32) ≤ at →
    AreSiftedIn rules gates first (first + 32) word
passed_all {rules} {gates} {first} {at} passed end = record { each = λ place from upto inside. passed.each place from (omega arith) inside }

-- the first words were gone through
pub record AreSiftedTo (rules : List RowView) (gates : List Gate) (words : List ℕ) (count : ℕ) : Type 0 where
  pub each : (word : ℕ) → word < count → AreSiftedIn rules gates (word * 32) (word * 32 + 32) (get_or words word 0)

pub filled : {rules : List RowView} {gates : List Gate} {words : List ℕ} → 2 * length gates ≤ 64 * length words → AreSiftedTo rules gates words (length words) → AreSifted rules gates words
filled {rules} {gates} {words} room passed = record {
  each = λ place inside. by place ((passed.each (place / 32) (omega arith)).each place (omega arith) (omega arith) inside);
}
  where
    by : (place : ℕ) → (bit_at (get_or words (place / 32) 0) (2 * (place - place / 32 * 32)) ≡ 1) ⊎ IsQuiet rules gates place → HasNumber words (2 * place) ⊎ IsQuiet rules gates place
    by place (inr quiet) = inr quiet
    by place (inl has) =
        let word : place / 32 ≡ 2 * place / 64 = omega arith in
        let bit : 2 * (place - place / 32 * 32) ≡ 2 * place % 64 = omega arith in
        inl (record { has = subst (λ (k : ℕ). bit_at (get_or words k 0) (2 * place % 64) ≡ 1) word (subst (λ (b : ℕ). bit_at (get_or words (place / 32) 0) b ≡ 1) bit has) })

-- gates spread over slots
module _ (gates : List Gate) (few : 2 * length gates < far) where
  same_at : (n : ℕ) → gate_at (spread gates) (doubled (length gates) n) ≡ gate_at gates n
  same_at n = by (cases_lt n (length gates))
    where
      by : (n < length gates) ⊎ (length gates ≤ n) → gate_at (spread gates) (doubled (length gates) n) ≡ gate_at gates n
      by (inl below) = ap (gate_at (spread gates)) (doubled_in (length gates) n below) ∙ own_slot gates n below
      by (inr past) =
          get_or_past (spread gates) (doubled (length gates) n) (H 0) (omega (arith, doubled_past (length gates) n past, length_spread gates)) ∙ sym (get_or_past gates n (H 0) past)

  seen_spread : (wire n : ℕ) (what : Seen) → IsSeenAt gates wire n what → IsSeenAt (spread gates) wire (doubled (length gates) n) what
  seen_spread wire n seen.Nothing is = omega (arith, doubled_past (length gates) n is, length_spread gates)
  seen_spread wire n seen.Unclear is = is
  seen_spread wire n (seen.Plays own) is = subst (λ (g : Gate). (own ≡ role_on wire g) × IsClear g) (sym (same_at n)) is

  ahead_spread : (wire p one other : ℕ) (near beyond : Seen) → wire ≢ no_wire → p < length gates → SeesAhead gates wire p one other near beyond →
      SeesAhead (spread gates) wire (2 * p) (doubled (length gates) one) (doubled (length gates) other) near beyond
  ahead_spread wire p one other near beyond valid inside ahead = record {
    next = doubled_next gates wire p one valid few inside ahead.next;
    behind = behind (cases_lt one (length gates));
    past = past (cases_lt one (length gates));
    near_is = seen_spread wire one near ahead.near_is;
    far_is = seen_spread wire other beyond ahead.far_is;
  }
    where
      behind : (one < length gates) ⊎ (length gates ≤ one) → doubled (length gates) one < length (spread gates) →
          IsNextOn (spread gates) wire (doubled (length gates) one + 1) (doubled (length gates) other)
      behind (inl below) low =
          subst (λ (m : ℕ). IsNextOn (spread gates) wire (m + 1) (doubled (length gates) other)) (sym (doubled_in (length gates) one below)) (doubled_next gates wire one other valid few below (ahead.behind below))
      behind (inr out) low = absurd (omega (arith, doubled_past (length gates) one out, length_spread gates))

      past : (one < length gates) ⊎ (length gates ≤ one) → length (spread gates) ≤ doubled (length gates) one → length (spread gates) ≤ doubled (length gates) other
      past (inl below) out = absurd (omega (arith, doubled_in (length gates) one below, length_spread gates))
      past (inr over) out = omega (arith, doubled_past (length gates) other (ahead.past over), length_spread gates)

  quiet_spread : (rules : List RowView) (p : ℕ) → AreTaken gates → p < length gates → IsQuiet rules gates p → IsQuiet rules (spread gates) (2 * p)
  quiet_spread rules p taken inside quiet = record {
    one = doubled (length gates) quiet.one;
    other = doubled (length gates) quiet.other;
    near = quiet.near;
    far = quiet.far;
    ahead = subst (λ (g : Gate). SeesAhead (spread gates) (last_wire g) (2 * p) (doubled (length gates) quiet.one) (doubled (length gates) quiet.other) quiet.near quiet.far)
        (sym (own_slot gates p inside))
        (ahead_spread (last_wire (gate_at gates p)) p quiet.one quiet.other quiet.near quiet.far own inside quiet.ahead);
    none = subst (λ (g : Gate). numbers_where (is_admitting (number_of (kind_of g)) quiet.near quiet.far) 1 rules ≡ []) (sym (own_slot gates p inside)) quiet.none;
  }
    where
      own : last_wire (gate_at gates p) ≢ no_wire
      own same = taken p inside (subst (Touches (gate_at gates p)) same (touching (gate_at gates p) true))

-- so each start that doesn't wait is settled
pub passed_settled : (rules : List RowView) (gates : List Gate) (starts : StartsView) → AreTaken gates → 2 * length gates < far → AreSifted rules gates starts.waiting →
    AreSettled rules (spread gates) starts
passed_settled rules gates starts taken few passed = record { settled = λ start below asleep. by start asleep (every_slot gates start below) }
  where
    at : (start place : ℕ) → start ≡ 2 * place → place < length gates → (IsWaiting starts start → ⊥) → IsWaiting starts (2 * place) ⊎ IsQuiet rules gates place → IsSettled rules (spread gates) starts start
    at start place same inside asleep (inl waits) = absurd (asleep (subst (IsWaiting starts) (sym same) waits))
    at start place same inside asleep (inr quiet) = subst (IsSettled rules (spread gates) starts) (sym same) (inr (inl (quiet_spread gates few rules place taken inside quiet)))

    by : (start : ℕ) → (IsWaiting starts start → ⊥) → ((p : ℕ) × (start ≡ 2 * p) × (p < length gates) × (gate_at (spread gates) start ≡ gate_at gates p)) ⊎ (gate_at (spread gates) start ≡ free_slot) →
        IsSettled rules (spread gates) starts start
    by start asleep (inr free) = inl free
    by start asleep (inl (place, same, inside, _)) = at start place same inside asleep (passed.each place inside)

-- and where none waits, there is no redex
pub passed_still : {rules : List RowView} {gates : List Gate} {waiting : List ℕ} → All IsSound rules → AreSifted rules gates waiting →
    ((start : ℕ) → start < 2 * length gates → HasNumber waiting start → ⊥) → HasNoRedex rules gates
passed_still {rules} {gates} {waiting} sound passed asleep redex is = by (get_or redex.places 0 0) refl (passed.each (get_or redex.places 0 0) inside)
  where
    inside : get_or redex.places 0 0 < length gates
    inside = is.matches.inside 0 0 is.some

    by : (start : ℕ) → get_or redex.places 0 0 ≡ start → HasNumber waiting (2 * get_or redex.places 0 0) ⊎ IsQuiet rules gates (get_or redex.places 0 0) → ⊥
    by start at (inl waits) = asleep (2 * get_or redex.places 0 0) (omega arith) waits
    by start at (inr quiet) = (none_quiet rules gates (get_or redex.places 0 0) sound quiet).none redex is refl
