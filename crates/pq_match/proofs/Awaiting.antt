-- The starts that a rewriting may concern wait.
use Rattle.std.proofs.Common.{◌≡◌, ◌≢◌, ℕ, ◌+◌, ◌<◌, ◌≤◌, ◌⊎◌, inl, inr, Bool, true, false, List, length, get_or, bit_and, refl, sym, ap, subst, ◌∙◌, arith}
use Rattle.std.specs.Prelude.{AllPairs}
use Rattle.std.proofs.lemmas.Bool.{cases_eq, cases_lt, cases_order, both_ways}
use Rattle.pq_gate.specs.declared.gate.Gate.{Gate}
use Rattle.pq_gate.specs.Commuting.{Touches}
use Rattle.pq_gate.specs.Ports.{last_wire}
use Rattle.pq_links.specs.Wires.{wire_of}
use Rattle.pq_links.specs.Links.{far, IsLastOn, IsNextOn}
use Rattle.pq_links.specs.Slots.{no_wire}
use Rattle.pq_links.proofs.Touching.{touched, touching}
use Rattle.pq_match.specs.Redex.{gate_at, is_chosen, last_place}
use Rattle.pq_match.proofs.RankedRedexes.{is_chosen_at}
use Rattle.pq_match.specs.Waiting.{StartsView, HasNumber, IsWaiting, IsNotedFailed, IsSameOf, WaitMore, AreWoken}
use Rattle.pq_match.specs.Settled.{IsUsedAt, IsAwaitedAt, TwoBetween, TwoStandBefore, AwaitBefore, AwaitBetween, AwaitOn, AwaitAround, AreSameBut, AwaitRewriting}

pub more_same : (starts : StartsView) → WaitMore starts starts
more_same starts = record { waits = λ start is. is; failed = refl; reach = refl; masks = refl; room = refl }

pub more_than_more : {one two three : StartsView} → WaitMore one two → WaitMore two three → WaitMore one three
more_than_more more then_more = record {
  waits = λ start is. then_more.waits start (more.waits start is);
  failed = then_more.failed ∙ more.failed;
  reach = then_more.reach ∙ more.reach;
  masks = then_more.masks ∙ more.masks;
  room = then_more.room ∙ more.room;
}

-- its gate uses its last wire
uses_last : (slots : List Gate) (start wire : ℕ) → last_wire (gate_at slots start) ≡ wire → Touches (gate_at slots start) wire
uses_last slots start wire is = subst (Touches (gate_at slots start)) is (touching (gate_at slots start) true)

-- the last two before the place wait
pub await_before : {slots : List Gate} {middle starts : StartsView} {wire place near behind : ℕ} → length slots < far → place < length slots → wire ≢ no_wire → Touches (gate_at slots place) wire →
    (wire ≢ no_wire → Touches (gate_at slots place) wire → IsLastOn slots wire place near) → (near < length slots → IsLastOn slots wire near behind) → (near < length slots → last_wire (gate_at slots near) ≡ wire → IsWaiting middle near) → WaitMore middle starts →
    (behind < length slots → last_wire (gate_at slots behind) ≡ wire → IsWaiting starts behind) → AwaitBefore slots starts wire place
await_before {slots} {middle} {starts} {wire} {place} {near} {behind} few inside valid uses near_last then_last waits_near more waits_behind = record {
  each = λ start less is asleep. at start less is asleep (cases_lt near place);
}
  where
    last : IsLastOn slots wire place near
    last = near_last valid uses

    at_behind : (start : ℕ) → start < near → near < place → last_wire (gate_at slots start) ≡ wire → (IsWaiting starts start → ⊥) → (behind < near) ⊎ (near ≤ behind) → TwoBetween slots wire start place
    at_behind start less near_in is asleep (inr past) = absurd ((then_last (omega arith)).none start less (λ clash. omega arith) (uses_last slots start wire is))
    at_behind start less near_in is asleep (inl behind_in) = by (cases_order start behind)
      where
        by : (start ≡ behind) ⊎ ((start < behind) ⊎ (behind < start)) → TwoBetween slots wire start place
        by (inl same) = absurd (asleep (subst (IsWaiting starts) (sym same) (waits_behind (omega arith) (ap (λ (p : ℕ). last_wire (gate_at slots p)) (sym same) ∙ is))))
        by (inr (inl before)) = record {
          near = behind;
          far = near;
          behind = before;
          further = behind_in;
          near_on = (then_last (omega arith)).uses behind_in;
          far_on = last.uses near_in;
          before = near_in;
        }
        by (inr (inr later)) = absurd ((then_last (omega arith)).none start less (λ _. later) (uses_last slots start wire is))

    at : (start : ℕ) → start < place → last_wire (gate_at slots start) ≡ wire → (IsWaiting starts start → ⊥) → (near < place) ⊎ (place ≤ near) → TwoBetween slots wire start place
    at start less is asleep (inr past) = absurd (last.none start less (λ clash. omega arith) (uses_last slots start wire is))
    at start less is asleep (inl near_in) = by (cases_order start near)
      where
        by : (start ≡ near) ⊎ ((start < near) ⊎ (near < start)) → TwoBetween slots wire start place
        by (inl same) =
            absurd (asleep (more.waits start (subst (IsWaiting middle) (sym same) (waits_near (omega arith) (ap (λ (p : ℕ). last_wire (gate_at slots p)) (sym same) ∙ is)))))
        by (inr (inl before)) = at_behind start before near_in is asleep (cases_lt behind near)
        by (inr (inr later)) = absurd (last.none start less (λ _. later) (uses_last slots start wire is))

-- those from a place on
pub between_none : (slots : List Gate) (starts : StartsView) (wire place : ℕ) → AwaitBetween slots starts wire place place
between_none slots starts wire place = record { each = λ start from below inside is. absurd (omega arith) }

pub between_more : {slots : List Gate} {before after : StartsView} {wire place at next : ℕ} → AwaitBetween slots before wire place at → WaitMore before after →
    (at < length slots → last_wire (gate_at slots at) ≡ wire → IsWaiting after at) → wire ≢ no_wire → Touches (gate_at slots at) wire →
    (wire ≢ no_wire → Touches (gate_at slots at) wire → IsNextOn slots wire (at + 1) next) → AwaitBetween slots after wire place next
between_more {slots} {before} {after} {wire} {place} {at} {next} await more waits valid uses is_next = record { each = λ start from below inside is. by start from below inside is (cases_order start at) }
  where
    by : (start : ℕ) → place ≤ start → start < next → start < length slots → last_wire (gate_at slots start) ≡ wire → (start ≡ at) ⊎ ((start < at) ⊎ (at < start)) → IsWaiting after start
    by start from below inside is (inl same) =
        subst (IsWaiting after) (sym same) (waits (subst (λ (p : ℕ). p < length slots) same inside) (ap (λ (p : ℕ). last_wire (gate_at slots p)) (sym same) ∙ is))
    by start from below inside is (inr (inl less)) = more.waits start (await.each start from less inside is)
    by start from below inside is (inr (inr later)) = absurd ((is_next valid uses).none start (omega arith) below inside (uses_last slots start wire is))

pub between_all : {slots : List Gate} {starts : StartsView} {wire place upto at : ℕ} → AwaitBetween slots starts wire place at → upto ≤ at → AwaitBetween slots starts wire place upto
between_all await upto = record { each = λ start from below inside is. await.each start from (omega arith) inside is }

-- later places are greater
place_upto : (places : List ℕ) → AllPairs (λ i j. i < j) places → (index k : ℕ) → index ≤ k → k < length places → get_or places index 0 ≤ get_or places k 0
place_upto places rising index k upto below = elim (cases_eq index k) [
  | inl same ↦ (let e : get_or places index 0 ≡ get_or places k 0 = ap (λ (i : ℕ). get_or places i 0) same in omega arith)
  | inr apart ↦ (let less : get_or places index 0 < get_or places k 0 = rising index k 0 (omega arith) below in omega arith)
]

-- so on one wire
pub await_on : {slots : List Gate} {places : List ℕ} {middle starts : StartsView} {wire index : ℕ} → AllPairs (λ i j. i < j) places → index < length places →
    ((k : ℕ) → k < index → Touches (gate_at slots (get_or places k 0)) wire → ⊥) → AwaitBefore slots middle wire (get_or places index 0) → WaitMore middle starts →
    AwaitBetween slots starts wire (get_or places index 0) (last_place places + 1) → AwaitOn slots places starts wire
await_on {slots} {places} {middle} {starts} {wire} {index} rising below unused before more between = record {
  each = λ start upto inside is asleep. by start upto inside is asleep (cases_lt start (get_or places index 0));
}
  where
    two_of : (start : ℕ) → TwoBetween slots wire start (get_or places index 0) → TwoStandBefore slots places wire start
    two_of start two = record {
      near = two.near;
      far = two.far;
      behind = two.behind;
      further = two.further;
      near_on = two.near_on;
      far_on = two.far_on;
      before = λ k one k_below is. at k one k_below is (cases_lt k index);
    }
      where
        at : (k : ℕ) (one : Bool) → k < length places → wire_of one (gate_at slots (get_or places k 0)) ≡ wire → (k < index) ⊎ (index ≤ k) → two.far < get_or places k 0
        at k one k_below is (inl earlier) = absurd (unused k earlier (subst (Touches (gate_at slots (get_or places k 0))) is (touching (gate_at slots (get_or places k 0)) one)))
        at k one k_below is (inr later) =
            (let upto : get_or places index 0 ≤ get_or places k 0 = place_upto places rising index k later k_below in
            let b : two.far < get_or places index 0 = two.before in omega arith)

    by : (start : ℕ) → start ≤ last_place places → start < length slots → last_wire (gate_at slots start) ≡ wire → (IsWaiting starts start → ⊥) →
        (start < get_or places index 0) ⊎ (get_or places index 0 ≤ start) → TwoStandBefore slots places wire start
    by start upto inside is asleep (inl less) = two_of start (before.each start less is (λ waits. asleep (more.waits start waits)))
    by start upto inside is asleep (inr from) = absurd (asleep (between.each start from (omega arith) inside is))

-- and on all wires of the chosen gates
pub around_none : (slots : List Gate) (places : List ℕ) (starts : StartsView) → AwaitAround slots places starts 0
around_none slots places starts = record { on = λ k one below. absurd (omega arith) }

await_still : {slots : List Gate} {places : List ℕ} {before after : StartsView} {wire : ℕ} → AwaitOn slots places before wire → WaitMore before after → AwaitOn slots places after wire
await_still await more = record { each = λ start upto inside is asleep. await.each start upto inside is (λ waits. asleep (more.waits start waits)) }

pub around_more : {slots : List Gate} {places : List ℕ} {before middle after : StartsView} {index : ℕ} (first second : ℕ) → AwaitAround slots places before index →
    first ≡ wire_of false (gate_at slots (get_or places index 0)) → second ≡ wire_of true (gate_at slots (get_or places index 0)) →
    IsUsedAt slots places index first ⊎ AwaitOn slots places middle first → WaitMore before middle →
    IsUsedAt slots places index second ⊎ AwaitOn slots places after second → WaitMore middle after → AwaitAround slots places after (index + 1)
around_more {slots} {places} {before} {middle} {after} {index} first second around first_is second_is one_done more other_done then_more = record {
  on = λ k one below. by k one below (cases_lt k index);
}
  where
    old : (k : ℕ) (one : Bool) → k < index → AwaitOn slots places after (wire_of one (gate_at slots (get_or places k 0)))
    old k one less = await_still (await_still (around.on k one less) more) then_more

    from_used : (wire : ℕ) → IsUsedAt slots places index wire → AwaitOn slots places after wire
    from_used wire used = subst (AwaitOn slots places after) used.is (old used.at used.one used.below)

    first_on : IsUsedAt slots places index first ⊎ AwaitOn slots places middle first → AwaitOn slots places after first
    first_on (inl used) = from_used first used
    first_on (inr await) = await_still await then_more

    second_on : IsUsedAt slots places index second ⊎ AwaitOn slots places after second → AwaitOn slots places after second
    second_on (inl used) = from_used second used
    second_on (inr await) = await

    here : (one : Bool) → AwaitOn slots places after (wire_of one (gate_at slots (get_or places index 0)))
    here false = subst (AwaitOn slots places after) first_is (first_on one_done)
    here true = subst (AwaitOn slots places after) second_is (second_on other_done)

    by : (k : ℕ) (one : Bool) → k < index + 1 → (k < index) ⊎ (index ≤ k) → AwaitOn slots places after (wire_of one (gate_at slots (get_or places k 0)))
    by k one below (inl less) = old k one less
    by k one below (inr last) =
        (let same : k ≡ index = omega arith in subst (λ (i : ℕ). AwaitOn slots places after (wire_of one (gate_at slots (get_or places i 0)))) (sym same) (here one))

-- where both wires of the gate are one
pub await_same : {slots : List Gate} {places : List ℕ} {starts : StartsView} {index first second : ℕ} → first ≡ second →
    first ≡ wire_of false (gate_at slots (get_or places index 0)) → second ≡ wire_of true (gate_at slots (get_or places index 0)) →
    IsAwaitedAt slots places starts index false → IsAwaitedAt slots places starts index true
await_same {slots} {places} {starts} {index} {first} {second} same first_is second_is =
    subst (λ (w : ℕ). IsUsedAt slots places index w ⊎ AwaitOn slots places starts w) (sym first_is ∙ (same ∙ second_is))

-- a gate that uses the wire
pub used_at : {slots : List Gate} {places : List ℕ} {count at wire : ℕ} → at < count → Touches (gate_at slots (get_or places at 0)) wire → IsUsedAt slots places count wire
used_at {slots} {places} {count} {at} {wire} below touches =
    let side = touched (gate_at slots (get_or places at 0)) wire touches in record { at = at; one = side.0; below = below; is = sym side.1 }

-- the starts that aren't chosen stay
pub same_none : (places : List ℕ) (starts : StartsView) → AreSameBut places starts starts
same_none places starts = record { same = λ start other. record { waits = (λ is. is, λ is. is); failed = (λ is. is, λ is. is); reach = refl; masks = refl } }

pub same_more : {places : List ℕ} {before middle after : StartsView} {index : ℕ} → index < length places → AreSameBut places before middle →
    ((other : ℕ) → other ≢ get_or places index 0 → IsSameOf other middle after) → AreSameBut places before after
same_more {places} {before} {middle} {after} {index} below are then_others = record { same = same }
  where
    same : (start : ℕ) → is_chosen places start ≡ false → IsSameOf start before after
    same start other =
        let one = are.same start other in
        let two = then_others start (λ is. both_ways (is_chosen places start) other (is_chosen_at places index start below (sym is))) in
        record {
          waits = (λ it. one.waits.0 (two.waits.0 it), λ it. two.waits.1 (one.waits.1 it));
          failed = (λ it. one.failed.0 (two.failed.0 it), λ it. two.failed.1 (one.failed.1 it));
          reach = two.reach ∙ one.reach;
          masks = two.masks ∙ one.masks;
        }

-- a run of starts waits
pub record RunWaits (starts : StartsView) (from upto : ℕ) : Type 0 where
  pub each : (start : ℕ) → from ≤ start → start < upto → IsWaiting starts start

pub run_none : (starts : StartsView) (from : ℕ) → RunWaits starts from from
run_none starts from = record { each = λ start above below. absurd (omega arith) }

pub run_more : {before after : StartsView} {from upto : ℕ} → RunWaits before from upto → WaitMore before after → IsWaiting after upto → RunWaits after from (upto + 1)
run_more {before} {after} {from} {upto} run more here = record { each = λ start above below. by start above below (cases_eq start upto) }
  where
    by : (start : ℕ) → from ≤ start → start < upto + 1 → (start ≡ upto) ⊎ (start ≡ upto → ⊥) → IsWaiting after start
    by start above below (inl same) = subst (IsWaiting after) (sym same) here
    by start above below (inr apart) = more.waits start (run.each start above (omega arith))

-- all that a rewriting may concern
pub await_all : {slots : List Gate} {places : List ℕ} {from count mask end : ℕ} {zero one two three four : StartsView} → end ≡ last_place places + 1 →
    AreWoken one.waiting one.failed one.reach one.masks (get_or places 0 0) end mask → WaitMore zero one → AwaitAround slots places two (length places) → WaitMore one two →
    AreSameBut places two three → ((start : ℕ) → from ≤ start → start < from + count → IsWaiting four start) → WaitMore three four → AwaitRewriting slots places from count mask zero four
await_all {slots} {places} {from} {count} {mask} {end} {zero} {one} {two} {three} {four} end_is woken more_one around more_two same_but filled more_four = record {
  kept = λ start other asleep waits. asleep_one start other asleep (more_one.waits start waits);
  failed = λ start other fails. to_four start other (subst (λ (xs : List ℕ). HasNumber xs start) (sym (more_two.failed ∙ more_one.failed)) fails);
  noted = λ start other. λ i. record { reach = (reach_four start other ∙ ap (λ (xs : List ℕ). get_or xs start 0) more_one.reach) i; mask = (masks_four start other ∙ ap (λ (xs : List ℕ). get_or xs start 0) more_one.masks) i };
  apart = λ start other upto inside fails asleep.
      subst (λ (m : ℕ). (get_or four.reach start 0 ≤ get_or places 0 0) ⊎ (bit_and m mask ≡ 0)) (sym (masks_four start other))
      (subst (λ (r : ℕ). (r ≤ get_or places 0 0) ⊎ (bit_and (get_or one.masks start 0) mask ≡ 0)) (sym (reach_four start other))
      (woken.each start (omega arith) (from_four start other fails) (asleep_one start other asleep)));
  around = λ start k side other upto inside below is asleep.
      subst (λ (w : ℕ). TwoStandBefore slots places w start) (sym is) ((around.on k side below).each start upto inside is (asleep_two start other asleep));
  filled = filled;
}
  where
    asleep_two : (start : ℕ) → is_chosen places start ≡ false → (IsWaiting four start → ⊥) → IsWaiting two start → ⊥
    asleep_two start other asleep waits = asleep (more_four.waits start ((same_but.same start other).waits.1 waits))

    asleep_one : (start : ℕ) → is_chosen places start ≡ false → (IsWaiting four start → ⊥) → IsWaiting one start → ⊥
    asleep_one start other asleep waits = asleep_two start other asleep (more_two.waits start waits)

    to_four : (start : ℕ) → is_chosen places start ≡ false → IsNotedFailed two start → IsNotedFailed four start
    to_four start other fails = subst (λ (xs : List ℕ). HasNumber xs start) (sym more_four.failed) ((same_but.same start other).failed.1 fails)

    from_four : (start : ℕ) → is_chosen places start ≡ false → IsNotedFailed four start → IsNotedFailed one start
    from_four start other fails =
        subst (λ (xs : List ℕ). HasNumber xs start) more_two.failed ((same_but.same start other).failed.0 (subst (λ (xs : List ℕ). HasNumber xs start) more_four.failed fails))

    reach_four : (start : ℕ) → is_chosen places start ≡ false → get_or four.reach start 0 ≡ get_or one.reach start 0
    reach_four start other =
        ap (λ (xs : List ℕ). get_or xs start 0) more_four.reach ∙ ((same_but.same start other).reach ∙ ap (λ (xs : List ℕ). get_or xs start 0) more_two.reach)

    masks_four : (start : ℕ) → is_chosen places start ≡ false → get_or four.masks start 0 ≡ get_or one.masks start 0
    masks_four start other =
        ap (λ (xs : List ℕ). get_or xs start 0) more_four.masks ∙ ((same_but.same start other).masks ∙ ap (λ (xs : List ℕ). get_or xs start 0) more_two.masks)
