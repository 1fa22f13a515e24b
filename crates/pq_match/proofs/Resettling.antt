-- What is known of starts stays known over a rewriting of slots.
use Rattle.std.proofs.Common.{◌≡◌, ◌≢◌, ℕ, zero, suc, ◌+◌, ◌%◌, ◌<◌, ◌≤◌, ◌⊎◌, inl, inr, Bool, true, false, List, length, map, get_or, bit_and, min, refl, sym, ap, subst, ◌∙◌, arith}
use Rattle.std.specs.Int.{bit_at}
use Rattle.std.proofs.lemmas.Bool.{cases_eq, cases_lt, cases_Bool}
use Rattle.std.proofs.lemmas.Nat.Bits.{bit_at_and, bit_at-zero}
use Rattle.pq_gate.specs.declared.gate.Gate.{Gate}
use Rattle.pq_gate.specs.Commuting.{Touches}
use Rattle.pq_gate.specs.Ports.{last_wire}
use Rattle.pq_links.specs.Wires.{wire_of}
use Rattle.pq_links.specs.Slots.{no_wire, free_slot, AreSlots}
use Rattle.pq_links.proofs.Touching.{touched, touching}
use Rattle.pq_links.proofs.Changing.{free_uses}
use Rattle.pq_rules.specs.Row.{RowView, IsSound}
use Rattle.pq_rules.specs.Renaming.{renamed}
use Rattle.pq_match.specs.declared.looked.Looked.{Looked}
use Rattle.pq_match.specs.declared.runs.Run.{Run}
use Rattle.pq_match.specs.Redex.{gate_at, is_chosen, last_place}
use Rattle.pq_match.specs.Seek.{HasBit, IsMarked, LookAlike, HasFailed}
use Rattle.pq_match.specs.Work.{IsPlaced, IsExchanged, IsRun, IsSpare, ChangesAt, MarksPlaces}
use Rattle.pq_match.specs.Waiting.{StartsView, IsWaiting, IsNotedFailed, noted}
use Rattle.pq_match.specs.Settled.{IsQuiet, IsFailed, IsSettled, AreSettled, TwoStandBefore, IsUsedAt, AwaitRewriting}
use Rattle.pq_match.proofs.Placed.{room_long, whole, stays, freed, changes_on, changes_at, chosen_below}
use Rattle.pq_match.proofs.Quieting.{quiet_kept}
use Rattle.pq_match.proofs.RankedRedexes.{free_is, chosen_somewhere}
use Rattle.pq_match.proofs.RankedRewriting.{behind_last}
use Rattle.pq_match.proofs.Starting.{failed_alike}

-- no wire is in two masks that are apart
both_marked : (one other wire : ℕ) → bit_and one other ≡ 0 → HasBit one wire → HasBit other wire → ⊥
both_marked one other wire apart left right =
    let bit : bit_at (bit_and one other) (wire % 64) ≡ min (bit_at one (wire % 64)) (bit_at other (wire % 64)) = bit_at_and one other (wire % 64) in
    let none : bit_at (bit_and one other) (wire % 64) ≡ 0 = ap (λ n. bit_at n (wire % 64)) apart ∙ bit_at-zero (wire % 64) in
    omega (arith, bit, none, left, right)

-- whether a chosen gate uses a wire
used_more : (slots : List Gate) (places : List ℕ) (wire count : ℕ) → IsUsedAt slots places count wire → IsUsedAt slots places (suc count) wire
used_more slots places wire count used = record { at = used.at; one = used.one; below = (let b : used.at < count = used.below in omega arith); is = used.is }

used_or_not : (slots : List Gate) (places : List ℕ) (wire count : ℕ) → IsUsedAt slots places count wire ⊎ (IsUsedAt slots places count wire → ⊥)
used_or_not slots places wire zero = inr (λ used. (let b : used.at < 0 = used.below in absurd (omega arith)))
used_or_not slots places wire (suc count) =
    by (used_or_not slots places wire count) (cases_eq (wire_of false (gate_at slots (get_or places count 0))) wire) (cases_eq (wire_of true (gate_at slots (get_or places count 0))) wire)
  where
    last_not : (wire_of false (gate_at slots (get_or places count 0)) ≡ wire → ⊥) → (wire_of true (gate_at slots (get_or places count 0)) ≡ wire → ⊥) → (one : Bool) →
        wire_of one (gate_at slots (get_or places count 0)) ≡ wire → ⊥
    last_not none other false same = none same
    last_not none other true same = other same

    by : IsUsedAt slots places count wire ⊎ (IsUsedAt slots places count wire → ⊥) →
        (wire_of false (gate_at slots (get_or places count 0)) ≡ wire) ⊎ (wire_of false (gate_at slots (get_or places count 0)) ≡ wire → ⊥) →
        (wire_of true (gate_at slots (get_or places count 0)) ≡ wire) ⊎ (wire_of true (gate_at slots (get_or places count 0)) ≡ wire → ⊥) →
        IsUsedAt slots places (suc count) wire ⊎ (IsUsedAt slots places (suc count) wire → ⊥)
    by (inl used) _ _ = inl (used_more slots places wire count used)
    by (inr not) (inl same) _ = inl (record { at = count; one = false; below = omega arith; is = same })
    by (inr not) (inr none) (inl same) = inl (record { at = count; one = true; below = omega arith; is = same })
    by (inr not) (inr none) (inr other) = inr (λ used. at_last used (cases_lt used.at count))
      where
        at_last : (used : IsUsedAt slots places (suc count) wire) → (used.at < count) ⊎ (count ≤ used.at) → ⊥
        at_last used (inl less) = not (record { at = used.at; one = used.one; below = less; is = used.is })
        at_last used (inr last) =
            let b : used.at < suc count = used.below in
            let same : used.at ≡ count = omega arith in
            last_not none other used.one (ap (λ (k : ℕ). wire_of used.one (gate_at slots (get_or places k 0))) (sym same) ∙ used.is)

module _ (rules : List RowView) (slots : List Gate) (free : AreSlots slots) (row : RowView) (sound : IsSound row) (wires places : List ℕ) (placed : IsPlaced slots row wires places) (new : List Gate) (run : Run)
    (is : IsRun slots places (length row.replacement) run) (done : IsExchanged slots new row.replacement wires places run) where
  uses_own : (k : ℕ) (one : Bool) → k < length places → IsUsedAt slots places (length places) (wire_of one (gate_at slots (get_or places k 0)))
  uses_own k one below = record { at = k; one = one; below = below; is = refl }

  long : length (map (renamed wires) row.replacement) ≡ length row.replacement
  long = room_long slots free row sound wires places placed new run is done (IsUsedAt slots places (length places)) uses_own

  whole_new : length new ≡ length slots
  whole_new = whole slots free row sound wires places placed new run is done (IsUsedAt slots places (length places)) uses_own

  same_at : (p : ℕ) → is_chosen places p ≡ false → (p < run.start) ⊎ (run.start + length row.replacement ≤ p) → gate_at slots p ≡ gate_at new p
  same_at p other (inl low) = stays slots free row sound wires places placed new run is done (IsUsedAt slots places (length places)) uses_own p other (inl low)
  same_at p other (inr high) = stays slots free row sound wires places placed new run is done (IsUsedAt slots places (length places)) uses_own p other (inr (omega (arith, long)))

  freed_at : (p : ℕ) → p < length slots → is_chosen places p ≡ true → (p < run.start) ⊎ (run.start + length row.replacement ≤ p) → gate_at new p ≡ free_slot
  freed_at p inside chosen (inl low) = freed slots free row sound wires places placed new run is done (IsUsedAt slots places (length places)) uses_own p inside chosen (inl low)
  freed_at p inside chosen (inr high) = freed slots free row sound wires places placed new run is done (IsUsedAt slots places (length places)) uses_own p inside chosen (inr (omega (arith, long)))

  -- nothing changes behind the last chosen slot and the filled ones
  behind_same : (start : ℕ) → last_place places < start → run.start + length row.replacement ≤ start → (p : ℕ) → start ≤ p → gate_at slots p ≡ gate_at new p
  behind_same start late out p upto = same_at p (behind_last places placed.matches.rising p (omega arith)) (inr (omega arith))

  module _ (start : ℕ) (inside : start < length slots) (same : gate_at slots start ≡ gate_at new start) where
    -- a search that failed
    module _ (looked : Looked) (mask : ℕ) (marks : MarksPlaces slots places mask) (failed : HasFailed rules slots start looked) where
      changes : ChangesAt slots new (get_or places 0 0) run.end mask
      changes = changes_at slots free row sound wires places placed new run mask is done marks

      alike : ((p w : ℕ) → start < p → p < looked.reach → IsMarked looked.mask w → Touches (gate_at slots p) w ⊎ Touches (gate_at new p) w → gate_at slots p ≡ gate_at new p) →
          LookAlike start looked slots new
      alike stay = record {
        long = λ p near. (let w : length new ≡ length slots = whole_new in (λ below. omega arith, λ below. omega arith));
        first = same;
        same = stay;
      }

      apart_same : bit_and looked.mask mask ≡ 0 → (p w : ℕ) → IsMarked looked.mask w → (gate_at slots p ≡ gate_at new p) ⊎ HasBit mask w → gate_at slots p ≡ gate_at new p
      apart_same apart p w marked (inl is_same) = is_same
      apart_same apart p w marked (inr has) = absurd (both_marked looked.mask mask w apart marked.1 has)

      pub failed_kept : ((looked.reach ≤ get_or places 0 0) ⊎ (bit_and looked.mask mask ≡ 0)) ⊎ ((last_place places < start) × (run.start + length row.replacement ≤ start)) → HasFailed rules new start looked
      failed_kept (inl (inl short)) = failed_alike (alike (λ p w behind near marked uses. changes.before p (omega arith))) failed
      failed_kept (inl (inr apart)) = failed_alike (alike (λ p w behind near marked uses. apart_same apart p w marked (changes.on p w marked.0 uses))) failed
      failed_kept (inr (late, out)) = failed_alike (alike (λ p w behind near marked uses. behind_same start late out p (omega arith))) failed

    -- a quiet start
    module _ (quiet : IsQuiet rules slots start) (valid : last_wire (gate_at slots start) ≢ no_wire) where
      keeps : ((p : ℕ) → start < p → (p ≤ quiet.one) ⊎ ((quiet.one < length slots) × (p ≤ quiet.other)) → p < length slots →
          Touches (gate_at slots p) (last_wire (gate_at slots start)) ⊎ Touches (gate_at new p) (last_wire (gate_at slots start)) → gate_at slots p ≡ gate_at new p) → IsQuiet rules new start
      keeps stay =
          quiet_kept rules slots new start whole_new same quiet
          (record { same = λ p from upto in_slots uses. stay p (omega arith) (inl upto) in_slots uses })
          (λ one_in. record {
            same = λ p from upto in_slots uses. (let ahead : start + 1 ≤ quiet.one = quiet.ahead.next.ahead in stay p (omega arith) (inr (one_in, upto)) in_slots uses);
          })

      pub quiet_behind : last_place places < start → run.start + length row.replacement ≤ start → IsQuiet rules new start
      quiet_behind late out = keeps (λ p behind upto in_slots uses. behind_same start late out p (omega arith))

      pub quiet_unused : (IsUsedAt slots places (length places) (last_wire (gate_at slots start)) → ⊥) → IsQuiet rules new start
      quiet_unused unused = keeps (λ p behind upto in_slots uses. by p
          (changes_on slots free row sound wires places placed new run is done (IsUsedAt slots places (length places)) uses_own p (last_wire (gate_at slots start)) valid uses))
        where
          by : (p : ℕ) → (gate_at slots p ≡ gate_at new p) ⊎ IsUsedAt slots places (length places) (last_wire (gate_at slots start)) → gate_at slots p ≡ gate_at new p
          by p (inl is_same) = is_same
          by p (inr uses) = absurd (unused uses)

      -- two gates stand before each chosen one on the wire
      module _ (k : ℕ) (one : Bool) (below : k < length places) (on : wire_of one (gate_at slots (get_or places k 0)) ≡ last_wire (gate_at slots start))
          (two : TwoStandBefore slots places (last_wire (gate_at slots start)) start) where
        far_before : two.far < get_or places k 0
        far_before = two.before k one below on

        far_inside : two.far < length slots
        far_inside = (let b : two.far < get_or places k 0 = far_before in let i : get_or places k 0 < length slots = placed.matches.inside k 0 below in omega arith)

        far_end : two.far < run.end
        far_end =
            (let b : two.far < get_or places k 0 = far_before in
            let i : get_or places k 0 < run.end = chosen_below slots places (length row.replacement) run placed.matches.rising is k 0 below in omega arith)

        one_upto : quiet.one ≤ two.near
        one_upto = elim (cases_lt two.near quiet.one) [
          | inl less ↦
              absurd (quiet.ahead.next.none two.near (let b : start < two.near = two.behind in omega arith) less
              (let f : two.near < two.far = two.further in let i : two.far < length slots = far_inside in omega arith) two.near_on)
          | inr upto ↦ upto
        ]

        other_upto : quiet.one < length slots → quiet.other ≤ two.far
        other_upto one_in = elim (cases_lt two.far quiet.other) [
          | inl less ↦
              absurd ((quiet.ahead.behind one_in).none two.far (let u : quiet.one ≤ two.near = one_upto in let f : two.near < two.far = two.further in omega arith) less far_inside two.far_on)
          | inr upto ↦ upto
        ]

        -- a chosen gate up to there isn't on the wire
        not_on : (p : ℕ) → p ≤ two.far → is_chosen places p ≡ true → Touches (gate_at slots p) (last_wire (gate_at slots start)) → ⊥
        not_on p upto chosen touches =
            let at = chosen_somewhere places p chosen in
            let side = touched (gate_at slots p) (last_wire (gate_at slots start)) touches in
            let there : wire_of side.0 (gate_at slots (get_or places at.at 0)) ≡ last_wire (gate_at slots start) =
            ap (λ (q : ℕ). wire_of side.0 (gate_at slots q)) at.is ∙ sym side.1 in
            let before : two.far < get_or places at.at 0 = two.before at.at side.0 at.below there in
            let same_place : get_or places at.at 0 ≡ p = at.is in
            omega arith

        before_run : two.far < run.start
        before_run = elim (cases_lt two.far run.start) [ inl less ↦ less | inr from ↦ absurd (spare from (is.spare.each two.far from far_end)) ]
          where
            spare : run.start ≤ two.far → IsSpare slots places two.far → ⊥
            spare from (inl none) = free_uses (last_wire (gate_at slots start)) (gate_at slots two.far) (free_is slots two.far free far_inside none) valid two.far_on
            spare from (inr chosen) = not_on two.far (omega arith) chosen two.far_on

        stay : (p : ℕ) → p ≤ two.far → p < length slots → Touches (gate_at slots p) (last_wire (gate_at slots start)) ⊎ Touches (gate_at new p) (last_wire (gate_at slots start)) →
            (is_chosen places p ≡ true) ⊎ (is_chosen places p ≡ false) → gate_at slots p ≡ gate_at new p
        stay p upto in_slots uses (inr other) = same_at p other (inl (let b : two.far < run.start = before_run in omega arith))
        stay p upto in_slots (inl touches) (inl chosen) = absurd (not_on p upto chosen touches)
        stay p upto in_slots (inr touches) (inl chosen) =
            absurd (free_uses (last_wire (gate_at slots start)) (gate_at new p) (freed_at p in_slots chosen (inl (let b : two.far < run.start = before_run in omega arith))) valid touches)

        pub quiet_before : IsQuiet rules new start
        quiet_before = keeps (λ p behind upto in_slots uses. stay p (upto_far p upto) in_slots uses (cases_Bool (is_chosen places p)))
          where
            upto_far : (p : ℕ) → (p ≤ quiet.one) ⊎ ((quiet.one < length slots) × (p ≤ quiet.other)) → p ≤ two.far
            upto_far p (inl upto) = (let u : quiet.one ≤ two.near = one_upto in let f : two.near < two.far = two.further in omega arith)
            upto_far p (inr (one_in, upto)) = (let u : quiet.other ≤ two.far = other_upto one_in in omega arith)

  -- what doesn't wait is settled
  module _ (mask : ℕ) (before after : StartsView) (marks : MarksPlaces slots places mask) (await : AwaitRewriting slots places run.start (length row.replacement) mask before after)
      (settled : AreSettled rules slots before) where
    module _ (start : ℕ) (inside : start < length slots) (asleep : IsWaiting after start → ⊥) (other : is_chosen places start ≡ false) (out : (start < run.start) ⊎ (run.start + length row.replacement ≤ start)) where
      same : gate_at slots start ≡ gate_at new start
      same = same_at start other out

      out_late : last_place places < start → run.start + length row.replacement ≤ start
      out_late late = by out
        where
          by : (start < run.start) ⊎ (run.start + length row.replacement ≤ start) → run.start + length row.replacement ≤ start
          by (inl low) = absurd (let u : run.start ≤ last_place places = is.upto in omega arith)
          by (inr high) = high

      from_free : gate_at slots start ≡ free_slot → IsSettled rules new after start
      from_free none = inl (sym same ∙ none)

      from_failed : IsFailed rules slots before start → IsSettled rules new after start
      from_failed fails = inr (inr (record { noted_so = noted_so; failed = by (cases_lt (last_place places) start) }))
        where
          noted_so : IsNotedFailed after start
          noted_so = await.failed start other fails.noted_so

          was : HasFailed rules slots start (noted after start)
          was = subst (HasFailed rules slots start) (sym (await.noted start other)) fails.failed

          by : (last_place places < start) ⊎ (start ≤ last_place places) → HasFailed rules new start (noted after start)
          by (inl late) = failed_kept start inside same (noted after start) mask marks was (inr (late, out_late late))
          by (inr upto) = failed_kept start inside same (noted after start) mask marks was (inl (await.apart start other upto inside noted_so asleep))

      from_quiet : IsQuiet rules slots start → IsSettled rules new after start
      from_quiet quiet = by (cases_eq (last_wire (gate_at slots start)) no_wire) (cases_lt (last_place places) start) (used_or_not slots places (last_wire (gate_at slots start)) (length places))
        where
          by : (last_wire (gate_at slots start) ≡ no_wire) ⊎ (last_wire (gate_at slots start) ≡ no_wire → ⊥) → (last_place places < start) ⊎ (start ≤ last_place places) →
              IsUsedAt slots places (length places) (last_wire (gate_at slots start)) ⊎ (IsUsedAt slots places (length places) (last_wire (gate_at slots start)) → ⊥) → IsSettled rules new after start
          by (inl none) _ _ = from_free (free start inside (subst (Touches (gate_at slots start)) none (touching (gate_at slots start) true)))
          by (inr valid) (inl late) _ = inr (inl (quiet_behind start inside same quiet valid late (out_late late)))
          by (inr valid) (inr upto) (inr unused) = inr (inl (quiet_unused start inside same quiet valid unused))
          by (inr valid) (inr upto) (inl uses) =
              inr (inl (quiet_before start inside same quiet valid uses.at uses.one uses.below uses.is
              (await.around start uses.at uses.one other upto inside uses.below (sym uses.is) asleep)))

      from_settled : IsSettled rules slots before start → IsSettled rules new after start
      from_settled (inl none) = from_free none
      from_settled (inr (inl quiet)) = from_quiet quiet
      from_settled (inr (inr fails)) = from_failed fails

    pub settled_again : AreSettled rules new after
    settled_again = record { settled = λ start below asleep. by start (let w : length new ≡ length slots = whole_new in omega arith) asleep (cases_lt start run.start) (cases_lt start (run.start + length row.replacement)) }
      where
        out_of : (start : ℕ) → start < length slots → (IsWaiting after start → ⊥) → (start < run.start) ⊎ (run.start + length row.replacement ≤ start) →
            (is_chosen places start ≡ true) ⊎ (is_chosen places start ≡ false) → IsSettled rules new after start
        out_of start inside asleep out (inl chosen) = inl (freed_at start inside chosen out)
        out_of start inside asleep out (inr other) = from_settled start inside asleep other out (settled.settled start inside (await.kept start other asleep))

        by : (start : ℕ) → start < length slots → (IsWaiting after start → ⊥) → (start < run.start) ⊎ (run.start ≤ start) →
            (start < run.start + length row.replacement) ⊎ (run.start + length row.replacement ≤ start) → IsSettled rules new after start
        by start inside asleep (inl low) _ = out_of start inside asleep (inl low) (cases_Bool (is_chosen places start))
        by start inside asleep (inr from) (inl less) = absurd (asleep (await.filled start from less))
        by start inside asleep (inr from) (inr high) = out_of start inside asleep (inr high) (cases_Bool (is_chosen places start))
