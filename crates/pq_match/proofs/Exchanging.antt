-- Freeing the slots of a redex, and putting its replacement into free ones.
use Rattle.std.proofs.Common.{◌≡◌, ◌≢◌, ℕ, ◌+◌, ◌<◌, ◌≤◌, Bool, true, false, List, ◌⊎◌, min, length, map, get_or, set, take, inl, inr, refl, ap, sym, subst, ◌∙◌, arith, length-set}
use Rattle.std.specs.Prelude.{AllPairs}
use Rattle.std.proofs.lemmas.Bool.{cases_eq, cases_lt, cases_Bool, both_ways}
use Rattle.std.proofs.lemmas.List.{get_or-set_same, get_or-set_other, get_or-map, get_or-take, length-map, length-take, take_all}
use Rattle.pq_gate.specs.declared.gate.Gate.{Gate}
use Rattle.pq_gate.specs.declared.gate.Gate.TheVariants.{H}
use Rattle.pq_gate.specs.Circuit.{IsOnWires}
use Rattle.pq_gate.specs.Commuting.{Touches}
use Rattle.pq_links.specs.declared.chains.Gap.{Gap}
use Rattle.pq_links.specs.Wires.{wire_of}
use Rattle.pq_links.specs.Links.{far}
use Rattle.pq_links.specs.Slots.{no_wire, free_slot, IsGap, ChainsView}
use Rattle.pq_links.proofs.Touching.{touched, touching}
use Rattle.pq_links.proofs.Gaps.{gap_removed, gap_inserted, gap_in_run, gap_at_end}
use Rattle.pq_rules.specs.Renaming.{renamed}
use Rattle.pq_match.specs.declared.exchange.Gaps.{Gaps}
use Rattle.pq_match.specs.Redex.{gate_at, is_chosen}
use Rattle.pq_match.specs.Work.{AreWhole, AreFreed, AreFilled, IsFreeRun, AreOwn, IsGapOn, AreGaps, AreGapsOn, AreLeft, KeepGaps}
use Rattle.pq_match.proofs.SearchGates.{wire-renamed, wire_below, gate_on_wires}
use Rattle.pq_match.proofs.RewritingWires.{chosen_at}
use Rattle.pq_match.proofs.RankedRedexes.{chosen_somewhere, is_chosen_at, not_chosen, IsChosenAt}

-- the gaps that were noted on both wires of a gate
pub gaps_on : (slots : List Gate) (wires : List ℕ) (end : ℕ) (gaps : Gaps) (gate : Gate) (first last : Gap) →
    IsGap slots (get_or wires (wire_of false gate) 0) end first.before first.after → IsGap slots (get_or wires (wire_of true gate) 0) end last.before last.after →
    AreLeft gate first last gaps → AreGapsOn slots wires end gaps gate
gaps_on slots wires end gaps gate first last on_first on_last left = record { on = on }
  where
    on_true : IsGapOn slots wires end gaps (wire_of true gate)
    on_true =
        subst (λ (b : ℕ). IsGap slots (get_or wires (wire_of true gate) 0) end b (get_or gaps.after (wire_of true gate) 0)) (sym left.last_before)
        (subst (λ (a : ℕ). IsGap slots (get_or wires (wire_of true gate) 0) end last.before a) (sym left.last_after) on_last)

    by : (wire_of false gate ≡ wire_of true gate) ⊎ (wire_of false gate ≡ wire_of true gate → ⊥) → IsGapOn slots wires end gaps (wire_of true gate) → IsGapOn slots wires end gaps (wire_of false gate)
    by (inl same) other = subst (λ (v : ℕ). IsGapOn slots wires end gaps v) (sym same) other
    by (inr differ) other =
        subst (λ (b : ℕ). IsGap slots (get_or wires (wire_of false gate) 0) end b (get_or gaps.after (wire_of false gate) 0)) (sym (left.first_before differ))
        (subst (λ (a : ℕ). IsGap slots (get_or wires (wire_of false gate) 0) end first.before a) (sym (left.first_after differ)) on_first)

    on : (one : Bool) → IsGapOn slots wires end gaps (wire_of one gate)
    on true = on_true
    on false = by (cases_eq (wire_of false gate) (wire_of true gate)) on_true

-- other wires keep their gaps
pub kept_gaps : (gate : Gate) (old : Gaps) (one other a b c d : ℕ) → one ≡ wire_of false gate → other ≡ wire_of true gate →
    KeepGaps gate old (record { before = set (set old.before one a) other b; after = set (set old.after one c) other d })
kept_gaps gate old one other a b c d is_one is_other = record {
  before = λ v apart. kept old.before a b v apart;
  after = λ v apart. kept old.after c d v apart;
}
  where
    kept : (xs : List ℕ) (m n v : ℕ) → ((two : Bool) → v ≢ wire_of two gate) → get_or (set (set xs one m) other n) v 0 ≡ get_or xs v 0
    kept xs m n v apart =
        get_or-set_other (set xs one m) other v n 0 (λ same. apart true (same ∙ is_other))
        ∙ get_or-set_other xs one v m 0 (λ same. apart false (same ∙ is_one))

-- a gate's wires are led to its renamed ones, and no other wire to one of these
pub untouched : (wires : List ℕ) (gates : List Gate) (own : AreOwn wires gates) (gate : Gate) → IsOnWires own.count gate → (v : ℕ) → v < own.count →
    ((two : Bool) → v ≢ wire_of two gate) → ¬ Touches (renamed wires gate) (get_or wires v 0)
untouched wires gates own gate on v below apart touches =
    let at = touched (renamed wires gate) (get_or wires v 0) touches in
    apart at.0 (own.apart v (wire_of at.0 gate) below (wire_below own.count gate at.0 on) (at.1 ∙ wire-renamed wires at.0 gate))

-- a gap on a wire after a change at a gate's wires
pub gap_after : (new : List Gate) (wires : List ℕ) (end : ℕ) (old_gaps new_gaps : Gaps) (gate : Gate) (v : ℕ) → AreGapsOn new wires end new_gaps gate → KeepGaps gate old_gaps new_gaps →
    (((two : Bool) → v ≢ wire_of two gate) → IsGap new (get_or wires v 0) end (get_or old_gaps.before v 0) (get_or old_gaps.after v 0)) → IsGapOn new wires end new_gaps v
gap_after new wires end old_gaps new_gaps gate v on keep other = by (cases_eq v (wire_of false gate)) (cases_eq v (wire_of true gate))
  where
    at : (one : Bool) → v ≡ wire_of one gate → IsGapOn new wires end new_gaps v
    at one same = subst (λ (w : ℕ). IsGapOn new wires end new_gaps w) (sym same) (on.on one)

    apart : (v ≡ wire_of false gate → ⊥) → (v ≡ wire_of true gate → ⊥) → (two : Bool) → v ≢ wire_of two gate
    apart first last true = last
    apart first last false = first

    by : (v ≡ wire_of false gate) ⊎ (v ≡ wire_of false gate → ⊥) → (v ≡ wire_of true gate) ⊎ (v ≡ wire_of true gate → ⊥) → IsGapOn new wires end new_gaps v
    by (inl same) last = at false same
    by (inr first) (inl same) = at true same
    by (inr first) (inr last) =
        let differ : (two : Bool) → v ≢ wire_of two gate = apart first last in
        subst (λ (b : ℕ). IsGap new (get_or wires v 0) end b (get_or new_gaps.after v 0)) (sym (keep.before v differ))
        (subst (λ (a : ℕ). IsGap new (get_or wires v 0) end (get_or old_gaps.before v 0) a) (sym (keep.after v differ)) (other differ))

front_at : (gates : List Gate) (k j : ℕ) → j < k → gate_at (take k gates) j ≡ gate_at gates j
front_at gates k j below = get_or-take k gates j (H 0) below

-- the gaps on the wires of one gate of the pattern more
pub gaps_more : (slots new : List Gate) (chains : ChainsView) (wires : List ℕ) (pattern : List Gate) (end place k : ℕ) (old_gaps new_gaps : Gaps) → AreWhole slots chains → AreOwn wires pattern →
    k < length pattern → place < end → end ≤ length slots → gate_at slots place ≡ renamed wires (gate_at pattern k) → new ≡ set slots place free_slot →
    AreGaps slots wires end old_gaps (take k pattern) → AreGapsOn new wires end new_gaps (gate_at pattern k) → KeepGaps (gate_at pattern k) old_gaps new_gaps →
    AreGaps new wires end new_gaps (take (k + 1) pattern)
gaps_more slots new chains wires pattern end place k old_gaps new_gaps whole own k_in below inside gate is gaps on keep = record { all = λ j j_in. by j (omega (arith, length-take (k + 1) pattern)) (cases_lt j k) }
  where
    gate_on : IsOnWires own.count (gate_at pattern k)
    gate_on = gate_on_wires own.count pattern own.on k k_in

    earlier : (j : ℕ) → j < k → (one : Bool) → IsGapOn new wires end new_gaps (wire_of one (gate_at pattern j))
    earlier j less one =
        let v : ℕ = wire_of one (gate_at pattern j) in
        let v_in : v < own.count = wire_below own.count (gate_at pattern j) one (gate_on_wires own.count pattern own.on j (omega arith)) in
        let few : length slots < far = whole.few in
        let old : AreGapsOn slots wires end old_gaps (gate_at pattern j) =
        subst (AreGapsOn slots wires end old_gaps) (front_at pattern k j less) (gaps.all j (omega (arith, length-take k pattern))) in
        gap_after new wires end old_gaps new_gaps (gate_at pattern k) v on keep
        (λ apart. subst (λ (xs : List Gate). IsGap xs (get_or wires v 0) end (get_or old_gaps.before v 0) (get_or old_gaps.after v 0)) (sym is)
        (gap_removed slots place few (omega arith) inside (own.own v v_in)
        (λ touches. untouched wires pattern own (gate_at pattern k) gate_on v v_in apart (subst (λ (g : Gate). Touches g (get_or wires v 0)) gate touches)) (old.on one)))

    by : (j : ℕ) → j < k + 1 → (j < k) ⊎ (k ≤ j) → AreGapsOn new wires end new_gaps (gate_at (take (k + 1) pattern) j)
    by j j_in (inl less) = subst (AreGapsOn new wires end new_gaps) (sym (front_at pattern (k + 1) j j_in)) (record { on = earlier j less })
    by j j_in (inr upto) =
        let same : k ≡ j = omega arith in
        subst (AreGapsOn new wires end new_gaps) (ap (gate_at pattern) same ∙ sym (front_at pattern (k + 1) j j_in)) on

pub gaps_none : (slots : List Gate) (wires : List ℕ) (end : ℕ) (gaps : Gaps) (pattern : List Gate) → AreGaps slots wires end gaps (take 0 pattern)
gaps_none slots wires end gaps pattern = record { all = λ j j_in. absurd (omega arith) }

pub gaps_all : (slots : List Gate) (wires : List ℕ) (end : ℕ) (gaps : Gaps) (pattern : List Gate) (k : ℕ) → length pattern ≤ k → AreGaps slots wires end gaps (take k pattern) →
    AreGaps slots wires end gaps pattern
gaps_all slots wires end gaps pattern k all are = subst (AreGaps slots wires end gaps) (take_all k pattern all) are

-- none was freed yet
pub freed_none : (slots : List Gate) (places : List ℕ) → AreFreed slots slots (take 0 places)
freed_none slots places = record { whole = refl; freed = λ p below chosen. absurd (cc); others = λ p below not. refl }

pub freed_all : (old new : List Gate) (places : List ℕ) (k : ℕ) → length places ≤ k → AreFreed old new (take k places) → AreFreed old new places
freed_all old new places k all are = subst (AreFreed old new) (take_all k places all) are

front_place : (places : List ℕ) (k j : ℕ) → j < k → get_or (take k places) j 0 ≡ get_or places j 0
front_place places k j below = get_or-take k places j 0 below

-- one more was freed
pub freed_more : (old now new : List Gate) (places : List ℕ) (k : ℕ) → k < length places → get_or places k 0 < length old → new ≡ set now (get_or places k 0) free_slot →
    AreFreed old now (take k places) → AreFreed old new (take (k + 1) places)
freed_more old now new places k k_in inside is are = record {
  whole = ap (λ (xs : List Gate). length xs) is ∙ length-set now (get_or places k 0) free_slot ∙ are.whole;
  freed = λ p below chosen. freed_at p below (cases_eq p (get_or places k 0)) (chosen_somewhere (take (k + 1) places) p chosen);
  others = λ p below not.
      let differ : p ≢ get_or places k 0 = λ same. chosen_now p not same in
      ap (λ (xs : List Gate). gate_at xs p) is ∙ get_or-set_other now (get_or places k 0) p free_slot (H 0) differ
      ∙ are.others p below (not_chosen (take (k + 1) places) (take k places) p p (λ at. later p at) not);
}
  where
    long : length now ≡ length old
    long = are.whole

    here : (p : ℕ) → p ≡ get_or places k 0 → gate_at new p ≡ free_slot
    here p same =
        ap (λ (xs : List Gate). gate_at xs p) is ∙ ap (λ (q : ℕ). gate_at (set now (get_or places k 0) free_slot) q) same
        ∙ get_or-set_same now (get_or places k 0) free_slot (H 0) (omega (arith, long))

    later : (p : ℕ) → IsChosenAt (take k places) p → IsChosenAt (take (k + 1) places) p
    later p at =
        let low : at.at < k = omega (arith, at.below, length-take k places) in
        record {
          at = at.at;
          below = omega (arith, length-take (k + 1) places);
          is = front_place places (k + 1) at.at (omega arith) ∙ (sym (front_place places k at.at low) ∙ at.is);
        }

    chosen_now : (p : ℕ) → is_chosen (take (k + 1) places) p ≡ false → p ≡ get_or places k 0 → ⊥
    chosen_now p not same =
        both_ways (is_chosen (take (k + 1) places) p) not
        (is_chosen_at (take (k + 1) places) k p (omega (arith, length-take (k + 1) places)) (front_place places (k + 1) k (omega arith) ∙ sym same))

    freed_at : (p : ℕ) → p < length old → (p ≡ get_or places k 0) ⊎ (p ≡ get_or places k 0 → ⊥) → IsChosenAt (take (k + 1) places) p → gate_at new p ≡ free_slot
    freed_at p below (inl same) at = here p same
    freed_at p below (inr differ) at =
        let high : at.at < k + 1 = omega (arith, at.below, length-take (k + 1) places) in
        let is_at : get_or places at.at 0 ≡ p = sym (front_place places (k + 1) at.at high) ∙ at.is in
        let not_k : at.at ≢ k = λ same. differ (sym (sym (ap (λ i. get_or places i 0) same) ∙ is_at)) in
        let low : at.at < k = omega arith in
        ap (λ (xs : List Gate). gate_at xs p) is ∙ get_or-set_other now (get_or places k 0) p free_slot (H 0) differ
        ∙ are.freed p below (is_chosen_at (take k places) at.at p (omega (arith, length-take k places)) (front_place places k at.at low ∙ is_at))

-- the gate at a chosen place that wasn't freed yet
pub still_there : (old now : List Gate) (places wires : List ℕ) (pattern : List Gate) (k : ℕ) → AllPairs (λ i j. i < j) places → length places ≡ length pattern → k < length places →
    get_or places k 0 < length old → map (gate_at old) places ≡ map (renamed wires) pattern → AreFreed old now (take k places) → gate_at now (get_or places k 0) ≡ renamed wires (gate_at pattern k)
still_there old now places wires pattern k rising long k_in inside chosen are =
    are.others (get_or places k 0) inside (not_chosen_here (cases_Bool (is_chosen (take k places) (get_or places k 0))))
    ∙ chosen_at old pattern wires places chosen k (H 0) (omega arith)
  where
    not_chosen_here : (is_chosen (take k places) (get_or places k 0) ≡ true) ⊎ (is_chosen (take k places) (get_or places k 0) ≡ false) → is_chosen (take k places) (get_or places k 0) ≡ false
    not_chosen_here (inl chosen) =
        let at = chosen_somewhere (take k places) (get_or places k 0) chosen in
        let low : at.at < k = omega (arith, at.below, length-take k places) in
        let less : get_or places at.at 0 < get_or places k 0 = rising at.at k 0 low k_in in
        let same : get_or places at.at 0 ≡ get_or places k 0 = sym (front_place places k at.at low) ∙ at.is in
        absurd (omega arith)
    not_chosen_here (inr not) = not

-- none of its wires is that of free slots
pub own_wires : (wires : List ℕ) (pattern : List Gate) (k : ℕ) (gate : Gate) → AreOwn wires pattern → k < length pattern → gate ≡ renamed wires (gate_at pattern k) →
    (one : Bool) → wire_of one gate ≢ no_wire
own_wires wires pattern k gate own k_in is one same =
    own.own (wire_of one (gate_at pattern k)) (wire_below own.count (gate_at pattern k) one (gate_on_wires own.count pattern own.on k k_in))
    (sym (ap (wire_of one) is ∙ wire-renamed wires one (gate_at pattern k)) ∙ same)

pub own_leads : (wires : List ℕ) (gates : List Gate) (k : ℕ) → AreOwn wires gates → k < length gates → (one : Bool) → get_or wires (wire_of one (gate_at gates k)) 0 ≢ no_wire
own_leads wires gates k own k_in one =
    own.own (wire_of one (gate_at gates k)) (wire_below own.count (gate_at gates k) one (gate_on_wires own.count gates own.on k k_in))

-- what is put in doesn't use the wire of free slots
pub own_put : (wires : List ℕ) (gate put : Gate) → put ≡ renamed wires gate → ((one : Bool) → get_or wires (wire_of one gate) 0 ≢ no_wire) → ¬ Touches put no_wire
own_put wires gate put is own touches =
    let at = touched put no_wire touches in
    own at.0 (sym (ap (wire_of at.0) is ∙ wire-renamed wires at.0 gate) ∙ sym at.1)

led_wire : (wires : List ℕ) (gate put : Gate) (one : Bool) → put ≡ renamed wires gate → wire_of one put ≡ get_or wires (wire_of one gate) 0
led_wire wires gate put one is = ap (wire_of one) is ∙ wire-renamed wires one gate

-- the gap at the end is one at the first slot of a free run before it
pub gap_here : (slots : List Gate) (place end : ℕ) (wires : List ℕ) (gaps : Gaps) (gate put : Gate) (one : Bool) (v : ℕ) → IsFreeRun slots place end → place < end →
    ((one : Bool) → get_or wires (wire_of one gate) 0 ≢ no_wire) → AreGapsOn slots wires end gaps gate → put ≡ renamed wires gate → v ≡ wire_of one gate →
    IsGap slots (wire_of one put) place (get_or gaps.before v 0) (get_or gaps.after v 0)
gap_here slots place end wires gaps gate put one v run below own on is at =
    let there : IsGap slots (get_or wires (wire_of one gate) 0) place (get_or gaps.before (wire_of one gate) 0) (get_or gaps.after (wire_of one gate) 0) =
    gap_in_run slots place end run.inside (omega arith) (own one) run.free (on.on one) in
    subst (λ (w : ℕ). IsGap slots w place (get_or gaps.before v 0) (get_or gaps.after v 0)) (sym (led_wire wires gate put one is))
    (subst (λ (u : ℕ). IsGap slots (get_or wires (wire_of one gate) 0) place (get_or gaps.before u 0) (get_or gaps.after u 0)) (sym at) there)

-- the gaps behind the gate that was put in
pub gaps_behind : (slots new : List Gate) (chains : ChainsView) (place end : ℕ) (wires : List ℕ) (gaps new_gaps : Gaps) (gate put : Gate) (first last : Gap) (one other : ℕ) → AreWhole slots chains →
    IsFreeRun slots place end → place < end → ((one : Bool) → get_or wires (wire_of one gate) 0 ≢ no_wire) → AreGapsOn slots wires end gaps gate → put ≡ renamed wires gate →
    new ≡ set slots place put → one ≡ wire_of false gate → other ≡ wire_of true gate → first.before ≡ place → first.after ≡ get_or gaps.after one 0 → last.before ≡ place →
    last.after ≡ get_or gaps.after other 0 → AreLeft gate first last new_gaps → AreGapsOn new wires end new_gaps gate
gaps_behind slots new chains place end wires gaps new_gaps gate put first last one other whole run below own on is new_is is_one is_other first_before first_after last_before last_after left =
    gaps_on new wires end new_gaps gate first last (behind false first one is_one first_before first_after) (behind true last other is_other last_before last_after) left
  where
    behind : (two : Bool) (gap : Gap) (v : ℕ) → v ≡ wire_of two gate → gap.before ≡ place → gap.after ≡ get_or gaps.after v 0 → IsGap new (get_or wires (wire_of two gate) 0) end gap.before gap.after
    behind two gap v at before after =
        let few : length slots < far = whole.few in
        let uses : Touches put (get_or wires (wire_of two gate) 0) = subst (Touches put) (led_wire wires gate put two is) (touching put two) in
        let there : IsGap (set slots place put) (get_or wires (wire_of two gate) 0) end place (get_or gaps.after (wire_of two gate) 0) =
        gap_at_end slots place end put few below run.inside (own two) run.free uses (on.on two) in
        subst (λ (xs : List Gate). IsGap xs (get_or wires (wire_of two gate) 0) end gap.before gap.after) (sym new_is)
        (subst (λ (b : ℕ). IsGap (set slots place put) (get_or wires (wire_of two gate) 0) end b gap.after) (sym before)
        (subst (λ (a : ℕ). IsGap (set slots place put) (get_or wires (wire_of two gate) 0) end place a) (sym (after ∙ ap (λ (u : ℕ). get_or gaps.after u 0) at)) there))

-- nothing was put in yet
pub filled_none : (slots : List Gate) (start : ℕ) (wires : List ℕ) (gates : List Gate) → AreFilled slots slots start (map (renamed wires) (take 0 gates))
filled_none slots start wires gates = record { whole = refl; filled = λ k below. absurd (omega arith); before = λ p below. refl; behind = λ p upto. refl }

pub filled_all : (old new : List Gate) (start : ℕ) (wires : List ℕ) (gates : List Gate) (k : ℕ) → length gates ≤ k → AreFilled old new start (map (renamed wires) (take k gates)) →
    AreFilled old new start (map (renamed wires) gates)
filled_all old new start wires gates k all are = subst (λ (xs : List Gate). AreFilled old new start (map (renamed wires) xs)) (take_all k gates all) are

-- one more was put in
pub filled_more : (old now new : List Gate) (start k : ℕ) (wires : List ℕ) (gates : List Gate) → k < length gates → start + k < length old → new ≡ set now (start + k) (renamed wires (gate_at gates k)) →
    AreFilled old now start (map (renamed wires) (take k gates)) → AreFilled old new start (map (renamed wires) (take (k + 1) gates))
filled_more old now new start k wires gates k_in inside is are = record {
  whole = ap (λ (xs : List Gate). length xs) is ∙ length-set now (start + k) (renamed wires (gate_at gates k)) ∙ are.whole;
  filled = λ j below. by j (omega (arith, long (k + 1))) (cases_lt j k);
  before = λ p below.
      ap (λ (xs : List Gate). gate_at xs p) is ∙ get_or-set_other now (start + k) p (renamed wires (gate_at gates k)) (H 0) (λ same. omega arith) ∙ are.before p below;
  behind = λ p upto.
      let high : start + (k + 1) ≤ p = omega (arith, long (k + 1)) in
      ap (λ (xs : List Gate). gate_at xs p) is ∙ get_or-set_other now (start + k) p (renamed wires (gate_at gates k)) (H 0) (λ same. omega arith)
      ∙ are.behind p (omega (arith, long k));
}
  where
    long : (n : ℕ) → length (map (renamed wires) (take n gates)) ≡ min n (length gates)
    long n = length-map (take n gates) (renamed wires) ∙ length-take n gates

    at : (n j : ℕ) → j < n → j < length gates → gate_at (map (renamed wires) (take n gates)) j ≡ renamed wires (gate_at gates j)
    at n j less j_in =
        get_or-map (renamed wires) (take n gates) j (H 0) (H 0) (omega (arith, length-take n gates)) ∙ ap (renamed wires) (front_at gates n j less)

    by : (j : ℕ) → j < k + 1 → (j < k) ⊎ (k ≤ j) → gate_at new (start + j) ≡ gate_at (map (renamed wires) (take (k + 1) gates)) j
    by j j_in (inl less) =
        ap (λ (xs : List Gate). gate_at xs (start + j)) is
        ∙ get_or-set_other now (start + k) (start + j) (renamed wires (gate_at gates k)) (H 0) (λ same. omega arith)
        ∙ are.filled j (omega (arith, long k)) ∙ at k j less (omega arith) ∙ sym (at (k + 1) j j_in (omega arith))
    by j j_in (inr upto) =
        let same : start + j ≡ start + k = omega arith in
        let one : j ≡ k = omega arith in
        let whole : length now ≡ length old = are.whole in
        ap (λ (xs : List Gate). gate_at xs (start + j)) is ∙ ap (λ (p : ℕ). gate_at (set now (start + k) (renamed wires (gate_at gates k))) p) same
        ∙ get_or-set_same now (start + k) (renamed wires (gate_at gates k)) (H 0) (omega arith)
        ∙ ap (λ (i : ℕ). renamed wires (gate_at gates i)) (sym one) ∙ sym (at (k + 1) j j_in (omega arith))

-- the rest of a run stays free
pub run_more : (now new : List Gate) (place end : ℕ) (gate : Gate) → new ≡ set now place gate → IsFreeRun now place end → IsFreeRun new (place + 1) end
run_more now new place end gate is run = record {
  inside = let long : length new ≡ length now = ap (λ (xs : List Gate). length xs) is ∙ length-set now place gate in let upto : end ≤ length now = run.inside in omega arith;
  free = λ p from below. ap (λ (xs : List Gate). gate_at xs p) is ∙ get_or-set_other now place p gate (H 0) (λ same. omega arith) ∙ run.free p (omega arith) below;
}

-- the gaps on the wires of all gates of a replacement, when one of them was put in
pub gaps_put : (slots new : List Gate) (chains : ChainsView) (wires : List ℕ) (gates : List Gate) (place end k : ℕ) (old_gaps new_gaps : Gaps) → AreWhole slots chains → AreOwn wires gates → k < length gates →
    IsFreeRun slots place end → place < end → new ≡ set slots place (renamed wires (gate_at gates k)) → AreGaps slots wires end old_gaps gates → AreGapsOn new wires end new_gaps (gate_at gates k) →
    KeepGaps (gate_at gates k) old_gaps new_gaps → AreGaps new wires end new_gaps gates
gaps_put slots new chains wires gates place end k old_gaps new_gaps whole own k_in run below is gaps on keep = record { all = λ j j_in. record { on = at j j_in } }
  where
    at : (j : ℕ) → j < length gates → (one : Bool) → IsGapOn new wires end new_gaps (wire_of one (gate_at gates j))
    at j j_in one =
        let v : ℕ = wire_of one (gate_at gates j) in
        let v_in : v < own.count = wire_below own.count (gate_at gates j) one (gate_on_wires own.count gates own.on j j_in) in
        let few : length slots < far = whole.few in
        let inside : end ≤ length slots = run.inside in
        let put : Gate = renamed wires (gate_at gates k) in
        gap_after new wires end old_gaps new_gaps (gate_at gates k) v on keep
        (λ apart. subst (λ (xs : List Gate). IsGap xs (get_or wires v 0) end (get_or old_gaps.before v 0) (get_or old_gaps.after v 0)) (sym is)
        (gap_inserted slots place put few (omega arith) inside (own.own v v_in) (run.free place (omega arith) below)
        (untouched wires gates own (gate_at gates k) (gate_on_wires own.count gates own.on k k_in) v v_in apart) ((gaps.all j j_in).on one)))
