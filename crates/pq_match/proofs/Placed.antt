-- A row's gates at places of slots, and what is exchanged there.
use Rattle.std.proofs.Common.{◌≡◌, ◌≢◌, ℕ, ◌+◌, ◌-◌, ◌<◌, ◌≤◌, Bool, true, false, List, [], ◌∷◌, ◌⊎◌, length, map, get_or, inl, inr, refl, ap, sym, subst, ◌∙◌, arith}
use Rattle.std.specs.Prelude.{All, AllPairs}
use Rattle.std.proofs.lemmas.Bool.{cases_lt, cases_Bool, both_ways}
use Rattle.std.proofs.lemmas.List.{get_or-map, get_or_default, get_or_past, length-map}
use Rattle.pq_gate.specs.declared.gate.Gate.{Gate}
use Rattle.pq_gate.specs.declared.gate.Gate.TheVariants.{H}
use Rattle.pq_gate.specs.Circuit.{AreOn, IsCircuit}
use Rattle.pq_gate.specs.Commuting.{Touches}
use Rattle.pq_gate.specs.Ports.{wires_of}
use Rattle.pq_links.specs.Wires.{wire_of}
use Rattle.pq_links.specs.Slots.{no_wire, free_slot, AreSlots}
use Rattle.pq_links.proofs.Touching.{touched, touching}
use Rattle.pq_links.proofs.Changing.{free_uses}
use Rattle.pq_rules.specs.Row.{RowView, Uses, IsSound}
use Rattle.pq_rules.specs.Renaming.{renamed}
use Rattle.pq_match.specs.declared.exchange.Gaps.{Gaps}
use Rattle.pq_match.specs.declared.runs.Run.{Run}
use Rattle.pq_match.specs.Redex.{gate_at, is_chosen}
use Rattle.pq_match.specs.Seek.{HasBit}
use Rattle.pq_match.specs.Work.{IsPlaced, IsExchanged, AreFreed, IsRun, IsSpare, AreOwn, AreGaps, IsGapOn, IsFreeRun, ChangesAt, MarksPlaces}
use Rattle.pq_match.proofs.RewritingWires.{places_long, chosen_at, all_renamed_same}
use Rattle.pq_match.proofs.SearchGates.{wire-renamed, wire_below, gate_on_wires, wires_apart}
use Rattle.pq_match.proofs.Ranks.{IsTaken}
use Rattle.pq_match.proofs.RankedRedexes.{free_is, taken_apart, placed_taken, chosen_somewhere, is_chosen_at}
use Rattle.pq_match.proofs.RankedRewriting.{behind_last, before_chosen}

on_wider : (n m : ℕ) → n ≤ m → (wires : List ℕ) → AreOn n wires → AreOn m wires
on_wider n m upto [] on = tt
on_wider n m upto (wire ∷ []) on = omega arith
on_wider n m upto (first ∷ second ∷ rest) on = (let low : first < n = on.0 in omega arith, let low : second < n = on.1 in omega arith, on.2)

-- a circuit on some wires is one on more
pub circuit_wider : (n m : ℕ) → n ≤ m → (gates : List Gate) → IsCircuit n gates → IsCircuit m gates
circuit_wider n m upto [] on = tt
circuit_wider n m upto (gate ∷ gates) on = (on_wider n m upto (wires_of gate) on.0, circuit_wider n m upto gates on.1)

-- what the run's slots hold when the chosen ones were freed
pub run_freed : (slots freed : List Gate) (places : List ℕ) (count : ℕ) (run : Run) → AreSlots slots → IsRun slots places count run → AreFreed slots freed places →
    IsFreeRun freed run.start run.end
run_freed slots freed places count run are is done = record {
  inside = let whole : length freed ≡ length slots = done.whole in let inside : run.end ≤ length slots = is.inside in omega arith;
  free = λ p from below.
      let inside : p < length slots = omega (arith, is.inside) in
      by p inside (is.spare.each p from below) (cases_Bool (is_chosen places p));
}
  where
    by : (p : ℕ) → p < length slots → IsSpare slots places p → (is_chosen places p ≡ true) ⊎ (is_chosen places p ≡ false) → gate_at freed p ≡ free_slot
    by p inside spare (inl chosen) = done.freed p inside chosen
    by p inside (inl free) (inr not) = done.others p inside not ∙ free_is slots p are inside free
    by p inside (inr chosen) (inr not) = done.freed p inside chosen

module _ (slots : List Gate) (free : AreSlots slots) (row : RowView) (sound : IsSound row) (wires places : List ℕ) (placed : IsPlaced slots row wires places) where
  taken : (k : ℕ) → k < length places → IsTaken slots (get_or places k 0)
  taken = placed_taken row sound slots free wires places placed.lead placed.matches

  long : length places ≡ length row.pattern
  long = places_long slots row.pattern wires places placed.matches.chosen

  -- a wire of the row is that of some chosen gate
  used_at : (w : ℕ) → w < row.wires → (s : ℕ) × (one : Bool) × (s < length places) × (w ≡ wire_of one (gate_at row.pattern s)) × (get_or wires w 0 ≡ wire_of one (gate_at slots (get_or places s 0)))
  used_at w below =
      let used : Uses row.pattern w = sound.wires.used w below in
      let at = touched used.1 w used.4 in
      let gate : gate_at row.pattern used.0 ≡ used.1 = get_or_default row.pattern used.0 (H 0) used.1 used.2 ∙ used.3 in
      let wire : w ≡ wire_of at.0 (gate_at row.pattern used.0) = at.1 ∙ ap (wire_of at.0) (sym gate) in
      let there : gate_at slots (get_or places used.0 0) ≡ renamed wires (gate_at row.pattern used.0) =
      chosen_at slots row.pattern wires places placed.matches.chosen used.0 (H 0) used.2 in (
        used.0,
        at.0,
        omega (arith, used.2, long),
        wire,
        ap (λ v. get_or wires v 0) wire ∙ (sym (wire-renamed wires at.0 (gate_at row.pattern used.0)) ∙ sym (ap (wire_of at.0) there)),
      )

  not_free : (w : ℕ) → w < row.wires → get_or wires w 0 ≢ no_wire
  not_free w below none =
      let at = used_at w below in
      let place : ℕ = get_or places at.0 0 in
      taken_apart slots place free (taken at.0 at.2) (subst (Touches (gate_at slots place)) (sym at.4 ∙ none) (touching (gate_at slots place) at.1))

  module _ (read : List ℕ) (right : (w : ℕ) → Uses row.pattern w → get_or read w 0 ≡ get_or wires w 0) where
    read_is : (w : ℕ) → w < row.wires → get_or read w 0 ≡ get_or wires w 0
    read_is w below = right w (sound.wires.used w below)

    own : (gates : List Gate) → IsCircuit row.wires gates → AreOwn read gates
    own gates on = record {
      count = row.wires;
      on = on;
      apart = λ v w v_in w_in same. wires_apart row.wires wires placed.lead v w v_in w_in (sym (read_is v v_in) ∙ (same ∙ read_is w w_in));
      own = λ v v_in none. not_free v v_in (sym (read_is v v_in) ∙ none);
    }

    pub own_pattern : AreOwn read row.pattern
    own_pattern = own row.pattern sound.wires.left

    pub own_replacement : AreOwn read row.replacement
    own_replacement = own row.replacement sound.wires.right

    pub chosen_read : map (gate_at slots) places ≡ map (renamed read) row.pattern
    chosen_read = placed.matches.chosen ∙ sym (all_renamed_same row.wires read wires row.pattern sound.wires.left read_is)

    pub replacement_read : map (renamed read) row.replacement ≡ map (renamed wires) row.replacement
    replacement_read = all_renamed_same row.wires read wires row.replacement sound.wires.right read_is

    -- the gaps on the pattern's wires are those on the replacement's
    pub gaps_replacement : (now : List Gate) (end : ℕ) (gaps : Gaps) → AreGaps now read end gaps row.pattern → AreGaps now read end gaps row.replacement
    gaps_replacement now end gaps are = record {
      all = λ k below. record {
        on = λ one.
            let w : ℕ = wire_of one (gate_at row.replacement k) in
            let at = used_at w (wire_below row.wires (gate_at row.replacement k) one (gate_on_wires row.wires row.replacement sound.wires.right k below)) in
            subst (λ (v : ℕ). IsGapOn now read end gaps v) (sym at.3) ((are.all at.0 (omega (arith, at.2, long))).on at.1);
      };
    }

  -- A rewriting changes only what lies between the first chosen slot and the run's end, and only on wires of chosen gates.
  module _ (new : List Gate) (run : Run) (is : IsRun slots places (length row.replacement) run) (done : IsExchanged slots new row.replacement wires places run) (Q : ℕ → Type 0)
      (marks : (k : ℕ) (one : Bool) → k < length places → Q (wire_of one (gate_at slots (get_or places k 0)))) where
    pub room_long : length (map (renamed wires) row.replacement) ≡ length row.replacement
    room_long = length-map row.replacement (renamed wires)

    pub whole : length new ≡ length slots
    whole = done.filled.whole ∙ done.freed.whole

    kept : (p : ℕ) → is_chosen places p ≡ false → gate_at slots p ≡ gate_at done.between p
    kept p other = elim (cases_lt p (length slots)) [
      | inl inside ↦ sym (done.freed.others p inside other)
      | inr past ↦ get_or_past slots p (H 0) past ∙ sym (get_or_past done.between p (H 0) (let e : length done.between ≡ length slots = done.freed.whole in omega arith))
    ]

    -- a slot outside of the filled ones that isn't chosen stays as it is
    pub stays : (p : ℕ) → is_chosen places p ≡ false → (p < run.start) ⊎ (run.start + length (map (renamed wires) row.replacement) ≤ p) → gate_at slots p ≡ gate_at new p
    stays p other (inl low) = kept p other ∙ sym (done.filled.before p low)
    stays p other (inr high) = kept p other ∙ sym (done.filled.behind p high)

    -- and a chosen one is free
    pub freed : (p : ℕ) → p < length slots → is_chosen places p ≡ true → (p < run.start) ⊎ (run.start + length (map (renamed wires) row.replacement) ≤ p) → gate_at new p ≡ free_slot
    freed p inside chosen (inl low) = done.filled.before p low ∙ done.freed.freed p inside chosen
    freed p inside chosen (inr high) = done.filled.behind p high ∙ done.freed.freed p inside chosen

    -- a wire of the replacement is marked
    put_marked : (k : ℕ) → k < length row.replacement → (w : ℕ) → Touches (renamed wires (gate_at row.replacement k)) w → Q w
    put_marked k below w touches =
        let at = touched (renamed wires (gate_at row.replacement k)) w touches in
        let v : ℕ = wire_of at.0 (gate_at row.replacement k) in
        let is_at = used_at v (wire_below row.wires (gate_at row.replacement k) at.0 (gate_on_wires row.wires row.replacement sound.wires.right k below)) in
        let same : w ≡ wire_of is_at.1 (gate_at slots (get_or places is_at.0 0)) = at.1 ∙ (wire-renamed wires at.0 (gate_at row.replacement k) ∙ is_at.4) in
        subst Q (sym same) (marks is_at.0 is_at.1 is_at.2)

    -- and so is one of a chosen gate
    chosen_marked : (p w : ℕ) → is_chosen places p ≡ true → Touches (gate_at slots p) w → Q w
    chosen_marked p w chosen touches =
        let at = chosen_somewhere places p chosen in
        let on_wire = touched (gate_at slots p) w touches in
        let same : w ≡ wire_of on_wire.0 (gate_at slots (get_or places at.at 0)) = on_wire.1 ∙ ap (λ q. wire_of on_wire.0 (gate_at slots q)) (sym at.is) in
        subst Q (sym same) (marks at.at on_wire.0 at.below)

    old_marked : (p w : ℕ) → w ≢ no_wire → p < run.end → run.start ≤ p → Touches (gate_at slots p) w → Q w
    old_marked p w valid below from touches =
        elim (is.spare.each p from below) [
          | inl none ↦ absurd (free_uses w (gate_at slots p) (free_is slots p free (omega (arith, is.inside)) none) valid touches)
          | inr chosen ↦ chosen_marked p w chosen touches
        ]

    in_run : (p w : ℕ) → w ≢ no_wire → run.start ≤ p → p < run.start + length (map (renamed wires) row.replacement) → Touches (gate_at slots p) w ⊎ Touches (gate_at new p) w → Q w
    in_run p w valid from below (inl touches) = old_marked p w valid (omega (arith, is.room, room_long)) from touches
    in_run p w valid from below (inr touches) =
        let k : ℕ = p - run.start in
        let low : k < length (map (renamed wires) row.replacement) = omega arith in
        let at : gate_at new p ≡ renamed wires (gate_at row.replacement k) =
        ap (gate_at new) (let e : p ≡ run.start + (p - run.start) = omega arith in e) ∙ done.filled.filled k low
        ∙ get_or-map (renamed wires) row.replacement k (H 0) (H 0) (omega (arith, low, room_long)) in
        put_marked k (omega (arith, low, room_long)) w (subst (λ (g : Gate). Touches g w) at touches)

    freed_here : (p w : ℕ) → w ≢ no_wire → is_chosen places p ≡ true → (p < run.start) ⊎ (run.start + length (map (renamed wires) row.replacement) ≤ p) →
        Touches (gate_at slots p) w ⊎ Touches (gate_at new p) w → Q w
    freed_here p w valid chosen where_is (inl touches) = chosen_marked p w chosen touches
    freed_here p w valid chosen where_is (inr touches) =
        let at = chosen_somewhere places p chosen in
        let inside : p < length slots = subst (λ q. q < length slots) at.is (placed.matches.inside at.at 0 at.below) in
        let new_is : gate_at new p ≡ gate_at done.between p = elim where_is [ inl low ↦ done.filled.before p low | inr high ↦ done.filled.behind p high ] in
        absurd (free_uses w (gate_at new p) (new_is ∙ done.freed.freed p inside chosen) valid touches)

    pub changes_on : (p w : ℕ) → w ≢ no_wire → Touches (gate_at slots p) w ⊎ Touches (gate_at new p) w → (gate_at slots p ≡ gate_at new p) ⊎ Q w
    changes_on p w valid uses = by (cases_lt p run.start) (cases_lt p (run.start + length (map (renamed wires) row.replacement))) (cases_Bool (is_chosen places p))
      where
        by : (p < run.start) ⊎ (run.start ≤ p) → (p < run.start + length (map (renamed wires) row.replacement)) ⊎ (run.start + length (map (renamed wires) row.replacement) ≤ p) →
            (is_chosen places p ≡ true) ⊎ (is_chosen places p ≡ false) → (gate_at slots p ≡ gate_at new p) ⊎ Q w
        by (inl low) second (inl chosen) = inr (freed_here p w valid chosen (inl low) uses)
        by (inl low) second (inr other) = inl (stays p other (inl low))
        by (inr from) (inl below) chosen = inr (in_run p w valid from below uses)
        by (inr from) (inr high) (inl chosen) = inr (freed_here p w valid chosen (inr high) uses)
        by (inr from) (inr high) (inr other) = inl (stays p other (inr high))

  pub changes_at : (new : List Gate) (run : Run) (mask : ℕ) → IsRun slots places (length row.replacement) run → IsExchanged slots new row.replacement wires places run → MarksPlaces slots places mask →
      ChangesAt slots new (get_or places 0 0) run.end mask
  changes_at new run mask is done marks = record {
    whole = whole new run is done (HasBit mask) marks.marked;
    before = λ p below. stays new run is done (HasBit mask) marks.marked p (before_chosen places placed.matches.rising p below) (inl (omega (arith, is.from)));
    behind = λ p upto.
        stays new run is done (HasBit mask) marks.marked p (behind_last places placed.matches.rising p (omega (arith, is.behind)))
        (inr (omega (arith, is.room, room_long new run is done (HasBit mask) marks.marked)));
    on = λ p w valid uses. changes_on new run is done (HasBit mask) marks.marked p w valid uses;
  }

-- each chosen place lies before the run's end
pub chosen_below : (slots : List Gate) (places : List ℕ) (count : ℕ) (run : Run) → AllPairs (λ i j. i < j) places → IsRun slots places count run → All (λ i. i < run.end) places
chosen_below slots places count run rising is k d below =
    let same : get_or places k d ≡ get_or places k 0 = get_or_default places k d 0 below in
    let chosen : is_chosen places (get_or places k 0) ≡ true = is_chosen_at places k (get_or places k 0) below refl in
    elim (cases_lt (get_or places k 0) run.end) [
      | inl low ↦ omega arith
      | inr high ↦
          (let none : is_chosen places (get_or places k 0) ≡ false = behind_last places rising (get_or places k 0) (omega (arith, is.behind)) in
          absurd (both_ways (is_chosen places (get_or places k 0)) none chosen))
    ]
