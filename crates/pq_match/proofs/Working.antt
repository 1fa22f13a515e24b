-- Rewriting the first redex of slots is rewriting the first one of the gates in them.
use Rattle.std.proofs.Common.{◌≡◌, ℕ, ◌<◌, Bool, true, false, cond, not, Some, List, length, get_or, refl, ap, sym, subst, ◌∙◌}
use Rattle.std.specs.Prelude.{All}
use Rattle.std.proofs.lemmas.Bool.{both_ways}
use Rattle.pq_gate.specs.declared.gate.Gate.{Gate}
use Rattle.pq_gate.specs.Commuting.{Touches}
use Rattle.pq_links.specs.Places.{gate_at}
use Rattle.pq_links.specs.Slots.{AreSlots, gates_in, is_free}
use Rattle.pq_links.proofs.Touching.{touching}
use Rattle.pq_rules.specs.Row.{RowView, IsSound}
use Rattle.pq_rules.specs.Kinds.{row_numbered}
use Rattle.pq_match.specs.declared.redex.Redex.{Redex}
use Rattle.pq_match.specs.declared.runs.Run.{Run}
use Rattle.pq_match.specs.Redex.{RedexView, IsRedex, HasNoRedex}
use Rattle.pq_match.specs.First.{IsFirst}
use Rattle.pq_match.specs.Found.{seen, IsFirstFound, IsRedexOf, Rewrites}
use Rattle.pq_match.specs.Rewrite.{rewritten}
use Rattle.pq_match.specs.Segment.{SegView, held, IsKnown}
use Rattle.pq_match.specs.Waiting.{StartsView}
use Rattle.pq_match.specs.Settled.{AreSettled, AwaitRewriting}
use Rattle.pq_match.specs.Work.{IsPlaced, IsExchanged, IsRun, IsFirstRewritten, IsFreeRun, MarksPlaces, AreTakenAt}
use Rattle.pq_match.proofs.Moving.{rewriting_shortens}
use Rattle.pq_match.proofs.OneFirst.{row_sound}
use Rattle.pq_match.proofs.Resettling.{settled_again}
use Rattle.pq_match.proofs.Placed.{run_freed}
use Rattle.pq_match.proofs.Ranks.{rank, slot_of, are_ranked}
use Rattle.pq_match.proofs.RankedRedexes.{moved, up_first, up_none, placed_taken, taken_apart}
use Rattle.pq_match.proofs.RankedRewriting.{rewritten_slots}

-- a redex that was found stands where its row's gates do
pub placed_redex : (rules : List RowView) (slots : List Gate) (redex : RedexView) (is : IsRedex rules slots redex) → IsPlaced slots is.row redex.wires redex.places
placed_redex rules slots redex is = record { lead = is.wires; some = is.some; matches = is.matches }

-- its places are taken
pub placed_own : (rules : List RowView) (sound : All IsSound rules) (slots : List Gate) (free : AreSlots slots) (redex : RedexView) (is : IsRedex rules slots redex) → AreTakenAt slots redex.places
placed_own rules sound slots free redex is = record {
  own = λ k one below none.
      taken_apart slots (get_or redex.places k 0) free
      (placed_taken is.row (row_sound rules redex.row is.row is.numbered sound) slots free redex.wires redex.places is.wires is.matches k below)
      (subst (Touches (gate_at slots (get_or redex.places k 0))) none (touching (gate_at slots (get_or redex.places k 0)) one));
}

module _ (rules : List RowView) (sound : All IsSound rules) (slots : List Gate) (free : AreSlots slots) where
  -- the gates in the slots have no redex where the slots have none
  pub none_held : HasNoRedex rules slots → HasNoRedex rules (gates_in slots)
  none_held none = up_none rules sound slots free (gates_in slots) (rank slots) (slot_of slots) (are_ranked slots) none

  module _ (redex : RedexView) (first : IsFirst rules slots (length slots) redex) (new : List Gate) (run : Run) (in_run : IsRun slots redex.places (length first.is.row.replacement) run)
      (done : IsExchanged slots new first.is.row.replacement redex.wires redex.places run) where
    held_is : gates_in new ≡ rewritten (gates_in slots) first.is.row.replacement (moved (rank slots) redex)
    held_is =
        let free_run : IsFreeRun done.between run.start run.end = run_freed slots done.between redex.places (length first.is.row.replacement) run free in_run done.freed in
        rewritten_slots rules sound slots free redex first.is done.between new run.start run.end done.freed done.filled in_run.upto in_run.behind in_run.inside in_run.room
        (λ p from below. ap is_free (free_run.free p from below))

    ranked_first : IsFirst rules (gates_in slots) (length (gates_in slots)) (moved (rank slots) redex)
    ranked_first = up_first rules sound slots free (gates_in slots) (rank slots) (slot_of slots) (are_ranked slots) redex first

    same_row : first.is.row ≡ ranked_first.is.row
    same_row = let one : row_numbered rules redex.row ≡ Some first.is.row = first.is.numbered in let other : row_numbered rules redex.row ≡ Some ranked_first.is.row = ranked_first.is.numbered in cc

    pub first_rewritten : IsFirstRewritten rules (gates_in slots) (gates_in new) first.is.row.phase
    first_rewritten = record {
      redex = moved (rank slots) redex;
      first = ranked_first;
      rewrites = record {
        gates = held_is ∙ ap (λ (row : RowView). rewritten (gates_in slots) row.replacement (moved (rank slots) redex)) same_row;
        turn = ap (λ (row : RowView). row.phase) same_row;
      };
    }

    pub fewer : length (gates_in new) < length (gates_in slots)
    unfolding first_rewritten
    fewer =
        let row : IsSound ranked_first.is.row = row_sound rules redex.row ranked_first.is.row ranked_first.is.numbered sound in
        let short : length (rewritten (gates_in slots) ranked_first.is.row.replacement (moved (rank slots) redex)) < length (gates_in slots) =
        rewriting_shortens rules (gates_in slots) (moved (rank slots) redex) ranked_first.is row in
        subst (λ (xs : List Gate). length xs < length (gates_in slots)) (sym first_rewritten.rewrites.gates) short

-- a redex of closed-up gates that was found first, and what it was rewritten to
pub closed_rewritten : (rules : List RowView) (gates new : List Gate) (redex : Redex) (phase : ℕ) → IsFirstFound rules gates (length gates) redex → Rewrites rules gates redex new phase →
    IsFirstRewritten rules gates new phase
closed_rewritten rules gates new redex phase found rewrites = record {
  redex = seen redex found.wires;
  first = found.first;
  rewrites = rewrites found.wires found.first.is;
}

-- a redex that was found is one
pub redex_found : (rules : List RowView) (gates : List Gate) (redex : Redex) → IsFirstFound rules gates (length gates) redex → IsRedexOf rules gates redex
redex_found rules gates redex found = record { wires = found.wires; is = found.first.is; few = found.padded.few }

pub held_closed : (seg : SegView) → seg.loaded ≡ false → held seg ≡ seg.items
held_closed seg closed = ap (λ (b : Bool). cond b (gates_in seg.work.gates) seg.items) closed

pub held_loaded : (seg : SegView) → seg.loaded ≡ true → held seg ≡ gates_in seg.work.gates
held_loaded seg loaded = ap (λ (b : Bool). cond b (gates_in seg.work.gates) seg.items) loaded

-- What was exchanged at the first redex of some slots.
module _ (rules : List RowView) (sound : All IsSound rules) (slots : List Gate) (free : AreSlots slots) (redex : RedexView) (first : IsFirst rules slots (length slots) redex)
    (row : RowView) (numbered : row_numbered rules redex.row ≡ Some row) (new : List Gate) (run : Run) (in_run : IsRun slots redex.places (length row.replacement) run)
    (done : (wires : List ℕ) → IsPlaced slots row wires redex.places → IsExchanged slots new row.replacement wires redex.places run) where
  its_row : row ≡ first.is.row
  its_row = let other : row_numbered rules redex.row ≡ Some first.is.row = first.is.numbered in cc

  its_run : IsRun slots redex.places (length first.is.row.replacement) run
  its_run = subst (λ (r : RowView). IsRun slots redex.places (length r.replacement) run) its_row in_run

  its_exchange : IsExchanged slots new first.is.row.replacement redex.wires redex.places run
  its_exchange =
      subst (λ (r : RowView). (wires : List ℕ) → IsPlaced slots r wires redex.places → IsExchanged slots new r.replacement wires redex.places run) its_row done redex.wires
      (placed_redex rules slots redex first.is)

  pub exchanged_first : (phase : ℕ) → phase ≡ row.phase → IsFirstRewritten rules (gates_in slots) (gates_in new) phase
  exchanged_first phase turn =
      subst (λ (k : ℕ). IsFirstRewritten rules (gates_in slots) (gates_in new) k) (sym (turn ∙ ap (λ (r : RowView). r.phase) its_row))
      (first_rewritten rules sound slots free redex first new run its_run its_exchange)

  pub exchanged_fewer : length (gates_in new) < length (gates_in slots)
  exchanged_fewer = fewer rules sound slots free redex first new run its_run its_exchange

  pub exchanged_settled : (mask : ℕ) (before after : StartsView) → MarksPlaces slots redex.places mask →
      AwaitRewriting slots redex.places run.start (length row.replacement) mask before after → AreSettled rules slots before → AreSettled rules new after
  exchanged_settled mask before after marks awaits settled =
      let own : IsSound first.is.row = row_sound rules redex.row first.is.row first.is.numbered sound in
      let placed : IsPlaced slots first.is.row redex.wires redex.places = placed_redex rules slots redex first.is in
      settled_again rules slots free first.is.row own redex.wires redex.places placed new run its_run its_exchange mask before after marks
      (subst (λ (r : RowView). AwaitRewriting slots redex.places run.start (length r.replacement) mask before after) its_row awaits) settled

pub none_loaded : (rules : List RowView) (seg : SegView) → seg.loaded ≡ true → HasNoRedex rules (gates_in seg.work.gates) → HasNoRedex rules (held seg)
none_loaded rules seg loaded none = subst (HasNoRedex rules) (sym (held_loaded seg loaded)) none

-- what is known of a segment that was loaded, by whether it stands in slots
pub known_loaded : (rules : List RowView) (seg : SegView) → seg.still ≡ not seg.loaded → (seg.loaded ≡ true → AreSettled rules seg.work.gates seg.work.starts) →
    (seg.loaded ≡ false → HasNoRedex rules seg.items) → IsKnown rules seg
known_loaded rules seg either settled none = record {
  settled = settled;
  none = λ still.
      (let closed : seg.loaded ≡ false = by seg.loaded (sym either ∙ still) in
      subst (HasNoRedex rules) (sym (held_closed seg closed)) (none closed));
}
  where
    by : (loaded : Bool) → not loaded ≡ true → loaded ≡ false
    by true is = absurd (both_ways false refl is)
    by false is = refl

-- and of one that is closed and has no redex
pub known_closed : (rules : List RowView) (seg : SegView) → seg.loaded ≡ false → HasNoRedex rules seg.items → IsKnown rules seg
known_closed rules seg closed none =
    let held_none : HasNoRedex rules (held seg) = subst (λ (gates : List Gate). HasNoRedex rules gates) (sym (held_closed seg closed)) none in
    record { settled = λ loaded. absurd (both_ways seg.loaded closed loaded); none = λ still. held_none }
