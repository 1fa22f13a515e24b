use Rattle.std.proofs.Common.{◌≡◌, ◌+◌, ℕ, Option, List, length, get_or, refl, ap, sym, ◌∙◌}
use Rattle.pq_gate.specs.declared.gate.Gate.{Gate}
use Rattle.pq_array.specs.Cells.{rank, IsLiveRun, Replaces}
use Rattle.pq_array.proofs.Lowering.{lowers, lowers_can, lowers_more, lowers_all, run_rest, written_over, tree_replaced, replaced_is}
use Rattle.pq_array.proofs.Replacing.{run_at}
use Rattle.pq_array.proofs.array.GateArray.replace.Goals as goal

pub loop-place-init : goal.loop-place-init
loop-place-init c = record { same = refl; lowers = lowers c.self.inside.cells c.self.inside.words.items _ c.self.invariant.0 }

pub lower-requires-clause-counted : goal.lower-requires-clause-counted
lower-requires-clause-counted c = λ node some halves.
    let words = c.deref_mut.ensures.value in
    let cells = c.self.inside.cells in
    let run : IsLiveRun cells c.args.places.now = rw (← c.self.view_is) at c.requires.run in
    rw words
    (lowers_can (rank cells (get_or c.args.places.now 0 0) + length c.args.output.now) c.self.invariant.0 (run_rest cells c.args.places.now (length c.args.output.now) run)
    c.loop-place-test.true c.loop-place.invariant.lowers node some (rw words at halves))

pub loop-place-preserved : goal.loop-place-preserved
loop-place-preserved c =
    let cells = c.self.inside.cells in
    let run : IsLiveRun cells c.args.places.now = rw (← c.self.view_is) at c.requires.run in
    let long : length c.lower.new.words ≡ c.loop-place.self-inside.words.len =
    c.lower.ensures.size ∙ (ap (λ (w : List ℕ). length w) c.deref_mut.ensures.value ∙ sym c.loop-place.self-inside.words.ok.0) in
    record {
      same = c.loop-place.invariant.same;
      lowers =
          rw (written_over c.loop-place.self-inside.words.items c.lower.new.words c.loop-place.self-inside.words.len long)
          (lowers_more (rank cells (get_or c.args.places.now 0 0) + length c.args.output.now) c.self.invariant.0
          (run_rest cells c.args.places.now (length c.args.output.now) run) c.loop-place-test.true c.loop-place.invariant.lowers
          (rw c.deref_mut.ensures.value at c.lower.ensures));
    }

-- the cells as they were before any place was lowered
record Put (old new : List (Option Gate)) (places : List ℕ) (output : List Gate) : Type 0 where
  run : IsLiveRun old places
  replaces : Replaces old new places output

put_is : (c : goal.After-replace) → Put c.self.inside.cells c.replace.new.self c.args.places.now c.args.output.now
put_is c = record {
  run = rw (← c.self.view_is) at c.requires.run;
  replaces = rw c.loop-place.invariant.same at c.replace.ensures.cells;
}

pub replace-requires-clause-run : goal.replace-requires-clause-run
replace-requires-clause-run c = rw (c.loop-place.invariant.same, c.self.view_is) c.requires.run

pub invariant_of-self : goal.invariant_of-self
invariant_of-self c =
    let put = put_is c in
    let cells = c.self.inside.cells in
    let done = lowers_all c.args.places.now (length c.args.output.now) c.loop-place.place-index c.loop-place-test.false c.loop-place.auto.place-index-end c.loop-place.invariant.lowers in (
      tree_replaced c.args.places.now c.args.output.now (rank cells (get_or c.args.places.now 0 0)) c.self.invariant.0 (run_at cells c.args.places.now put.run)
          (replaced_is put.run c.requires.no_longer put.replaces) put.replaces.size done,
      done.unused ∙ c.self.invariant.1,
    )

pub returns-clause-cells : goal.returns-clause-cells
returns-clause-cells c = rw (← c.self.view_is) (put_is c).replaces

pub returns-clause-live : goal.returns-clause-live
returns-clause-live c = rw (← c.self.view_is, ← c.loop-place.invariant.same) c.replace.ensures.live
