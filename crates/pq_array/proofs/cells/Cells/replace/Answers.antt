use Rattle.std.proofs.Common.{Bool, List, length, get_or, arith, ap}
use Rattle.pq_gate.specs.declared.gate.Gate.{Gate}
use Rattle.pq_array.specs.Cells.{IsLiveRun}
use Rattle.pq_array.specs.Flags.{cells_of}
use Rattle.pq_array.proofs.Flags.{live_gate, replaced_over, rest_inside}
use Rattle.pq_array.proofs.Lowering.{live_replaced}
use Rattle.pq_array.proofs.cells.Cells.replace.Goals as goal

pub put-requires-clause-inside : goal.put-requires-clause-inside
put-requires-clause-inside c = λ k d lt.
    let run : IsLiveRun (cells_of c.self.inside.gates.items c.self.inside.flags.items) c.args.places.now = rw (← c.self.view_is) at c.requires.run in
    omega (
      arith,
      live_gate c.self.inside.gates.items c.self.inside.flags.items (get_or c.args.places.now k d) (run.all_live k d lt),
      ap (λ (x : List Gate). length x) c.deref_mut.ensures.value,
    )

pub clear-requires : goal.clear-requires
clear-requires c = λ k d lt.
    let run : IsLiveRun (cells_of c.self.inside.gates.items c.self.inside.flags.items) c.args.places.now = rw (← c.self.view_is) at c.requires.run in
    omega (
      arith,
      rest_inside c.self.inside.gates.items c.self.inside.flags.items c.args.places.now (length c.args.output.now) c.self.invariant run k d lt,
      ap (λ (x : List Bool). length x) c.deref_mut-2.ensures.value,
    )

pub returns-clause-cells : goal.returns-clause-cells
returns-clause-cells c =
    let run : IsLiveRun (cells_of c.self.inside.gates.items c.self.inside.flags.items) c.args.places.now = rw (← c.self.view_is) at c.requires.run in
    rw (← c.self.view_is)
    (replaced_over c.self.inside.gates c.self.inside.flags c.self.invariant c.requires.no_longer run (rw c.deref_mut.ensures.value at c.put.ensures)
    (rw c.deref_mut-2.ensures.value at c.clear.ensures))

pub returns-clause-live : goal.returns-clause-live
returns-clause-live c =
    let run : IsLiveRun (cells_of c.self.inside.gates.items c.self.inside.flags.items) c.args.places.now = rw (← c.self.view_is) at c.requires.run in
    rw (← c.self.view_is)
    (live_replaced run c.requires.no_longer
    (replaced_over c.self.inside.gates c.self.inside.flags c.self.invariant c.requires.no_longer run (rw c.deref_mut.ensures.value at c.put.ensures)
    (rw c.deref_mut-2.ensures.value at c.clear.ensures)))
