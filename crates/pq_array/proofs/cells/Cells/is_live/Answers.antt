use Rattle.std.proofs.Common.{◌<◌, Option, List, false, length, arith, ap, sym, ◌∙◌}
use Rattle.std.proofs.lemmas.List.{get_or_read}
use Rattle.pq_gate.specs.declared.gate.Gate.{Gate}
use Rattle.pq_array.proofs.Flags.{length-cells_of, flag_is}
use Rattle.pq_array.proofs.cells.Cells.is_live.Goals as goal

pub index-requires : goal.index-requires
index-requires c =
    omega (
      arith,
      c.if-place-count.true,
      c.count.ensures,
      ap (λ (x : List (Option Gate)). length x) c.self.view_is,
      length-cells_of c.self.inside.gates.items c.self.inside.flags.items c.self.invariant,
      c.self.inside.flags.ok.0,
    )

pub returns-then-place-count : goal.returns-then-place-count
returns-then-place-count c =
    let flags = c.self.inside.flags.items in
    let inside : c.args.place < length flags =
    omega (arith, c.if-place-count.true, c.count.ensures, ap (λ (x : List (Option Gate)). length x) c.self.view_is, length-cells_of c.self.inside.gates.items flags c.self.invariant) in
    rw (← c.self.view_is)
    (get_or_read flags c.args.place c.index.result.now inside c.index.ensures false ∙ sym (flag_is c.self.inside.gates.items flags c.args.place c.self.invariant))
