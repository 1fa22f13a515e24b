use Rattle.std.proofs.Common.{Option, List, length, ap, sym, ◌∙◌}
use Rattle.pq_gate.specs.declared.gate.Gate.{Gate}
use Rattle.pq_array.proofs.Flags.{length-cells_of}
use Rattle.pq_array.proofs.cells.Cells.count.Goals as goal

pub returns : goal.returns
returns c =
    c.len.ensures ∙ c.self.inside.flags.ok.0
    ∙ (sym (length-cells_of c.self.inside.gates.items c.self.inside.flags.items c.self.invariant) ∙ ap (λ (x : List (Option Gate)). length x) c.self.view_is)
