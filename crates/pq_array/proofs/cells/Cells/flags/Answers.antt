use Rattle.std.proofs.Common.{Option, List, map, is_some, ap, sym, ◌∙◌}
use Rattle.pq_gate.specs.declared.gate.Gate.{Gate}
use Rattle.pq_array.proofs.Flags.{flags_are}
use Rattle.pq_array.proofs.cells.Cells.flags.Goals as goal

pub returns : goal.returns
returns c =
    c.as_slice.ensures.value
    ∙ (sym (flags_are c.self.inside.gates.items c.self.inside.flags.items c.self.invariant) ∙ ap (λ (x : List (Option Gate)). map is_some x) c.self.view_is)
