use Rattle.std.proofs.Common.{arith, Option, List, length, Some, ap}
use Rattle.std.proofs.lemmas.List.{length-map}
use Rattle.pq_gate.specs.declared.gate.Gate.{Gate}
use Rattle.pq_array.specs.Cells.{live}
use Rattle.pq_array.proofs.Ranks.{length-live-le, live-map_some}
use Rattle.pq_array.proofs.array.GateArray.compact.Goals as goal

pub count_again-requires-clause-fewer : goal.count_again-requires-clause-fewer
count_again-requires-clause-fewer c =
    omega (arith, ap (λ (x : List (Option Gate)). length x) c.compact.ensures, length-map (live c.self.inside.cells) (λ (gate : Gate). Some gate), length-live-le c.self.inside.cells, c.self.invariant.0.leaves.1)

pub returns-clause-live : goal.returns-clause-live
returns-clause-live c = rw (c.compact.ensures, c.self.view_is) (live-map_some (live c.args.self.now))
