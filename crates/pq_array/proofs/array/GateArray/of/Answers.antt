use Rattle.std.proofs.Common.{Some, List, map, ap, ◌∙◌}
use Rattle.pq_gate.specs.declared.gate.Gate.{Gate}
use Rattle.pq_array.proofs.Ranks.{live-map_some}
use Rattle.pq_array.proofs.array.GateArray.of.Goals as goal

pub returns-clause-cells : goal.returns-clause-cells
returns-clause-cells c = c.in_ok-cells.ensures ∙ ap (λ (gates : List Gate). map (λ (gate : Gate). Some gate) gates) c.into_vec.ensures.items

pub returns-clause-live : goal.returns-clause-live
returns-clause-live c = rw c.in_ok-cells.ensures (live-map_some c.into_vec.result.items ∙ c.into_vec.ensures.items)
