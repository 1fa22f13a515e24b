use Rattle.std.proofs.Common.{Option, List, length, arith, ap}
use Rattle.pq_gate.specs.declared.gate.Gate.{Gate}
use Rattle.pq_array.proofs.Ranks.{length-live-le}
use Rattle.pq_array.proofs.array.GateArray.into_gates.Goals as goal

pub of-requires : goal.of-requires
of-requires c =
    omega (
      arith,
      c.into_live.result.ok.0,
      ap (λ (x : List Gate). length x) c.into_live.ensures,
      length-live-le c.self.inside.cells,
      ap (λ (x : List (Option Gate)). length x) c.self.view_is,
      c.requires.few,
    )
