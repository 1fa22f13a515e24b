use Rattle.std.proofs.Common.{◌∙◌, Bool, cond, ap}
use Rattle.pq_array.proofs.Ranks.{byte}
use Rattle.pq_array.proofs.Backwards.{back_more}
use Rattle.pq_array.proofs.array.GateArray.back.Goals as goal

pub cells-preserved : goal.cells-preserved
cells-preserved c =
    back_more c.args.self.now c.args.place c.args.count c.cells.at c.cells.left c.from-left.result c.cells.invariant c.cells-test.true
    (c.from-left.ensures ∙ byte c.is_live.result ∙ ap (λ (b : Bool). cond b 1 0) c.is_live.ensures)
