use Rattle.std.proofs.Common.{ap, arith}
use Rattle.pq_rules.specs.Lanes.{LaneView}
use Rattle.pq_rules.proofs.LaneLaws.{end_clear}
use Rattle.pq_rules.proofs.lane.Lane.end.Goals as goal

pub returns-else-self-gt-ROLES : goal.returns-else-self-gt-ROLES
returns-else-self-gt-ROLES c =
    end_clear c.args.self.now c.self.inside.passed c.args.near c.args.far c.number-self-inside.result c.number-self-inside-2.result
    (ap (λ (lane : LaneView). lane.passed) c.self.view_is) c.number-self-inside.ensures.is c.number-self-inside-2.ensures.is (omega arith)
