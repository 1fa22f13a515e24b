use Rattle.std.proofs.Common.{◌+◌, ◌*◌, length}
use Rattle.pq_rules.specs.Table.{builtin_rows}
use Rattle.pq_top.proofs.Leading.{IsOnItsWay}
use Rattle.pq_top.proofs.optimise.run_rounds.Given as goal

abbrev pub invariant-rounds : goal.invariant-rounds
invariant-rounds g l = IsOnItsWay builtin_rows l.omega l.fn.gates.items l.fn.log.items l.looping l.log.items

-- each round lets the fingers and twice the gates fall
abbrev pub decreases-rounds : goal.decreases-rounds
decreases-rounds g l = length l.looping.state.fingers + 2 * length l.looping.state.gates
