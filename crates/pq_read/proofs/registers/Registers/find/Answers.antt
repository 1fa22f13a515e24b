use Rattle.std.proofs.Common.{sym}
use Rattle.pq_read.proofs.Finds.{told_span}
use Rattle.pq_read.proofs.registers.Registers.find.Goals as goal

pub returns-in-Some-clause-told : goal.returns-in-Some-clause-told
returns-in-Some-clause-told c = told_span _ c.args.self.now c.self.inside.total c.args.name.now _ c.self.invariant.0 c.self.view_is (sym c.in-Some.ensures)

pub returns-in-None-clause-told : goal.returns-in-None-clause-told
returns-in-None-clause-told c = told_span _ c.args.self.now c.self.inside.total c.args.name.now _ c.self.invariant.0 c.self.view_is c.look_up.ensures
