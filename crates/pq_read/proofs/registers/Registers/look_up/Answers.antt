use Rattle.std.proofs.Common.{sym, ap, ◌∙◌}
use Rattle.pq_read.specs.Environment.{span_from}
use Rattle.pq_read.proofs.Finds.{none_found}
use Rattle.pq_read.proofs.registers.Registers.look_up.Goals as goal

pub returns-in-Err : goal.returns-in-Err
returns-in-Err c =
    let none = none_found _ c.self.inside.total c.args.name.now c.self.invariant.0 c.in-Err.ensures.cases.0 in
    sym (ap (λ regs. span_from 0 regs c.args.name.now) (sym c.self.view_is) ∙ none)
