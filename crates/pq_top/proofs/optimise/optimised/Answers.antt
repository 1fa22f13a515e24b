use Rattle.std.proofs.Common.{refl, ap, length}
use Rattle.pq_top.proofs.Optimising.{opt_text_by}
use Rattle.pq_top.proofs.optimise.optimised.Goals as goal

pub returns-clause-text : goal.returns-clause-text
returns-clause-text g c = λ options text read.
    let finished = c.in_ok-finished.finished in
    let left = c.in_ok-finished.ensures in
    opt_text_by c.args.omega _ text _ options c.args.program c.args.program.gates.items finished c.report_on-report.result
    refl (ap length c.as_slice.ensures) c.requires.formed read left.opt left.same left.local
    left.bound left.first_fingers c.report_on-report.ensures c.in_ok-text.ensures.text
