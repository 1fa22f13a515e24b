use Rattle.std.proofs.Common.{refl, ap, length}
use Rattle.pq_text.specs.Program.{ProgramView}
use Rattle.std.proofs.lemmas.Result.{IfOk-weaker}
use Rattle.pq_top.proofs.Optimising.{bench_text_by}
use Rattle.pq_top.proofs.Logging.{on_ok, rounds_of}
use Rattle.pq_top.proofs.optimise.benched.Goals as goal

pub returns-clause-text : goal.returns-clause-text
returns-clause-text g c =
    let program = c.in_ok-program.program in
    let finished = c.in_ok-finished.finished in
    let left = c.in_ok-finished.ensures in
    IfOk-weaker c.write_report.result _ _
    (λ text is. bench_text_by c.args.omega c.args.seed c.args.qubits c.args.gates _ text.items program program.gates.items finished
    c.report_on-report.result refl (ap length c.as_slice.ensures) c.in_ok-program.ensures.generated c.in_ok-program.ensures.well_formed
    left.opt left.same left.local left.bound left.first_fingers c.report_on-report.ensures is) c.write_report.ensures.text

pub returns-clause-log : goal.returns-clause-log
returns-clause-log g c =
    on_ok c.write_report.result
    (rounds_of c.args.omega c.in_ok-program.program.gates.items _ _ _ (ap (λ (p : ProgramView). p.gates) c.in_ok-program.ensures.generated) c.in_ok-finished.ensures.log)
