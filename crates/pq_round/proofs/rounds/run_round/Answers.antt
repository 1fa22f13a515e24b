use Rattle.std.proofs.Common.{sym, subst}
use Rattle.pq_board.specs.Steps.{Held, lowered_places}
use Rattle.pq_round.specs.Results.{all_given_up, AreSameNumbers}
use Rattle.pq_round.proofs.InOrder.{results_in_order}
use Rattle.pq_round.proofs.Removing.{lowered_count}
use Rattle.pq_round.proofs.Surveyed.{all_worked, lowered_same}
use Rattle.pq_round.proofs.rounds.run_round.Goals as goal

pub returns-in-Ok-clause-results : goal.returns-in-Ok-clause-results
returns-in-Ok-clause-results g c =
    results_in_order c.args.cells.now c.args.board.plan.jobs c.args.rules.now c.in-Ok.results.items c.in_order-results.result.items
    (all_worked c.args.cells.now c.args.rules.now c.args.board.plan c.work_by.new.pass.view c.in-Ok.results.items c.work_by.ensures.belongs.plan c.survey.ensures.all c.in-Ok.ensures.done)
    c.in_order-results.ensures.permutation c.in_order-results.ensures.sorted

pub returns-in-Ok-clause-lowered : goal.returns-in-Ok-clause-lowered
returns-in-Ok-clause-lowered g c =
    subst (λ (pass : Held). AreSameNumbers (lowered_places pass.view.lowered) (all_given_up c.args.board.plan.jobs c.in_order-results.result.items)) (sym c.survey.ensures.same)
    (lowered_same c.args.cells.now c.args.rules.now c.args.board.plan c.work_by.new.pass.view c.in-Ok.results.items c.in_order-results.result.items c.work_by.ensures.belongs.plan c.in-Ok.ensures.done c.in_order-results.ensures.permutation)

pub returns-in-Ok-clause-removed : goal.returns-in-Ok-clause-removed
returns-in-Ok-clause-removed g c =
    lowered_count c.args.cells.now c.args.board.plan.jobs c.args.rules.now c.in_order-results.result.items (lowered_places c.survey.new.pass.view.lowered) c.requires.live
    (returns-in-Ok-clause-results g c) (returns-in-Ok-clause-lowered g c)
