use Rattle.std.proofs.Common.{◌++◌, ◌∷◌, [], subst, sym}
use Rattle.pq_round.specs.Workers.{HasDone}
use Rattle.pq_round.specs.Results.{given_up}
use Rattle.pq_round.proofs.Working.{fresh_all, worked_on, drawn_on}
use Rattle.pq_board.proofs.Claiming.{claimed_some}
use Rattle.pq_round.proofs.workers.work_next.Goals as goal

pub work-worked-requires-clause-fresh : goal.work-worked-requires-clause-fresh
work-worked-requires-clause-fresh g c κs within =
    fresh_all c.args.context.now.cells.now c.args.context.now.rules.now c.args.context.now.board.now.plan c.args.pass.now.view c.claim.new.pass.view c.args.results.now.items c.in-Some.ticket
    c.requires.belongs.plan c.requires.done c.places-places.ensures.all_rising (claimed_some c.args.pass.now.view c.claim.new.pass.view c.in-Some.ticket c.in-Some.ensures.claimed)

pub returns-in-Some-clause-done : goal.returns-in-Some-clause-done
returns-in-Some-clause-done g c =
    subst (HasDone c.args.context.now.cells.now c.args.context.now.rules.now c.work-worked.new.pass.view) (sym c.push_reserved.ensures.items)
    (subst (λ xs. HasDone c.args.context.now.cells.now c.args.context.now.rules.now c.work-worked.new.pass.view (xs ++ c.work-worked.result.0 ∷ [])) (sym c.in_ok-reserve.ensures.items)
    (worked_on c.args.context.now.cells.now c.args.context.now.rules.now c.args.context.now.board.now.plan c.args.pass.now.view c.claim.new.pass.view c.work-worked.new.pass.view c.args.results.now.items c.work-worked.result.0 c.in-Some.ticket
    c.requires.belongs.plan c.requires.done (claimed_some c.args.pass.now.view c.claim.new.pass.view c.in-Some.ticket c.in-Some.ensures.claimed) c.work-worked.ensures.lowered c.work-worked.ensures.ticket c.work-worked.ensures.result))

pub returns-in-Some-clause-one : goal.returns-in-Some-clause-one
returns-in-Some-clause-one g c more =
    drawn_on c.args.pass.now.view c.claim.new.pass.view c.work-worked.new.pass.view c.in-Some.ticket (given_up c.args.context.now.board.now.plan.jobs c.work-worked.result.0)
    (claimed_some c.args.pass.now.view c.claim.new.pass.view c.in-Some.ticket c.in-Some.ensures.claimed) c.work-worked.ensures.lowered

pub work-worked-requires-clause-held : goal.work-worked-requires-clause-held
work-worked-requires-clause-held g c κs within =
    (claimed_some c.args.pass.now.view c.claim.new.pass.view c.in-Some.ticket c.in-Some.ensures.claimed).held
