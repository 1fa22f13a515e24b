use Rattle.std.proofs.Common.{◌<◌, length, ap, arith}
use Rattle.pq_board.specs.declared.plan.Plan.{Plan}
use Rattle.pq_board.proofs.Claiming.{Drawn, claimed_some}
use Rattle.pq_board.proofs.Trials.{works_on}
use Rattle.pq_board.proofs.tests.work.Goals as goal
use Rattle.pq_board.proofs.tests.work.Goals.{In-Some}

drawn : (c : In-Some) → Drawn c.loop-ticket.pass.view c.claim.new.pass.view c.in-Some.ticket
drawn c = claimed_some c.loop-ticket.pass.view c.claim.new.pass.view c.in-Some.ticket c.in-Some.ensures.claimed

-- there are few jobs
few : (c : In-Some) → c.in-Some.ticket < 1000
few c = omega (arith, (drawn c).early, ap (λ (p : Plan). length p.jobs) c.loop-ticket.invariant.belongs.plan, c.requires.few)

pub overflow_mul-ticket : goal.overflow_mul-ticket
overflow_mul-ticket c = omega (arith, few (goal.at.overflow_mul-ticket c).In-Some)

pub overflow_add-ticket : goal.overflow_add-ticket
overflow_add-ticket c = omega (arith, few (goal.at.overflow_add-ticket c).In-Some)

pub lower-requires-clause-held : goal.lower-requires-clause-held
lower-requires-clause-held c = (drawn (goal.at.lower-requires-clause-held c).In-Some).held

pub overflow_add-next : goal.overflow_add-next
overflow_add-next c = omega (arith, few (goal.at.overflow_add-next c).In-Some)

pub loop-ticket-preserved : goal.loop-ticket-preserved
loop-ticket-preserved c =
    works_on c.args.board.now c.args.pass.now c.loop-ticket.pass c.claim.new.pass c.lower.new.pass c.loop-ticket.next c.in-Some.ticket c.loop-ticket.invariant
    c.claim.ensures.board c.in-Some.ensures.claimed c.claim.ensures.staked c.lower.ensures.board c.lower.ensures.lowered c.lower.ensures.places
