use Rattle.std.proofs.Common.{◌≤◌, ℕ, List, length, sym, ap, ◌∙◌, subst}
use Rattle.std.specs.Prelude.{All, Contains}
use Rattle.pq_board.specs.Law.{job}
use Rattle.pq_board.specs.Steps.{lowered_places}
use Rattle.pq_round.proofs.Working.{given_few}
use Rattle.pq_round.proofs.workers.work.Goals as goal

pub give_up-requires-clause-fresh : goal.give_up-requires-clause-fresh
give_up-requires-clause-fresh g c =
    subst (λ (t : ℕ). All (λ place. Contains (lowered_places c.args.pass.now.view.lowered) place → ⊥) (job c.args.context.now.board.now.plan t)) (sym c.work-worked.ensures.result.ticket_is) c.requires.fresh

pub give_up-requires-clause-shorter : goal.give_up-requires-clause-shorter
give_up-requires-clause-shorter g c =
    subst (λ (l : List ℕ). length c.work-worked.result.0.answer.gates ≤ length l) (c.requires.places ∙ ap (λ (t : ℕ). job c.args.context.now.board.now.plan t) (sym c.work-worked.ensures.result.ticket_is))
    (given_few c.args.context.now.cells.now c.args.places.now c.args.context.now.rules.now c.args.ticket c.work-worked.result.0 c.requires.sound c.work-worked.ensures.result)
